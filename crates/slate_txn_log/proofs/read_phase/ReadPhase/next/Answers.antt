use Rattle.std.proofs.Common.{w64}
use Rattle.std.proofs.lemmas.Int.{to_z-of_z}
use Rattle.slate_txn_log.proofs.Steps.{goes_steps, goes_held, reads_only}
use Rattle.slate_txn_log.proofs.read_phase.ReadPhase.next.Goals as goal

pub returns-in-Ok-clause-steps : goal.returns-in-Ok-clause-steps
returns-in-Ok-clause-steps g c =
    let sequenced = c.args.sequenced.now in
    goes_steps _ _ _ _ _ c.asks-call.ensures (reads_only sequenced.db sequenced.log c.args.self.now) (rw (to_z-of_z w64 c.args.moment c.ranges.moment) at c.in-Ok.ensures) c.goes_on-step.result c.goes_on-step.ensures.goes

pub returns-in-Ok-clause-memory : goal.returns-in-Ok-clause-memory
returns-in-Ok-clause-memory g c =
    let sequenced = c.args.sequenced.now in
    goes_held _ _ _ _ c.asks-call.ensures (reads_only sequenced.db sequenced.log c.args.self.now) (rw (to_z-of_z w64 c.args.moment c.ranges.moment) at c.in-Ok.ensures) c.goes_on-step.result c.goes_on-step.ensures.memory
