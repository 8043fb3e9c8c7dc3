use Rattle.std.proofs.Common.{w64}
use Rattle.std.proofs.lemmas.Int.{to_z-of_z}
use Rattle.slate_txn.proofs.ApplyFaults.{apply_faults}
use Rattle.slate_txn.proofs.ApplyRuns.{where_reads}
use Rattle.slate_txn.proofs.Moves.{steps_by}
use Rattle.slate_txn_log.proofs.Faults.{step_rose}
use Rattle.slate_txn_log.proofs.Steps.{steps_where}
use Rattle.slate_txn.proofs.apply.ApplyPhase.next.Goals as goal

pub returns-in-Ok-performed-clause-steps : goal.returns-in-Ok-performed-clause-steps
returns-in-Ok-performed-clause-steps g c = λ made computes.
    let calls = rw (to_z-of_z w64 c.args.moment c.ranges.moment) at c.in-Ok-performed.ensures in
    steps_where _ _ _ _ _ c.in-Ok.ensures calls c.goes_on-step.result (c.goes_on-step.ensures.goes made computes) (where_reads c.args.self.now c.args.holder.now c.goes_on-step.result c.goes_on-step.ensures.reading)

pub returns-in-Ok-performed-clause-fault : goal.returns-in-Ok-performed-clause-fault
returns-in-Ok-performed-clause-fault g c = λ made computes free.
    let old = g.S.ObjectStore.told c.args.store.now in
    let new = g.S.ObjectStore.told c.perform-performed.new.store in
    let calls = rw (to_z-of_z w64 c.args.moment c.ranges.moment) at c.in-Ok-performed.ensures in
    let steps = steps_where _ _ _ _ _ c.in-Ok.ensures calls c.goes_on-step.result (c.goes_on-step.ensures.goes made computes) (where_reads c.args.self.now c.args.holder.now c.goes_on-step.result c.goes_on-step.ensures.reading) in
    step_rose old new c.args.moment (c.args.self.now, c.args.holder.now) (c.goes_on-step.new.self, c.goes_on-step.new.holder) c.goes_on-step.result (apply_faults _ free) c.requires.due steps

pub returns-in-Ok-performed-clause-moves : goal.returns-in-Ok-performed-clause-moves
returns-in-Ok-performed-clause-moves g c =
    let calls = rw (to_z-of_z w64 c.args.moment c.ranges.moment) at c.in-Ok-performed.ensures in
    steps_by _ _ _ _ _ c.in-Ok.ensures calls c.goes_on-step.result c.goes_on-step.ensures.moves (where_reads c.args.self.now c.args.holder.now c.goes_on-step.result c.goes_on-step.ensures.reading)
