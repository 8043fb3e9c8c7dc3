use Rattle.std.proofs.Common.{w64}
use Rattle.std.proofs.lemmas.Int.{to_z-of_z}
use Rattle.slate_txn_log.proofs.Faults.{step_rose}
use Rattle.slate_txn_log.proofs.Steps.{goes_steps}
use Rattle.slate_state_referenced.specs.Referenced.{referenced_asks, referenced_goes}
use Rattle.slate_state_referenced.proofs.ReferencedFaults.{referenced_faults, referenced_reads}
use Rattle.slate_state_referenced.proofs.referenced_phase.ReferencedPhase.step.Goals as goal

pub returns-in-Ok : goal.returns-in-Ok
returns-in-Ok g c =
    let sequenced = c.args.sequenced.now in
    let decoded = g.C.ObjectCodec.decoded sequenced.codec in
    let old = g.S.ObjectStore.told c.args.store.now in
    let new = g.S.ObjectStore.told c.perform-performed.new.store in
    let from = c.args.self.now in
    let to = c.goes_on-step.new.self in
    let steps = goes_steps (referenced_asks sequenced.db from) c.args.moment (referenced_goes decoded from) from to c.asks-call.ensures (referenced_reads sequenced.db from) (rw (to_z-of_z w64 c.args.moment c.ranges.moment) at c.in-Ok.ensures) c.goes_on-step.result c.goes_on-step.ensures.goes in
    record {
      steps = steps;
      falls = c.goes_on-step.ensures.falls;
      due = c.goes_on-step.ensures.due;
      more = c.goes_on-step.ensures.more;
      fault = λ good. step_rose old new c.args.moment from to c.goes_on-step.result (referenced_faults sequenced.db decoded good) c.requires.due steps;
    }
