use Rattle.std.proofs.Common.{w64}
use Rattle.std.proofs.lemmas.Int.{to_z-of_z}
use Rattle.slate_txn_log.proofs.Faults.{step_rose}
use Rattle.slate_txn_log.proofs.Steps.{steps_where}
use Rattle.slate_txn_delete.proofs.CheckedFaults.{checked_faults, checked_reads}
use Rattle.slate_txn_delete.specs.CheckedDelete.{checked_asks, checked_goes}
use Rattle.slate_txn_delete.proofs.Wheres.{where_out}
use Rattle.slate_txn_delete.proofs.checked_delete_phase.CheckedDeletePhase.next.Goals as goal

pub returns-in-Ok : goal.returns-in-Ok
returns-in-Ok g c =
    let sequenced = c.args.sequenced.now in
    let decoded = g.C.ObjectCodec.decoded sequenced.codec in
    let names = g.N.VersionNames.named c.args.names.now in
    let steps = steps_where (checked_asks sequenced.db sequenced.log c.args.self.now) c.args.moment (checked_goes sequenced.log decoded names c.args.self.now) c.args.self.now c.goes_on-step.new.self c.asks-call.ensures (rw (to_z-of_z w64 c.args.moment c.ranges.moment) at c.in-Ok.ensures) c.goes_on-step.result c.goes_on-step.ensures.goes (where_out c.goes_on-step.result (checked_reads sequenced.db sequenced.log c.args.self.now) c.goes_on-step.ensures.reading) in
    record {
      steps = steps;
      falls = c.goes_on-step.ensures.falls;
      due = c.goes_on-step.ensures.due;
      fault = λ good. step_rose (g.S.ObjectStore.told c.args.store.now) (g.S.ObjectStore.told c.perform-performed.new.store) c.args.moment c.args.self.now c.goes_on-step.new.self c.goes_on-step.result (checked_faults sequenced.db sequenced.log decoded names good) c.requires.due steps;
    }
