use Rattle.std.proofs.Common.{refl, sym, w64}
use Rattle.std.proofs.lemmas.Int.{to_z-of_z}
use Rattle.slate_state_calls.specs.Opening.{open_asks, open_goes}
use Rattle.slate_state_writer.proofs.OpenFaults.{again_as, held_faithful, open_faults}
use Rattle.slate_state_writer.specs.Writer.{held_by}
use Rattle.slate_txn_log.proofs.Faults.{step_rose}
use Rattle.slate_txn_log.proofs.Steps.{steps_where}
use Rattle.slate_txn_laws.proofs.Told.{due_as, steps_as}
use Rattle.slate_state_logs.specs.laws.RecordsPlain.{records_plain}
use Rattle.slate_state_writer.proofs.open.OpenStateMachine.next.Goals as goal

pub returns-in-Ok-performed : goal.returns-in-Ok-performed
returns-in-Ok-performed g c =
    let told = g.S.ObjectStore.told in
    let old = told c.args.store.now in
    let new = told c.perform-performed.new.store in
    let moment = c.args.moment in
    let db = c.args.self.now.db in
    let from = c.args.self.now.phase in
    let to = c.goes_on-step.new.self in
    let step = c.goes_on-step.result in
    let calls = rw (to_z-of_z w64 moment c.ranges.moment) at c.in-Ok-performed.ensures in
    let goes = rw (to_z-of_z w64 moment c.ranges.moment) at c.goes_on-step.ensures.goes in
    let inner = steps_where (open_asks db from) moment (open_goes moment from) from to c.in-Ok.ensures calls step goes c.goes_on-step.ensures.reads in
    let steps = rw (sym c.held_step.ensures) at (steps_as (held_by db) (held_faithful db) old new (open_asks db from) moment (open_goes moment from) from to step inner) in
    record {
      steps = steps;
      falls = λ again. c.goes_on-step.ensures.falls (again_as db step (rw c.held_step.ensures at again));
      db = refl;
      due = rw (sym c.held_step.ensures) at (due_as (held_by db) (held_faithful db) step _ c.goes_on-step.ensures.due);
      fault = step_rose old new moment from to c.held_step.result (open_faults records_plain db moment) c.requires.due steps;
    }
