use Rattle.std.proofs.Common.{ap, subst, w64, ℤ, ◌∙◌}
use Rattle.std.proofs.lemmas.Int.{to_z-of_z}
use Rattle.slate_state_calls.specs.StateSteps.{StateAt, state_asks, state_goes}
use Rattle.slate_state_writer.proofs.StateFaults.{state_faults}
use Rattle.slate_state_writer.specs.Writer.{Writer}
use Rattle.slate_store.specs.Machines.{GoesOn, Steps}
use Rattle.slate_txn_log.proofs.Faults.{step_rose}
use Rattle.slate_txn_log.proofs.Steps.{steps_where}
use Rattle.slate_state_logs.specs.laws.RecordsPlain.{records_plain}
use Rattle.slate_state_writer.proofs.state_machine.CompactorStateMachine.next.Goals as goal

pub returns-in-Ok-performed : goal.returns-in-Ok-performed
returns-in-Ok-performed g c =
    let told = g.S.ObjectStore.told in
    let old = told c.args.store.now in
    let new = told c.perform-performed.new.store in
    let moment = c.args.moment in
    let phase = c.args.self.now.phase in
    let inside = c.writer.inside in
    let from : StateAt = (phase, inside.compactor) in
    let to : StateAt = (c.goes_on-step.new.self, c.goes_on-step.new.compactor) in
    let step = c.goes_on-step.result in
    let view = c.writer.view_is in
    let calls = rw (to_z-of_z w64 moment c.ranges.moment) at c.in-Ok-performed.ensures in
    let goes = subst (λ (m : ℤ). GoesOn (state_goes m from c.in-Ok-performed.answer) from to step) (to_z-of_z w64 moment c.ranges.moment) c.goes_on-step.ensures.goes in
    let made = steps_where (state_asks inside.db phase) moment (state_goes moment from) from to c.in-Ok.ensures calls step goes c.goes_on-step.ensures.reads in
    let steps = subst (λ (w : Writer). Steps old new (state_asks w.db phase) moment (state_goes moment (phase, w.compactor)) (phase, w.compactor) to step) view made in
    record {
      steps = steps;
      falls = c.goes_on-step.ensures.falls;
      due = c.goes_on-step.ensures.due;
      own = record { db = ap (λ (w : Writer). w.db) view; epoch = c.goes_on-step.ensures.epoch ∙ ap (λ (w : Writer). w.compactor.epoch) view };
      fault = step_rose old new moment (phase, c.args.writer.now.compactor) to step (state_faults records_plain c.args.writer.now.db moment) c.requires.due steps;
    }
