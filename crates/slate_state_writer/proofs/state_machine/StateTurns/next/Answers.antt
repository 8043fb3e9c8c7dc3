use Rattle.std.proofs.Common.{ap, inl, inr, sym, true, w64, Bool, ◌≡◌, ◌∙◌, ⊎_elim}
use Rattle.std.proofs.lemmas.Int.{to_z-of_z}
use Rattle.slate_txn_changes.proofs.Turning.{turned_conflict, turned_err}
use Rattle.slate_state_calls.specs.StateSteps.{StateAt, state_asks, state_goes, state_lists, state_lists_again}
use Rattle.slate_state_writer.specs.StateCalls.{begins_again, lists_again}
use Rattle.slate_state_writer.proofs.state_machine.StateTurns.next.Goals as goal

pub returns-then-is_conflict-clause-steps : goal.returns-then-is_conflict-clause-steps
returns-then-is_conflict-clause-steps g c =
    let told = g.S.ObjectStore.told in
    let from : StateAt = (c.args.self.now.machine.phase, c.args.writer.now.compactor) in
    let to : StateAt = (c.next.new.self.phase, c.next.new.writer.compactor) in
    let steps = rw c.in-Done-Err.field-0-is at (rw (to_z-of_z w64 c.args.moment c.ranges.moment) at c.in-Done-Err.ensures.steps) in
    let again = turned_conflict lists_again (begins_again c.args.start.now) (state_goes c.args.moment) (told c.args.store.now) (told c.next.new.store) (state_asks c.args.writer.now.db from.0) c.args.moment from to c.args.self.now.is_turned c.in-Done-Err.e (sym c.is_conflict.ensures ∙ c.if-is_conflict.true) steps in
    rw c.begin_again.ensures.phase again

pub returns-else-is_conflict-clause-steps : goal.returns-else-is_conflict-clause-steps
returns-else-is_conflict-clause-steps g c =
    let told = g.S.ObjectStore.told in
    let from : StateAt = (c.args.self.now.machine.phase, c.args.writer.now.compactor) in
    let to : StateAt = (c.next.new.self.phase, c.next.new.writer.compactor) in
    let steps = rw c.in-Done-Err.field-0-is at (rw (to_z-of_z w64 c.args.moment c.ranges.moment) at c.in-Done-Err.ensures.steps) in
    turned_err lists_again (begins_again c.args.start.now) (state_goes c.args.moment) (told c.args.store.now) (told c.next.new.store) (state_asks c.args.writer.now.db from.0) c.args.moment from to c.args.self.now.is_turned c.in-Done-Err.e (sym c.is_conflict.ensures ∙ c.if-is_conflict.false) steps

pub returns-in-Again-clause-falls : goal.returns-in-Again-clause-falls
returns-in-Again-clause-falls g c =
    λ again.
    ⊎_elim
    (λ (h : state_lists_again c.args.self.now.machine.phase c.next.new.self.phase ≡ true). inl (c.lists-self.ensures ∙ (ap (λ (b : Bool). state_lists b c.next.new.self.phase) c.at_manifests-manifests.ensures ∙ h)))
    (λ h. inr h)
    (c.in-Again.ensures.falls again)
