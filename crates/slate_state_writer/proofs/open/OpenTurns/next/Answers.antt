use Rattle.std.proofs.Common.{ap, inl, inr, sym, true, w64, Bool, ◌≡◌, ◌∙◌, ⊎_elim}
use Rattle.std.proofs.lemmas.Int.{to_z-of_z}
use Rattle.slate_txn_changes.proofs.Turning.{turned_conflict, turned_err}
use Rattle.slate_state_calls.specs.Opening.{open_asks, open_lists, open_lists_again}
use Rattle.slate_state_writer.specs.PlainOpening.{begins_again, writer_goes}
use Rattle.slate_state_writer.proofs.open.OpenTurns.next.Goals as goal

pub returns-then-is_conflict-clause-steps : goal.returns-then-is_conflict-clause-steps
returns-then-is_conflict-clause-steps g c =
    let told = g.S.ObjectStore.told in
    let db = c.args.self.now.machine.db in
    let from = c.args.self.now.machine.phase in
    let steps = rw c.in-Done-Err.field-0-is at (rw (to_z-of_z w64 c.args.moment c.ranges.moment) at c.in-Done-Err.ensures.steps) in
    let again = turned_conflict open_lists_again begins_again (writer_goes db c.args.moment) (told c.args.store.now) (told c.next.new.store) (open_asks db from) c.args.moment from c.next.new.self.phase c.args.self.now.is_turned c.in-Done-Err.e (sym c.is_conflict.ensures ∙ c.if-is_conflict.true) steps in
    rw c.begin_again.ensures.phase again

pub returns-else-is_conflict-clause-steps : goal.returns-else-is_conflict-clause-steps
returns-else-is_conflict-clause-steps g c =
    let told = g.S.ObjectStore.told in
    let db = c.args.self.now.machine.db in
    let from = c.args.self.now.machine.phase in
    let steps = rw c.in-Done-Err.field-0-is at (rw (to_z-of_z w64 c.args.moment c.ranges.moment) at c.in-Done-Err.ensures.steps) in
    turned_err open_lists_again begins_again (writer_goes db c.args.moment) (told c.args.store.now) (told c.next.new.store) (open_asks db from) c.args.moment from c.next.new.self.phase c.args.self.now.is_turned c.in-Done-Err.e (sym c.is_conflict.ensures ∙ c.if-is_conflict.false) steps

pub returns-in-Again-clause-falls : goal.returns-in-Again-clause-falls
returns-in-Again-clause-falls g c =
    λ again.
    ⊎_elim
    (λ (h : open_lists_again c.args.self.now.machine.phase c.next.new.self.phase ≡ true). inl (c.lists-self.ensures ∙ (ap (λ (b : Bool). open_lists b c.next.new.self.phase) c.raises-raises.ensures ∙ h)))
    (λ h. inr h)
    (c.in-Again.ensures.falls again)
