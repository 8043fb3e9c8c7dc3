-- From the steps of a machine to those of the plain call over it.
use Rattle.std.specs.Prelude.{◌≡◌, ℤ, Bool, true, false, Result, Ok, Err, if◌then◌else◌, refl}
use Rattle.std.proofs.Common.{ap, inl, inr, ◌∙◌}
use Rattle.slate_txn_changes.specs.Turns.{Turn, turn_asks, turn_goes, turned_on}
use Rattle.slate_ids.specs.Answers.{is_conflict, is_memory}
use Rattle.slate_ids.specs.declared.error.SlateDBError.{SlateDBError}
use Rattle.slate_ids.specs.declared.error.SlateDBError.TheVariants.{OutOfMemory, TransactionalObjectVersionExists}
use Rattle.slate_store.specs.StoreCalls.{Told}
use Rattle.slate_store.specs.Machines.{Goes, Stay, End, Held, Steps}
use Rattle.slate_store.specs.declared.step.Step.TheVariants.{Again, Done}
use Rattle.slate_store.specs.declared.store_answer.StoreAnswer.{StoreAnswer}
use Rattle.slate_store.specs.declared.store_call.StoreCall.{StoreCall}

not_both : (e : SlateDBError) → is_memory e ≡ true → is_conflict e ≡ true → ⊥
not_both OutOfMemory memory conflict = absurd cc
not_both (TransactionalObjectVersionExists number boundary) memory conflict = absurd cc
not_both _ memory conflict = absurd cc

module _ {P R : Type 0} (again : P → P → Bool) (restart : P → P) (goes : P → StoreAnswer → Goes P R) (old new : Told) (call : StoreCall) (moment : ℤ) (from to : P) (was : Bool) where
  -- a step that goes on
  pub turned_again : Steps {R = R} old new call moment (goes from) from to Again → Steps {R = R} old new call moment (turn_goes again restart goes (from, was)) (from, was) (to, again from to) Again
  turned_again step = record { answer = step.answer; makes = step.makes; gives = ap (turned_on again restart (from, was)) step.gives }

  -- one that ends well
  pub turned_ok : (r : R) → Steps old new call moment (goes from) from to (Done (Ok r)) → Steps old new call moment (turn_goes again restart goes (from, was)) (from, was) (to, was) (Done (Ok r))
  turned_ok r (inl step) = inl (record { answer = step.answer; makes = step.makes; gives = ap (turned_on again restart (from, was)) step.gives })
  turned_ok r (inr held) = inr (held.0, record { kept = ap (λ (p : P). (p, was)) held.1.kept; made = held.1.made })

  -- one that is refused otherwise than by a conflict
  pub turned_err : (e : SlateDBError) → is_conflict e ≡ false → Steps {R = R} old new call moment (goes from) from to (Done (Err e)) → Steps {R = R} old new call moment (turn_goes again restart goes (from, was)) (from, was) (to, was) (Done (Err e))
  turned_err e other (inl step) =
      inl (record { answer = step.answer; makes = step.makes; gives = ap (turned_on again restart (from, was)) step.gives ∙ ap (λ (b : Bool). if◌then◌else◌ {A = Goes (Turn P) R} b (Stay (restart to, true)) (End (to, was) (Err e))) other })
  turned_err e other (inr held) = inr (held.0, record { kept = ap (λ (p : P). (p, was)) held.1.kept; made = held.1.made })

  -- and one that is refused by a conflict, which leads back
  pub turned_conflict : (e : SlateDBError) → is_conflict e ≡ true → Steps {R = R} old new call moment (goes from) from to (Done (Err e)) → Steps {R = R} old new call moment (turn_goes again restart goes (from, was)) (from, was) (restart to, true) Again
  turned_conflict e conflict (inl step) =
      record { answer = step.answer; makes = step.makes; gives = ap (turned_on again restart (from, was)) step.gives ∙ ap (λ (b : Bool). if◌then◌else◌ {A = Goes (Turn P) R} b (Stay (restart to, true)) (End (to, was) (Err e))) conflict }
  turned_conflict e conflict (inr held) = absurd (not_both e held.0 conflict)
