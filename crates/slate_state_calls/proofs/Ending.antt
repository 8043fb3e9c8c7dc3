-- Where a change under way ended, and what follows it.
use Rattle.std.specs.Prelude.{◌≡◌, Bool, true, false, Result, Ok, Err}
use Rattle.std.proofs.Common.{◌⊎◌, inl, inr, ap, sym, ◌∙◌}
use Rattle.slate_txn_changes.specs.LogWorks.{WorkGoes}
use Rattle.slate_txn_changes.specs.declared.log_work.LogEnd.{LogEnd}
use Rattle.slate_txn_changes.specs.declared.log_work.LogWork.{LogWork}
use Rattle.slate_ids.specs.Answers.{is_memory}
use Rattle.slate_ids.specs.declared.error.SlateDBError.{SlateDBError}
use Rattle.slate_store.specs.Machines.{Goes, End, GoesOn}
use Rattle.slate_store.specs.declared.step.Step.TheVariants.{Done}

-- a fact, where memory didn't run out
pub not_memory : {A : Type 0} (e : SlateDBError) (is : Bool) → A ⊎ (is_memory e ≡ true) → is ≡ is_memory e → is ≡ false → A
not_memory e is (inl fact) told not = fact
not_memory e is (inr out) told not = absurd (let both : true ≡ false = sym out ∙ sym told ∙ not in cc)

-- it was refused
pub refused : {V : Type 0} (out : WorkGoes V) (from to : LogWork V) (e : SlateDBError) (is : Bool) → GoesOn {R = LogEnd V} out from to (Done (Err e)) → is ≡ is_memory e → is ≡ false → out ≡ End to (Err e)
refused out from to e is (inl same) told not = same
refused out from to e is (inr held) told not = absurd (let memory : is_memory e ≡ true = held.0 in let both : true ≡ false = sym memory ∙ sym told ∙ not in cc)

-- it ended well
pub ended : {V : Type 0} (out : WorkGoes V) (from to : LogWork V) (end : LogEnd V) → GoesOn {R = LogEnd V} out from to (Done (Ok end)) → out ≡ End to (Ok end)
ended out from to end (inl same) = same
ended out from to end (inr held) = absurd cc
