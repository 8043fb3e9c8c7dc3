-- What a fence lets through is no fault where what it lets through isn't one.
use Rattle.std.specs.Prelude.{◌≡◌, ◌≢◌, nat_lt, ℕ, Bool, true, false, Option, Some, None, Result, Err, if◌then◌else◌}
use Rattle.std.proofs.Common.{sym, ◌∙◌}
use Rattle.slate_ids.specs.declared.error.SlateDBError.{SlateDBError}
use Rattle.slate_ids.specs.declared.error.SlateDBError.TheVariants.{Fenced, StoreFault}
use Rattle.slate_txn_laws.specs.Plain.{MayNotFault}
use Rattle.slate_txn.specs.FencedApplying.{FencedMay, UnlessMay}

pub fenced_may_fine : {T E : Type 0} (epoch : E → T → ℕ) (epochs : E) (own : ℕ) (may : ℕ → T → Result (Option T) SlateDBError → Type 0) → MayNotFault may → MayNotFault (FencedMay epoch epochs own may)
fenced_may_fine {T} epoch epochs own may fine id value reply = by_test (nat_lt own (epoch epochs value)) where
  by_test : (b : Bool) → UnlessMay (if◌then◌else◌ {A = Option SlateDBError} b (Some (Fenced own (epoch epochs value))) None) (may id value) reply → reply ≢ Err StoreFault
  by_test true is = λ same. (let both : Err (Fenced own (epoch epochs value)) ≡ Err StoreFault = sym is ∙ same in absurd cc)
  by_test false answers = fine id value reply answers
