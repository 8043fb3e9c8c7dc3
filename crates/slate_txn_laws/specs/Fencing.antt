-- How the raise of an epoch ends that makes a fenced holder.
use Rattle.std.specs.Prelude.{◌≡◌, ◌⊎◌, ℕ, ℤ, true, Result}
use Rattle.slate_ids.specs.Answers.{ran_out}
use Rattle.slate_ids.specs.declared.error.SlateDBError.{SlateDBError}
use Rattle.slate_store.specs.StoreCalls.{Told}
use Rattle.slate_store.specs.Store.{Store}
use Rattle.slate_txn.specs.Apply.{Ways}
use Rattle.slate_txn.specs.Fence.{FencedBy, fenced_of}
use Rattle.slate_txn.specs.FencedHolder.{FencedHolder}
use Rattle.slate_txn.specs.Holder.{Holder}
use Rattle.slate_txn_laws.specs.Applying.{ApplyAnswers}
use Rattle.slate_txn_laws.specs.Changing.{may_of}
use Rattle.slate_txn_laws.specs.Ending.{EndsInside, FromHolder}
use Rattle.slate_txn_laws.specs.Ready.{LeavesReady}

-- the raise is committed or refused as any change, the fenced holder is of what is held then, and the log stays ready; or memory ran out
abbrev pub FenceEnds : {T C R E : Type 0} → (E → T → ℕ) → Ways T C R → Holder T C R → E → Store → Told → Result (FencedHolder T C R E) SlateDBError → Type 0
FenceEnds {T} {C} {R} epoch ways holder epochs s new result =
    ((to : Holder T C R) × (reply : Result (Unit {0}) SlateDBError) × ApplyAnswers (may_of ways) s new holder to reply
    × (fenced_of epoch epochs to reply ≡ result) × LeavesReady holder.sequenced.db holder.sequenced.log new) ⊎ (ran_out result ≡ true)

-- from a holder whose log is ready, each raise ends so
abbrev pub FencesEnd : {T C R E : Type 0} → (E → T → ℕ) → Ways T C R → ℤ → ℕ → Holder T C R → E → Type 0
FencesEnd epoch ways moment tries holder epochs = FromHolder holder (λ old new. FencedBy epoch ways moment tries old new holder epochs) (FenceEnds epoch ways holder epochs)

-- and answers no refusal that others or the store cause
abbrev pub FencesEndInside : {T C R E : Type 0} → (E → T → ℕ) → Ways T C R → ℤ → ℕ → Holder T C R → E → Type 0
FencesEndInside epoch ways moment tries holder epochs = FromHolder holder (λ old new. FencedBy epoch ways moment tries old new holder epochs) EndsInside
