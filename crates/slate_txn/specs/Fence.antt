-- A fenced holder is made by the commit of the next epoch, or of a given one.
use Rattle.std.specs.Prelude.{◌≡◌, ◌<◌, ℕ, ℤ, List, Option, Result, Ok, Err}
use Rattle.slate_ids.specs.declared.error.SlateDBError.{SlateDBError}
use Rattle.slate_ids.specs.declared.error.SlateDBError.TheVariants.{Fenced}
use Rattle.slate_store.specs.StoreCalls.{Told}
use Rattle.slate_txn.specs.Apply.{Ways, ways_of, Applies}
use Rattle.slate_txn.specs.FencedApplying.{fenced_made}
use Rattle.slate_txn.specs.FencedHolder.{FencedHolder, fenced_at}
use Rattle.slate_txn.specs.Holder.{Holder}
use Rattle.slate_txn.specs.Raise.{this_epoch}
use Rattle.slate_txn_log.specs.Change.{next_epoch}
use Rattle.slate_txn_log.specs.declared.right.Right.{Right}
use Rattle.slate_txn_log.specs.declared.right.Right.TheVariants.{Plain}

-- the raise of the epoch, as the change of an apply
abbrev pub raising : {T C R E : Type 0} → (C → List ℕ → Result T SlateDBError) → (C → T → Result (List ℕ) SlateDBError)
    → (R → ℕ → T → T → Right → Option SlateDBError) → (E → T → ℕ) → (E → T → ℕ → T) → E → Ways T C R
raising decoded encoded refusal epoch with_epoch epochs = ways_of decoded encoded refusal (next_epoch (epoch epochs) (with_epoch epochs)) Plain

-- the commit of this epoch, as the change of an apply: a version of a greater epoch refuses it
abbrev pub setting : {T C R E : Type 0} → (C → List ℕ → Result T SlateDBError) → (C → T → Result (List ℕ) SlateDBError)
    → (R → ℕ → T → T → Right → Option SlateDBError) → (E → T → ℕ) → (E → T → ℕ → T) → E → ℕ → Right → Ways T C R
setting decoded encoded refusal epoch with_epoch epochs own right = ways_of decoded encoded refusal (fenced_made epoch epochs own (this_epoch (with_epoch epochs) own)) right

-- after Ok the fenced holder of the version held then
abbrev pub fenced_of : {T C R E : Type 0} → (E → T → ℕ) → E → Holder T C R → Result (Unit {0}) SlateDBError → Result (FencedHolder T C R E) SlateDBError
fenced_of epoch epochs holder (Ok u) = Ok (fenced_at epoch holder epochs)
fenced_of epoch epochs holder (Err e) = Err e

-- the raise was applied, and the holder has the epoch of the value that it holds then
pub record FencedBy {T C R E : Type 0} (epoch : E → T → ℕ) (ways : Ways T C R) (moment : ℤ) (tries : ℕ) (old new : Told) (holder : Holder T C R)
    (epochs : E) (result : Result (FencedHolder T C R E) SlateDBError) : Type 0 where
  pub to : Holder T C R
  pub reply : Result (Unit {0}) SlateDBError
  pub applies : Applies ways moment tries old new holder to reply
  pub same : fenced_of epoch epochs to reply ≡ result

-- Fenced is answered only with this epoch and a greater one that was read
abbrev pub FencedBelow : {X : Type 0} → ℕ → Result X SlateDBError → Type 0
FencedBelow epoch result = (own read : ℕ) → result ≡ Err (Fenced own read) → (own ≡ epoch) × (epoch < read)
