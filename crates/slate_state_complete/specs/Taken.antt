-- Why a call on a log of a database may find its number taken.
use Rattle.std.specs.Prelude.{◌≡◌, ◌≢◌, ◌<◌, ◌+◌, ℕ, true, List, Option, Some, None, Result, Err}
use Rattle.slate_ids.specs.declared.error.SlateDBError.{SlateDBError}
use Rattle.slate_ids.specs.declared.error.SlateDBError.TheVariants.{TransactionalObjectVersionExists}
use Rattle.slate_store.specs.StoreCalls.{Told}
use Rattle.slate_store.specs.Store.{Store}
use Rattle.slate_txn_log.specs.declared.log_kind.LogKind.{LogKind}
use Rattle.slate_txn.specs.Holder.{Holder}
use Rattle.slate_txn.specs.declared.stored.DirtyObject.{DirtyObject}
use Rattle.slate_txn_laws.specs.Outside.{is_outside}
use Rattle.slate_txn_laws.specs.Ready.{top_of}

-- of a creation: the log has a version, and the refusal is that the number 1 is taken
pub record IsFirstTaken (kind : LogKind) (db : List ℕ) (s : Store) (e : SlateDBError) : Type 0 where
  pub top : ℕ
  pub boundary : Option ℕ
  pub at : top_of db kind s ≡ Some top
  pub is : e ≡ TransactionalObjectVersionExists 1 boundary

-- of an update: the dirty value was made of another number than the version held, or that is not the latest
pub data IsNextTaken {T C R : Type 0} (s : Store) (holder : Holder T C R) (dirty : DirtyObject T) (e : SlateDBError) : Type 0 where
  IsOther : dirty.id ≢ holder.id → e ≡ TransactionalObjectVersionExists dirty.id None → IsNextTaken s holder dirty e
  IsBehind : (top : ℕ) (boundary : Option ℕ) → top_of holder.sequenced.db holder.sequenced.log s ≡ Some top → holder.id < top
      → e ≡ TransactionalObjectVersionExists (holder.id + 1) boundary → IsNextTaken s holder dirty e

-- a creation is refused from outside only so
abbrev pub FirstTakenOnly : {X : Type 0} → LogKind → List ℕ → Store → Told → Result X SlateDBError → Type 0
FirstTakenOnly kind db s new result = (e : SlateDBError) → result ≡ Err e → is_outside e ≡ true → IsFirstTaken kind db s e

-- and an update only so
abbrev pub NextTakenOnly : {T C R X : Type 0} → Holder T C R → DirtyObject T → Store → Told → Result X SlateDBError → Type 0
NextTakenOnly holder dirty s new result = (e : SlateDBError) → result ≡ Err e → is_outside e ≡ true → IsNextTaken s holder dirty e
