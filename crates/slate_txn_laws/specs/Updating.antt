-- What an update of the value held answers, in its one try.
use Rattle.std.specs.Prelude.{◌≡◌, ◌≢◌, ◌<◌, ◌⊎◌, ℕ, ℤ, ◌+◌, true, List, Option, Some, None, Result, Ok, Err}
use Rattle.slate_ids.specs.Answers.{ran_out}
use Rattle.slate_ids.specs.Limits.{last_number}
use Rattle.slate_ids.specs.declared.error.SlateDBError.{SlateDBError}
use Rattle.slate_ids.specs.declared.error.SlateDBError.TheVariants.{Corrupt, Exhausted, TransactionalObjectVersionExists}
use Rattle.slate_ids.specs.declared.error.FormatName.TheVariants.{Boundary as BoundaryFormat}
use Rattle.slate_store.specs.StoreCalls.{Told}
use Rattle.slate_store.specs.Store.{Store}
use Rattle.slate_txn_log.specs.Advance.{boundary_at}
use Rattle.slate_txn_log.specs.declared.right.Right.{Right}
use Rattle.slate_txn.specs.Holder.{Holder}
use Rattle.slate_txn.specs.Updating.{Updates}
use Rattle.slate_txn.specs.declared.stored.DirtyObject.{DirtyObject}
use Rattle.slate_txn_laws.specs.Committing.{Stands}
use Rattle.slate_txn_laws.specs.Ready.{top_of, LeavesReady}

-- the dirty value stands after the version held; or it was made of another number than that, the version held is not the latest or has the last
-- number, the rules or the codec refuse the value, or the boundary is not a number
pub data UpdateAnswers {T C R : Type 0} (refusal : R → ℕ → T → T → Right → Option SlateDBError) (encoded : C → T → Result (List ℕ) SlateDBError)
    (s : Store) (new : Told) (holder : Holder T C R) (dirty : DirtyObject T) (right : Right) (result : Result (Unit {0}) SlateDBError) : Type 0 where
  IsUpdated : (bytes : List ℕ) (t : Store) → dirty.id ≡ holder.id → refusal holder.rules holder.id holder.object dirty.value right ≡ None → encoded holder.sequenced.codec dirty.value ≡ Ok bytes
      → new.contents ≡ Some t → Stands holder.sequenced.db holder.sequenced.log s t (holder.id + 1) bytes → result ≡ Ok tt → UpdateAnswers refusal encoded s new holder dirty right result
  IsOther : dirty.id ≢ holder.id → result ≡ Err (TransactionalObjectVersionExists dirty.id None) → UpdateAnswers refusal encoded s new holder dirty right result
  IsBehind : (top : ℕ) (boundary : Option ℕ) → top_of holder.sequenced.db holder.sequenced.log s ≡ Some top → holder.id < top
      → result ≡ Err (TransactionalObjectVersionExists (holder.id + 1) boundary) → UpdateAnswers refusal encoded s new holder dirty right result
  ByNumber : holder.id ≡ last_number → result ≡ Err (Exhausted holder.id) → UpdateAnswers refusal encoded s new holder dirty right result
  ByRules : (e : SlateDBError) → refusal holder.rules holder.id holder.object dirty.value right ≡ Some e → result ≡ Err e → UpdateAnswers refusal encoded s new holder dirty right result
  ByCodec : (e : SlateDBError) → encoded holder.sequenced.codec dirty.value ≡ Err e → result ≡ Err e → UpdateAnswers refusal encoded s new holder dirty right result
  NoBoundary : boundary_at holder.sequenced.db holder.sequenced.log s ≡ None → result ≡ Err (Corrupt BoundaryFormat) → UpdateAnswers refusal encoded s new holder dirty right result

-- the update is answered so, and the log stays ready; or memory ran out
abbrev pub UpdateEnds : {T C R : Type 0} → (R → ℕ → T → T → Right → Option SlateDBError) → (C → T → Result (List ℕ) SlateDBError) → Holder T C R
    → DirtyObject T → Right → Store → Told → Result (Unit {0}) SlateDBError → Type 0
UpdateEnds refusal encoded holder dirty right s new result =
    (UpdateAnswers refusal encoded s new holder dirty right result × LeavesReady holder.sequenced.db holder.sequenced.log new) ⊎ (ran_out result ≡ true)

-- the updates of a holder by this dirty value, at a moment and under a right
abbrev pub UpdatesOf : {T C R : Type 0} → (R → ℕ → T → T → Right → Option SlateDBError) → (C → T → Result (List ℕ) SlateDBError) → ℤ → Holder T C R
    → DirtyObject T → Right → Told → Told → Result (Unit {0}) SlateDBError → Type 0
UpdatesOf refusal encoded moment holder dirty right old new result = Updates refusal encoded moment old new holder dirty right result
