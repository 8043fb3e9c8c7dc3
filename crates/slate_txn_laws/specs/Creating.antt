-- What the creation of a log answers.
use Rattle.std.specs.Prelude.{◌≡◌, ◌⊎◌, ℕ, true, List, Option, Some, None, Result, Ok, Err}
use Rattle.slate_ids.specs.Answers.{ran_out}
use Rattle.slate_ids.specs.declared.error.SlateDBError.{SlateDBError}
use Rattle.slate_ids.specs.declared.error.SlateDBError.TheVariants.{Corrupt, TransactionalObjectVersionExists}
use Rattle.slate_ids.specs.declared.error.FormatName.TheVariants.{Boundary as BoundaryFormat}
use Rattle.slate_store.specs.StoreCalls.{Told}
use Rattle.slate_store.specs.Store.{Store}
use Rattle.slate_txn_log.specs.Advance.{boundary_at}
use Rattle.slate_txn_log.specs.declared.sequenced.Sequenced.{Sequenced}
use Rattle.slate_txn.specs.Holder.{Holder, holder_of}
use Rattle.slate_txn_laws.specs.Committing.{Stands}
use Rattle.slate_txn_laws.specs.Ready.{top_of, LeavesReady}

-- version 1 stands and is held; or the log has a version, or the codec refuses the value, or the boundary is not a number
pub data CreateAnswers {T C R : Type 0} (encoded : C → T → Result (List ℕ) SlateDBError) (s : Store) (new : Told) (sequenced : Sequenced T C)
    (rules : R) (value : T) (result : Result (Holder T C R) SlateDBError) : Type 0 where
  IsCreated : (bytes : List ℕ) (t : Store) → encoded sequenced.codec value ≡ Ok bytes → new.contents ≡ Some t
      → Stands sequenced.db sequenced.log s t 1 bytes → result ≡ Ok (holder_of sequenced rules (1, value))
      → CreateAnswers encoded s new sequenced rules value result
  HasVersion : (top : ℕ) (boundary : Option ℕ) → top_of sequenced.db sequenced.log s ≡ Some top
      → result ≡ Err (TransactionalObjectVersionExists 1 boundary) → CreateAnswers encoded s new sequenced rules value result
  ByCodec : (e : SlateDBError) → encoded sequenced.codec value ≡ Err e → result ≡ Err e → CreateAnswers encoded s new sequenced rules value result
  NoBoundary : boundary_at sequenced.db sequenced.log s ≡ None → result ≡ Err (Corrupt BoundaryFormat) → CreateAnswers encoded s new sequenced rules value result

-- the creation is answered so, and the log stays ready; or memory ran out
abbrev pub CreateEnds : {T C R : Type 0} → (C → T → Result (List ℕ) SlateDBError) → Sequenced T C → R → T → Store → Told → Result (Holder T C R) SlateDBError → Type 0
CreateEnds encoded sequenced rules value s new result =
    (CreateAnswers encoded s new sequenced rules value result × LeavesReady sequenced.db sequenced.log new) ⊎ (ran_out result ≡ true)
