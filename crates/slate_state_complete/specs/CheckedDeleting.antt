-- What a checked deletion of a version answers, and what it leaves.
use Rattle.std.specs.Prelude.{◌≡◌, ℕ, Bool, true, false, List, Some, None, Result, Ok, Err}
use Rattle.slate_ids.specs.declared.error.SlateDBError.{SlateDBError}
use Rattle.slate_ids.specs.declared.error.SlateDBError.TheVariants.{Corrupt, InvalidDeletion, LatestTransactionalObjectVersionMissing}
use Rattle.slate_ids.specs.declared.error.FormatName.TheVariants.{Boundary as BoundaryFormat}
use Rattle.slate_store.specs.StoreCalls.{Told}
use Rattle.slate_store.specs.Store.{Store, removed}
use Rattle.slate_txn_log.specs.Advance.{boundary_at}
use Rattle.slate_txn_log.specs.LogPaths.{version_path}
use Rattle.slate_txn_log.specs.declared.log_kind.LogKind.{LogKind}
use Rattle.slate_txn_laws.specs.Ready.{top_of, IsLatest}
use Rattle.slate_txn_delete.specs.CheckedDelete.{may_delete}

-- the latest version is this, and the boundary this number
pub record IsJudged {T : Type 0} (decoded : List ℕ → Result T SlateDBError) (db : List ℕ) (log : LogKind) (s : Store) (top : ℕ) (value : T) (boundary : ℕ) : Type 0 where
  pub bytes : List ℕ
  pub latest : IsLatest db log s top bytes
  pub reads : decoded bytes ≡ Ok value
  pub at : boundary_at db log s ≡ Some boundary

-- the version is gone, where latest version and boundary allow it; or they don't, there is no version, the codec refuses the latest one, or the
-- boundary is not a number, and the contents are as before
pub data CheckedAnswers {T : Type 0} (decoded : List ℕ → Result T SlateDBError) (names : T → ℕ → Bool) (db : List ℕ) (log : LogKind) (s : Store)
    (new : Told) (n : ℕ) (result : Result (Unit {0}) SlateDBError) : Type 0 where
  IsDeleted : (top : ℕ) (value : T) (boundary : ℕ) → IsJudged decoded db log s top value boundary → may_delete names n (top, value) boundary ≡ true
      → new.contents ≡ Some (removed (version_path log db n) s) → result ≡ Ok tt → CheckedAnswers decoded names db log s new n result
  IsKept : (top : ℕ) (value : T) (boundary : ℕ) → IsJudged decoded db log s top value boundary → may_delete names n (top, value) boundary ≡ false
      → new.contents ≡ Some s → result ≡ Err (InvalidDeletion n) → CheckedAnswers decoded names db log s new n result
  NoVersion : top_of db log s ≡ None → new.contents ≡ Some s → result ≡ Err LatestTransactionalObjectVersionMissing → CheckedAnswers decoded names db log s new n result
  Undecoded : (top : ℕ) (bytes : List ℕ) (e : SlateDBError) → IsLatest db log s top bytes → decoded bytes ≡ Err e → new.contents ≡ Some s
      → result ≡ Err e → CheckedAnswers decoded names db log s new n result
  NoBoundary : (top : ℕ) (bytes : List ℕ) (value : T) → IsLatest db log s top bytes → decoded bytes ≡ Ok value → boundary_at db log s ≡ None
      → new.contents ≡ Some s → result ≡ Err (Corrupt BoundaryFormat) → CheckedAnswers decoded names db log s new n result
