-- What a deletion of a version answers, and what it leaves.
use Rattle.std.specs.Prelude.{◌≡◌, ◌<◌, ◌≤◌, ℕ, List, Some, None, Result, Ok, Err}
use Rattle.slate_ids.specs.declared.error.SlateDBError.{SlateDBError}
use Rattle.slate_ids.specs.declared.error.SlateDBError.TheVariants.{Corrupt, InvalidDeletion}
use Rattle.slate_ids.specs.declared.error.FormatName.TheVariants.{Boundary as BoundaryFormat}
use Rattle.slate_store.specs.StoreCalls.{Told}
use Rattle.slate_store.specs.Store.{Store, removed}
use Rattle.slate_txn_log.specs.Advance.{boundary_at}
use Rattle.slate_txn_log.specs.LogPaths.{version_path}
use Rattle.slate_txn_log.specs.declared.log_kind.LogKind.{LogKind}

-- the version is gone, or it is above the boundary, or the boundary is not a number
pub data DeleteAnswers (db : List ℕ) (log : LogKind) (s : Store) (new : Told) (n : ℕ) (result : Result (Unit {0}) SlateDBError) : Type 0 where
  IsDeleted : (boundary : ℕ) → boundary_at db log s ≡ Some boundary → n ≤ boundary → new.contents ≡ Some (removed (version_path log db n) s) → result ≡ Ok tt → DeleteAnswers db log s new n result
  IsAbove : (boundary : ℕ) → boundary_at db log s ≡ Some boundary → boundary < n → new.contents ≡ Some s → result ≡ Err (InvalidDeletion n) → DeleteAnswers db log s new n result
  NoBoundary : boundary_at db log s ≡ None → result ≡ Err (Corrupt BoundaryFormat) → DeleteAnswers db log s new n result
