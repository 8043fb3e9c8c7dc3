-- What a commit of a number answers, and what it leaves.
use Rattle.std.specs.Prelude.{◌≡◌, ◌<◌, ◌≤◌, ◌⊎◌, ℕ, List, Option, Some, None, Result, Ok, Err}
use Rattle.slate_ids.specs.declared.error.SlateDBError.{SlateDBError}
use Rattle.slate_ids.specs.declared.error.SlateDBError.TheVariants.{Corrupt, TransactionalObjectVersionExists}
use Rattle.slate_ids.specs.declared.error.FormatName.TheVariants.{Boundary as BoundaryFormat}
use Rattle.slate_store.specs.StoreCalls.{Told}
use Rattle.slate_store.specs.Store.{Store}
use Rattle.slate_txn_log.specs.Advance.{boundary_at}
use Rattle.slate_txn_log.specs.declared.log_kind.LogKind.{LogKind}
use Rattle.slate_txn_laws.specs.Ready.{top_of, IsGapless, LeavesReady, version_at}

-- a number above every version
abbrev pub IsOver : ℕ → Option ℕ → Type 0
IsOver n None = Unit {0}
IsOver n (Some top) = top < n

-- from contents to contents: a version of these bytes stands above the boundary, and is the latest where it was put above all versions or the log had no gap
pub record Stands (db : List ℕ) (log : LogKind) (s t : Store) (n : ℕ) (bytes : List ℕ) : Type 0 where
  pub stands : version_at db log n t ≡ Some bytes
  pub boundary : ℕ
  pub read : boundary_at db log t ≡ Some boundary
  pub above : boundary < n
  pub latest : IsGapless db log s ⊎ IsOver n (top_of db log s) → top_of db log t ≡ Some n

-- the version stands, or the log has one at or above its number, or the boundary is not a number
pub data CommitAnswers {T : Type 0} (db : List ℕ) (log : LogKind) (s : Store) (new : Told) (n : ℕ) (bytes : List ℕ) (value : T) (result : Result (ℕ × T) SlateDBError) : Type 0 where
  IsCommitted : (t : Store) → new.contents ≡ Some t → Stands db log s t n bytes → result ≡ Ok (n, value) → CommitAnswers db log s new n bytes value result
  IsBehind : (top : ℕ) (boundary : Option ℕ) → top_of db log s ≡ Some top → n ≤ top → result ≡ Err (TransactionalObjectVersionExists n boundary) → CommitAnswers db log s new n bytes value result
  NoBoundary : boundary_at db log s ≡ None → result ≡ Err (Corrupt BoundaryFormat) → CommitAnswers db log s new n bytes value result

-- the commit is answered so, and the log stays ready
abbrev pub CommitEnds : {T : Type 0} → List ℕ → LogKind → ℕ → List ℕ → T → Store → Told → Result (ℕ × T) SlateDBError → Type 0
CommitEnds db log n bytes value s new result = CommitAnswers db log s new n bytes value result × LeavesReady db log new
