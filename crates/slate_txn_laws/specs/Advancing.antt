-- What an advance of the boundary answers, and what it leaves.
use Rattle.std.specs.Prelude.{◌≡◌, ℕ, max, List, Some, None, Result, Ok, Err}
use Rattle.slate_ids.specs.declared.error.SlateDBError.{SlateDBError}
use Rattle.slate_ids.specs.declared.error.SlateDBError.TheVariants.{Corrupt}
use Rattle.slate_ids.specs.declared.error.FormatName.TheVariants.{Boundary as BoundaryFormat}
use Rattle.slate_store.specs.StoreCalls.{Told}
use Rattle.slate_store.specs.Store.{Store}
use Rattle.slate_txn_log.specs.Advance.{boundary_at}
use Rattle.slate_txn_log.specs.declared.log_kind.LogKind.{LogKind}
use Rattle.slate_txn_laws.specs.Ready.{top_of, IsBelow, LeavesReady}

-- the boundary is the greater of the number and what it was, and the greatest version is as before; or the boundary is not a number
pub data AdvanceAnswers (db : List ℕ) (log : LogKind) (s : Store) (new : Told) (n : ℕ) (result : Result (Unit {0}) SlateDBError) : Type 0 where
  IsAdvanced : (boundary : ℕ) (t : Store) → boundary_at db log s ≡ Some boundary → new.contents ≡ Some t
      → boundary_at db log t ≡ Some (max n boundary) → top_of db log t ≡ top_of db log s → result ≡ Ok tt → AdvanceAnswers db log s new n result
  NoBoundary : boundary_at db log s ≡ None → result ≡ Err (Corrupt BoundaryFormat) → AdvanceAnswers db log s new n result

-- where the number is below the latest version, the log is left ready
abbrev pub StaysReadyBelow : List ℕ → LogKind → ℕ → Store → Told → Result (Unit {0}) SlateDBError → Type 0
StaysReadyBelow db log n s new result = IsBelow n (top_of db log s) → LeavesReady db log new
