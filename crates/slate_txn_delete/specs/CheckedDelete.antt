-- Checked delete: read the latest version with the boundary, and delete a version that both allow.
use Rattle.std.specs.Prelude.{◌<◌, ◌&&◌, ◌==◌, ◌⊎◌, ◌≡◌, ◌+◌, ℕ, pos, nat_le, not, Bool, true, false, List, Option, Some, None, Result, Ok, Err, if◌then◌else◌}
use Rattle.slate_ids.specs.declared.error.SlateDBError.{SlateDBError}
use Rattle.slate_ids.specs.declared.error.SlateDBError.TheVariants.{StoreFault, Corrupt, InvalidDeletion, LatestTransactionalObjectVersionMissing}
use Rattle.slate_ids.specs.declared.error.FormatName.TheVariants.{Boundary as BoundaryFormat}
use Rattle.slate_store.specs.StoreCalls.{Told}
use Rattle.slate_store.specs.Machines.{Goes, Stay, End}
use Rattle.slate_store.specs.CallRuns.{Ran, Began}
use Rattle.slate_store.specs.declared.store_answer.StoreAnswer.{StoreAnswer}
use Rattle.slate_store.specs.declared.store_answer.StoreAnswer.TheVariants.{Got, Deleted}
use Rattle.slate_store.specs.declared.store_call.StoreCall.{StoreCall}
use Rattle.slate_store.specs.declared.store_call.StoreCall.TheVariants.{Get, Delete}
use Rattle.slate_txn_log.specs.Boundary.{boundary_got}
use Rattle.slate_txn_log.specs.LogPaths.{version_path, boundary_path}
use Rattle.slate_txn_log.specs.ReadPhase.{read_asks, read_goes, read_due, is_listing, rank}
use Rattle.slate_txn_log.specs.declared.log_kind.LogKind.{LogKind}
use Rattle.slate_txn_log.specs.declared.read_phase.ReadPhase.{ReadPhase}
use Rattle.slate_txn_log.specs.declared.read_phase.ReadPhase.TheVariants.{Listing}
use Rattle.slate_txn_log.specs.declared.sequenced.Sequenced.{Sequenced}
use Rattle.slate_txn_delete.specs.declared.checked_delete_phase.CheckedDeletePhase.{CheckedDeletePhase}
use Rattle.slate_txn_delete.specs.declared.checked_delete_phase.CheckedDeletePhase.TheVariants.{Reading, Deleting, Over}

-- whether version n may be deleted: it isn't the latest, the latest doesn't name it, and it isn't above the boundary
abbrev pub may_delete : {T : Type 0} → (T → ℕ → Bool) → ℕ → ℕ × T → ℕ → Bool
may_delete names n version boundary = not (n == version.0) && not (names version.1 n) && nat_le n boundary

-- how a checked delete goes on
abbrev pub CheckedGoes : Type 0 → Type 0
CheckedGoes T = Goes (CheckedDeletePhase T) (Unit {0})

-- the boundary that was got with the latest version
abbrev pub boundary_told : StoreAnswer → Option ℕ
boundary_told (Got object) = boundary_got object
boundary_told answer = None

-- the delete, where it is allowed
abbrev pub allowed_goes : {T : Type 0} → (T → ℕ → Bool) → ℕ → ℕ × T → Option ℕ → CheckedGoes T
allowed_goes names n version None = End Over (Err (Corrupt BoundaryFormat))
allowed_goes names n version (Some boundary) = if may_delete names n version boundary then Stay (Deleting n) else End Over (Err (InvalidDeletion n))

-- after the read
abbrev pub judged : {T : Type 0} → (T → ℕ → Bool) → ℕ → Option ℕ → Goes (ReadPhase T) (Option (ℕ × T)) → CheckedGoes T
judged names n boundary (Stay read) = Stay (Reading n read)
judged names n boundary (End read (Err e)) = End Over (Err e)
judged names n boundary (End read (Ok None)) = End Over (Err LatestTransactionalObjectVersionMissing)
judged names n boundary (End read (Ok (Some version))) = allowed_goes names n version boundary

-- the one call of each phase
abbrev pub checked_asks : {T : Type 0} → List ℕ → LogKind → CheckedDeletePhase T → StoreCall
checked_asks db log (Reading n read) = read_asks db log read
checked_asks db log (Deleting n) = Delete (version_path log db n)
checked_asks db log Over = Get (boundary_path log db)

-- how it goes on from the answer; an answer to another call ends as a fault does
abbrev pub checked_goes : {T : Type 0} → LogKind → (List ℕ → Result T SlateDBError) → (T → ℕ → Bool) → CheckedDeletePhase T → StoreAnswer → CheckedGoes T
checked_goes log decoded names (Reading n read) answer = judged names n (boundary_told answer) (read_goes log decoded read answer)
checked_goes log decoded names (Deleting n) Deleted = End Over (Ok tt)
checked_goes log decoded names phase answer = End Over (Err StoreFault)

-- whether a call is due
abbrev pub checked_due : {T : Type 0} → CheckedDeletePhase T → Bool
checked_due (Reading n read) = read_due read
checked_due (Deleting n) = true
checked_due Over = false

-- whether the versions are to be listed
abbrev pub checked_starts : {T : Type 0} → CheckedDeletePhase T → Bool
checked_starts (Reading n read) = is_listing read
checked_starts (Deleting n) = false
checked_starts Over = false

-- whether it reads
abbrev pub is_reading_phase : {T : Type 0} → CheckedDeletePhase T → Bool
is_reading_phase (Reading n read) = true
is_reading_phase (Deleting n) = false
is_reading_phase Over = false

-- the steps of a try that are left
abbrev pub checked_rank : {T : Type 0} → CheckedDeletePhase T → ℕ
checked_rank (Reading n read) = rank read + 1
checked_rank (Deleting n) = 1
checked_rank Over = 0

-- a step starts again, or fewer steps are left
abbrev pub CheckedFalls : {T : Type 0} → CheckedDeletePhase T → CheckedDeletePhase T → Type 0
CheckedFalls old new = (checked_starts new ≡ true) ⊎ (checked_rank new < checked_rank old)

-- the checked delete ran, with so many tries
abbrev pub CheckedRan : {T C : Type 0} → (C → List ℕ → Result T SlateDBError) → (T → ℕ → Bool) → Sequenced T C → ℕ → ℕ → Told → Told → Result (Unit {0}) SlateDBError → Type 0
CheckedRan decoded names sequenced n tries old new result =
    (to : CheckedDeletePhase _) × Ran checked_starts (checked_asks sequenced.db sequenced.log)
    (checked_goes sequenced.log (decoded sequenced.codec) names) (pos 0) tries old new (Reading n Listing) to result

-- memory ran out within it
abbrev pub CheckedBegan : {T C : Type 0} → (C → List ℕ → Result T SlateDBError) → (T → ℕ → Bool) → Sequenced T C → ℕ → ℕ → Told → Told → Type 0
CheckedBegan decoded names sequenced n tries old new =
    (to : CheckedDeletePhase _) × Began checked_starts (checked_asks sequenced.db sequenced.log)
    (checked_goes sequenced.log (decoded sequenced.codec) names) (pos 0) tries old new (Reading n Listing) to
