-- Delete: get the boundary, and delete a version that isn't above it; or delete it as it is.
use Rattle.std.specs.Prelude.{ℕ, Bool, true, false, List, Option, Some, None, Ok, Err, nat_le, if◌then◌else◌}
use Rattle.slate_ids.specs.declared.error.SlateDBError.TheVariants.{StoreFault, Corrupt, InvalidDeletion}
use Rattle.slate_ids.specs.declared.error.FormatName.TheVariants.{Boundary as BoundaryFormat}
use Rattle.slate_store.specs.declared.store_call.StoreCall.{StoreCall}
use Rattle.slate_store.specs.declared.store_call.StoreCall.TheVariants.{Get, Delete}
use Rattle.slate_store.specs.declared.store_answer.StoreAnswer.{StoreAnswer}
use Rattle.slate_store.specs.declared.store_answer.StoreAnswer.TheVariants.{Got, Deleted}
use Rattle.slate_store.specs.Machines.{Goes, Stay, End}
use Rattle.slate_txn_log.specs.Boundary.{boundary_got}
use Rattle.slate_txn_log.specs.LogPaths.{version_path, boundary_path}
use Rattle.slate_txn_log.specs.declared.delete_phase.DeletePhase.{DeletePhase}
use Rattle.slate_txn_log.specs.declared.delete_phase.DeletePhase.TheVariants.{Bounding, Deleting, Over}
use Rattle.slate_txn_log.specs.declared.log_kind.LogKind.{LogKind}

-- the one call of each phase
abbrev pub delete_asks : List ℕ → LogKind → DeletePhase → StoreCall
delete_asks db log (Bounding n) = Get (boundary_path log db)
delete_asks db log (Deleting n) = Delete (version_path log db n)
delete_asks db log Over = Get (boundary_path log db)

-- how a deletion goes on
abbrev pub DeleteGoes : Type 0
DeleteGoes = Goes DeletePhase (Unit {0})

-- a version above the boundary is not deleted
abbrev pub checked_goes : ℕ → Option ℕ → DeleteGoes
checked_goes n None = End Over (Err (Corrupt BoundaryFormat))
checked_goes n (Some boundary) = if nat_le n boundary then Stay (Deleting n) else End Over (Err (InvalidDeletion n))

-- how the deletion goes on from the answer; an answer to another call ends as a fault does
abbrev pub delete_goes : DeletePhase → StoreAnswer → DeleteGoes
delete_goes (Bounding n) (Got object) = checked_goes n (boundary_got object)
delete_goes (Deleting n) Deleted = End Over (Ok tt)
delete_goes phase answer = End Over (Err StoreFault)

-- whether a call is due
abbrev pub delete_due : DeletePhase → Bool
delete_due (Bounding n) = true
delete_due (Deleting n) = true
delete_due Over = false

-- the steps that are left
abbrev pub delete_rank : DeletePhase → ℕ
delete_rank (Bounding n) = 2
delete_rank (Deleting n) = 1
delete_rank Over = 0
