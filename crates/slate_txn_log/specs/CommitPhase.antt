-- Commit: put the next number, get the boundary.
use Rattle.std.specs.Prelude.{◌≡◌, ℕ, ◌+◌, ◌==◌, Bool, true, false, List, Option, Some, None, Result, Ok, Err, nat_le, if◌then◌else◌}
use Rattle.slate_ids.specs.Limits.{last_number}
use Rattle.slate_ids.specs.declared.error.SlateDBError.{SlateDBError}
use Rattle.slate_ids.specs.declared.error.SlateDBError.TheVariants.{TransactionalObjectVersionExists, StoreFault, Corrupt, Exhausted}
use Rattle.slate_ids.specs.declared.error.FormatName.TheVariants.{Boundary as BoundaryFormat}
use Rattle.slate_store.specs.declared.store_call.StoreCall.{StoreCall}
use Rattle.slate_store.specs.declared.store_call.StoreCall.TheVariants.{PutNew, Get}
use Rattle.slate_store.specs.declared.store_answer.StoreAnswer.{StoreAnswer}
use Rattle.slate_store.specs.declared.store_answer.StoreAnswer.TheVariants.{Got, Created}
use Rattle.slate_store.specs.declared.step.Step.{Step}
use Rattle.slate_store.specs.declared.step.Step.TheVariants.{Again, Done}
use Rattle.slate_store.specs.Machines.{Goes, Stay, End}
use Rattle.slate_txn_log.specs.Boundary.{boundary_got}
use Rattle.slate_txn_log.specs.LogPaths.{version_path, boundary_path}
use Rattle.slate_txn_log.specs.declared.log_kind.LogKind.{LogKind}
use Rattle.slate_txn_log.specs.declared.commit_phase.CommitPhase.{CommitPhase}
use Rattle.slate_txn_log.specs.declared.commit_phase.CommitPhase.TheVariants.{Putting, Bounding, Over}
use Rattle.slate_txn_log.specs.declared.right.Right.{Right}

-- the put of the bytes, where the value has some
abbrev pub encoded_commit : {T : Type 0} → ℕ → T → Result (List ℕ) SlateDBError → Result (CommitPhase T) SlateDBError
encoded_commit number value (Ok bytes) = Ok (Putting number bytes value)
encoded_commit number value (Err e) = Err e

-- and before it the rules
abbrev pub checked_commit : {T : Type 0} → Option SlateDBError → ℕ → T → Result (List ℕ) SlateDBError → Result (CommitPhase T) SlateDBError
checked_commit (Some e) number value bytes = Err e
checked_commit None number value bytes = encoded_commit number value bytes

-- the rules, then the encoding, then the put of the next number, where there is one
abbrev pub prepared : {T : Type 0} → (ℕ → T → T → Right → Option SlateDBError) → (T → Result (List ℕ) SlateDBError) → ℕ → T → T → Right → Result (CommitPhase T) SlateDBError
prepared refusal encoded id old value right =
    if id == last_number then Err (Exhausted id) else checked_commit (refusal id old value right) (id + 1) value (encoded value)

-- the one call of each phase
abbrev pub commit_asks : {T : Type 0} → List ℕ → LogKind → CommitPhase T → StoreCall
commit_asks db log (Putting n bytes value) = PutNew (version_path log db n) bytes
commit_asks db log (Bounding n value) = Get (boundary_path log db)
commit_asks db log Over = Get (boundary_path log db)

-- how a commit goes on
abbrev pub CommitGoes : Type 0 → Type 0
CommitGoes T = Goes (CommitPhase T) (ℕ × T)

-- a number that is taken is no commit
abbrev pub created_goes : {T : Type 0} → ℕ → T → Option ℕ → CommitGoes T
created_goes n value (Some tag) = Stay (Bounding n value)
created_goes n value None = End Over (Err (TransactionalObjectVersionExists n None))

-- a number at or below the boundary is no commit
abbrev pub bounded_goes : {T : Type 0} → ℕ → T → Option ℕ → CommitGoes T
bounded_goes n value None = End Over (Err (Corrupt BoundaryFormat))
bounded_goes n value (Some boundary) = if nat_le n boundary then End Over (Err (TransactionalObjectVersionExists n (Some boundary))) else End Over (Ok (n, value))

-- how the commit goes on from the answer; an answer to another call ends as a fault does
abbrev pub commit_goes : {T : Type 0} → CommitPhase T → StoreAnswer → CommitGoes T
commit_goes (Putting n bytes value) (Created tag) = created_goes n value tag
commit_goes (Bounding n value) (Got object) = bounded_goes n value (boundary_got object)
commit_goes phase answer = End Over (Err StoreFault)

-- whether a call is due
abbrev pub commit_due : {T : Type 0} → CommitPhase T → Bool
commit_due (Putting n bytes value) = true
commit_due (Bounding n value) = true
commit_due Over = false

-- whether the put is due
abbrev pub is_putting : {T : Type 0} → CommitPhase T → Bool
is_putting (Putting n bytes value) = true
is_putting (Bounding n value) = false
is_putting Over = false

-- the steps that are left
abbrev pub commit_rank : {T : Type 0} → CommitPhase T → ℕ
commit_rank (Putting n bytes value) = 2
commit_rank (Bounding n value) = 1
commit_rank Over = 0

-- what is put
abbrev pub commit_version : {T : Type 0} → CommitPhase T → Option (ℕ × T)
commit_version (Putting n bytes value) = Some (n, value)
commit_version (Bounding n value) = Some (n, value)
commit_version Over = None

-- a commit keeps to what is put, and answers it
abbrev pub KeepsVersion : {T : Type 0} → CommitPhase T → CommitPhase T → Step (ℕ × T) → Type 0
KeepsVersion old new Again = commit_version new ≡ commit_version old
KeepsVersion old new (Done (Ok version)) = commit_version old ≡ Some version
KeepsVersion old new (Done (Err e)) = Unit {0}
