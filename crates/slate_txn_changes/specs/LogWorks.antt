-- A change of a log's latest version: it is read, and what the change makes of it is committed.
use Rattle.std.specs.Prelude.{◌≡◌, ◌⊎◌, ◌<◌, ◌+◌, ℕ, ℤ, Bool, true, false, List, Option, Some, None, Result, Ok, Err}
use Rattle.slate_txn_changes.specs.declared.log_work.LogEnd.{LogEnd}
use Rattle.slate_txn_changes.specs.declared.log_work.LogEnd.TheVariants.{Absent, Unchanged, Committed}
use Rattle.slate_txn_changes.specs.declared.log_work.LogWork.{LogWork}
use Rattle.slate_txn_changes.specs.declared.log_work.LogWork.TheVariants.{Reading, Committing}
use Rattle.slate_ids.specs.declared.error.SlateDBError.{SlateDBError}
use Rattle.slate_txn_log.specs.CommitPhase.{CommitGoes, commit_asks, commit_due, commit_goes, commit_rank}
use Rattle.slate_txn_log.specs.ReadPhase.{Reply, is_listing, rank, read_asks, read_due, read_goes}
use Rattle.slate_txn_log.specs.declared.commit_phase.CommitPhase.{CommitPhase}
use Rattle.slate_txn_log.specs.declared.commit_phase.CommitPhase.TheVariants as committing
use Rattle.slate_txn_log.specs.declared.log_kind.LogKind.{LogKind}
use Rattle.slate_txn_log.specs.declared.read_phase.ReadPhase.TheVariants as reading
use Rattle.slate_store.specs.StoreCalls.{Told}
use Rattle.slate_store.specs.Machines.{Goes, Stay, End, Steps}
use Rattle.slate_store.specs.declared.step.Step.{Step}
use Rattle.slate_store.specs.declared.step.Step.TheVariants.{Done}
use Rattle.slate_store.specs.declared.store_answer.StoreAnswer.{StoreAnswer}
use Rattle.slate_store.specs.declared.store_call.StoreCall.{StoreCall}

-- ---- where it stands

-- the change is to be made of the latest version, which is to be read
abbrev pub work_start : {V : Type 0} → LogWork V
work_start = Reading reading.Listing

-- the one call that is due
abbrev pub work_asks : {V : Type 0} → List ℕ → LogKind → LogWork V → StoreCall
work_asks db log (Reading phase) = read_asks db log phase
work_asks db log (Committing made phase) = commit_asks db log phase

-- whether a call is due
abbrev pub work_due : {V : Type 0} → LogWork V → Bool
work_due (Reading phase) = read_due phase
work_due (Committing made phase) = commit_due phase

-- whether the latest version is read still
abbrev pub reads_still : {V : Type 0} → LogWork V → Bool
reads_still (Reading phase) = true
reads_still (Committing made phase) = false

-- whether it uses a turn to be here: the versions are to be listed, also again
abbrev pub work_starts : {V : Type 0} → LogWork V → Bool
work_starts (Reading phase) = is_listing phase
work_starts (Committing made phase) = false

-- the steps of a turn that are left
abbrev pub work_rank : {V : Type 0} → LogWork V → ℕ
work_rank (Reading phase) = rank phase + 2
work_rank (Committing made phase) = commit_rank phase

-- a step uses a turn, or fewer steps are left
abbrev pub WorkFalls : {V : Type 0} → LogWork V → LogWork V → Type 0
WorkFalls old new = (work_starts new ≡ true) ⊎ (work_rank new < work_rank old)

-- ---- how it goes on

abbrev pub WorkGoes : Type 0 → Type 0
WorkGoes V = Goes (LogWork V) (LogEnd V)

-- what the change makes of the version read is committed, where it makes something
abbrev pub change_goes : {V : Type 0} → ℤ → ℕ → V → Result (Option (CommitPhase V)) SlateDBError → WorkGoes V
change_goes now n v (Ok (Some commit)) = Stay (Committing now commit)
change_goes now n v (Ok None) = End (Reading reading.Over) (Ok (Unchanged n v))
change_goes now n v (Err e) = End (Reading reading.Over) (Err e)

-- after a step of the read, at a moment: the change is made at the moment of the last one
abbrev pub read_on : {V : Type 0} → (ℤ → ℕ → V → Result (Option (CommitPhase V)) SlateDBError) → ℤ → Reply V → WorkGoes V
read_on commit now (Stay phase) = Stay (Reading phase)
read_on commit now (End phase (Ok None)) = End (Reading phase) (Ok Absent)
read_on commit now (End phase (Ok (Some version))) = change_goes now version.0 version.1 (commit now version.0 version.1)
read_on commit now (End phase (Err e)) = End (Reading phase) (Err e)

-- after a step of the commit
abbrev pub commit_on : {V : Type 0} → ℤ → CommitGoes V → WorkGoes V
commit_on made (Stay phase) = Stay (Committing made phase)
commit_on made (End phase (Ok version)) = End (Committing made phase) (Ok (Committed version.0 version.1))
commit_on made (End phase (Err e)) = End (Committing made phase) (Err e)

-- how it goes on from the answer at this moment, by what reads a value, and by the commit of what the change makes of a version
abbrev pub work_goes : {V : Type 0} → LogKind → (List ℕ → Result V SlateDBError) → (ℤ → ℕ → V → Result (Option (CommitPhase V)) SlateDBError) → ℤ → LogWork V → StoreAnswer → WorkGoes V
work_goes log decoded commit now (Reading phase) answer = read_on commit now (read_goes log decoded phase answer)
work_goes log decoded commit now (Committing made phase) answer = commit_on made (commit_goes phase answer)

-- what next does, at a moment
abbrev pub WorkSteps : {V : Type 0} → List ℕ → LogKind → (List ℕ → Result V SlateDBError) → (ℤ → ℕ → V → Result (Option (CommitPhase V)) SlateDBError)
    → ℤ → Told → Told → LogWork V → LogWork V → Step (LogEnd V) → Type 0
WorkSteps db log decoded commit moment old new from to step = Steps old new (work_asks db log from) moment (work_goes log decoded commit moment from) from to step

-- ---- and its end

-- the read, or the commit made at that moment, before its last call
abbrev pub before_commit : {V : Type 0} → ℕ → V → LogWork V → LogWork V
before_commit n v (Reading phase) = Reading phase
before_commit n v (Committing made phase) = Committing made (committing.Bounding n v)

-- work that ended so, put back to its last call
abbrev pub put_back : {V : Type 0} → LogEnd V → LogWork V → LogWork V
put_back Absent work = Reading reading.Listing
put_back (Unchanged n v) work = Reading (reading.Bounding n v)
put_back (Committed n v) work = before_commit n v work

-- an end can be put back, and so leads to where the work was
abbrev pub CanBack : {V : Type 0} → LogWork V → LogWork V → Step (LogEnd V) → Type 0
CanBack from to (Done (Ok end)) = put_back end to ≡ from
CanBack from to _ = Unit {0}
