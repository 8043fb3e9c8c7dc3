-- The plain call that changes the latest version.
use Rattle.std.specs.Prelude.{◌≡◌, ◌⊎◌, ◌<◌, ℕ, ℤ, Bool, true, false, List, Option, Result}
use Rattle.slate_txn_changes.specs.LogWorks.{work_asks, work_goes, work_rank, work_start, work_starts}
use Rattle.slate_txn_changes.specs.Turns.{Turn, is_turned, turn_asks, turn_goes}
use Rattle.slate_txn_changes.specs.declared.latest.Turns.{Turns}
use Rattle.slate_txn_changes.specs.declared.log_work.LogEnd.{LogEnd}
use Rattle.slate_txn_changes.specs.declared.log_work.LogWork.{LogWork}
use Rattle.slate_ids.specs.Answers.{OrMemory}
use Rattle.slate_ids.specs.declared.error.SlateDBError.{SlateDBError}
use Rattle.slate_txn_log.specs.declared.commit_phase.CommitPhase.{CommitPhase}
use Rattle.slate_txn_log.specs.declared.log_kind.LogKind.{LogKind}
use Rattle.slate_store.specs.StoreCalls.{Told}
use Rattle.slate_store.specs.Machines.{Goes, Steps}
use Rattle.slate_store.specs.CallRuns.{Began, Ran}
use Rattle.slate_store.specs.declared.step.Step.{Step}
use Rattle.slate_store.specs.declared.store_answer.StoreAnswer.{StoreAnswer}

-- a step leads back to the list wherever it leads to it
abbrev pub lists_again : {V : Type 0} → LogWork V → LogWork V → Bool
lists_again from to = work_starts to

-- where it begins, also after a conflict
abbrev pub begins_again : {V : Type 0} → LogWork V → LogWork V
begins_again work = work_start

abbrev pub first_turn : {V : Type 0} → Turn (LogWork V)
first_turn = (work_start, false)

-- how it goes on
abbrev pub latest_goes : {V : Type 0} → LogKind → (List ℕ → Result V SlateDBError) → (ℤ → ℕ → V → Result (Option (CommitPhase V)) SlateDBError) → ℤ
    → Turn (LogWork V) → StoreAnswer → Goes (Turn (LogWork V)) (LogEnd V)
latest_goes log decoded commit now = turn_goes lists_again begins_again (work_goes log decoded commit now)

-- where it stands, and whether its last step used a turn
abbrev pub turn_of : {V : Type 0} → Turns V → Turn (LogWork V)
turn_of turns = (turns.work, turns.is_turned)

-- what next does, at a moment
abbrev pub LatestSteps : {V : Type 0} → List ℕ → LogKind → (List ℕ → Result V SlateDBError) → (ℤ → ℕ → V → Result (Option (CommitPhase V)) SlateDBError)
    → ℤ → Told → Told → Turns V → Turns V → Step (LogEnd V) → Type 0
LatestSteps db log decoded commit moment old new from to step =
    Steps old new (work_asks db log from.work) moment (latest_goes log decoded commit moment (turn_of from)) (turn_of from) (turn_of to) step

-- it ran, with so many tries
abbrev pub ChangeRan : {V : Type 0} → List ℕ → LogKind → (List ℕ → Result V SlateDBError)
    → (ℤ → ℕ → V → Result (Option (CommitPhase V)) SlateDBError) → ℤ → ℕ → Told → Told → Result (LogEnd V) SlateDBError → Type 0
ChangeRan {V} db log decoded commit moment tries old new result =
    (to : Turn (LogWork V)) × Ran is_turned (turn_asks (work_asks db log)) (latest_goes log decoded commit moment) moment tries old new first_turn to result

-- memory ran out within it
abbrev pub ChangeBegan : {V : Type 0} → List ℕ → LogKind → (List ℕ → Result V SlateDBError) → (ℤ → ℕ → V → Result (Option (CommitPhase V)) SlateDBError) → ℤ → ℕ → Told → Told → Type 0
ChangeBegan {V} db log decoded commit moment tries old new =
    (to : Turn (LogWork V)) × Began is_turned (turn_asks (work_asks db log)) (latest_goes log decoded commit moment) moment tries old new first_turn to

-- the whole call
abbrev pub Changes : {V : Type 0} → List ℕ → LogKind → (List ℕ → Result V SlateDBError) → (ℤ → ℕ → V → Result (Option (CommitPhase V)) SlateDBError)
    → ℤ → ℕ → Told → Told → Result (LogEnd V) SlateDBError → Type 0
Changes db log decoded commit moment tries old new result =
    OrMemory result (ChangeBegan db log decoded commit moment tries old new) (ChangeRan db log decoded commit moment tries old new result)

-- the step used a turn, or fewer steps of the turn are left
abbrev pub TurnFalls : {V : Type 0} → LogWork V → LogWork V → Bool → Type 0
TurnFalls from to turned = (turned ≡ true) ⊎ (work_rank to < work_rank from)
