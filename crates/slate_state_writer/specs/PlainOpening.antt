-- The open of a database by a compactor as a machine, and as a plain call.
use Rattle.std.specs.Prelude.{◌≡◌, ◌⊎◌, ◌<◌, ℕ, ℤ, Bool, true, false, List, Result}
use Rattle.slate_txn_changes.specs.Turns.{Turn, is_turned, turn_asks, turn_goes}
use Rattle.slate_state_calls.specs.Opening.{open_asks, open_goes, open_lists_again, open_rank, open_start}
use Rattle.slate_state_calls.specs.declared.open_phase.OpenPhase.{OpenPhase}
use Rattle.slate_state_writer.specs.Writer.{Writer, held_by}
use Rattle.slate_state_writer.specs.declared.open.OpenTurns.{OpenTurns}
use Rattle.slate_ids.specs.Answers.{OrMemory}
use Rattle.slate_ids.specs.declared.error.SlateDBError.{SlateDBError}
use Rattle.slate_txn_laws.specs.Replies.{goes_as}
use Rattle.slate_store.specs.StoreCalls.{Told}
use Rattle.slate_store.specs.Machines.{Goes, Steps}
use Rattle.slate_store.specs.CallRuns.{Began, Ran}
use Rattle.slate_store.specs.declared.step.Step.{Step}
use Rattle.slate_store.specs.declared.store_answer.StoreAnswer.{StoreAnswer}

-- how the machine goes on at a moment: it ends with the writer of this database
abbrev pub writer_goes : List ℕ → ℤ → OpenPhase → StoreAnswer → Goes OpenPhase Writer
writer_goes db now phase answer = goes_as (held_by db) (open_goes now phase answer)

-- after a conflict all begins again
abbrev pub begins_again : OpenPhase → OpenPhase
begins_again phase = open_start

abbrev pub first_turn : Turn OpenPhase
first_turn = (open_start, false)

-- how the plain call goes on
abbrev pub open_turning : List ℕ → ℤ → Turn OpenPhase → StoreAnswer → Goes (Turn OpenPhase) Writer
open_turning db now = turn_goes open_lists_again begins_again (writer_goes db now)

-- where the plain call stands, and whether its last step used a turn
abbrev pub turn_of : OpenTurns → Turn OpenPhase
turn_of turns = (turns.machine.phase, turns.is_turned)

-- what next does, at a moment
abbrev pub OpenTurnSteps : ℤ → Told → Told → OpenTurns → OpenTurns → Step Writer → Type 0
OpenTurnSteps moment old new from to step =
    Steps old new (open_asks from.machine.db from.machine.phase) moment (open_turning from.machine.db moment (turn_of from)) (turn_of from) (turn_of to) step

-- a database was opened, with so many tries
abbrev pub OpenRan : List ℕ → ℤ → ℕ → Told → Told → Result Writer SlateDBError → Type 0
OpenRan db moment tries old new result =
    (to : Turn OpenPhase) × Ran is_turned (turn_asks (open_asks db)) (open_turning db moment) moment tries old new first_turn to result

-- memory ran out within it
abbrev pub OpenBegan : List ℕ → ℤ → ℕ → Told → Told → Type 0
OpenBegan db moment tries old new =
    (to : Turn OpenPhase) × Began is_turned (turn_asks (open_asks db)) (open_turning db moment) moment tries old new first_turn to

-- a whole plain call
abbrev pub Opens : List ℕ → ℤ → ℕ → Told → Told → Result Writer SlateDBError → Type 0
Opens db moment tries old new result = OrMemory result (OpenBegan db moment tries old new) (OpenRan db moment tries old new result)

-- a step used a turn, or fewer steps of the turn are left
abbrev pub OpenTurnFalls : OpenPhase → OpenPhase → Bool → Type 0
OpenTurnFalls from to turned = (turned ≡ true) ⊎ (open_rank to < open_rank from)
