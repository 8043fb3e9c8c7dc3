-- The plain calls of a compactor on its state, whole.
use Rattle.std.specs.Prelude.{◌≡◌, ◌⊎◌, ◌<◌, ℕ, ℤ, Bool, true, false, List, Result}
use Rattle.slate_txn_changes.specs.Turns.{Turn, is_turned, turn_asks, turn_goes}
use Rattle.slate_state_calls.specs.StateSteps.{StateAt, start_phase, state_asks, state_goes, state_lists_again, state_rank}
use Rattle.slate_state_calls.specs.declared.compactor.Compactor.{Compactor}
use Rattle.slate_state_calls.specs.declared.state_phase.StatePhase.{StatePhase}
use Rattle.slate_state_calls.specs.declared.state_start.StateStart.{StateStart}
use Rattle.slate_state_writer.specs.Writer.{Writer}
use Rattle.slate_state_writer.specs.declared.state_machine.StateTurns.{StateTurns}
use Rattle.slate_ids.specs.Answers.{OrMemory}
use Rattle.slate_ids.specs.declared.error.SlateDBError.{SlateDBError}
use Rattle.slate_store.specs.StoreCalls.{Told}
use Rattle.slate_store.specs.Machines.{Goes, Steps}
use Rattle.slate_store.specs.CallRuns.{Began, Ran}
use Rattle.slate_store.specs.declared.step.Step.{Step}
use Rattle.slate_store.specs.declared.store_answer.StoreAnswer.{StoreAnswer}
use Rattle.slate_store.specs.declared.store_call.StoreCall.{StoreCall}

-- the one call of a phase
abbrev pub asks_at : List ℕ → StateAt → StoreCall
asks_at db at = state_asks db at.0

-- a step led back to a list of the same log
abbrev pub lists_again : StateAt → StateAt → Bool
lists_again from to = state_lists_again from.0 to.0

-- after a conflict a call begins again, with what is held by then
abbrev pub begins_again : StateStart → StateAt → StateAt
begins_again start at = (start_phase start at.1, at.1)

abbrev pub first_turn : StateStart → Compactor → Turn StateAt
first_turn start c = ((start_phase start c, c), false)

-- how a plain call goes on
abbrev pub state_turning : StateStart → ℤ → Turn StateAt → StoreAnswer → Goes (Turn StateAt) (Unit {0})
state_turning start now = turn_goes lists_again (begins_again start) (state_goes now)

-- where a plain call stands with its writer, and whether its last step used a turn
abbrev pub turn_of : StateTurns → Writer → Turn StateAt
turn_of turns writer = ((turns.machine.phase, writer.compactor), turns.is_turned)

-- what next does, at a moment
abbrev pub StateTurnSteps : StateStart → ℤ → Told → Told → StateTurns → Writer → StateTurns → Writer → Step (Unit {0}) → Type 0
StateTurnSteps start moment old new from before to after step =
    Steps old new (state_asks before.db from.machine.phase) moment (state_turning start moment (turn_of from before)) (turn_of from before) (turn_of to after) step

-- a plain call ran, from what was held before it to what is held after it
abbrev pub StateRan : List ℕ → StateStart → ℤ → ℕ → Told → Told → Compactor → Compactor → Result (Unit {0}) SlateDBError → Type 0
StateRan db start moment tries old new from to result =
    (phase : StatePhase) × (turned : Bool) × Ran is_turned (turn_asks (asks_at db)) (state_turning start moment) moment tries old new (first_turn start from) ((phase, to), turned) result

-- memory ran out within it
abbrev pub StateBegan : List ℕ → StateStart → ℤ → ℕ → Told → Told → Compactor → Compactor → Type 0
StateBegan db start moment tries old new from to =
    (phase : StatePhase) × (turned : Bool) × Began is_turned (turn_asks (asks_at db)) (state_turning start moment) moment tries old new (first_turn start from) ((phase, to), turned)

-- a whole plain call
abbrev pub StateCalled : List ℕ → StateStart → ℤ → ℕ → Told → Told → Compactor → Compactor → Result (Unit {0}) SlateDBError → Type 0
StateCalled db start moment tries old new from to result =
    OrMemory result (StateBegan db start moment tries old new from to) (StateRan db start moment tries old new from to result)

-- a step used a turn, or fewer steps of the turn are left
abbrev pub StateTurnFalls : StatePhase → StatePhase → Bool → Type 0
StateTurnFalls from to turned = (turned ≡ true) ⊎ (state_rank to < state_rank from)
