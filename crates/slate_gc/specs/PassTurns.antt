-- A pass as a plain call: it is driven to its end, and begins again after a conflict.
use Rattle.std.specs.Prelude.{◌≡◌, ◌==◌, ◌&&◌, ◌||◌, nat_lt, ℕ, ℤ, Bool, false, List, Result, Ok, Err}
use Rattle.slate_gc.specs.Ended.{Ended}
use Rattle.slate_txn_changes.specs.Turns as turns
pub use Rattle.slate_txn_changes.specs.Turns.{is_turned}
use Rattle.slate_gc.specs.declared.pass_turns.PassTurns.{PassTurns}
use Rattle.slate_ids.specs.Answers.{OrMemory}
use Rattle.slate_ids.specs.declared.error.SlateDBError.{SlateDBError}
use Rattle.slate_ids.specs.declared.gc_message.GcMessage.{GcMessage}
use Rattle.slate_txn_log.specs.AdvancePhase.{is_bounding}
use Rattle.slate_txn_log.specs.ReadPhase.{is_listing}
use Rattle.slate_gc_passes.specs.GcPhase.{gc_asks, gc_goes, gc_start}
use Rattle.slate_gc_passes.specs.Stages.{stages_within}
use Rattle.slate_gc_passes.specs.Ways.{Ways}
use Rattle.slate_gc_passes.specs.declared.gc_phase.GcPhase.{GcPhase}
use Rattle.slate_txn_changes.specs.LogWorks.{work_starts}
use Rattle.slate_gc_passes.specs.declared.gc_phase.GcPhase.TheVariants.{Removing, Collecting}
use Rattle.slate_gc_passes.specs.declared.pass_counts.PassCounts.{PassCounts}
use Rattle.slate_gc_passes.specs.declared.pass_phase.PassPhase.{PassPhase}
use Rattle.slate_gc_passes.specs.declared.pass_phase.PassPhase.TheVariants.{ReadingRecord, ReadingManifest, Advancing, Deleting}
use Rattle.slate_gc_passes.specs.declared.pass_settings.PassSettings.{PassSettings}
use Rattle.slate_store.specs.StoreCalls.{Told}
use Rattle.slate_store.specs.Machines.{Goes, Steps}
use Rattle.slate_store.specs.CallRuns.{Ran, Began}
use Rattle.slate_store.specs.declared.step.Step.{Step}
use Rattle.slate_store.specs.declared.store_answer.StoreAnswer.{StoreAnswer}
use Rattle.slate_store.specs.declared.store_call.StoreCall.{StoreCall}

-- ---- which steps use a turn

-- how many of its stages a whole pass has left, this one included: the removal of expired checkpoints is one
abbrev pub stages_left : GcPhase → ℕ
stages_left (Removing work) = 9
stages_left (Collecting at phase) = stages_within phase

-- whether a stage that may start again is at its start: a read of the latest version, or the advance of the boundary
abbrev pub begins_within : PassPhase → Bool
begins_within (ReadingRecord phase) = is_listing phase
begins_within (ReadingManifest least phase) = is_listing phase
begins_within (Advancing phase left counts) = is_bounding phase
begins_within _ = false

-- the same of a whole pass
abbrev pub begins_stage : GcPhase → Bool
begins_stage (Removing work) = work_starts work
begins_stage (Collecting at phase) = begins_within phase

-- whether a pass that had so many stages left starts a stage again
abbrev pub turned_from : ℕ → GcPhase → Bool
turned_from stages to = (stages == stages_left to) && begins_stage to

-- whether a step used a turn: a version was gone between list and read, or at or below the boundary, or a race on the boundary was lost,
-- and the stage starts again
abbrev pub uses_turn : GcPhase → GcPhase → Bool
uses_turn from to = turned_from (stages_left from) to

-- ---- the plain call

-- a pass, and whether its last step used a turn
abbrev pub Turn : Type 0
Turn = turns.Turn GcPhase

-- a pass at its start
abbrev pub first_turn : Turn
first_turn = (gc_start, false)

-- the one call of each phase
abbrev pub turn_asks : List ℕ → GcMessage → Turn → StoreCall
turn_asks db pass = turns.turn_asks (gc_asks db pass)

-- how the plain call goes on
abbrev pub TurnGoes : Type 0
TurnGoes = Goes Turn PassCounts

-- after a conflict all begins again
abbrev pub begins_again : GcPhase → GcPhase
begins_again phase = gc_start

-- all steps are at one moment
abbrev pub turn_goes : Ways → PassSettings → ℤ → Turn → StoreAnswer → TurnGoes
turn_goes ways settings moment = turns.turn_goes uses_turn begins_again (gc_goes ways settings moment)

-- where a pass stands, and whether its last step used a turn
abbrev pub turn_of : PassTurns → Turn
turn_of turns = (turns.pass.phase, turns.is_turned)

-- what next does, by these ways at a moment
abbrev pub TurnSteps : Ways → ℤ → Told → Told → PassTurns → PassTurns → Step PassCounts → Type 0
TurnSteps ways moment old new from to step =
    Steps old new (turn_asks from.pass.db from.pass.settings.pass (turn_of from)) moment (turn_goes ways from.pass.settings moment (turn_of from)) (turn_of from) (turn_of to) step

-- whether a turn was used, or fewer stages are left than these
abbrev pub is_through : ℕ → Turn → Bool
is_through stages turn = is_turned turn || nat_lt (stages_left turn.0) stages

-- ---- how a pass ended

-- how many of its picks a pass has deleted, while it deletes
abbrev pub deleted_within : PassPhase → ℕ
deleted_within (Deleting left counts) = counts.deleted
deleted_within _ = 0

-- the same of a whole pass
abbrev pub deleted_at : GcPhase → ℕ
deleted_at (Removing work) = 0
deleted_at (Collecting at phase) = deleted_within phase

-- how many it deleted where it ends: its counts say so; where memory ran out it stands at its deletes, and any other refusal comes before the first
abbrev pub deleted_by : Result PassCounts SlateDBError → GcPhase → ℕ
deleted_by (Ok counts) to = counts.deleted
deleted_by (Err e) to = deleted_at to

-- the pass ran to this phase with so many tries, or memory ran out there
abbrev pub TurnsRan : Ways → List ℕ → PassSettings → ℤ → ℕ → Told → Told → Turn → Result PassCounts SlateDBError → Type 0
TurnsRan ways db settings moment tries old new to result =
    OrMemory result (Began is_turned (turn_asks db settings.pass) (turn_goes ways settings moment) moment tries old new first_turn to)
    (Ran is_turned (turn_asks db settings.pass) (turn_goes ways settings moment) moment tries old new first_turn to result)

-- a whole pass ran at one moment, with so many tries, and ended so
abbrev pub PassRan : Ways → List ℕ → PassSettings → ℤ → ℕ → Told → Told → Ended → Type 0
PassRan ways db settings moment tries old new ended =
    (to : Turn) × TurnsRan ways db settings moment tries old new to ended.result × (ended.pass ≡ settings.pass) × (ended.deleted ≡ deleted_by ended.result to.0)
