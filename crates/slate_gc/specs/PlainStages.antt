-- A stage of a pass within its plain call.
use Rattle.std.specs.Prelude.{◌≡◌, ◌⊎◌, ◌<◌, ◌-◌, ℕ, ℤ, Bool, true, false, Err, length}
use Rattle.slate_txn_changes.specs.LogWorks.{work_rank}
use Rattle.slate_gc.specs.PassTurns.{Turn, TurnGoes, is_turned, stages_left, turn_asks, turn_goes, turn_of}
use Rattle.slate_gc.specs.declared.pass_turns.PassTurns.{PassTurns}
use Rattle.slate_ids.specs.Answers.{OrMemory}
use Rattle.slate_ids.specs.declared.error.SlateDBError.TheVariants.{Contended}
use Rattle.slate_txn_log.specs.AdvancePhase.{advance_rank}
use Rattle.slate_txn_log.specs.ReadPhase.{rank}
use Rattle.slate_gc_passes.specs.Ways.{Ways}
use Rattle.slate_gc_passes.specs.declared.gc_phase.GcPhase.{GcPhase}
use Rattle.slate_gc_passes.specs.declared.gc_phase.GcPhase.TheVariants.{Removing, Collecting}
use Rattle.slate_gc_passes.specs.declared.pass_counts.PassCounts.{PassCounts}
use Rattle.slate_gc_passes.specs.declared.pass_phase.PassPhase.{PassPhase}
use Rattle.slate_gc_passes.specs.declared.pass_phase.PassPhase.TheVariants.{ReadingRecord, ReadingManifest, Fetching, Advancing, Deleting}
use Rattle.slate_state_referenced.specs.Referenced.{referenced_rank}
use Rattle.slate_store.specs.StoreCalls.{Told}
use Rattle.slate_store.specs.CallRuns.{Began, Ran, Running}
use Rattle.slate_store.specs.declared.step.Step.{Step}
use Rattle.slate_store.specs.declared.step.Step.TheVariants.{Again, Done}
use Rattle.slate_store.specs.declared.store_answer.StoreAnswer.{StoreAnswer}
use Rattle.slate_store.specs.declared.store_call.StoreCall.{StoreCall}

-- a turn is used, where one is left besides; with the last one the call is over
pub record UsesTurn (asks : Turn → StoreCall) (goes : Turn → StoreAnswer → TurnGoes) (moment : ℤ) (tries : ℕ) (first new : Told) (start to : Turn) (left : ℕ) : Type 0 where
  pub again : 1 < left → Running is_turned asks goes moment tries first new start to (left - 1)
  pub last : left ≡ 1 → Ran is_turned asks goes moment tries first new start to (Err Contended)

-- the plain call goes on, and a turn is used or not
abbrev pub GoesFurther : Bool → (Turn → StoreCall) → (Turn → StoreAnswer → TurnGoes) → ℤ → ℕ → Told → Told → Turn → Turn → ℕ → Type 0
GoesFurther true asks goes moment tries first new start to left = UsesTurn asks goes moment tries first new start to left
GoesFurther false asks goes moment tries first new start to left = Running is_turned asks goes moment tries first new start to left

-- what becomes of a plain call that had so many tries left
abbrev pub Becomes : (Turn → StoreCall) → (Turn → StoreAnswer → TurnGoes) → ℤ → ℕ → Told → Told → Turn → Turn → ℕ → Step PassCounts → Type 0
Becomes asks goes moment tries first new start to left Again = GoesFurther (is_turned to) asks goes moment tries first new start to left
Becomes asks goes moment tries first new start to left (Done r) = OrMemory r (Began is_turned asks goes moment tries first new start to) (Ran is_turned asks goes moment tries first new start to r)

-- whatever plain call stands there, it goes on so
abbrev pub Along : (Turn → StoreCall) → (Turn → StoreAnswer → TurnGoes) → ℤ → Told → Told → Turn → Turn → Step PassCounts → Type 0
Along asks goes moment old new from to step =
    (tries left : ℕ) (first : Told) (start : Turn) → Running is_turned asks goes moment tries first old start from left → Becomes asks goes moment tries first new start to left step

-- whatever plain call by these ways stands where a pass does, it goes on so
abbrev pub PassAlong : Ways → ℤ → Told → Told → PassTurns → PassTurns → Step PassCounts → Type 0
PassAlong ways moment old new from to step =
    Along (turn_asks from.pass.db from.pass.settings.pass) (turn_goes ways from.pass.settings moment) moment old new (turn_of from) (turn_of to) step

-- a turn is used, or fewer stages are left
abbrev pub Leaves : Turn → Turn → Type 0
Leaves from to = (is_turned to ≡ true) ⊎ (stages_left to.0 < stages_left from.0)

-- the steps of its stage that are left
abbrev pub rank_within : PassPhase → ℕ
rank_within (ReadingRecord phase) = rank phase
rank_within (ReadingManifest least phase) = rank phase
rank_within (Fetching heads phase) = referenced_rank phase
rank_within (Advancing phase left counts) = advance_rank phase
rank_within (Deleting left counts) = length left
rank_within _ = 0

-- the same of a whole pass
abbrev pub steps_left : GcPhase → ℕ
steps_left (Removing work) = work_rank work
steps_left (Collecting at phase) = rank_within phase

-- fewer stages are left, or fewer steps of the stage
abbrev pub Fewer : GcPhase → GcPhase → Type 0
Fewer old new = (stages_left new < stages_left old) ⊎ ((stages_left new ≡ stages_left old) × (steps_left new < steps_left old))

-- a turn is used, or that
abbrev pub TurnFalls : GcPhase → GcPhase → Bool → Type 0
TurnFalls old new turned = (turned ≡ true) ⊎ Fewer old new
