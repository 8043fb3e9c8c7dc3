-- The stages of a pass, and how a step that goes on comes nearer to its end.
use Rattle.std.specs.Prelude.{◌<◌, ℕ, length}
use Rattle.slate_txn_changes.specs.LogWorks.{WorkFalls}
use Rattle.slate_txn_log.specs.AdvancePhase.{AdvanceFalls}
use Rattle.slate_txn_log.specs.ReadPhase.{Falls}
use Rattle.slate_gc_passes.specs.declared.gc_phase.GcPhase.{GcPhase}
use Rattle.slate_gc_passes.specs.declared.gc_phase.GcPhase.TheVariants.{Removing, Collecting}
use Rattle.slate_gc_passes.specs.declared.pass_phase.PassPhase.{PassPhase}
use Rattle.slate_gc_passes.specs.declared.pass_phase.PassPhase.TheVariants.{ReadingRecord, ReadingManifest, Fetching, Listing, Getting, Bounding, Advancing, Deleting, Over}
use Rattle.slate_state_referenced.specs.Referenced.{referenced_rank}

-- how many of its stages a pass has left, this one included, once the expired checkpoints are removed
abbrev pub stages_within : PassPhase → ℕ
stages_within (ReadingRecord phase) = 8
stages_within (ReadingManifest least phase) = 7
stages_within (Fetching heads phase) = 6
stages_within (Listing heads versions) = 5
stages_within (Getting n listed found) = 4
stages_within (Bounding n listed found) = 3
stages_within (Advancing phase left counts) = 2
stages_within (Deleting left counts) = 1
stages_within Over = 0

-- a stage starts again, or fewer of its steps are left; else fewer stages are
abbrev pub PassFalls : PassPhase → PassPhase → Type 0
PassFalls (ReadingRecord old) (ReadingRecord new) = Falls old new
PassFalls (ReadingManifest least old) (ReadingManifest other new) = Falls old new
PassFalls (Fetching heads old) (Fetching others new) = referenced_rank new < referenced_rank old
PassFalls (Advancing old left counts) (Advancing new picked others) = AdvanceFalls old new
PassFalls (Deleting old counts) (Deleting new others) = length new < length old
PassFalls old new = stages_within new < stages_within old

-- the same of a whole pass, whose first stage is the removal
abbrev pub GcFalls : GcPhase → GcPhase → Type 0
GcFalls (Removing old) (Removing new) = WorkFalls old new
GcFalls (Removing old) (Collecting at new) = Unit {0}
GcFalls (Collecting at old) (Removing new) = ⊥
GcFalls (Collecting at old) (Collecting later new) = PassFalls old new
