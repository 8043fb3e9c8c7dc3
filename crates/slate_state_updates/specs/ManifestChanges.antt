-- Changes of a manifest: what each makes of the version read, under which right, and which versions its fence refuses.
use Rattle.std.specs.Prelude.{ℕ, ℤ, ◌≤◌, List, Option, Some, None, Result, Ok, Err}
use Rattle.slate_ids.specs.declared.error.SlateDBError.{SlateDBError}
use Rattle.slate_txn_changes.specs.Changes.{change_commit, holder_fence}
use Rattle.slate_state_merges.specs.LocalTrees.{manifest_merged}
use Rattle.slate_model.specs.declared.checkpoint.CheckpointOptions.{CheckpointOptions}
use Rattle.slate_model.specs.declared.manifest.Manifest.{Manifest}
use Rattle.slate_model.specs.Watermark.{watermark, raised_floor}
use Rattle.slate_txn_log.specs.declared.commit_phase.CommitPhase.{CommitPhase}
use Rattle.slate_txn_log.specs.declared.right.Right.{Right}
use Rattle.slate_txn_log.specs.declared.right.Right.TheVariants.{Plain, Compactor}
use Rattle.slate_state_updates.specs.Checkpoints.{written, replaced, refreshed, deleted, unexpired}
use Rattle.slate_state_updates.specs.Rules.{manifest_refusal}
use Rattle.slate_state_updates.specs.Writers.{raised}
use Rattle.slate_state_updates.specs.Flushes.{tables_flushed}
use Rattle.slate_state_updates.specs.declared.epochs.ManifestEpochs.TheVariants as epochs
use Rattle.slate_state_updates.specs.declared.manifest_change.ManifestChange.{ManifestChange}
use Rattle.slate_state_updates.specs.declared.manifest_change.ManifestChange.TheVariants.{RaiseWriter, RaiseCompactor, Flush, WriteCheckpoint, ReplaceCheckpoint, RefreshCheckpoint, DeleteCheckpoint, DropExpired, KeepTrees, MergeTrees}

-- ---- the floor

-- the manifest with the floor that the old one and its own watermark ask for: the greater of the two
abbrev pub with_floor : ℕ → Manifest → Manifest
with_floor old m = record m { core = record m.core { floor = raised_floor old m.core } }

-- what was made of a manifest with this floor
abbrev pub floored : ℕ → Result (Option Manifest) SlateDBError → Result (Option Manifest) SlateDBError
floored old (Ok (Some m)) = Ok (Some (with_floor old m))
floored old (Ok None) = Ok None
floored old (Err e) = Err e

-- the floor is not below the old one, nor below the own watermark
pub record HasRisenFloor (old new : Manifest) : Type 0 where
  pub old_floor : old.core.floor ≤ new.core.floor
  pub watermark : watermark new.core ≤ new.core.floor

-- ---- what a change makes

-- the checkpoint that keeps what a compactor's trees drop: for a quarter of an hour
abbrev pub keeping : CheckpointOptions
keeping = record { lifetime = Some 900000; source = None; name = None }

-- the manifest with that checkpoint, or nothing where its id is there
abbrev pub trees_kept : List ℕ → ℤ → ℕ → Manifest → Result (Option Manifest) SlateDBError
trees_kept id now n m = floored m.core.floor (written id keeping now n m)

-- a merge always makes a manifest, unless it is refused
abbrev pub some_merged : Result Manifest SlateDBError → Result (Option Manifest) SlateDBError
some_merged (Ok m) = Ok (Some m)
some_merged (Err e) = Err e

-- what a change makes at a moment of version n; nothing, where nothing is to be committed. A raise alone leaves the floor as it is
abbrev pub made : ManifestChange → ℤ → ℕ → Manifest → Result (Option Manifest) SlateDBError
made RaiseWriter now n m = raised epochs.Writer n m
made RaiseCompactor now n m = raised epochs.Compactor n m
made (Flush writer batch) now n m = floored m.core.floor (Ok (Some (tables_flushed batch m)))
made (WriteCheckpoint id options) now n m = floored m.core.floor (written id options now n m)
made (ReplaceCheckpoint old id options) now n m = floored m.core.floor (replaced old id options now n m)
made (RefreshCheckpoint id lifetime) now n m = floored m.core.floor (refreshed id lifetime now m)
made (DeleteCheckpoint id) now n m = floored m.core.floor (deleted id m)
made DropExpired now n m = floored m.core.floor (unexpired now m)
made (KeepTrees compactor checkpoint) now n m = trees_kept checkpoint now n m
made (MergeTrees compactor trees outputs) now n m = some_merged (manifest_merged m trees)

-- under which right a change is put: a compactor's trees may bring outputs of compactions
abbrev pub right_of : ManifestChange → Right
right_of (MergeTrees compactor trees outputs) = Compactor outputs
right_of _ = Plain

-- ---- the fence

-- why a version refuses a change: a flush, and a compactor's checkpoint and trees, have a fence
abbrev pub fence_of : ManifestChange → Manifest → Option SlateDBError
fence_of (Flush writer batch) m = holder_fence writer m.writer_epoch
fence_of (KeepTrees compactor checkpoint) m = holder_fence compactor m.compactor_epoch
fence_of (MergeTrees compactor trees outputs) m = holder_fence compactor m.compactor_epoch
fence_of _ m = None

-- the writer epoch with which a change puts a manifest: a raise that of the manifest itself, a flush that of its writer
abbrev pub writer_epoch_in : ManifestChange → Manifest → Option ℕ
writer_epoch_in RaiseWriter m = Some m.writer_epoch
writer_epoch_in (Flush writer batch) m = writer
writer_epoch_in _ m = None

-- the same of the compactor epoch: a raise that of the manifest itself, a checkpoint and trees that of their compactor
abbrev pub compactor_epoch_in : ManifestChange → Manifest → Option ℕ
compactor_epoch_in RaiseCompactor m = Some m.compactor_epoch
compactor_epoch_in (KeepTrees compactor checkpoint) m = compactor
compactor_epoch_in (MergeTrees compactor trees outputs) m = compactor
compactor_epoch_in _ m = None

-- ---- the commit

-- the commit of what a change makes at a moment of version n; or none, where nothing is to be committed; or why there is none
abbrev pub commit_of : (Manifest → Result (List ℕ) SlateDBError) → ManifestChange → ℤ → ℕ → Manifest → Result (Option (CommitPhase Manifest)) SlateDBError
commit_of encoded change now n m = change_commit (made change) (right_of change) (fence_of change) manifest_refusal encoded now n m
