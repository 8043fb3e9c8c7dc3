-- A change of a manifest that is handed in is refused for what it is: neither by a fault of the store nor by a fence.
use Rattle.std.specs.Prelude.{◌+◌, ◌==◌, ℕ, ℤ, List, Option, Some, None, Result, Ok, Err, map, filter, not, refl}
use Rattle.std.specs.List.{find}
use Rattle.slate_ids.specs.Limits.{last_number}
use Rattle.slate_ids.specs.declared.error.SlateDBError.{SlateDBError}
use Rattle.slate_ids.specs.declared.error.SlateDBError.TheVariants.{CheckpointMissing, Exhausted, Fenced, InvalidDBState, StoreFault}
use Rattle.slate_ids.specs.declared.error.StateCause.TheVariants.{NotInitialised}
use Rattle.slate_state_merges.specs.Merging.{merged}
use Rattle.slate_state_merges.specs.SegmentMerging.{from_writer, is_orphan, merged_with, unless_orphan}
use Rattle.slate_state_merges.specs.LocalTrees.{Trees, trees_merged, with_merged, with_segments}
use Rattle.slate_model.specs.Cores.{Core}
use Rattle.slate_model.specs.Segments.{Prefixed}
use Rattle.slate_model.specs.declared.checkpoint.Checkpoint.{Checkpoint}
use Rattle.slate_model.specs.declared.checkpoint.CheckpointOptions.{CheckpointOptions}
use Rattle.slate_model.specs.declared.lsm_tree_state.LsmTreeState.{LsmTreeState}
use Rattle.slate_model.specs.declared.manifest.Manifest.{Manifest}
use Rattle.slate_state_updates.specs.ManifestChanges.{made, floored, keeping, some_merged}
use Rattle.slate_state_updates.specs.Checkpoints.{written, replaced, refreshed, deleted, unexpired, pushed, version_to_name, number_after, source_version, checkpoint_at, with_checkpoints, without_checkpoint, expiring, expiry, is_expired}
use Rattle.slate_state_updates.specs.Flushes.{tables_flushed}
use Rattle.slate_state_updates.specs.Writers.{epoch_of, with_epoch}
use Rattle.slate_state_updates.specs.declared.epochs.ManifestEpochs.TheVariants.{Writer, Compactor}
use Rattle.slate_state_updates.specs.declared.manifest_change.ManifestChange.{ManifestChange}
use Rattle.slate_state_updates.specs.declared.manifest_change.ManifestChange.TheVariants.{RaiseWriter, RaiseCompactor, Flush, WriteCheckpoint, ReplaceCheckpoint, RefreshCheckpoint, DeleteCheckpoint, DropExpired, KeepTrees, MergeTrees}
use Rattle.slate_txn_laws.specs.Plain.{Plainly, NeverFaults, NeverFences}
use Rattle.slate_txn_laws.proofs.PlainCommits as plain
use Rattle.slate_txn_laws.proofs.PlainCommits.{apart, either}

floored_fine : (floor : ℕ) (r : Result (Option Manifest) SlateDBError) → Plainly r → Plainly (floored floor r)
floored_fine floor (Ok (Some m)) h = refl
floored_fine floor (Ok None) h = refl
floored_fine floor (Err e) h = h

after_fine : (n : ℕ) → Plainly (number_after n)
after_fine n = either (n == last_number) (Err (Exhausted n)) (Ok (n + 1)) refl refl

source_fine : (id : List ℕ) (c : Option Checkpoint) → Plainly (source_version id c)
source_fine id None = refl
source_fine id (Some c) = refl

name_fine : (n : ℕ) (source : Option (List ℕ)) (m : Manifest) → Plainly (version_to_name n source m)
name_fine n None m = either m.core.initialized (number_after n) (Err (InvalidDBState NotInitialised)) (after_fine n) refl
name_fine n (Some source) m = source_fine source (checkpoint_at source m.core.checkpoints)

pushed_fine : (cs : List Checkpoint) (id : List ℕ) (options : CheckpointOptions) (now : ℤ) (m : Manifest) (version : Result ℕ SlateDBError) → Plainly version → Plainly (pushed cs id options now m version)
pushed_fine cs id options now m (Ok version) h = refl
pushed_fine cs id options now m (Err e) h = h

orphan_fine : (found : Option Prefixed) (segments : List Prefixed) → Plainly (unless_orphan found segments)
orphan_fine None segments = refl
orphan_fine (Some s) segments = refl

segments_fine : (tree : LsmTreeState) (segments : Result (List Prefixed) SlateDBError) → Plainly segments → Plainly (with_segments tree segments)
segments_fine tree (Ok segments) h = refl
segments_fine tree (Err e) h = h

-- trees that are merged
pub trees_fine : (core : Core) (trees : Trees) → Plainly (trees_merged core trees)
trees_fine core trees = segments_fine (merged core.tree trees.tree) (from_writer trees.segments core.segments) (orphan_fine (find (is_orphan core.segments) trees.segments) (map (merged_with trees.segments) core.segments))

merged_fine : (m : Manifest) (trees : Result Trees SlateDBError) → Plainly trees → Plainly (some_merged (with_merged m trees))
merged_fine m (Ok trees) h = refl
merged_fine m (Err e) h = h

pub change_so : (change : ManifestChange) (now : ℤ) (n : ℕ) (m : Manifest) → Plainly (made change now n m)
change_so RaiseWriter now n m = plain.raise_so (epoch_of Writer) (with_epoch Writer) n m
change_so RaiseCompactor now n m = plain.raise_so (epoch_of Compactor) (with_epoch Compactor) n m
change_so (Flush writer batch) now n m = floored_fine m.core.floor (Ok (Some (tables_flushed batch m))) refl
change_so (WriteCheckpoint id options) now n m = floored_fine m.core.floor (written id options now n m) (either _ (Ok None) _ refl (pushed_fine _ id options now m _ (name_fine n options.source m)))
change_so (ReplaceCheckpoint old id options) now n m = floored_fine m.core.floor (replaced old id options now n m) (either _ (Ok None) _ refl (pushed_fine _ id options now m _ (name_fine n options.source m)))
change_so (RefreshCheckpoint id lifetime) now n m = floored_fine m.core.floor (refreshed id lifetime now m) (either _ (Ok (Some (with_checkpoints (map (expiring id (expiry now lifetime)) m.core.checkpoints) m))) (Err (CheckpointMissing id)) refl refl)
change_so (DeleteCheckpoint id) now n m = floored_fine m.core.floor (deleted id m) (either _ (Ok (Some (with_checkpoints (without_checkpoint id m.core.checkpoints) m))) (Ok None) refl refl)
change_so DropExpired now n m = floored_fine m.core.floor (unexpired now m) (either _ (Ok (Some (with_checkpoints (filter (λ c. not (is_expired now c)) m.core.checkpoints) m))) (Ok None) refl refl)
change_so (KeepTrees compactor checkpoint) now n m = floored_fine m.core.floor (written checkpoint keeping now n m) (either _ (Ok None) _ refl (pushed_fine _ checkpoint keeping now m _ (name_fine n keeping.source m)))
change_so (MergeTrees compactor trees outputs) now n m = merged_fine m (trees_merged m.core trees) (trees_fine m.core trees)

-- a change that is handed in
pub change_fine : (change : ManifestChange) (now : ℤ) → NeverFaults (made change now)
change_fine change now n m = apart StoreFault _ refl (change_so change now n m)

pub change_free : (change : ManifestChange) (now : ℤ) → NeverFences (made change now)
change_free change now n m own read = apart (Fenced own read) _ refl (change_so change now n m)
