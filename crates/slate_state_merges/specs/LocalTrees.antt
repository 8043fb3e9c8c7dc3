-- The trees that a compactor holds.
use Rattle.std.specs.Prelude.{◌==◌, ℕ, List, length, Option, Some, Result, Ok, Err, if◌then◌else◌}
use Rattle.slate_ids.specs.declared.error.SlateDBError.{SlateDBError}
use Rattle.slate_state_merges.specs.Merging.{merged}
use Rattle.slate_state_merges.specs.SegmentMerging.{from_writer}
use Rattle.slate_model.specs.Cores.{Core}
use Rattle.slate_model.specs.Externals.{pruned}
use Rattle.slate_model.specs.Insertion.{tree_in, placed}
use Rattle.slate_model.specs.Segments.{Prefixed}
use Rattle.slate_model.specs.Watermark.{raised_floor}
use Rattle.slate_model.specs.declared.manifest.Manifest.{Manifest}
use Rattle.slate_model.specs.declared.lsm_tree_state.LsmTreeState.{LsmTreeState}

-- the trees of a database: the root's and those of its segments
pub record Trees : Type 0 where
  pub tree : LsmTreeState
  pub segments : List Prefixed

-- the trees of a manifest
abbrev pub trees_of : Core → Trees
trees_of core = record { tree = core.tree; segments = core.segments }

-- the tree of a prefix
abbrev pub tree_of : List ℕ → Trees → Option LsmTreeState
tree_of prefix trees = if length prefix == 0 then Some trees.tree else tree_in prefix trees.segments

-- the trees with another one at a prefix
abbrev pub with_tree : List ℕ → LsmTreeState → Trees → Trees
with_tree prefix tree trees = if length prefix == 0 then record trees { tree = tree } else record trees { segments = placed prefix tree trees.segments }

-- a merged root with the merged segments, where these are not refused
abbrev pub with_segments : LsmTreeState → Result (List Prefixed) SlateDBError → Result Trees SlateDBError
with_segments tree (Ok segments) = Ok (record { tree = tree; segments = segments })
with_segments tree (Err e) = Err e

-- a compactor's trees merged with those of the manifest read, as a compactor follows a writer
abbrev pub trees_merged : Core → Trees → Result Trees SlateDBError
trees_merged core trees = with_segments (merged core.tree trees.tree) (from_writer trees.segments core.segments)

-- a manifest whose floor is the greater of this one and its watermark
abbrev pub floor_raised : ℕ → Manifest → Manifest
floor_raised floor m = record m { core = record m.core { floor = raised_floor floor m.core } }

-- a manifest with these trees
abbrev pub manifest_with : Trees → Manifest → Manifest
manifest_with trees m = record m { core = record m.core { tree = trees.tree; segments = trees.segments } }

-- a manifest with merged trees: its entries list only the tables that are used then, and its floor is the greater of its own and the new watermark
abbrev pub with_merged : Manifest → Result Trees SlateDBError → Result Manifest SlateDBError
with_merged m (Ok trees) = Ok (floor_raised m.core.floor (pruned (manifest_with trees m)))
with_merged m (Err e) = Err e

-- what a compactor makes of a manifest: its trees are merged with those of the manifest; all else stays
abbrev pub manifest_merged : Manifest → Trees → Result Manifest SlateDBError
manifest_merged m trees = with_merged m (trees_merged m.core trees)
