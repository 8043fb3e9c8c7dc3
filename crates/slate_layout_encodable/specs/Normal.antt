-- What is read back of a manifest.
use Rattle.std.specs.Prelude.{ℤ, pos, negsuc, ◌/◌, ◌*◌, ◌%◌, ◌==◌, ◌&&◌, Bool, true, map, Option, Some, None, is_none}
use Rattle.std.specs.List.{list_all}
use Rattle.std.specs.Option.{option_map}
use Rattle.slate_model.specs.declared.checkpoint.Checkpoint.{Checkpoint}
use Rattle.slate_model.specs.declared.lsm_tree_state.LsmTreeState.{LsmTreeState}
use Rattle.slate_model.specs.declared.manifest.Manifest.{Manifest}
use Rattle.slate_model.specs.Cores.{Core}
use Rattle.slate_model.specs.Segments.{Prefixed}

-- a moment in milliseconds, cut down to its whole second; one before the first second has none, and stays
abbrev pub whole_second : ℤ → ℤ
whole_second (pos n) = pos (n / 1000 * 1000)
whole_second (negsuc n) = negsuc n

-- a checkpoint whose moments are cut down to whole seconds
abbrev pub normal_checkpoint : Checkpoint → Checkpoint
normal_checkpoint c = record c { expire_time = option_map whole_second c.expire_time; create_time = whole_second c.create_time }

-- a tree without its marker of tables
abbrev pub normal_tree : LsmTreeState → LsmTreeState
normal_tree t = record t { last_compacted_l0_sst_id = None }

abbrev pub normal_segment : Prefixed → Prefixed
normal_segment s = record s { tree = normal_tree s.tree }

-- a core of normal trees and checkpoints, without the store of the write-ahead log
abbrev pub normal_core : Core → Core
normal_core c = record c { tree = normal_tree c.tree; segments = map normal_segment c.segments; wal_object_store_uri = None; checkpoints = map normal_checkpoint c.checkpoints }

-- the normal form of a manifest
abbrev pub normal_manifest : Manifest → Manifest
normal_manifest m = record m { core = normal_core m.core }

-- ---- the test

-- whether a moment is a whole second, or before the first one
abbrev pub is_whole : ℤ → Bool
is_whole (pos n) = n % 1000 == 0
is_whole (negsuc n) = true

-- the same of an expiry; never is one
abbrev pub is_whole_expiry : Option ℤ → Bool
is_whole_expiry None = true
is_whole_expiry (Some t) = is_whole t

-- whether a checkpoint's moments are
abbrev pub is_normal_checkpoint : Checkpoint → Bool
is_normal_checkpoint c = is_whole_expiry c.expire_time && is_whole c.create_time

-- whether a tree has no marker of tables
abbrev pub is_normal_tree : LsmTreeState → Bool
is_normal_tree t = is_none t.last_compacted_l0_sst_id

abbrev pub is_normal_core : Core → Bool
is_normal_core c = is_normal_tree c.tree && (list_all (λ s. is_normal_tree s.tree) c.segments && (is_none c.wal_object_store_uri && list_all is_normal_checkpoint c.checkpoints))

-- whether a manifest is its own normal form
abbrev pub is_normal : Manifest → Bool
is_normal m = is_normal_core m.core
