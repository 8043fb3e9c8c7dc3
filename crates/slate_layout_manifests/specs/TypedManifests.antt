-- Trees, checkpoints and manifests of their types.
use Rattle.std.specs.Prelude.{ℕ, ℤ, ◌&&◌, Bool, true, List, [], map, Option, Some, None}
use Rattle.std.specs.List.{list_all}
use Rattle.std.specs.Str.{is_utf8}
use Rattle.slate_ids.specs.Ulids.{is_id}
use Rattle.slate_model.specs.declared.lsm_tree_state.LsmTreeState.{LsmTreeState}
use Rattle.slate_model.specs.declared.checkpoint.Checkpoint.{Checkpoint}
use Rattle.slate_model.specs.declared.external_db.ExternalDb.{ExternalDb}
use Rattle.slate_model.specs.declared.manifest.Manifest.{Manifest}
use Rattle.slate_model.specs.Segments.{Prefixed, are_ascending}
use Rattle.slate_model.specs.Sequences.{is_kept}
use Rattle.slate_model.specs.Trees.{views_of}
use Rattle.slate_layout_parts.specs.Bytes.{is_u64, is_i64}
use Rattle.slate_layout_manifests.specs.Gathered.{ById, gathered}
use Rattle.slate_layout_manifests.specs.ManifestParts.{Head, Middle, Tail, head_of, middle_of, tail_of}
use Rattle.slate_layout_parts.specs.Typed.{any, are_two, both, is_handle, is_path, is_run, is_sixteen, is_table, is_view, none_or}

-- ---- trees

abbrev pub is_tree : LsmTreeState → Bool
is_tree t = none_or is_id t.last_compacted_l0_sst_view_id && (list_all is_view t.l0 && list_all is_run t.compacted)

abbrev pub is_segment : Prefixed → Bool
is_segment s = is_tree s.tree

-- ---- checkpoints, entries and trackers

abbrev pub is_checkpoint : Checkpoint → Bool
is_checkpoint c = is_sixteen c.id && (is_u64 c.manifest_id && none_or is_utf8 c.name)

abbrev pub is_entry : ExternalDb → Bool
is_entry e = is_path e.path && (is_sixteen e.source_checkpoint_id && (none_or is_sixteen e.final_checkpoint_id && list_all is_table e.sst_ids))

abbrev pub is_tracker : List (ℕ × ℤ) → Bool
is_tracker pairs = is_kept pairs && list_all (both is_u64 is_i64) pairs

-- ---- manifests

abbrev pub is_head : Head → Bool
is_head = both any (both are_two are_two)

abbrev pub are_trees : LsmTreeState × List Prefixed → Bool
are_trees p = is_tree p.0 && (list_all is_segment p.1 && are_ascending p.1)

abbrev pub is_middle : Middle → Bool
is_middle = both (none_or is_utf8) (both is_i64 are_two)

abbrev pub is_tail : Tail → Bool
is_tail = both is_tracker (both (list_all is_checkpoint) (both (list_all is_entry) is_u64))

-- the next file of the write-ahead log, and the head
abbrev pub is_front : Manifest → Bool
is_front m = is_u64 m.core.next_wal_sst_id && is_head (head_of m)

-- a manifest without its tables
abbrev pub is_body : Manifest → Bool
is_body m = is_front m && (are_trees (m.core.tree, m.core.segments) && (is_middle (middle_of m) && is_tail (tail_of m)))

-- tables that were gathered
abbrev pub are_tables : Option ById → Bool
are_tables None = true
are_tables (Some tables) = list_all is_handle (map (λ e. e.1) tables)

-- a manifest of its type
abbrev pub is_manifest : Manifest → Bool
is_manifest m = is_body m && are_tables (gathered (views_of m.core) [])
