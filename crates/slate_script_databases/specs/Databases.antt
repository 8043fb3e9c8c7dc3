-- The manifest of a new database, and the tables that stand in the store, by what a script says of them.
use Rattle.std.specs.Prelude.{ℕ, ◌==◌, not, Bool, List, [], ◌∷◌, ◌++◌, length, map, filter, Some, None, option_map, codes, bytes_eq, if◌then◌else◌}
use Rattle.std.specs.List.{find, flat_map, fold, insert, list_any, prefix_len}
use Rattle.slate_ids.specs.Keys.{key_lt}
use Rattle.slate_ids.specs.Ulids.{same_id}
use Rattle.slate_model_tables.specs.declared.ss_table_id.SsTableId.TheVariants.{Compacted}
use Rattle.slate_model_tables.specs.declared.ss_table_info.SsTableInfo.{SsTableInfo}
use Rattle.slate_model_tables.specs.declared.ss_table_handle.SsTableHandle.{SsTableHandle}
use Rattle.slate_model_tables.specs.Tables.{no_info}
use Rattle.slate_model_tables.specs.Views.{View}
use Rattle.slate_model_tables.specs.SortedRuns.{Run}
use Rattle.slate_model.specs.declared.checkpoint.Checkpoint.{Checkpoint}
use Rattle.slate_model.specs.declared.lsm_tree_state.LsmTreeState.{LsmTreeState}
use Rattle.slate_model.specs.declared.manifest.Manifest.{Manifest}
use Rattle.slate_model.specs.Segments.{Prefixed}
use Rattle.slate_model.specs.Cores.{Core, new_core}
use Rattle.slate_model.specs.Manifests.{initial_manifest}
use Rattle.slate_script_databases.specs.declared.tree_items.L0Item.{L0Item}
use Rattle.slate_script_databases.specs.declared.tree_items.RunItem.{RunItem}
use Rattle.slate_script_databases.specs.declared.tree_items.MarkerItem.{MarkerItem}
use Rattle.slate_script_databases.specs.declared.tree_items.TreeItems.{TreeItems}
use Rattle.slate_script_databases.specs.declared.database.OpeningFields.{OpeningFields}

-- ---- tables, views and runs

-- what is known of each table: its keys go from "a" to "z"
abbrev pub opening_info : SsTableInfo
opening_info = record no_info { first_entry = Some (codes "a"); last_entry = Some (codes "z") }

-- the table of an id, in format version 1
abbrev pub table_of : ℕ × ℕ → SsTableHandle
table_of id = record { id = Compacted id; format_version = 1; info = opening_info }

-- a view of all of a table
abbrev pub view_of : L0Item → View
view_of item = record { id = item.view_id; sst = table_of item.table_id; visible = None }

-- a table's own view of all of it
abbrev pub own_view : ℕ × ℕ → View
own_view id = record { id = id; sst = table_of id; visible = None }

-- the run of the tables' own views
abbrev pub run_of : RunItem → Run
run_of item = record { id = item.id; views = map own_view item.table_ids }

-- ---- trees

-- whether an item is in the tree of a prefix
abbrev pub is_l0_of : List ℕ → L0Item → Bool
is_l0_of prefix item = bytes_eq item.prefix prefix

abbrev pub is_run_of : List ℕ → RunItem → Bool
is_run_of prefix item = bytes_eq item.prefix prefix

abbrev pub is_marker_of : List ℕ → MarkerItem → Bool
is_marker_of prefix item = bytes_eq item.prefix prefix

-- the tree of a prefix has what is named with the prefix, in the order of the script
abbrev pub tree_of : List ℕ → TreeItems → LsmTreeState
tree_of prefix items = record {
  last_compacted_l0_sst_view_id = option_map (λ (i : MarkerItem). i.view_id) (find (is_marker_of prefix) items.markers);
  last_compacted_l0_sst_id = None;
  l0 = map view_of (filter (is_l0_of prefix) items.l0);
  compacted = map run_of (filter (is_run_of prefix) items.runs);
}

-- the prefixes that are named, as often as they are
abbrev pub named_prefixes : TreeItems → List (List ℕ)
named_prefixes items = map (λ (i : L0Item). i.prefix) items.l0 ++ map (λ (i : RunItem). i.prefix) items.runs ++ map (λ (i : MarkerItem). i.prefix) items.markers

-- ascending prefixes with this one, before those that stand above it, where it isn't among them
abbrev pub with_prefix : List (List ℕ) → List ℕ → List (List ℕ)
with_prefix ps p = if list_any (λ q. bytes_eq q p) ps then ps else insert ps (prefix_len (λ q. key_lt q p) ps) p

-- whether a prefix is another than ""
abbrev pub is_some_prefix : List ℕ → Bool
is_some_prefix p = not (length p == 0)

-- the prefixes other than "", each once, ascending
abbrev pub segment_prefixes : List (List ℕ) → List (List ℕ)
segment_prefixes named = fold with_prefix [] (filter is_some_prefix named)

-- the segment of a prefix
abbrev pub segment_of : TreeItems → List ℕ → Prefixed
segment_of items prefix = record { prefix = prefix; tree = tree_of prefix items }

-- a segment for each prefix that is named, other than "", ascending
abbrev pub segments_of : TreeItems → List Prefixed
segments_of items = map (segment_of items) (segment_prefixes (named_prefixes items))

-- ---- the tables that stand in the store

-- ids with this one at the end, where it isn't among them
abbrev pub with_id : List (ℕ × ℕ) → ℕ × ℕ → List (ℕ × ℕ)
with_id ids id = if list_any (same_id id) ids then ids else ids ++ id ∷ []

-- each id once, where it comes first
abbrev pub once : List (ℕ × ℕ) → List (ℕ × ℕ)
once ids = fold with_id [] ids

-- the tables that trees name, as often as they do
abbrev pub named_tables : TreeItems → List (ℕ × ℕ)
named_tables items = map (λ (i : L0Item). i.table_id) items.l0 ++ flat_map (λ (i : RunItem). i.table_ids) items.runs

-- a table with what is known of it
abbrev pub with_info : ℕ × ℕ → (ℕ × ℕ) × SsTableInfo
with_info id = (id, opening_info)

-- the tables that trees name, these strays, and these outputs, each once, with what is known of them
abbrev pub tables_of : TreeItems → List (ℕ × ℕ) → List (ℕ × ℕ) → List ((ℕ × ℕ) × SsTableInfo)
tables_of items strays outputs = map with_info (once (named_tables items ++ strays ++ outputs))

-- ---- the manifest

-- what the manifest says of the database
abbrev pub core_of : OpeningFields → TreeItems → List Checkpoint → Core
core_of fields items checkpoints = record new_core {
  initialized = fields.initialized;
  tree = tree_of [] items;
  segments = segments_of items;
  segment_extractor_name = fields.extractor;
  next_wal_sst_id = fields.next_wal;
  replay_after_wal_id = fields.replay_after;
  floor = fields.floor;
  checkpoints = checkpoints;
}

-- the first manifest: with these epochs, and no other databases
abbrev pub manifest_of : OpeningFields → TreeItems → List Checkpoint → Manifest
manifest_of fields items checkpoints = record (initial_manifest (core_of fields items checkpoints)) { writer_epoch = fields.writer_epoch; compactor_epoch = fields.compactor_epoch }
