-- The fields of a database in a script.
use Rattle.std.specs.Prelude.{ℕ, ℤ, ◌&&◌, pos, not, Bool, true, List, [], ◌∷◌, Option, Some, None, codes, if◌then◌else◌, ⊤}
use Rattle.std.specs.List.{list_any}
use Rattle.serde_json.specs.Data.{Data}
use Rattle.serde_json.specs.Find.{as_str}
use Rattle.slate_script_json.specs.Fields.{◌>>=◌, only, required, optional, defaulted, u64_in, u32_in, i64_in, bool_in, db_path_in, list_in}
use Rattle.slate_script_json.specs.WrittenIds.{id_in}
use Rattle.slate_script_json.specs.ReadCheckpoints.{checkpoint_in}
use Rattle.slate_script_databases.specs.Databases.{is_marker_of, tables_of, manifest_of}
use Rattle.slate_script_databases.specs.OpeningRecords.{first_record, named_outputs}
use Rattle.slate_script_databases.specs.FirstRecordFields.{record_item_in}
use Rattle.slate_script_events.specs.declared.db_spec.DbSpec.{DbSpec}
use Rattle.slate_model.specs.declared.checkpoint.Checkpoint.{Checkpoint}
use Rattle.slate_model_tables.specs.declared.ss_table_info.SsTableInfo.{SsTableInfo}
use Rattle.slate_model_records.specs.Records.{Record}
use Rattle.slate_script_databases.specs.declared.record_items.RecordItem.{RecordItem}
use Rattle.slate_script_databases.specs.declared.tree_items.L0Item.{L0Item}
use Rattle.slate_script_databases.specs.declared.tree_items.RunItem.{RunItem}
use Rattle.slate_script_databases.specs.declared.tree_items.MarkerItem.{MarkerItem}
use Rattle.slate_script_databases.specs.declared.tree_items.TreeItems.{TreeItems}
use Rattle.slate_script_databases.specs.declared.database.OpeningFields.{OpeningFields}

-- an item of `l0`
unfoldable pub l0_item_in : Data → Option L0Item
l0_item_in d = do
  _ ← only (codes "prefix" ∷ codes "view" ∷ codes "table" ∷ []) d
  prefix ← defaulted [] as_str (codes "prefix") d
  view_id ← required id_in (codes "view") d
  table_id ← required id_in (codes "table") d
  Some (record { prefix = prefix; view_id = view_id; table_id = table_id })

-- an item of `runs`
unfoldable pub run_item_in : Data → Option RunItem
run_item_in d = do
  _ ← only (codes "prefix" ∷ codes "id" ∷ codes "tables" ∷ []) d
  prefix ← defaulted [] as_str (codes "prefix") d
  id ← required u32_in (codes "id") d
  table_ids ← required (list_in id_in) (codes "tables") d
  Some (record { prefix = prefix; id = id; table_ids = table_ids })

-- an item of `markers`
unfoldable pub marker_item_in : Data → Option MarkerItem
marker_item_in d = do
  _ ← only (codes "prefix" ∷ codes "view" ∷ []) d
  prefix ← defaulted [] as_str (codes "prefix") d
  view_id ← required id_in (codes "view") d
  Some (record { prefix = prefix; view_id = view_id })

-- whether no prefix has two markers
abbrev pub one_each : List MarkerItem → Bool
one_each [] = true
one_each (m ∷ ms) = not (list_any (is_marker_of m.prefix) ms) && one_each ms

-- at most one marker a prefix
abbrev pub is_one_each : List MarkerItem → Option ⊤
is_one_each markers = if one_each markers then Some tt else None

-- what a database says of its trees
unfoldable pub tree_items_in : Data → Option TreeItems
tree_items_in d = do
  l0 ← defaulted [] (list_in l0_item_in) (codes "l0") d
  runs ← defaulted [] (list_in run_item_in) (codes "runs") d
  markers ← defaulted [] (list_in marker_item_in) (codes "markers") d
  _ ← is_one_each markers
  Some (record { l0 = l0; runs = runs; markers = markers })

-- the fields that its manifest takes as they stand
unfoldable pub opening_fields_in : Data → Option OpeningFields
opening_fields_in d = do
  initialized ← defaulted true bool_in (codes "initialized") d
  writer_epoch ← defaulted 0 u64_in (codes "writer_epoch") d
  compactor_epoch ← defaulted 0 u64_in (codes "compactor_epoch") d
  floor ← defaulted 0 u64_in (codes "floor") d
  replay_after ← defaulted 0 u64_in (codes "replay_after") d
  next_wal ← defaulted 1 u64_in (codes "next_wal") d
  extractor ← optional as_str (codes "extractor") d
  Some (record { initialized = initialized; writer_epoch = writer_epoch; compactor_epoch = compactor_epoch; floor = floor; replay_after = replay_after; next_wal = next_wal; extractor = extractor })

-- the names of a database's fields
abbrev pub database_fields : List (List ℕ)
database_fields = codes "path" ∷ codes "modified" ∷ codes "initialized" ∷ codes "writer_epoch" ∷ codes "compactor_epoch" ∷ codes "floor"
    ∷ codes "replay_after" ∷ codes "next_wal" ∷ codes "extractor" ∷ codes "l0" ∷ codes "runs" ∷ codes "markers" ∷ codes "checkpoints"
    ∷ codes "record" ∷ codes "strays" ∷ []

-- its first record, where it has one, and its tables
unfoldable pub objects_of : TreeItems → Option RecordItem → List (ℕ × ℕ) → Option (Option Record × List ((ℕ × ℕ) × SsTableInfo))
objects_of items item strays = do
  compactions ← first_record item
  Some (compactions, tables_of items strays (named_outputs item))

-- the database that these say
unfoldable pub spec_of : List ℕ → ℤ → OpeningFields → TreeItems → List Checkpoint → Option RecordItem → List (ℕ × ℕ) → Option DbSpec
spec_of path modified fields items checkpoints item strays = do
  objects ← objects_of items item strays
  Some (record { path = path; manifest = manifest_of fields items checkpoints; compactions = objects.0; tables = objects.1; modified = modified })

-- a database with exactly such fields
unfoldable pub database_in : Data → Option DbSpec
database_in d = do
  _ ← only database_fields d
  path ← required db_path_in (codes "path") d
  modified ← defaulted (pos 0) i64_in (codes "modified") d
  fields ← opening_fields_in d
  items ← tree_items_in d
  checkpoints ← defaulted [] (list_in checkpoint_in) (codes "checkpoints") d
  item ← optional record_item_in (codes "record") d
  strays ← defaulted [] (list_in id_in) (codes "strays") d
  spec_of path modified fields items checkpoints item strays
