-- Databases as a run begins: why they are refused, and the state in which they stand.
use Rattle.std.specs.Prelude.{ℕ, ◌==◌, nat_lt, ◌&&◌, ◌||◌, ℤ, Bool, true, false, not, List, [], ◌∷◌, ◌++◌, map, Option, Some, None, is_some, option_to_list, Result, Ok, Err, if◌then◌else◌}
use Rattle.std.specs.List.{list_any, list_all, flat_map, filter_map}
use Rattle.std.specs.Map.{lookup}
use Rattle.std.specs.BTreeMap.{is_at, insert_entry}
use Rattle.std.specs.BTreeSet.{insert_key}
use Rattle.slate_ids.specs.Ids.{is_db_path}
use Rattle.slate_ids.specs.PathText.{path_cmp}
use Rattle.slate_ids.specs.declared.error.SlateDBError.{SlateDBError}
use Rattle.slate_ids.specs.declared.object_path.ObjectPath.{ObjectPath}
use Rattle.slate_ids.specs.declared.object_path.ObjectPath.TheVariants as paths
use Rattle.slate_model_tables.specs.declared.ss_table_id.SsTableId.{SsTableId}
use Rattle.slate_model_tables.specs.declared.ss_table_id.SsTableId.TheVariants.{Wal, Compacted}
use Rattle.slate_model_tables.specs.declared.ss_table_info.SsTableInfo.{SsTableInfo}
use Rattle.slate_model_tables.specs.SortedRuns.{Run}
use Rattle.slate_model_records.specs.Compactions.{sources_of}
use Rattle.slate_model_records.specs.Records.{Record}
use Rattle.slate_model_records.specs.declared.compaction.Compaction.{Compaction}
use Rattle.slate_model_records.specs.declared.compaction_context.CompactionContext.{CompactionContext}
use Rattle.slate_model_records.specs.declared.source_id.SourceId.{SourceId}
use Rattle.slate_model_records.specs.declared.source_id.SourceId.TheVariants.{SstView, SortedRun}
use Rattle.slate_layout_records.specs.NormalRecords.{is_normal_record}
use Rattle.slate_state_record_updates.specs.RecordRules.{table_refusal}
use Rattle.slate_model_tables.specs.declared.ss_table_handle.SsTableHandle.{SsTableHandle}
use Rattle.slate_layout.specs.Codec.{encoded}
use Rattle.slate_layout.specs.RecordCodec.{record_encoded}
use Rattle.slate_layout_parts.specs.InfoCodec.{encoded_info}
use Rattle.slate_layout_encodable.specs.Normal.{is_normal}
use Rattle.slate_ids.specs.Ulids.{id_cmp as ulid_cmp, is_id}
use Rattle.slate_model.specs.declared.checkpoint.Checkpoint.{Checkpoint}
use Rattle.slate_model.specs.declared.external_db.ExternalDb.{ExternalDb}
use Rattle.slate_model.specs.declared.lsm_tree_state.LsmTreeState.{LsmTreeState}
use Rattle.slate_model.specs.declared.manifest.Manifest.{Manifest}
use Rattle.slate_model.specs.Externals.{lists}
use Rattle.slate_model.specs.Selection.{are_apart}
use Rattle.slate_model.specs.Trees.{trees_of, tables_of}
use Rattle.slate_model.specs.Watermark.{watermark}
use Rattle.slate_store.specs.Store.{Store, stored}
use Rattle.slate_script_events.specs.declared.cluster_cause.ClusterCause.{ClusterCause}
use Rattle.slate_script_events.specs.declared.cluster_cause.ClusterCause.TheVariants as cause
use Rattle.slate_script_events.specs.declared.db_spec.DbSpec.{DbSpec}
use Rattle.slate_model.specs.Trees.{views_of}
use Rattle.slate_model_tables.specs.Views.{View}
use Rattle.slate_cluster_protocol.specs.Ids.{Carried, Pool, checkpoint_cmp, is_carried, only_named, only_pinned, with_ids}
use Rattle.slate_cluster_protocol.specs.declared.carrier.Carrier.{Carrier}
use Rattle.slate_cluster_protocol.specs.World.{World, db_cmp, tally_of}
use Rattle.slate_cluster_protocol.specs.declared.tally.Tally.{Tally}

-- ---- names

-- whether a database has a name, and the ids of its tables are ids
abbrev pub is_named_spec : DbSpec → Bool
is_named_spec spec = is_db_path spec.path && list_all (λ t. is_id t.0) spec.tables

-- ---- paths

-- the number of the first record: 0 where there is none
abbrev pub first_record_number : Option Record → ℕ
first_record_number None = 0
first_record_number (Some r) = 1

-- what is committed of a database as a run begins: its first manifest, and its first record where it has one
abbrev pub first_tally : DbSpec → Tally
first_tally spec = record { manifest = 1; compactions = first_record_number spec.compactions }

-- the databases, by path, beside those that are there: none where one is there already
abbrev pub tallies_from : List (List ℕ × Tally) → List DbSpec → Option (List (List ℕ × Tally))
tallies_from tallies [] = Some tallies
tallies_from tallies (spec ∷ specs) = if is_some (tally_of spec.path tallies) then None else tallies_from (insert_entry db_cmp tallies spec.path (first_tally spec)) specs

-- ---- ids of checkpoints

-- the ids, beside those that were carried: none where one was carried already
abbrev pub ids_from : Pool (List ℕ) → List Checkpoint → Option (Pool (List ℕ))
ids_from pool [] = Some pool
ids_from pool (c ∷ cs) = if is_carried checkpoint_cmp c.id pool then None else ids_from (insert_entry checkpoint_cmp pool c.id (only_named c.id).1) cs

-- what there is, and more, where there is something
abbrev pub and_more : {X : Type 0} → Option X → (X → Option X) → Option X
and_more None f = None
and_more (Some x) f = f x

-- the ids of all checkpoints: none where one comes twice
abbrev pub checkpoints_from : Pool (List ℕ) → List DbSpec → Option (Pool (List ℕ))
checkpoints_from pool [] = Some pool
checkpoints_from pool (spec ∷ specs) = and_more (ids_from pool spec.manifest.core.checkpoints) (λ more. checkpoints_from more specs)

-- ---- ids of tables, views and runs

-- whether an id is among these
abbrev pub is_seen : ℕ × ℕ → List (ℕ × ℕ) → Bool
is_seen id seen = list_any (is_at (ulid_cmp id)) seen

-- the ids, ascending, beside those that came before: none where one came already
abbrev pub seen_from : List (ℕ × ℕ) → List (ℕ × ℕ) → Option (List (ℕ × ℕ))
seen_from seen [] = Some seen
seen_from seen (id ∷ ids) = if is_seen id seen then None else seen_from (insert_key ulid_cmp seen id) ids

-- whether no id comes twice among these
abbrev pub do_differ : List (ℕ × ℕ) → Bool
do_differ ids = is_some (seen_from [] ids)

-- the ids of the tables of a database
abbrev pub table_ids : DbSpec → List (ℕ × ℕ)
table_ids spec = map (λ t. t.0) spec.tables

-- the compactions of a record, where there is one
abbrev pub compactions_in : Option Record → List Compaction
compactions_in None = []
compactions_in (Some r) = r.entries

-- the ids of the compactions of a database
abbrev pub compaction_ids : DbSpec → List (ℕ × ℕ)
compaction_ids spec = map (λ c. c.id) (compactions_in spec.compactions)

-- whether the first of these runs, where there is one, has an id below this one
abbrev pub next_is_below : ℕ → List Run → Bool
next_is_below id [] = true
next_is_below id (run ∷ runs) = nat_lt run.id id

-- whether the ids of runs fall strictly
abbrev pub runs_fall : List Run → Bool
runs_fall [] = true
runs_fall (run ∷ runs) = next_is_below run.id runs && runs_fall runs

-- whether no id comes twice among the views of a tree's flushed tables, and the ids of its runs fall strictly
abbrev pub is_tree_in_order : LsmTreeState → Bool
is_tree_in_order tree = do_differ (map (λ v. v.id) tree.l0) && runs_fall tree.compacted

-- whether this holds of each tree of a database
abbrev pub are_trees_in_order : DbSpec → Bool
are_trees_in_order spec = list_all is_tree_in_order (trees_of spec.manifest.core)

-- whether no id of a table or of a compaction comes twice, and the trees are in order
abbrev pub are_ulids_fine : List DbSpec → Bool
are_ulids_fine specs = do_differ (flat_map table_ids specs) && (do_differ (flat_map compaction_ids specs) && list_all are_trees_in_order specs)

-- the same, and no id of a checkpoint comes twice
abbrev pub are_ids_fine : List DbSpec → Bool
are_ids_fine specs = is_some (checkpoints_from [] specs) && are_ulids_fine specs

-- ---- values

-- the bytes of an encoding, where the value is its own normal form
abbrev pub bytes_where : Bool → Result (List ℕ) SlateDBError → Option (List ℕ)
bytes_where normal (Ok bytes) = if normal then Some bytes else None
bytes_where normal (Err e) = None

-- the bytes of a first manifest: none where it has none, or isn't what is read back of them
abbrev pub first_bytes : Manifest → Option (List ℕ)
first_bytes m = bytes_where (is_normal m) (encoded m)

-- the bytes of a first record: none where it has none, or isn't what is read back of them
abbrev pub record_bytes : Record → Option (List ℕ)
record_bytes r = bytes_where (is_normal_record r) (record_encoded r)

-- the bytes of what is known of a table, which is what is read back of them: none where it has none
abbrev pub table_bytes : SsTableInfo → Option (List ℕ)
table_bytes info = bytes_where true (encoded_info info)

-- the bytes of a first object, and the moment at which it was written
abbrev pub First : Type 0
First = List ℕ × ℤ

-- a first manifest at its path, where it has bytes
abbrev pub first_added : List (ObjectPath × First) → DbSpec → Option (List ℕ) → Option (List (ObjectPath × First))
first_added firsts spec None = None
first_added firsts spec (Some bytes) = Some (insert_entry path_cmp firsts (paths.Manifest spec.path 1) (bytes, spec.modified))

-- the first manifests by path, beside those that are there: none where one has no bytes
abbrev pub firsts_from : List (ObjectPath × First) → List DbSpec → Option (List (ObjectPath × First))
firsts_from firsts [] = Some firsts
firsts_from firsts (spec ∷ specs) = and_more (first_added firsts spec (first_bytes spec.manifest)) (λ more. firsts_from more specs)

-- a first record at its path, where it has bytes
abbrev pub record_written : List (ObjectPath × First) → DbSpec → Option (List ℕ) → Option (List (ObjectPath × First))
record_written firsts spec None = None
record_written firsts spec (Some bytes) = Some (insert_entry path_cmp firsts (paths.Record spec.path 1) (bytes, spec.modified))

-- the same of the record of a database, where it has one
abbrev pub record_added : List (ObjectPath × First) → DbSpec → Option Record → Option (List (ObjectPath × First))
record_added firsts spec None = Some firsts
record_added firsts spec (Some r) = record_written firsts spec (record_bytes r)

-- the first records by path, beside the objects that are there: none where one has no bytes
abbrev pub records_from : List (ObjectPath × First) → List DbSpec → Option (List (ObjectPath × First))
records_from firsts [] = Some firsts
records_from firsts (spec ∷ specs) = and_more (record_added firsts spec spec.compactions) (λ more. records_from more specs)

-- a table of a database at its path, where it has bytes
abbrev pub table_added : List (ObjectPath × First) → DbSpec → ℕ × ℕ → Option (List ℕ) → Option (List (ObjectPath × First))
table_added firsts spec id None = None
table_added firsts spec id (Some bytes) = Some (insert_entry path_cmp firsts (paths.Table spec.path id) (bytes, spec.modified))

-- these tables of a database by path, beside the objects that are there: none where one has no bytes
abbrev pub tables_from : List (ObjectPath × First) → DbSpec → List ((ℕ × ℕ) × SsTableInfo) → Option (List (ObjectPath × First))
tables_from firsts spec [] = Some firsts
tables_from firsts spec (t ∷ tables) = and_more (table_added firsts spec t.0 (table_bytes t.1)) (λ more. tables_from more spec tables)

-- the tables of all databases by path, beside the objects that are there: none where one has no bytes
abbrev pub all_tables_from : List (ObjectPath × First) → List DbSpec → Option (List (ObjectPath × First))
all_tables_from firsts [] = Some firsts
all_tables_from firsts (spec ∷ specs) = and_more (tables_from firsts spec spec.tables) (λ more. all_tables_from more specs)

-- the first manifests, the first records and the tables by path: none where one has no bytes, or a manifest or a record isn't what is read
-- back of them
abbrev pub objects_of : List DbSpec → Option (List (ObjectPath × First))
objects_of specs = and_more (firsts_from [] specs) (λ firsts. and_more (records_from firsts specs) (λ more. all_tables_from more specs))

-- whether one of these objects is at a path
abbrev pub is_there : ObjectPath → List (ObjectPath × First) → Bool
is_there path objects = is_some (lookup (is_at (path_cmp path)) objects)

-- ---- segments

-- whether a segment's prefix begins with another's
abbrev pub overlaps : DbSpec → Bool
overlaps spec = not (are_apart spec.manifest.core.segments)

-- ---- records

-- whether the epoch of a record, where there is one, is above this one
abbrev pub is_above : ℕ → Option Record → Bool
is_above epoch None = false
is_above epoch (Some r) = nat_lt epoch r.compactor_epoch

-- whether the epoch of a database's record is above the compactor epoch of its manifest
abbrev pub is_epoch_high : DbSpec → Bool
is_epoch_high spec = is_above spec.manifest.compactor_epoch spec.compactions

-- whether a table of a database isn't among these objects, at the database's own path; a file of the write-ahead log is no such table
abbrev pub is_output_absent : List (ObjectPath × First) → DbSpec → SsTableId → Bool
is_output_absent objects spec (Compacted id) = not (is_there (paths.Table spec.path id) objects)
is_output_absent objects spec (Wal number) = false

-- whether an output of a compaction is older than it, against the rule on new records, or absent
abbrev pub is_output_wrong : List (ObjectPath × First) → DbSpec → ℕ → SsTableHandle → Bool
is_output_wrong objects spec ms sst = is_some (table_refusal ms sst.id) || is_output_absent objects spec sst.id

-- whether one of a compaction's outputs is
abbrev pub has_wrong_output : List (ObjectPath × First) → DbSpec → Compaction → Bool
has_wrong_output objects spec c = list_any (is_output_wrong objects spec c.id.0) c.output_ssts

-- whether one of the compactions of a database has such an output
abbrev pub are_outputs_wrong : List (ObjectPath × First) → DbSpec → Bool
are_outputs_wrong objects spec = list_any (has_wrong_output objects spec) (compactions_in spec.compactions)

-- ---- checkpoints

-- whether a checkpoint names another version than the first
abbrev pub names_other : DbSpec → Bool
names_other spec = list_any (λ c. not (c.manifest_id == 1)) spec.manifest.core.checkpoints

-- ---- tables of trees

-- the database at whose path a table stands: that of the first entry which lists it, or else this one
abbrev pub home_of : List ℕ → SsTableId → List ExternalDb → List ℕ
home_of own id [] = own
home_of own id (entry ∷ entries) = if lists id entry then entry.path else home_of own id entries

-- whether a table of a tree of a database isn't among these objects; a file of the write-ahead log is no such table
abbrev pub is_absent : List (ObjectPath × First) → DbSpec → SsTableId → Bool
is_absent objects spec (Compacted id) = not (is_there (paths.Table (home_of spec.path (Compacted id) spec.manifest.external_dbs) id) objects)
is_absent objects spec (Wal number) = false

-- whether some table of a database's trees is absent
abbrev pub lacks_table : List (ObjectPath × First) → DbSpec → Bool
lacks_table objects spec = list_any (is_absent objects spec) (tables_of spec.manifest.core)

-- ---- the floor

-- whether the floor is below the watermark
abbrev pub is_floor_low : DbSpec → Bool
is_floor_low spec = nat_lt spec.manifest.core.floor (watermark spec.manifest.core)

-- ---- the whole

-- a list, empty where there is none
abbrev pub listed_or_none : {X : Type 0} → Option (List X) → List X
listed_or_none None = []
listed_or_none (Some xs) = xs

-- why databases whose ids differ and whose values have bytes can't begin a run, as these objects
abbrev pub cause_beside : List (ObjectPath × First) → List DbSpec → Option ClusterCause
cause_beside objects specs =
    if list_any overlaps specs then Some cause.Segments
    else (if list_any is_epoch_high specs then Some cause.Epoch
    else (if list_any (are_outputs_wrong objects) specs then Some cause.Outputs
    else (if list_any names_other specs then Some cause.Checkpoints
    else (if list_any (lacks_table objects) specs then Some cause.Tables
    else (if list_any is_floor_low specs then Some cause.Floor else None)))))

-- why databases can't begin a run, the first of the causes
abbrev pub cause_of_specs : List DbSpec → Option ClusterCause
cause_of_specs specs =
    if not (is_some (tallies_from [] specs)) then Some cause.Path
    else (if not (are_ids_fine specs) then Some cause.Ids
    else (if not (is_some (objects_of specs)) then Some cause.Value
    else cause_beside (listed_or_none (objects_of specs)) specs))

-- ---- ids that are carried

-- the ids of checkpoints that an entry of another database names: its source, and its pin where it has one
abbrev pub entry_checkpoints : ExternalDb → List (List ℕ × Carrier)
entry_checkpoints entry = only_named entry.source_checkpoint_id ∷ map only_pinned (option_to_list entry.final_checkpoint_id)

-- the id of a table that has one
abbrev pub ulid_of : SsTableId → Option (ℕ × ℕ)
ulid_of (Wal number) = None
ulid_of (Compacted id) = Some id

-- the ids of a view and of its table
abbrev pub view_ulids : View → List (ℕ × ℕ)
view_ulids view = view.id ∷ option_to_list (ulid_of view.sst.id)

-- the ids of the last view and the last table that were compacted of a tree
abbrev pub marker_ulids : LsmTreeState → List (ℕ × ℕ)
marker_ulids tree = option_to_list tree.last_compacted_l0_sst_view_id ++ option_to_list tree.last_compacted_l0_sst_id

-- the ids of tables among these
abbrev pub handle_ulids : List SsTableHandle → List (ℕ × ℕ)
handle_ulids ssts = filter_map (λ sst. ulid_of sst.id) ssts

-- the id of a view among the sources of a compaction
abbrev pub view_of : SourceId → Option (ℕ × ℕ)
view_of (SstView id) = Some id
view_of (SortedRun n) = None

-- the ids of the tables that the parts of a compaction have written
abbrev pub context_ulids : Option CompactionContext → List (ℕ × ℕ)
context_ulids None = []
context_ulids (Some context) = flat_map (λ part. handle_ulids part.output_ssts) context.subcompactions

-- the ids of a compaction: its own, those of the views that it reads, and those of the tables that it has written
abbrev pub compaction_ulids : Compaction → List (ℕ × ℕ)
compaction_ulids c = c.id ∷ (filter_map view_of (sources_of c.spec) ++ (handle_ulids c.output_ssts ++ context_ulids c.ctx))

-- the ids of tables, views and compactions that a database names: of its tables, its views, the markers of its trees, its entries, and its
-- record
abbrev pub spec_ulids : DbSpec → List (ℕ × ℕ)
spec_ulids spec =
    table_ids spec
    ++ (flat_map view_ulids (views_of spec.manifest.core)
    ++ (flat_map marker_ulids (trees_of spec.manifest.core)
    ++ (flat_map (λ entry. filter_map ulid_of entry.sst_ids) spec.manifest.external_dbs
    ++ flat_map compaction_ulids (compactions_in spec.compactions))))

-- the ids that databases carry, and nobody brings
abbrev pub opening_carried : List DbSpec → Carried
opening_carried specs = record {
  checkpoints = with_ids checkpoint_cmp (flat_map (λ spec. flat_map entry_checkpoints spec.manifest.external_dbs) specs) (listed_or_none (checkpoints_from [] specs));
  ulids = with_ids ulid_cmp (map only_named (flat_map spec_ulids specs)) [];
}

-- ---- the state

-- an empty store
abbrev pub no_objects : Store
no_objects = record { objects = []; last_tag = 0 }

-- the store after puts of these objects, one after the other
abbrev pub store_from : Store → List (ObjectPath × First) → Store
store_from s [] = s
store_from s (o ∷ os) = store_from (stored o.0 o.1.0 o.1.1 s) os

-- the state as a run of these databases begins: each has its first manifest, its first record where it has one, and its tables, and the tags
-- go by path
abbrev pub opening_world : List DbSpec → World
opening_world specs = record {
  tallies = listed_or_none (tallies_from [] specs);
  deleted = 0;
  store = store_from no_objects (listed_or_none (objects_of specs));
  parties = [];
  carried = opening_carried specs;
}
