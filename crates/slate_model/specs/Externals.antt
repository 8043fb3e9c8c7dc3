-- Which tables a database owns, and which it shares with others.
use Rattle.std.specs.Prelude.{ℕ, ◌==◌, Bool, false, not, List, map, filter}
use Rattle.std.specs.List.{list_any, flat_map}
use Rattle.slate_ids.specs.Ulids.{same_id}
use Rattle.slate_model_tables.specs.declared.ss_table_id.SsTableId.{SsTableId}
use Rattle.slate_model_tables.specs.declared.ss_table_id.SsTableId.TheVariants.{Wal, Compacted}
use Rattle.slate_model.specs.declared.external_db.ExternalDb.{ExternalDb}
use Rattle.slate_model.specs.declared.manifest.Manifest.{Manifest}
use Rattle.slate_model.specs.Cores.{Core}
use Rattle.slate_model_tables.specs.Views.{View}
use Rattle.slate_model.specs.Trees.{views_of, tables_of}

-- whether two ids are of one table
abbrev pub same_table : SsTableId → SsTableId → Bool
same_table (Wal a) (Wal b) = a == b
same_table (Compacted a) (Compacted b) = same_id a b
same_table (Wal a) (Compacted b) = false
same_table (Compacted a) (Wal b) = false

-- whether a view is of this table
abbrev pub is_of : SsTableId → View → Bool
is_of id view = same_table id view.sst.id

-- whether a view of a tree is of this table
abbrev pub is_used : Core → SsTableId → Bool
is_used core id = list_any (is_of id) (views_of core)

-- whether an entry lists this table
abbrev pub lists : SsTableId → ExternalDb → Bool
lists id entry = list_any (same_table id) entry.sst_ids

-- whether no entry lists this table
abbrev pub is_owned : List ExternalDb → SsTableId → Bool
is_owned entries id = not (list_any (lists id) entries)

-- the tables that the database owns: those of its views that no entry lists, as often as views are of them
abbrev pub owned : Manifest → List SsTableId
owned m = filter (is_owned m.external_dbs) (tables_of m.core)

-- the tables of an entry, with its path
abbrev pub shared_by : ExternalDb → List (SsTableId × List ℕ)
shared_by entry = map (λ id. (id, entry.path)) entry.sst_ids

-- the tables of all entries, with their paths
abbrev pub external : Manifest → List (SsTableId × List ℕ)
external m = flat_map shared_by m.external_dbs

-- an entry that lists only the tables that are used
abbrev pub pruned_entry : Core → ExternalDb → ExternalDb
pruned_entry core entry = record entry { sst_ids = filter (is_used core) entry.sst_ids }

-- the manifest whose entries list only the tables that its views use; an entry without tables stays
abbrev pub pruned : Manifest → Manifest
pruned m = record m { external_dbs = map (pruned_entry m.core) m.external_dbs }
