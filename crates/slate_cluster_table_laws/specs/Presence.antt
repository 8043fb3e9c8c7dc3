-- Tables that were put.
use Rattle.std.specs.Prelude.{◌≡◌, ◌⊎◌, ℕ, Bool, true, false, List, [], ◌∷◌}
use Rattle.std.specs.List.{list_any}
use Rattle.std.specs.BTreeMap.{is_at}
use Rattle.slate_ids.specs.PathText.{path_cmp}
use Rattle.slate_ids.specs.declared.object_path.ObjectPath.{ObjectPath}
use Rattle.slate_ids.specs.declared.object_path.ObjectPath.TheVariants as paths
use Rattle.slate_model_records.specs.declared.compaction.Compaction.{Compaction}
use Rattle.slate_model_tables.specs.declared.ss_table_handle.SsTableHandle.{SsTableHandle}
use Rattle.slate_model_tables.specs.declared.ss_table_id.SsTableId.{SsTableId}
use Rattle.slate_model_tables.specs.declared.ss_table_id.SsTableId.TheVariants.{Wal, Compacted}
use Rattle.slate_store.specs.Store.{Store, stands_at}
use Rattle.slate_cluster_protocol.specs.Calls.{is_unknown}
use Rattle.slate_cluster_protocol.specs.declared.party.Facts.{Facts}

-- whether a path is among those that were removed
abbrev pub is_gone : ObjectPath → List ObjectPath → Bool
is_gone path removed = list_any (is_at (path_cmp path)) removed

-- a table of a database was put: it stands, or a delete took it away up to now
abbrev pub WasPut : List ObjectPath → Store → List ℕ → ℕ × ℕ → Type 0
WasPut removed s db id = (stands_at (paths.Table db id) s ≡ true) ⊎ (is_gone (paths.Table db id) removed ≡ true)

-- what holds of a table; a file of the write-ahead log is none
abbrev pub IfTable : (ℕ × ℕ → Type 0) → SsTableId → Type 0
IfTable P (Wal number) = Unit {0}
IfTable P (Compacted id) = P id

-- what holds of each of these tables
abbrev pub EachTable : (ℕ × ℕ → Type 0) → List SsTableHandle → Type 0
EachTable P [] = Unit {0}
EachTable P (sst ∷ ssts) = IfTable P sst.id × EachTable P ssts

-- what holds of each output of each of these compactions
abbrev pub EachOutput : (ℕ × ℕ → Type 0) → List Compaction → Type 0
EachOutput P [] = Unit {0}
EachOutput P (c ∷ entries) = EachTable P c.output_ssts × EachOutput P entries

-- each table that a party uploaded was put at its database
abbrev pub UploadsPut : List ObjectPath → Store → Facts → Type 0
UploadsPut removed s facts = (id : ℕ × ℕ) → is_unknown facts.uploads id ≡ false → WasPut removed s facts.db id
