-- The tables that a party uploaded, by their ids, each with what is known of it.
use Rattle.std.specs.Prelude.{ℕ, List, Option}
use Rattle.std.specs.Map.{lookup}
use Rattle.std.specs.BTreeMap.{is_at, insert_entry}
use Rattle.slate_ids.specs.Ulids.{id_cmp as ulid_cmp}
use Rattle.slate_model_tables.specs.declared.ss_table_info.SsTableInfo.{SsTableInfo}
use Rattle.slate_cluster_protocol.specs.declared.uploads.Upload.{Upload}

-- what is known of a table, where it was uploaded
abbrev pub info_of : ℕ × ℕ → List ((ℕ × ℕ) × SsTableInfo) → Option SsTableInfo
info_of table uploads = lookup (is_at (ulid_cmp table)) uploads

-- one table more
abbrev pub with_upload : Upload → List ((ℕ × ℕ) × SsTableInfo) → List ((ℕ × ℕ) × SsTableInfo)
with_upload upload uploads = insert_entry ulid_cmp uploads upload.table upload.info
