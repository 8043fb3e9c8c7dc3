-- Tables: their ids, what is known of them, and the keys that they hold.
use Rattle.std.specs.Prelude.{ℕ, ◌+◌, min, Bool, true, false, List, Option, Some, None}
use Rattle.std.specs.declared.ops.Bound.TheVariants.{Included, Unbounded}
use Rattle.slate_ids.specs.KeyRange.{KeyRange, no_keys}
use Rattle.slate_ids.specs.Limits.{last_number}
use Rattle.slate_model_tables.specs.declared.ss_table_id.SsTableId.{SsTableId}
use Rattle.slate_model_tables.specs.declared.ss_table_id.SsTableId.TheVariants.{Wal, Compacted}
use Rattle.slate_model_tables.specs.declared.table_tags.SstType.{SstType}
use Rattle.slate_model_tables.specs.declared.table_tags.SstType.TheVariants as written
use Rattle.slate_model_tables.specs.declared.table_tags.FilterFormat.{FilterFormat}
use Rattle.slate_model_tables.specs.declared.table_tags.FilterFormat.TheVariants.{Composite}
use Rattle.slate_model_tables.specs.declared.table_tags.CompressionTag.TheVariants as compressed
use Rattle.slate_model_tables.specs.declared.ss_table_info.SsTableInfo.{SsTableInfo}
use Rattle.slate_model_tables.specs.declared.ss_table_handle.SsTableHandle.{SsTableHandle}

-- a file of the write-ahead log
abbrev pub is_wal : SsTableId → Bool
is_wal (Wal number) = true
is_wal (Compacted id) = false

-- a compacted table
abbrev pub is_compacted : SsTableId → Bool
is_compacted (Wal number) = false
is_compacted (Compacted id) = true

-- what wrote a table
abbrev pub type_of : SsTableId → SstType
type_of (Wal number) = written.Wal
type_of (Compacted id) = written.Compacted

-- a table is compacted where nothing else is said
abbrev pub default_type : SstType
default_type = written.Compacted

-- filters are composite where nothing else is said
abbrev pub default_format : FilterFormat
default_format = Composite

-- nothing known: no entries, numbers 0, not compressed, compacted, composite filters
abbrev pub no_info : SsTableInfo
no_info = record {
  first_entry = None;
  last_entry = None;
  index_offset = 0;
  index_len = 0;
  filter_offset = 0;
  filter_len = 0;
  compression_codec = compressed.None;
  sst_type = default_type;
  stats_offset = 0;
  stats_len = 0;
  filter_format = default_format;
}

-- up to the end of the index, saturating
abbrev pub table_size : SsTableHandle → ℕ
table_size sst = min (sst.info.index_offset + sst.info.index_len) last_number

-- from the first entry to the last, both included; without a last entry all from the first, and without a first entry no keys
abbrev pub keys_between : Option (List ℕ) → Option (List ℕ) → KeyRange
keys_between None last = no_keys
keys_between (Some first) None = record { start = Included first; end = Unbounded }
keys_between (Some first) (Some last) = record { start = Included first; end = Included last }

-- the physical range of a table
abbrev pub physical_range : SsTableHandle → KeyRange
physical_range sst = keys_between sst.info.first_entry sst.info.last_entry
