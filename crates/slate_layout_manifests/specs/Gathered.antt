-- The tables of views, gathered by id: each once, ascending.
use Rattle.std.specs.Prelude.{ℕ, ◌==◌, ◌&&◌, Bool, true, false, List, [], ◌∷◌, Option, Some, None, bytes_eq, if◌then◌else◌}
use Rattle.std.specs.Map.{lookup}
use Rattle.std.specs.BTreeMap.{insert_entry, is_at}
use Rattle.slate_model_tables.specs.declared.ss_table_info.SsTableInfo.{SsTableInfo}
use Rattle.slate_model_tables.specs.declared.ss_table_handle.SsTableHandle.{SsTableHandle}
use Rattle.slate_model_tables.specs.Views.{View}
use Rattle.slate_model.specs.Externals.{same_table}
use Rattle.slate_layout_parts.specs.TablesOfViews.{table_id}
use Rattle.slate_layout_parts.specs.InfoParts.{codec_number, type_number, format_number}
use Rattle.slate_ids.specs.Ulids.{id_cmp}
use Rattle.slate_layout_parts.specs.Reading.{◌>>=◌}

-- whether two keys, of which each may be missing, are equal
abbrev pub same_key : Option (List ℕ) → Option (List ℕ) → Bool
same_key None None = true
same_key (Some a) (Some b) = bytes_eq a b
same_key None (Some b) = false
same_key (Some a) None = false

-- whether the same is known of two tables
abbrev pub same_info : SsTableInfo → SsTableInfo → Bool
same_info i j = same_key i.first_entry j.first_entry && same_key i.last_entry j.last_entry && (i.index_offset == j.index_offset)
    && (i.index_len == j.index_len) && (i.filter_offset == j.filter_offset) && (i.filter_len == j.filter_len)
    && (codec_number i.compression_codec == codec_number j.compression_codec) && (type_number i.sst_type == type_number j.sst_type)
    && (i.stats_offset == j.stats_offset) && (i.stats_len == j.stats_len) && (format_number i.filter_format == format_number j.filter_format)

-- whether two handles are equal
abbrev pub same_handle : SsTableHandle → SsTableHandle → Bool
same_handle h k = same_table h.id k.id && (h.format_version == k.format_version) && same_info h.info k.info

-- tables by their ids
abbrev pub ById : Type 0
ById = List ((ℕ × ℕ) × SsTableHandle)

-- with one table more, where its id has no other
abbrev pub with_table : SsTableHandle → ById → Option SsTableHandle → Option ById
with_table h tables None = Some (insert_entry id_cmp tables (table_id h.id) h)
with_table h tables (Some k) = if same_handle k h then Some tables else None

-- with the table of a view; none where its id has another one
abbrev pub with_view : ById → View → Option ById
with_view tables v = with_table v.sst tables (lookup (is_at (id_cmp (table_id v.sst.id))) tables)

-- with the tables of these views; none where two of one id are unequal
abbrev pub gathered : List View → ById → Option ById
gathered [] tables = Some tables
gathered (v ∷ views) tables = with_view tables v >>= gathered views
