-- What of a manifest has no bytes: the first field.
use Rattle.std.specs.Prelude.{ℕ, ℤ, pos, negsuc, ◌/◌, ◌^◌, ◌==◌, ◌&&◌, nat_lt, not, Bool, true, false, length, Option, Some, None, is_some, if◌then◌else◌}
use Rattle.std.specs.List.{list_all}
use Rattle.slate_ids.specs.declared.error.FieldName.{FieldName}
use Rattle.slate_ids.specs.declared.error.FieldName.TheVariants.{ExpireTime, CreateTime, WalId, NoKeys, NextWal, Length}
use Rattle.slate_model_tables.specs.Tables.{is_compacted}
use Rattle.slate_model_tables.specs.Views.{View}
use Rattle.slate_model_tables.specs.SortedRuns.{Run}
use Rattle.slate_model.specs.declared.lsm_tree_state.LsmTreeState.{LsmTreeState}
use Rattle.slate_model.specs.declared.manifest.Manifest.{Manifest}
use Rattle.slate_model.specs.Segments.{Prefixed}
use Rattle.slate_model.specs.Trees.{views_of}
use Rattle.slate_layout_parts.specs.InfoParts.{are_entries}
use Rattle.slate_layout_parts.specs.InfoCodec.{is_short}
use Rattle.slate_layout_parts.specs.Lengths.{few, short_range}

-- ---- moments

-- whether a moment's second has 32 bits
abbrev pub has_second : ℤ → Bool
has_second (pos n) = nat_lt (n / 1000) (2 ^ 32)
has_second (negsuc n) = false

-- the same, where it isn't 0
abbrev pub has_later_second : ℤ → Bool
has_later_second (pos n) = nat_lt 0 (n / 1000) && nat_lt (n / 1000) (2 ^ 32)
has_later_second (negsuc n) = false

-- whether a checkpoint never expires, or at a second from 1 to 2^32 - 1
abbrev pub has_expiry : Option ℤ → Bool
has_expiry None = true
has_expiry (Some t) = has_later_second t

-- ---- tables

-- whether no id in a tree or an entry is of the write-ahead log
abbrev pub no_wal_ids : Manifest → Bool
no_wal_ids m = list_all (λ v. is_compacted v.sst.id) (views_of m.core) && list_all (λ e. list_all is_compacted e.sst_ids) m.external_dbs

-- whether a view's table has a first entry, and no last one below it
abbrev pub has_keys : View → Bool
has_keys v = is_some v.sst.info.first_entry && are_entries v.sst.info.first_entry v.sst.info.last_entry

-- ---- lengths

abbrev pub short_view : View → Bool
short_view v = is_short v.sst.info.first_entry && is_short v.sst.info.last_entry && short_range v.visible

abbrev pub short_run : Run → Bool
short_run r = few (length r.views) && list_all short_view r.views

abbrev pub short_tree : LsmTreeState → Bool
short_tree t = few (length t.l0) && list_all short_view t.l0 && few (length t.compacted) && list_all short_run t.compacted

abbrev pub short_segment : Prefixed → Bool
short_segment s = few (length s.prefix) && short_tree s.tree

-- whether all lengths of a manifest with so many tables have 32 bits
abbrev pub are_short : ℕ → Manifest → Bool
are_short tables m = few tables && short_tree m.core.tree && few (length m.core.segments) && list_all short_segment m.core.segments
    && is_short m.core.segment_extractor_name && few (length m.core.checkpoints) && list_all (λ c. is_short c.name) m.core.checkpoints
    && few (length m.external_dbs) && list_all (λ e. few (length e.sst_ids)) m.external_dbs

-- ---- the first field that has no bytes

-- of moments and ids
abbrev pub early_field : Manifest → Option FieldName
early_field m = if not (list_all (λ c. has_expiry c.expire_time) m.core.checkpoints) then Some ExpireTime
    else if not (list_all (λ c. has_second c.create_time) m.core.checkpoints) then Some CreateTime else if not (no_wal_ids m) then Some WalId
    else None

-- of keys, numbers and lengths
abbrev pub late_field : ℕ → Manifest → Option FieldName
late_field tables m = if not (list_all has_keys (views_of m.core)) then Some NoKeys else if m.core.next_wal_sst_id == 0 then Some NextWal else if not (are_short tables m) then Some Length else None
