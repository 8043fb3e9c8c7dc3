-- Values of their types: numbers have their bits, texts are UTF-8, views show what a view may show.
use Rattle.std.specs.Prelude.{ℕ, ◌^◌, ◌==◌, ◌&&◌, nat_lt, Bool, true, List, length, Option, Some, None}
use Rattle.std.specs.Str.{is_utf8}
use Rattle.slate_ids.specs.Ids.{is_db_path}
use Rattle.slate_ids.specs.Ulids.{is_id}
use Rattle.slate_model_tables.specs.declared.ss_table_id.SsTableId.{SsTableId}
use Rattle.slate_model_tables.specs.declared.ss_table_info.SsTableInfo.{SsTableInfo}
use Rattle.slate_model_tables.specs.declared.ss_table_handle.SsTableHandle.{SsTableHandle}
use Rattle.slate_layout_parts.specs.TablesOfViews.{table_id}
use Rattle.slate_layout_parts.specs.Bytes.{is_u64}
use Rattle.slate_layout_parts.specs.InfoParts.{Places, parts_of}
use Rattle.std.specs.List.{list_all}
use Rattle.slate_ids.specs.KeyRange.{KeyRange, is_proper, ranges_meet}
use Rattle.slate_model_tables.specs.Tables.{physical_range}
use Rattle.slate_model_tables.specs.Views.{View, starts_with_key}
use Rattle.slate_model_tables.specs.SortedRuns.{Run}

-- ---- groups

-- a value of which nothing is asked
abbrev pub any : {X : Type 0} → X → Bool
any x = true

-- both pass
abbrev pub both : {X Y : Type 0} → (X → Bool) → (Y → Bool) → X × Y → Bool
both test next p = test p.0 && next p.1

-- no value, or one that passes
abbrev pub none_or : {X : Type 0} → (X → Bool) → Option X → Bool
none_or test None = true
none_or test (Some x) = test x

-- ---- numbers and ids

-- a number of 16 bits
abbrev pub is_u16 : ℕ → Bool
is_u16 n = nat_lt n (2 ^ 16)

-- a number of 32 bits
abbrev pub is_u32 : ℕ → Bool
is_u32 n = nat_lt n (2 ^ 32)

-- sixteen bytes
abbrev pub is_sixteen : List ℕ → Bool
is_sixteen bytes = length bytes == 16

-- the letters of a database's path
abbrev pub is_path : List ℕ → Bool
is_path letters = is_utf8 letters && is_db_path letters

-- two numbers of 64 bits
abbrev pub are_two : ℕ × ℕ → Bool
are_two = both is_u64 is_u64

-- ---- tables

-- where the parts of a table lie
abbrev pub are_places : Places → Bool
are_places = both (both are_two are_two) (both (both any any) (both are_two any))

abbrev pub is_info : SsTableInfo → Bool
is_info i = are_places (parts_of i).1

abbrev pub is_handle : SsTableHandle → Bool
is_handle h = is_id (table_id h.id) && (is_u16 h.format_version && is_info h.info)

abbrev pub is_table : SsTableId → Bool
is_table t = is_id (table_id t)

-- ---- views and runs

-- whether a proper range that starts at a key or is open there meets the physical range of a table, where not all of it is visible
abbrev pub is_shown : SsTableHandle → Option KeyRange → Bool
is_shown h None = true
is_shown h (Some r) = is_proper r && (starts_with_key r.start && ranges_meet (physical_range h) r)

abbrev pub is_view : View → Bool
is_view v = is_id v.id && (is_table v.sst.id && is_shown v.sst v.visible)

abbrev pub is_run : Run → Bool
is_run r = is_u32 r.id && list_all is_view r.views
