-- Views of tables, and the keys that they show.
use Rattle.std.specs.Prelude.{◌≡◌, ◌<◌, ◌^◌, ℕ, List, Bool, true, false, Option, Some, None, is_some, if◌then◌else◌}
use Rattle.std.specs.declared.ops.Bound.{Bound}
use Rattle.std.specs.declared.ops.Bound.TheVariants.{Included, Excluded, Unbounded}
use Rattle.slate_ids.specs.Keys.{is_up_to}
use Rattle.slate_ids.specs.KeyRange.{KeyRange, has_key, common, ranges_meet, intersection}
use Rattle.slate_model_tables.specs.declared.ss_table_id.SsTableId.{SsTableId}
use Rattle.slate_model_tables.specs.declared.ss_table_id.SsTableId.TheVariants.{Wal, Compacted}
use Rattle.slate_model_tables.specs.declared.ss_table_handle.SsTableHandle.{SsTableHandle}
use Rattle.slate_model_tables.specs.Tables.{physical_range}

-- a view: its id, its table, and the keys that are visible, where not all are
pub record View : Type 0 where
  pub id : ℕ × ℕ
  pub sst : SsTableHandle
  pub visible : Option KeyRange

-- the id of a table's own view: the table's, or its number and a tail of 0
abbrev pub own_id : SsTableId → ℕ × ℕ
own_id (Wal number) = (number, 0)
own_id (Compacted id) = id

-- a number that milliseconds have room for
abbrev pub FitsId : SsTableId → Type 0
FitsId (Wal number) = number < 2 ^ 48
FitsId (Compacted id) = Unit {0}

-- whether a visible range starts at a key or is open there
abbrev pub starts_with_key : Bound (List ℕ) → Bool
starts_with_key (Included k) = true
starts_with_key (Excluded k) = false
starts_with_key Unbounded = true

-- what is visible of a table, where not all is: it starts at a key or is open, and meets the physical range of a table with entries
pub record IsProjection (sst : SsTableHandle) (visible : KeyRange) : Type 0 where
  pub entries : is_some sst.info.first_entry ≡ true
  pub start : starts_with_key visible.start ≡ true
  pub meets : ranges_meet (physical_range sst) visible ≡ true

-- what a view may show of a table
abbrev pub MayShow : SsTableHandle → Option KeyRange → Type 0
MayShow sst None = Unit {0}
MayShow sst (Some visible) = IsProjection sst visible

-- a range met with what is visible, where not all is
abbrev pub seen_in : KeyRange → Option KeyRange → KeyRange
seen_in range None = range
seen_in range (Some visible) = common range visible

-- the effective range of a view: the physical range met with the visible one, or the physical range
abbrev pub effective_range : View → KeyRange
effective_range v = seen_in (physical_range v.sst) v.visible

-- a range met with the visible range, or else, where a last entry is known, with the effective range, or else as it is
abbrev pub view_range : View → KeyRange → Option KeyRange → Option KeyRange
view_range v range (Some visible) = intersection range visible
view_range v range None = if is_some v.sst.info.last_entry then intersection range (effective_range v) else Some range

-- the view with a visible range, where that meets the physical range
abbrev pub projected : View → KeyRange → Option View
projected v visible = if ranges_meet (physical_range v.sst) visible then Some (record { id = v.id; sst = v.sst; visible = Some visible }) else None

-- whether a range has its first key
abbrev pub has_first_key : Bound (List ℕ) → Bound (List ℕ) → Bool
has_first_key (Included k) end = is_up_to end k
has_first_key (Excluded k) end = false
has_first_key Unbounded end = false

-- whether a view shows a key: it shows the one that it starts at
abbrev pub shows_key : View → Bool
shows_key v = has_first_key (effective_range v).start (effective_range v).end

-- a range has a key
abbrev pub HasKey : KeyRange → Type 0
HasKey r = (key : List ℕ) × (has_key r key ≡ true)
