-- Sorted runs, and the views of one that cover a range of keys.
use Rattle.std.specs.Prelude.{◌≡◌, ◌<◌, ◌≤◌, ◌&&◌, ℕ, min, sum_by, length, Bool, true, false, List, [], ◌∷◌, slice_range, slice_index_or, if◌then◌else◌}
use Rattle.std.specs.declared.ops.Bound.{Bound}
use Rattle.std.specs.declared.ops.Bound.TheVariants.{Included, Excluded, Unbounded}
use Rattle.slate_ids.specs.Keys.{key_le}
use Rattle.slate_ids.specs.KeyRange.{KeyRange, has_key, ranges_meet}
use Rattle.slate_ids.specs.Limits.{last_number}
use Rattle.std.specs.List.{list_all}
use Rattle.slate_model_tables.specs.Tables.{is_compacted, table_size}
use Rattle.slate_model_tables.specs.Views.{View, effective_range, shows_key}

-- a run: its number and its views, in order
pub record Run : Type 0 where
  pub id : ℕ
  pub views : List View

-- about how many bytes a run has: the sum over its views, saturating
abbrev pub run_size : List View → ℕ
run_size views = min (sum_by (λ v. table_size v.sst) views) last_number

-- the last of views
abbrev pub last_of : View → List View → View
last_of v [] = v
last_of v (next ∷ views) = last_of next views

-- whether the keys from the first effective start to the last effective end meet a range; no, without views
abbrev pub spans_meet : List View → KeyRange → Bool
spans_meet [] r = false
spans_meet (v ∷ views) r = ranges_meet (record { start = (effective_range v).start; end = (effective_range (last_of v views)).end }) r

-- the range of one key
abbrev pub only_key : List ℕ → KeyRange
only_key key = record { start = Included key; end = Included key }

-- where a range ends that goes up to the start of the next: included where it has that key
abbrev pub end_at : KeyRange → Bound (List ℕ) → Bound (List ℕ)
end_at r (Included k) = if has_key r k then Included k else Excluded k
end_at r (Excluded k) = Excluded k
end_at r Unbounded = Unbounded

-- the end of the slot of a view before these: the start of the next one, and none after the last
abbrev pub slot_end : KeyRange → List View → Bound (List ℕ)
slot_end r [] = Unbounded
slot_end r (next ∷ views) = end_at r (effective_range next).start

-- the slot of a view before these: from the start of its effective range to the start of the next view's
abbrev pub slot : View → List View → KeyRange
slot v rest = record { start = (effective_range v).start; end = slot_end (effective_range v) rest }

-- the views whose slot meets a range, in order
unfoldable pub covering : KeyRange → List View → List View
covering r [] = []
covering r (v ∷ views) = if ranges_meet (slot v views) r then v ∷ covering r views else covering r views

-- whether an end is at or before the key that a start has
abbrev pub ends_by : Bound (List ℕ) → Bound (List ℕ) → Bool
ends_by (Included e) (Included s) = key_le e s
ends_by (Excluded e) (Included s) = key_le e s
ends_by (Included e) (Excluded s) = false
ends_by (Excluded e) (Excluded s) = false
ends_by (Included e) Unbounded = false
ends_by (Excluded e) Unbounded = false
ends_by Unbounded start = false

-- whether a view's effective range ends at or before the first key of the next one's
abbrev pub ends_before_next : View → List View → Bool
ends_before_next v [] = true
ends_before_next v (next ∷ views) = ends_by (effective_range v).end (effective_range next).start

-- whether views ascend, and overlap at most at a boundary key
unfoldable pub ascend : List View → Bool
ascend [] = true
ascend (v ∷ views) = ends_before_next v views && ascend views

-- whether each view shows a key
abbrev pub all_show : List View → Bool
all_show views = list_all shows_key views

-- whether each view is of a compacted table
abbrev pub all_compacted : List View → Bool
all_compacted views = list_all (λ v. is_compacted v.sst.id) views

-- whether each view shows a key and is of a compacted table, and views ascend, and overlap at most at a boundary key
abbrev pub in_order : List View → Bool
in_order views = all_show views && all_compacted views && ascend views

-- the views from one place to another are those that cover a range, and each whose effective range meets it is among them
pub record IsPartFor (views : List View) (r : KeyRange) (part : List View) : Type 0 where
  pub from : ℕ
  pub to : ℕ
  pub within : (from ≤ to) × (to ≤ length views)
  pub is : part ≡ slice_range views from to
  pub effective : (k : ℕ) (d : View) → k < length views → ranges_meet (effective_range (slice_index_or views k d)) r ≡ true → (from ≤ k) × (k < to)
