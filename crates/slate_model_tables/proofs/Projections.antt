-- A range that meets the keys of a table may be shown of it.
use Rattle.std.specs.Prelude.{ℕ, List, true, ◌&&◌, Option, Some, None, is_some}
use Rattle.std.proofs.Common.{◌≡◌, refl, sym, ◌∙◌, subst}
use Rattle.slate_ids.specs.Keys.{is_ordered}
use Rattle.slate_ids.specs.KeyRange.{KeyRange, is_proper, ranges_meet}
use Rattle.slate_model_tables.specs.declared.ss_table_handle.SsTableHandle.{SsTableHandle}
use Rattle.slate_model_tables.specs.Tables.{keys_between, physical_range}
use Rattle.slate_model_tables.specs.Views.{starts_with_key, IsProjection}

-- that two ranges meet, by their sides
abbrev pub Sides : KeyRange → KeyRange → Type 0
Sides a b = ranges_meet a b ≡ (is_proper a && is_proper b && is_ordered a.start b.end && is_ordered b.start a.end)

-- a table without a first entry meets nothing
has_entries : (first last : Option (List ℕ)) (r : KeyRange) → Sides (keys_between first last) r → ranges_meet (keys_between first last) r ≡ true → is_some first ≡ true
unfolding is_ordered
has_entries None last r sides h = sym sides ∙ h
has_entries (Some k) last r sides h = refl

pub projection_of : (sst t : SsTableHandle) (r : KeyRange) → t ≡ sst → starts_with_key r.start ≡ true → Sides (physical_range sst) r → ranges_meet (physical_range sst) r ≡ true → IsProjection t r
projection_of sst t r e s sides h = subst (λ (x : SsTableHandle). IsProjection x r) (sym e) (record { entries = has_entries sst.info.first_entry sst.info.last_entry r sides h; start = s; meets = h })
