-- The slots of a run's views, by their places.
use Rattle.std.specs.Prelude.{◌≡◌, ◌<◌, ◌≤◌, ℕ, zero, suc, true, false, List, [], ◌∷◌, length}
use Rattle.std.specs.List.{AllWithin}
use Rattle.slate_ids.specs.Keys.{is_ordered}
use Rattle.slate_ids.specs.KeyRange.{KeyRange, no_keys}
use Rattle.slate_model_tables.specs.Views.{View, effective_range}
use Rattle.slate_model_tables.specs.SortedRuns.{slot}

-- the slot of the view at a place
unfoldable pub slot_at : List View → ℕ → KeyRange
slot_at [] i = no_keys
slot_at (v ∷ views) zero = slot v views
slot_at (v ∷ views) (suc i) = slot_at views i

-- the views below one place start in a range or before it; the range starts in or before the slots from another place on
pub record Ends (views : List View) (r : KeyRange) (from to : ℕ) : Type 0 where
  pub within : to ≤ length views
  pub started : AllWithin (λ (v : View). is_ordered (effective_range v).start r.end ≡ true) views 0 to
  pub not_started : AllWithin (λ (v : View). is_ordered (effective_range v).start r.end ≡ false) views to (length views)
  pub passed : (i : ℕ) → i < from → is_ordered r.start (slot_at views i).end ≡ false
  pub reached : (i : ℕ) → from ≤ i → i < length views → is_ordered r.start (slot_at views i).end ≡ true
