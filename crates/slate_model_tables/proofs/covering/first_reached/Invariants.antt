use Rattle.std.proofs.Common.{◌≡◌, ◌<◌, ◌≤◌, ◌-◌, ℕ, length, true, false}
use Rattle.slate_ids.specs.Keys.{is_ordered}
use Rattle.slate_model_tables.specs.Slots.{slot_at}
use Rattle.slate_model_tables.proofs.covering.first_reached.Given as goal

-- the range starts past the slots below `low`, and in or before those from `high` on
abbrev pub invariant-loop-low : goal.invariant-loop-low
invariant-loop-low l = record {
  ordered : l.low ≤ l.high;
  within : l.high ≤ length l.views;
  passed : (i : ℕ) → i < l.low → is_ordered l.range.start (slot_at l.views i).end ≡ false;
  reached : (i : ℕ) → l.high ≤ i → i < length l.views → is_ordered l.range.start (slot_at l.views i).end ≡ true;
}

abbrev pub decreases-loop-low : goal.decreases-loop-low
decreases-loop-low l = l.high - l.low
