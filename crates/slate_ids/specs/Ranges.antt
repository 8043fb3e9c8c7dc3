-- Ranges of numbers.
use Rattle.std.specs.Prelude.{ℕ, Bool, true, ◌&&◌, nat_lt, nat_le}
use Rattle.std.specs.declared.ops.Bound.{Bound}
use Rattle.std.specs.declared.ops.Bound.TheVariants.{Included, Excluded, Unbounded}
use Rattle.slate_ids.specs.declared.number_range.NumberRange.{NumberRange}

-- whether a number is at or past a start
abbrev pub is_above : Bound ℕ → ℕ → Bool
is_above (Included n) k = nat_le n k
is_above (Excluded n) k = nat_lt n k
is_above Unbounded k = true

-- whether a number is at or before an end
abbrev pub is_below : Bound ℕ → ℕ → Bool
is_below (Included n) k = nat_le k n
is_below (Excluded n) k = nat_lt k n
is_below Unbounded k = true

-- whether a number is in a range
abbrev pub is_within : NumberRange → ℕ → Bool
is_within r k = is_above r.start k && is_below r.end k
