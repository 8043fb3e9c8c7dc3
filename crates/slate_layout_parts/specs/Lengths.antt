-- Lengths of 32 bits.
use Rattle.std.specs.Prelude.{ℕ, ◌^◌, ◌&&◌, nat_lt, Bool, true, List, length, Option, Some, None}
use Rattle.std.specs.declared.ops.Bound.{Bound}
use Rattle.std.specs.declared.ops.Bound.TheVariants.{Included, Excluded, Unbounded}
use Rattle.slate_ids.specs.KeyRange.{KeyRange}

-- whether a length has 32 bits
abbrev pub few : ℕ → Bool
few n = nat_lt n (2 ^ 32)

-- whether a bound's key is short
abbrev pub short_bound : Bound (List ℕ) → Bool
short_bound Unbounded = true
short_bound (Included key) = few (length key)
short_bound (Excluded key) = few (length key)

abbrev pub short_range : Option KeyRange → Bool
short_range None = true
short_range (Some r) = short_bound r.start && short_bound r.end
