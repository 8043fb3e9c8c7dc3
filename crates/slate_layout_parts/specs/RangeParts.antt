-- The bytes of ranges of keys: two bounds, each a byte for its kind, and its key.
use Rattle.std.specs.Prelude.{ℕ, ◌==◌, List, [], ◌∷◌, length, Option, Some, None, if◌then◌else◌}
use Rattle.std.specs.declared.ops.Bound.{Bound}
use Rattle.std.specs.declared.ops.Bound.TheVariants.{Included, Excluded, Unbounded}
use Rattle.slate_ids.specs.Keys.{is_ordered}
use Rattle.slate_ids.specs.KeyRange.{KeyRange}
use Rattle.slate_layout_parts.specs.Bytes.{counted_bytes, pair_bytes}
use Rattle.slate_layout_parts.specs.Reading.{◌>>=◌, byte_in, counted_in, pair_in, made_in}
use Rattle.slate_layout_parts.specs.Reads.{PairFits, MadeFits}
use Rattle.slate_layout_parts.specs.Texts.{IsShort}

-- 0 for no bound; 1 and the key that is included; 2 and the key that is excluded
abbrev pub bound_bytes : Bound (List ℕ) → List ℕ
bound_bytes Unbounded = 0 ∷ []
bound_bytes (Included key) = 1 ∷ counted_bytes key
bound_bytes (Excluded key) = 2 ∷ counted_bytes key

-- a bound at the key that was read
abbrev pub bounded_in : (List ℕ → Bound (List ℕ)) → List ℕ → Option (Bound (List ℕ) × List ℕ)
bounded_in make bytes = counted_in bytes >>= λ key. Some (make key.0, key.1)

-- what follows the kind of a bound
abbrev pub kind_in : ℕ → List ℕ → Option (Bound (List ℕ) × List ℕ)
kind_in kind bytes = if kind == 0 then Some (Unbounded, bytes) else if kind == 1 then bounded_in Included bytes else if kind == 2 then bounded_in Excluded bytes else None

abbrev pub bound_in : List ℕ → Option (Bound (List ℕ) × List ℕ)
bound_in bytes = byte_in bytes >>= λ kind. kind_in kind.0 kind.1

-- the key of a bound has 32 bits of length
abbrev pub BoundFits : Bound (List ℕ) → Type 0
BoundFits Unbounded = Unit {0}
BoundFits (Included key) = IsShort key
BoundFits (Excluded key) = IsShort key

-- the range of two bounds, where it is proper
abbrev pub range_of : Bound (List ℕ) × Bound (List ℕ) → Option KeyRange
range_of sides = if is_ordered sides.0 sides.1 then Some (record { start = sides.0; end = sides.1 }) else None

-- the bounds of a range
abbrev pub sides_of : KeyRange → Bound (List ℕ) × Bound (List ℕ)
sides_of r = (r.start, r.end)

abbrev pub range_bytes : KeyRange → List ℕ
range_bytes r = pair_bytes bound_bytes bound_bytes (sides_of r)

abbrev pub range_in : List ℕ → Option (KeyRange × List ℕ)
range_in = made_in range_of (pair_in bound_in bound_in)

abbrev pub RangeFits : KeyRange → Type 0
RangeFits = MadeFits range_of sides_of (PairFits BoundFits BoundFits)
