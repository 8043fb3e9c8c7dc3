-- From where to where the keys of segments go, against a range of keys.
use Rattle.std.specs.Prelude.{ℕ, ◌<◌, ◌^◌, All, ◌||◌, Bool, false, not, List}
use Rattle.std.specs.declared.ops.Bound.{Bound}
use Rattle.std.specs.declared.ops.Bound.TheVariants.{Included, Excluded, Unbounded}
use Rattle.slate_ids.specs.Keys.{key_lt, is_ordered, begins_with}
use Rattle.slate_model.specs.Segments.{Prefixed}

-- whether the keys of a segment start before the end of a range, or at it
abbrev pub starts_by : Bound (List ℕ) → Prefixed → Bool
starts_by end s = is_ordered (Included s.prefix) end

-- whether all keys of a segment stand before a key: its prefix does, and the key doesn't begin with it
abbrev pub stands_before : List ℕ → Prefixed → Bool
stands_before key s = not (key_lt key s.prefix || begins_with s.prefix key)

-- whether all keys of a segment stand before the start of a range
abbrev pub is_over : Bound (List ℕ) → Prefixed → Bool
is_over (Included key) s = stands_before key s
is_over (Excluded key) s = stands_before key s
is_over Unbounded s = false

-- whether the start of a range is of bytes
abbrev pub StartsWithBytes : Bound (List ℕ) → Type 0
StartsWithBytes (Included key) = All (λ b. b < 2 ^ 8) key
StartsWithBytes (Excluded key) = All (λ b. b < 2 ^ 8) key
StartsWithBytes Unbounded = Unit {0}
