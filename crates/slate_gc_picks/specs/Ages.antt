-- The ages of objects.
use Rattle.std.specs.Prelude.{ℕ, ℤ, pos, ◌-ℤ◌, int_lt, Bool, List, filter}
use Rattle.std.specs.Int.{w64, saturate_signed}
use Rattle.slate_store.specs.declared.object.ObjectMetadata.{ObjectMetadata}

-- the age at a moment, which saturates at 64 bits, is strictly above the least one, in milliseconds
abbrev pub is_aged : ℕ → ℤ → ℤ → Bool
is_aged min_age now modified = int_lt (pos min_age) (saturate_signed w64 (now -ℤ modified))

-- the listed objects that are aged
abbrev pub aged : ℕ → ℤ → List ObjectMetadata → List ObjectMetadata
aged min_age now found = filter (λ m. is_aged min_age now m.last_modified) found
