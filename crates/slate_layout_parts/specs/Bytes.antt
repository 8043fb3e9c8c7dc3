-- The bytes of numbers, flags, texts, options and lists.
use Rattle.std.specs.Prelude.{◌^◌, ℕ, ℤ, pos, negsuc, nat_lt, ◌++◌, Bool, true, false, List, [], ◌∷◌, length, Option, Some, None}
use Rattle.std.specs.Int.{w16, w32, w64, to_be_bytes, cast_unsigned}
use Rattle.std.specs.List.{flat_map}

-- whether a number has 64 bits
abbrev pub is_u64 : ℕ → Bool
is_u64 n = nat_lt n (2 ^ 64)

-- whether a signed number has 64 bits
abbrev pub is_i64 : ℤ → Bool
is_i64 (pos n) = nat_lt n (2 ^ 63)
is_i64 (negsuc n) = nat_lt n (2 ^ 63)

-- a byte
abbrev pub byte_bytes : ℕ → List ℕ
byte_bytes n = n ∷ []

-- two bytes, the highest first
unfoldable pub u16_bytes : ℕ → List ℕ
u16_bytes n = to_be_bytes w16 n

-- four bytes, the highest first
unfoldable pub u32_bytes : ℕ → List ℕ
u32_bytes n = to_be_bytes w32 n

-- eight bytes, the highest first
unfoldable pub u64_bytes : ℕ → List ℕ
u64_bytes n = to_be_bytes w64 n

-- the same of a signed number, in two's complement
abbrev pub i64_bytes : ℤ → List ℕ
i64_bytes z = u64_bytes (cast_unsigned w64 z)

-- one byte, 1 for yes
abbrev pub flag_bytes : Bool → List ℕ
flag_bytes false = 0 ∷ []
flag_bytes true = 1 ∷ []

-- a length, and the bytes
abbrev pub counted_bytes : List ℕ → List ℕ
counted_bytes bytes = u32_bytes (length bytes) ++ bytes

-- 0, or 1 and the bytes of the value
abbrev pub option_bytes : {X : Type 0} → (X → List ℕ) → Option X → List ℕ
option_bytes write None = flag_bytes false
option_bytes write (Some x) = flag_bytes true ++ write x

-- a count, and the bytes of each value
abbrev pub list_bytes : {X : Type 0} → (X → List ℕ) → List X → List ℕ
list_bytes write xs = u32_bytes (length xs) ++ flat_map write xs

-- the bytes of one value after the other's
abbrev pub pair_bytes : {X Y : Type 0} → (X → List ℕ) → (Y → List ℕ) → X × Y → List ℕ
pair_bytes write next p = write p.0 ++ next p.1
