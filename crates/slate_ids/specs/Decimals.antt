-- Numbers in decimal, as they are read.
use Rattle.std.specs.Prelude.{◌≡◌, ◌≢◌, ◌<◌, ℕ, ◌+◌, ◌-◌, ◌*◌, ◌^◌, ◌&&◌, ◌==◌, nat_le, nat_lt, List, [], ◌∷◌, length, slice_index, Option, Some, None, if◌then◌else◌, decimal}

-- the number that the digits go on to, where it stays below the limit
abbrev pub digits_from : ℕ → ℕ → List ℕ → Option ℕ
digits_from limit n [] = Some n
digits_from limit n (c ∷ cs) = if nat_le 48 c && nat_le c 57 && nat_lt (n * 10 + (c - 48)) limit then digits_from limit (n * 10 + (c - 48)) cs else None

-- the number that one or more digits write, where it is below the limit; zeros may lead
abbrev pub number_below : ℕ → List ℕ → Option ℕ
number_below limit s = if length s == 0 then None else digits_from limit 0 s

-- the number that bytes write in decimal, without a leading zero and below 2^64
abbrev pub decimal_of : List ℕ → Option ℕ
decimal_of bytes = if (slice_index bytes 0 == 48) && nat_lt 1 (length bytes) then None else number_below (2 ^ 64) bytes

-- exactly the decimal texts of numbers below 2^64 are read, each as its number
abbrev pub ReadsDecimal : List ℕ → Option ℕ → Type 0
ReadsDecimal bytes (Some n) = (bytes ≡ decimal n) × (n < 2 ^ 64)
ReadsDecimal bytes None = (n : ℕ) → n < 2 ^ 64 → bytes ≢ decimal n
