-- Numbers and counts in 64 bits.
use Rattle.std.specs.Prelude.{ℕ, ◌+◌, min}

-- the greatest number of 64 bits
abbrev pub last_number : ℕ
last_number = 18446744073709551615

-- a count after one more, which stops at the greatest number
abbrev pub next_count : ℕ → ℕ
next_count n = min (n + 1) last_number
