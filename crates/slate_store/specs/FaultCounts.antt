-- Counts of faults that are kept in 64 bits, and ends of bytes in memory.
use Rattle.std.specs.Prelude.{◌≡◌, ℕ, ◌<◌, ◌≤◌, ◌==◌, Bool, List, Result, MatchResult}
use Rattle.std.specs.List.{list_any}
use Rattle.slate_ids.specs.Limits.{next_count}

-- a count in 64 bits rose, or stands at its end
abbrev pub Rose : ℕ → ℕ → Type 0
Rose before now = next_count before ≤ now

-- a call counts its fault, and nothing else
abbrev pub CountsFault : {T E : Type 0} → Result T E → ℕ → ℕ → Type 0
CountsFault r before now = MatchResult r (λ _. now ≡ before) (λ _. Rose before now)

-- a write counts its fault, and that it took nothing of a piece that has bytes
abbrev pub CountsWrite : {E : Type 0} → Result ℕ E → ℕ → ℕ → ℕ → Type 0
CountsWrite r len before now = MatchResult r (λ n. (0 < n → now ≡ before) × (len ≡ 0 → now ≡ before) × (n ≡ 0 → 0 < len → Rose before now)) (λ _. Rose before now)

-- an end in memory: the bytes left to read, or written so far; the numbers of the calls that fail, counted from 0; how
-- many calls were made, and how many failed
pub record MemoryEnd : Type 0 where
  pub bytes : List ℕ
  pub fails : List ℕ
  pub calls : ℕ
  pub faults : ℕ

-- whether the next call is one of those that fail
abbrev pub fails_next : MemoryEnd → Bool
fails_next e = list_any (λ n. n == e.calls) e.fails
