-- The numbers of ranges of files, as spans that are searched by halves.
use Rattle.std.specs.Prelude.{◌≡◌, ◌<◌, ◌^◌, ◌&&◌, ℕ, max, nat_le, Bool, true, false, List, [], ◌∷◌, Option, Some, None}
use Rattle.std.specs.List.{list_any}
use Rattle.std.specs.List.Sorted.{IsNonDecreasingBy}
use Rattle.slate_ids.specs.Ranges.{is_within}
use Rattle.slate_ids.specs.declared.number_range.NumberRange.{NumberRange}
use Rattle.slate_gc_picks.specs.declared.wal_cover.WalSpan.{WalSpan}

-- the numbers from a first to a last one
abbrev pub Span : Type 0
Span = WalSpan

-- whether a number is at or past a first one, where there is one
abbrev pub is_from : Option ℕ → ℕ → Bool
is_from None n = false
is_from (Some first) n = nat_le first n

-- whether a number is at or before a last one, where there is one
abbrev pub is_to : Option ℕ → ℕ → Bool
is_to None n = false
is_to (Some last) n = nat_le n last

-- whether a span has a number
abbrev pub is_spanned : ℕ → Span → Bool
is_spanned n s = nat_le s.first n && nat_le n s.last

-- the spans have the numbers of the ranges
abbrev pub HasNumbers : List Span → List NumberRange → Type 0
HasNumbers spans ranges = (n : ℕ) → n < 2 ^ 64 → list_any (is_spanned n) spans ≡ list_any (λ r. is_within r n) ranges

-- spans of which each ends no earlier than those before it, nor than a number
abbrev pub raised : ℕ → List Span → List Span
raised last [] = []
raised last (s ∷ ss) = record { first = s.first; last = max s.last last } ∷ raised (max s.last last) ss

-- the spans have the numbers of the ranges, and neither their first nor their last numbers fall
pub record Covers (spans : List Span) (ranges : List NumberRange) : Type 0 where
  pub firsts : IsNonDecreasingBy (λ (s : Span). s.first) spans
  pub lasts : IsNonDecreasingBy (λ (s : Span). s.last) spans
  pub numbers : HasNumbers spans ranges
