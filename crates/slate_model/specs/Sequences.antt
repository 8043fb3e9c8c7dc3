-- Moments of sequence numbers: pairs of a number and a moment in milliseconds.
use Rattle.std.specs.Prelude.{◌≡◌, ◌≤◌, ◌&&◌, ◌^◌, ◌++◌, ℕ, ℤ, pos, negsuc, nat_lt, nat_le, int_le, Bool, true, List, [], ◌∷◌, length, drop, filter, Option, Some, None, if◌then◌else◌}
use Rattle.std.specs.List.{last_or, find, list_all}
use Rattle.std.specs.Option.{option_map}
use Rattle.slate_model.specs.declared.find_option.FindOption.{FindOption}
use Rattle.slate_model.specs.declared.find_option.FindOption.TheVariants.{RoundUp, RoundDown}

-- whether a pair comes after another: its number is greater, and its moment isn't lower
abbrev pub is_after : ℕ × ℤ → ℕ × ℤ → Bool
is_after last pair = nat_lt last.0 pair.0 && int_le last.1 pair.1

-- whether a pair may be the next: it comes after the last one, where there is one
abbrev pub may_follow : Option (ℕ × ℤ) → ℕ × ℤ → Bool
may_follow None pair = true
may_follow (Some last) pair = is_after last pair

-- whether each pair may follow the one before it
abbrev pub follows : Option (ℕ × ℤ) → List (ℕ × ℤ) → Bool
follows last [] = true
follows last (pair ∷ pairs) = may_follow last pair && follows (Some pair) pairs

-- whether the numbers ascend strictly and the moments don't descend
abbrev pub in_order : List (ℕ × ℤ) → Bool
in_order pairs = follows None pairs

-- whether a tracker may keep the pairs: they are in order, and at most 4,096
abbrev pub is_kept : List (ℕ × ℤ) → Bool
is_kept pairs = nat_le (length pairs) 4096 && in_order pairs

-- a signed number of 64 bits
abbrev pub is_moment : ℤ → Bool
is_moment (pos n) = nat_lt n (2 ^ 63)
is_moment (negsuc n) = nat_lt n (2 ^ 63)

-- a pair of 64-bit numbers
abbrev pub is_pair : ℕ × ℤ → Bool
is_pair pair = nat_lt pair.0 (2 ^ 64) && is_moment pair.1

-- what a tracker keeps: pairs of 64-bit numbers, the sequence numbers strictly ascending and the moments not descending, at most 4,096
pub record IsTracker (pairs : List (ℕ × ℤ)) : Type 0 where
  pub ordered : in_order pairs ≡ true
  pub few : length pairs ≤ 4096
  pub fit : list_all is_pair pairs ≡ true

-- with room for one more: of 4,096 the oldest goes
abbrev pub with_room : List (ℕ × ℤ) → List (ℕ × ℤ)
with_room pairs = if nat_lt (length pairs) 4096 then pairs else drop 1 pairs

-- with one pair more at the end, where it may follow the last one
abbrev pub inserted : List (ℕ × ℤ) → ℕ × ℤ → List (ℕ × ℤ)
inserted pairs pair = if may_follow (last_or None pairs) pair then with_room pairs ++ pair ∷ [] else pairs

-- the last pair whose number isn't above this one
abbrev pub last_to_seq : List (ℕ × ℤ) → ℕ → Option (ℕ × ℤ)
last_to_seq pairs seq = last_or None (filter (λ pair. nat_le pair.0 seq) pairs)

-- the first pair whose number isn't below this one
abbrev pub first_from_seq : List (ℕ × ℤ) → ℕ → Option (ℕ × ℤ)
first_from_seq pairs seq = find (λ pair. nat_le seq pair.0) pairs

-- the last pair whose moment isn't above this one
abbrev pub last_to_ts : List (ℕ × ℤ) → ℤ → Option (ℕ × ℤ)
last_to_ts pairs ts = last_or None (filter (λ pair. int_le pair.1 ts) pairs)

-- the first pair whose moment isn't below this one
abbrev pub first_from_ts : List (ℕ × ℤ) → ℤ → Option (ℕ × ℤ)
first_from_ts pairs ts = find (λ pair. int_le ts pair.1) pairs

-- the moment of a number: rounded down, of the last pair not above; rounded up, of the first pair not below
abbrev pub ts_of : List (ℕ × ℤ) → ℕ → FindOption → Option ℤ
ts_of pairs seq RoundDown = option_map (λ pair. pair.1) (last_to_seq pairs seq)
ts_of pairs seq RoundUp = option_map (λ pair. pair.1) (first_from_seq pairs seq)

-- the number of a moment, likewise
abbrev pub seq_of : List (ℕ × ℤ) → ℤ → FindOption → Option ℕ
seq_of pairs ts RoundDown = option_map (λ pair. pair.0) (last_to_ts pairs ts)
seq_of pairs ts RoundUp = option_map (λ pair. pair.0) (first_from_ts pairs ts)
