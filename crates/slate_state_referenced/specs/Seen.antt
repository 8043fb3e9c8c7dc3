-- Numbers as a set beside the list of them.
use Rattle.std.specs.Prelude.{◌≡◌, ℕ, List}
use Rattle.std.specs.BTreeSet.{BTreeSet, contains}
use Rattle.std.specs.Ordering.{nat_cmp}
use Rattle.slate_state_referenced.specs.Named.{has_number}

-- the set has exactly the numbers of the list
abbrev pub IsSeen : BTreeSet ℕ → List ℕ → Type 0
IsSeen seen kept = (n : ℕ) → contains nat_cmp seen n ≡ has_number n kept
