-- Ids by their two numbers: milliseconds, and a tail.
use Rattle.std.specs.Prelude.{ℕ, ◌^◌, ◌==◌, ◌&&◌, ◌||◌, nat_lt, Bool}
use Rattle.std.specs.Ordering.{nat_cmp, ordering_then}
use Rattle.std.specs.declared.cmp.Ordering.{Ordering}

-- whether two numbers are an id: 48 bits of milliseconds and 80 of the tail
abbrev pub is_id : ℕ × ℕ → Bool
is_id id = nat_lt id.0 (2 ^ 48) && nat_lt id.1 (2 ^ 80)

-- whether two ids are one
abbrev pub same_id : ℕ × ℕ → ℕ × ℕ → Bool
same_id a b = (a.0 == b.0) && (a.1 == b.1)

-- whether an id is before another: by milliseconds, then by tail
abbrev pub id_lt : ℕ × ℕ → ℕ × ℕ → Bool
id_lt a b = nat_lt a.0 b.0 || ((a.0 == b.0) && nat_lt a.1 b.1)

-- the order of ids
abbrev pub id_cmp : ℕ × ℕ → ℕ × ℕ → Ordering
id_cmp a b = ordering_then (nat_cmp a.0 b.0) (nat_cmp a.1 b.1)
