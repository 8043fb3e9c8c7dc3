-- Ids and names.
use Rattle.std.specs.Prelude.{ℕ, ◌&&◌, ◌||◌, ◌==◌, nat_lt, nat_le, Bool, List, length}
use Rattle.std.specs.List.{list_all}
use Rattle.std.specs.Int.{w128, to_be_bytes}

-- a to z, 0 to 9, `_` or `-`
abbrev pub is_path_char : ℕ → Bool
is_path_char c = (nat_le 97 c && nat_le c 122) || (nat_le 48 c && nat_le c 57) || (c == 95) || (c == 45)

-- the name of a database: 1 to 64 such characters
abbrev pub is_db_path : List ℕ → Bool
is_db_path s = nat_lt 0 (length s) && nat_le (length s) 64 && list_all is_path_char s

-- the checkpoint id of a number: its sixteen bytes
abbrev pub checkpoint_of : ℕ → List ℕ
checkpoint_of n = to_be_bytes w128 n
