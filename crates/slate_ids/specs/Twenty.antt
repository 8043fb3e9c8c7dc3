-- Numbers in the names of objects.
use Rattle.std.specs.Prelude.{ℕ, ◌-◌, List, ◌++◌, length, replicate, decimal}

-- twenty digits, with leading zeros
unfoldable pub twenty : ℕ → List ℕ
twenty n = replicate (20 - length (decimal n)) 48 ++ decimal n
