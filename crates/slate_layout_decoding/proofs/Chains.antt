-- A test of what was read, and what follows it.
use Rattle.std.specs.Prelude.{◌≡◌, Bool, true, false, Option, Some, None, if◌then◌else◌}
use Rattle.std.proofs.Common.{ap, sym}

-- what follows from a value that passed the test
pub passed : {X Y : Type 0} (b : Bool) (x y : X) (next : X → Option Y) → (if b then Some x else None) ≡ Some y → next y ≡ (if b then next x else None)
passed true x y next e = let same : x ≡ y = cc in sym (ap next same)
passed false x y next e = absurd cc
