-- The bytes of a boundary are read back.
use Rattle.std.proofs.Common.{◌≡◌, ◌<◌, ℕ, ◌^◌, Option, Ok, ap}
use Rattle.std.specs.Prelude.{decimal, ok_or}
use Rattle.slate_ids.proofs.DecimalTexts.{decimal_back}
use Rattle.slate_ids.specs.declared.error.SlateDBError.TheVariants.{Corrupt}
use Rattle.slate_ids.specs.declared.error.FormatName.TheVariants.{Boundary}
use Rattle.slate_layout.specs.BoundaryCodec.{decoded_boundary}

pub boundary_back : (n : ℕ) → n < 2 ^ 64 → decoded_boundary (decimal n) ≡ Ok n
boundary_back n small = ap (λ (o : Option ℕ). ok_or o (Corrupt Boundary)) (decimal_back n small)
