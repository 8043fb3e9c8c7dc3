-- The boundary of a log, as bytes: the decimal text of its number, and nothing else.
use Rattle.std.specs.Prelude.{◌≡◌, ◌<◌, ◌^◌, ℕ, List, Result, ok_or, decimal}
use Rattle.slate_ids.specs.declared.error.SlateDBError.{SlateDBError}
use Rattle.slate_ids.specs.declared.error.SlateDBError.TheVariants.{Corrupt}
use Rattle.slate_ids.specs.declared.error.FormatName.TheVariants.{Boundary}
use Rattle.slate_txn_log.specs.Boundary.{boundary_of}

-- the boundary of bytes
abbrev pub decoded_boundary : List ℕ → Result ℕ SlateDBError
decoded_boundary bytes = ok_or (boundary_of bytes) (Corrupt Boundary)

-- the bytes are the decimal text of the number, which has 64 bits
abbrev pub IsWritten : ℕ → List ℕ → Type 0
IsWritten number bytes = (bytes ≡ decimal number) × (number < 2 ^ 64)
