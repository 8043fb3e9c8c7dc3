-- What a log is generic over: the two directions of its codec, and its rules.
use Rattle.std.specs.Prelude.{ℕ, List, Option, Result}
use Rattle.slate_ids.specs.declared.error.SlateDBError.{SlateDBError}
use Rattle.slate_txn_log.specs.declared.right.Right.{Right}

-- what a codec reads of bytes
abbrev pub Decoding : Type 0 → Type 0 → Type 0
Decoding C T = C → List ℕ → Result T SlateDBError

-- the bytes that a codec makes of a value
abbrev pub Encoding : Type 0 → Type 0 → Type 0
Encoding C T = C → T → Result (List ℕ) SlateDBError

-- why rules refuse a value after the version of a number, under a right
abbrev pub Refusing : Type 0 → Type 0 → Type 0
Refusing R T = R → ℕ → T → T → Right → Option SlateDBError
