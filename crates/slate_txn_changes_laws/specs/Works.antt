-- Changes of a log that are put after the version read, and that refuse for no reason from outside.
use Rattle.std.specs.Prelude.{◌≡◌, ◌<◌, ◌+◌, ◌^◌, ℕ, ℤ, false, List, Option, Some, None, Result, Ok, Err}
use Rattle.slate_txn_laws.specs.Outside.{is_outside}
use Rattle.slate_ids.specs.declared.error.SlateDBError.{SlateDBError}
use Rattle.slate_txn_log.specs.declared.commit_phase.CommitPhase.{CommitPhase}
use Rattle.slate_txn_log.specs.declared.commit_phase.CommitPhase.TheVariants.{Putting}

-- the result is no refusal that others or the store cause
abbrev pub IsInside : {X : Type 0} → Result X SlateDBError → Type 0
IsInside (Ok x) = Unit {0}
IsInside (Err e) = is_outside e ≡ false

-- the put of this value's bytes at the next number, which there is
pub record IsNext {V : Type 0} (n : ℕ) (phase : CommitPhase V) : Type 0 where
  pub bytes : List ℕ
  pub value : V
  pub puts : phase ≡ Putting (n + 1) bytes value
  pub fits : n + 1 < 2 ^ 64

-- a commit that is a put at the next number, or none; or why there is none, which comes from inside
abbrev pub MayPut : {V : Type 0} → ℕ → Result (Option (CommitPhase V)) SlateDBError → Type 0
MayPut n (Ok (Some phase)) = IsNext n phase
MayPut n (Ok None) = Unit {0}
MayPut n (Err e) = is_outside e ≡ false

-- neither what reads a value nor a change refuses as others or the store do, and what the change makes of a version is put at the next number
pub record PlainWork {V : Type 0} (decoded : List ℕ → Result V SlateDBError) (commit : ℤ → ℕ → V → Result (Option (CommitPhase V)) SlateDBError) : Type 0 where
  pub reads : (bytes : List ℕ) → IsInside (decoded bytes)
  pub makes : (now : ℤ) (n : ℕ) (value : V) → n < 2 ^ 64 → MayPut n (commit now n value)
