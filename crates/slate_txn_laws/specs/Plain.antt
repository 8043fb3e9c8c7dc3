-- Refusals of a value for what it is.
use Rattle.std.specs.Prelude.{◌≡◌, ◌≢◌, ℕ, Bool, true, false, List, Option, Some, None, Result, Ok, Err}
use Rattle.slate_ids.specs.declared.error.SlateDBError.{SlateDBError}
use Rattle.slate_ids.specs.declared.error.SlateDBError.TheVariants.{StoreFault, Fenced, TransactionalObjectVersionExists, Contended}
use Rattle.slate_txn.specs.Apply.{ways_of, FaultFree}
use Rattle.slate_txn.specs.FencedApplying.{FenceFree}
use Rattle.slate_txn_log.specs.declared.right.Right.{Right}

-- whether a refusal is of the value, and of nothing outside: no fault of the store, no fence, no number that is taken, no tries that are used up
abbrev pub is_plain : SlateDBError → Bool
is_plain StoreFault = false
is_plain (Fenced own read) = false
is_plain (TransactionalObjectVersionExists number boundary) = false
is_plain Contended = false
is_plain _ = true

-- whether an answer has no other refusal
abbrev pub answers_plainly : {X : Type 0} → Result X SlateDBError → Bool
answers_plainly (Ok x) = true
answers_plainly (Err e) = is_plain e

-- an answer whose refusal is of the value
abbrev pub Plainly : {X : Type 0} → Result X SlateDBError → Type 0
Plainly r = answers_plainly r ≡ true

-- no refusal, or one of the value
abbrev pub refuses_plainly : Option SlateDBError → Bool
refuses_plainly None = true
refuses_plainly (Some e) = is_plain e

-- a codec and rules that refuse a value for what it is
pub record PlainLog {T C R : Type 0} (decoded : C → List ℕ → Result T SlateDBError) (encoded : C → T → Result (List ℕ) SlateDBError)
    (refusal : R → ℕ → T → T → Right → Option SlateDBError) : Type 0 where
  pub decodes : (codec : C) (bytes : List ℕ) → Plainly (decoded codec bytes)
  pub encodes : (codec : C) (value : T) → Plainly (encoded codec value)
  pub refuses : (rules : R) (id : ℕ) (old new : T) (right : Right) → refuses_plainly (refusal rules id old new right) ≡ true

-- what a function makes is never a fault of the store
abbrev pub NeverFaults : {T : Type 0} → (ℕ → T → Result (Option T) SlateDBError) → Type 0
NeverFaults changed = (id : ℕ) (value : _) → changed id value ≢ Err StoreFault

-- nor a fence
abbrev pub NeverFences : {T : Type 0} → (ℕ → T → Result (Option T) SlateDBError) → Type 0
NeverFences changed = (id : ℕ) (value : _) (own read : ℕ) → changed id value ≢ Err (Fenced own read)

-- a holder with this codec and these rules commits without a fault what a function makes that never answers one
abbrev pub CommitsFaultFree : {T C R : Type 0} → (C → List ℕ → Result T SlateDBError) → (C → T → Result (List ℕ) SlateDBError) → (R → ℕ → T → T → Right → Option SlateDBError) → Type 0
CommitsFaultFree {T} decoded encoded refusal =
    (changed : ℕ → T → Result (Option T) SlateDBError) (right : Right) → NeverFaults changed → FaultFree (ways_of decoded encoded refusal changed right)

-- and without a fence, where the function never answers one
abbrev pub CommitsFenceFree : {T C R : Type 0} → (C → List ℕ → Result T SlateDBError) → (C → T → Result (List ℕ) SlateDBError) → (R → ℕ → T → T → Right → Option SlateDBError) → Type 0
CommitsFenceFree {T} decoded encoded refusal =
    (changed : ℕ → T → Result (Option T) SlateDBError) (right : Right) → NeverFences changed → FenceFree (ways_of decoded encoded refusal changed right)

-- what a function may answer is never a fault of the store
abbrev pub MayNotFault : {T : Type 0} → (ℕ → T → Result (Option T) SlateDBError → Type 0) → Type 0
MayNotFault {T} may = (id : ℕ) (value : T) (reply : Result (Option T) SlateDBError) → may id value reply → reply ≢ Err StoreFault

-- nor a fence
abbrev pub MayNotFence : {T : Type 0} → (ℕ → T → Result (Option T) SlateDBError → Type 0) → Type 0
MayNotFence {T} may = (id : ℕ) (value : T) (reply : Result (Option T) SlateDBError) → may id value reply → (own read : ℕ) → reply ≢ Err (Fenced own read)
