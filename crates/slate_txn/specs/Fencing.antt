-- The fence of a holder: what it refuses, and what is never refused by it.
use Rattle.std.specs.Prelude.{◌≡◌, ◌≢◌, ℕ, Option, Some, None, Result, Err}
use Rattle.slate_ids.specs.declared.error.SlateDBError.{SlateDBError}
use Rattle.slate_ids.specs.declared.error.SlateDBError.TheVariants.{Fenced}
use Rattle.slate_store.specs.StoreCalls.{Told}
use Rattle.slate_store.specs.declared.step.Step.{Step}
use Rattle.slate_store.specs.declared.step.Step.TheVariants.{Done}
use Rattle.slate_txn_log.specs.Fence.{fence}
use Rattle.slate_txn.specs.FencedHolder.{FencedHolder}

-- the fence of the version held
abbrev pub held_fence : {T C R E : Type 0} → (E → T → ℕ) → FencedHolder T C R E → Option SlateDBError
held_fence epoch fenced = fence fenced.epoch (epoch fenced.epochs fenced.holder.object)

-- a fence refuses before any call, and else this holds
abbrev pub UnlessFenced : {X : Type 0} → Option SlateDBError → Told → Told → Result X SlateDBError → Type 0 → Type 0
UnlessFenced (Some e) old new result P = (result ≡ Err e) × (new ≡ old)
UnlessFenced None old new result P = P

-- Fenced is answered only where this is the fence, and as it is
abbrev pub FencedOnly : {X : Type 0} → Option SlateDBError → Result X SlateDBError → Type 0
FencedOnly refusal result = (own read : ℕ) → result ≡ Err (Fenced own read) → refusal ≡ Some (Fenced own read)

-- the same of a step
abbrev pub FencedStep : {X : Type 0} → Option SlateDBError → Step X → Type 0
FencedStep refusal step = (own read : ℕ) → step ≡ Done (Err (Fenced own read)) → refusal ≡ Some (Fenced own read)

-- this result is never Fenced
abbrev pub NotFenced : {X : Type 0} → Result X SlateDBError → Type 0
NotFenced result = (own read : ℕ) → result ≢ Err (Fenced own read)

-- nor is this step
abbrev pub NotFencedStep : {X : Type 0} → Step X → Type 0
NotFencedStep step = (own read : ℕ) → step ≢ Done (Err (Fenced own read))

-- bytes are refused for what they are, never by a fence
abbrev pub NoFence : {X Y : Type 0} → (X → Result Y SlateDBError) → Type 0
NoFence f = (x : _) → NotFenced (f x)
