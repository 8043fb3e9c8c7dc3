-- What a fenced holder commits by a function of the version held.
use Rattle.std.specs.Prelude.{◌≡◌, ℕ, ℤ, Option, Some, None, Result, Err}
use Rattle.slate_ids.specs.declared.error.SlateDBError.{SlateDBError}
use Rattle.slate_store.specs.StoreCalls.{Told}
use Rattle.slate_txn.specs.Apply.{Applies, Ways, renews}
use Rattle.slate_txn.specs.ApplyMoves.{MayWays, RenewsBy}
use Rattle.slate_txn_log.specs.declared.commit_phase.CommitPhase.{CommitPhase}
use Rattle.slate_txn_log.specs.Fence.{unless, fence}
use Rattle.slate_txn.specs.FencedHolder.{FencedHolder}
use Rattle.slate_txn.specs.Fencing.{NoFence, NotFenced}
use Rattle.slate_txn.specs.Holder.{Holder}

-- what the function makes of a version, unless its epoch is above the own one
abbrev pub fenced_made : {T E : Type 0} → (E → T → ℕ) → E → ℕ → (ℕ → T → Result (Option T) SlateDBError) → ℕ → T → Result (Option T) SlateDBError
fenced_made epoch epochs own made id value = unless (fence own (epoch epochs value)) (made id value)

-- the same ways, with the fence of this holder before what they make
abbrev pub fenced_ways : {T C R E : Type 0} → (E → T → ℕ) → FencedHolder T C R E → Ways T C R → Ways T C R
fenced_ways epoch fenced ways = record ways { changed = fenced_made epoch fenced.epochs fenced.epoch ways.changed }

-- a whole plain call of a fenced holder, by these ways behind its fence
abbrev pub FencedApplies : {T C R E : Type 0} → (E → T → ℕ) → Ways T C R → ℤ → ℕ → Told → Told → FencedHolder T C R E → FencedHolder T C R E → Result (Unit {0}) SlateDBError → Type 0
FencedApplies epoch ways moment tries old new from to result = Applies (fenced_ways epoch from ways) moment tries old new from.holder to.holder result

-- this refusal, or what may be answered where there is none
abbrev pub UnlessMay : {X : Type 0} → Option SlateDBError → (Result X SlateDBError → Type 0) → Result X SlateDBError → Type 0
UnlessMay (Some e) may reply = reply ≡ Err e
UnlessMay None may reply = may reply

-- what the function may answer of a version, unless its epoch is above the own one
abbrev pub FencedMay : {T E : Type 0} → (E → T → ℕ) → E → ℕ → (ℕ → T → Result (Option T) SlateDBError → Type 0) → ℕ → T → Result (Option T) SlateDBError → Type 0
FencedMay epoch epochs own may id value reply = UnlessMay (fence own (epoch epochs value)) (may id value) reply

-- neither codec, rules nor the function answer a fence
pub record FenceFree {T C R : Type 0} (ways : Ways T C R) : Type 0 where
  pub decodes : (codec : C) → NoFence (ways.decoded codec)
  pub renewal : (holder : Holder T C R) (id : ℕ) (value : T) → NotFenced (renews ways holder id value)

-- neither codec, rules nor what the function may answer is a fence
pub record Unfenced {T C R : Type 0} (ways : MayWays T C R) : Type 0 where
  pub decodes : (codec : C) → NoFence (ways.decoded codec)
  pub renewal : (holder : Holder T C R) (id : ℕ) (value : T) (start : Result (Option (CommitPhase T)) SlateDBError) → RenewsBy ways holder id value start → NotFenced start
