-- Refresh of a fenced holder: the holder within is refreshed, and then the fence of the version held is asked.
use Rattle.std.specs.Prelude.{◌≡◌, ℕ, List, Option, Result, Ok, Err}
use Rattle.slate_ids.specs.Answers.{refused}
use Rattle.slate_ids.specs.declared.error.SlateDBError.{SlateDBError}
use Rattle.slate_store.specs.StoreCalls.{Told}
use Rattle.slate_store.specs.Machines.{Goes, Stay, End}
use Rattle.slate_store.specs.declared.step.Step.{Step}
use Rattle.slate_store.specs.declared.step.Step.TheVariants.{Again, Done}
use Rattle.slate_store.specs.declared.store_answer.StoreAnswer.{StoreAnswer}
use Rattle.slate_txn_log.specs.declared.read_phase.ReadPhase.{ReadPhase}
use Rattle.slate_txn.specs.FencedHolder.{FencedHolder, state_within}
use Rattle.slate_txn.specs.Fencing.{held_fence}
use Rattle.slate_txn.specs.Holder.{Holder}
use Rattle.slate_txn.specs.Refreshing.{Refreshes, refresh_goes}

-- after Ok a fence refuses, and else the answer stays
abbrev pub fence_after : Option SlateDBError → Result (Unit {0}) SlateDBError → Result (Unit {0}) SlateDBError
fence_after refusal (Ok done) = refused refusal
fence_after refusal (Err e) = Err e

-- the holder within was refreshed, the own epoch stays, and the fence of what is held then is answered
pub record FencedRefreshed {T C R E : Type 0} (decoded : C → List ℕ → Result T SlateDBError) (epoch : E → T → ℕ) (tries : ℕ) (old new : Told)
    (from to : FencedHolder T C R E) (result : Result (Unit {0}) SlateDBError) : Type 0 where
  pub reply : Result (Unit {0}) SlateDBError
  pub refresh : Refreshes decoded tries old new from.holder to.holder reply
  pub kept : to ≡ record from { holder = to.holder }
  pub answers : result ≡ fence_after (held_fence epoch to) reply

-- how it goes on with its refresh: where that ends, the fence of what is held then is asked
abbrev pub fence_within : {P T C R E : Type 0} → (E → T → ℕ) → FencedHolder T C R E → Goes (P × Holder T C R) (Unit {0}) → Goes (P × FencedHolder T C R E) (Unit {0})
fence_within epoch fenced (Stay state) = Stay (state_within fenced state)
fence_within epoch fenced (End state reply) = End (state_within fenced state) (fence_after (held_fence epoch (record fenced { holder = state.1 })) reply)

-- how a refresh of a fenced holder goes on
abbrev pub fenced_refresh_goes : {T C R E : Type 0} → (C → List ℕ → Result T SlateDBError) → (E → T → ℕ) → ReadPhase T × FencedHolder T C R E
    → StoreAnswer → Goes (ReadPhase T × FencedHolder T C R E) (Unit {0})
fenced_refresh_goes decoded epoch (read, fenced) answer = fence_within epoch fenced (refresh_goes decoded (read, fenced.holder) answer)

-- the same of a step
abbrev pub fence_after_step : Option SlateDBError → Step (Unit {0}) → Step (Unit {0})
fence_after_step refusal Again = Again
fence_after_step refusal (Done reply) = Done (fence_after refusal reply)
