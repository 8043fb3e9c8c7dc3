-- Refresh: a holder reads the latest version, and holds it.
use Rattle.std.specs.Prelude.{◌≡◌, ℕ, List, Option, Some, None, Result, Ok, Err}
use Rattle.slate_ids.specs.Answers.{OrMemory}
use Rattle.slate_ids.specs.declared.error.SlateDBError.{SlateDBError}
use Rattle.slate_ids.specs.declared.error.SlateDBError.TheVariants.{LatestTransactionalObjectVersionMissing}
use Rattle.slate_store.specs.StoreCalls.{Told}
use Rattle.slate_store.specs.Machines.{Goes, Stay, End}
use Rattle.slate_store.specs.declared.step.Step.{Step}
use Rattle.slate_store.specs.declared.step.Step.TheVariants.{Again, Done}
use Rattle.slate_store.specs.declared.store_answer.StoreAnswer.{StoreAnswer}
use Rattle.slate_store.specs.declared.store_call.StoreCall.{StoreCall}
use Rattle.slate_txn_log.specs.ReadPhase.{read_asks, read_goes}
use Rattle.slate_txn_log.specs.ReadLatest.{Read, ReadBegan}
use Rattle.slate_txn_log.specs.declared.read_phase.ReadPhase.{ReadPhase}
use Rattle.slate_txn.specs.Holder.{Holder, at_version}

-- a version that was read is held, and else the holder is unchanged
abbrev pub held_after : {T C R : Type 0} → Holder T C R → Result (Option (ℕ × T)) SlateDBError → Holder T C R
held_after holder (Ok (Some version)) = at_version holder version.0 version.1
held_after holder (Ok None) = holder
held_after holder (Err e) = holder

-- the answer: a version was read, or why none was
abbrev pub refreshed : {T : Type 0} → Result (Option (ℕ × T)) SlateDBError → Result (Unit {0}) SlateDBError
refreshed (Ok (Some version)) = Ok tt
refreshed (Ok None) = Err LatestTransactionalObjectVersionMissing
refreshed (Err e) = Err e

-- the latest version was read, is held, and is answered by
pub record Refreshed {T C R : Type 0} (decoded : C → List ℕ → Result T SlateDBError) (tries : ℕ) (old new : Told) (from to : Holder T C R) (result : Result (Unit {0}) SlateDBError) : Type 0 where
  pub reply : Result (Option (ℕ × T)) SlateDBError
  pub read : Read decoded from.sequenced tries old new reply
  pub held : to ≡ held_after from reply
  pub answers : result ≡ refreshed reply

-- a whole refresh, from the holder before it to the holder after it
abbrev pub Refreshes : {T C R : Type 0} → (C → List ℕ → Result T SlateDBError) → ℕ → Told → Told → Holder T C R → Holder T C R → Result (Unit {0}) SlateDBError → Type 0
Refreshes decoded tries old new from to result =
    OrMemory result (ReadBegan decoded from.sequenced tries old new × (to ≡ from)) (Refreshed decoded tries old new from to result)

-- where the read stands, and the holder
abbrev pub RefreshState : Type 0 → Type 0 → Type 0 → Type 0
RefreshState T C R = ReadPhase T × Holder T C R

-- the one call of each phase
abbrev pub refresh_asks : {T C R : Type 0} → RefreshState T C R → StoreCall
refresh_asks (read, holder) = read_asks holder.sequenced.db holder.sequenced.log read

-- with its holder: where the read ends, so does the refresh
abbrev pub refresh_on : {T C R : Type 0} → Holder T C R → Goes (ReadPhase T) (Option (ℕ × T)) → Goes (RefreshState T C R) (Unit {0})
refresh_on holder (Stay read) = Stay (read, holder)
refresh_on holder (End read reply) = End (read, held_after holder reply) (refreshed reply)

-- how a refresh goes on after its read
abbrev pub refresh_goes : {T C R : Type 0} → (C → List ℕ → Result T SlateDBError) → RefreshState T C R → StoreAnswer → Goes (RefreshState T C R) (Unit {0})
refresh_goes decoded (read, holder) answer = refresh_on holder (read_goes holder.sequenced.log (decoded holder.sequenced.codec) read answer)

-- the answer of a step of the read
abbrev pub refreshed_step : {T : Type 0} → Step (Option (ℕ × T)) → Step (Unit {0})
refreshed_step Again = Again
refreshed_step (Done reply) = Done (refreshed reply)

-- what is held after it
abbrev pub held_after_step : {T C R : Type 0} → Holder T C R → Step (Option (ℕ × T)) → Holder T C R
held_after_step holder Again = holder
held_after_step holder (Done reply) = held_after holder reply
