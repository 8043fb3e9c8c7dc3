-- A call on a log whose reply is told as another: of a version, of a value that has to be there.
use Rattle.std.specs.Prelude.{◌≡◌, ◌≢◌, ℕ, false, List, Option, Some, None, Result, Ok, Err}
use Rattle.slate_ids.specs.Answers.{OrMemory, ran_out, is_memory}
use Rattle.slate_ids.specs.declared.error.SlateDBError.{SlateDBError}
use Rattle.slate_ids.specs.declared.error.SlateDBError.TheVariants.{LatestTransactionalObjectVersionMissing, StoreFault}
use Rattle.slate_txn_log.specs.ReadLatest.{Read, ReadBegan}
use Rattle.slate_txn_log.specs.declared.sequenced.Sequenced.{Sequenced}
use Rattle.slate_txn_log.specs.declared.try_read_phase.TryReadPhase.{TryReadPhase}
use Rattle.slate_txn_log.specs.declared.try_read_phase.TryReadPhase.TheVariants.{Getting, Over}
use Rattle.slate_store.specs.StoreCalls.{Told}
use Rattle.slate_store.specs.Machines.{Goes, Stay, End}
use Rattle.slate_store.specs.declared.step.Step.{Step}
use Rattle.slate_store.specs.declared.step.Step.TheVariants.{Again, Done}

-- how a machine goes on, with the reply of its end made another
abbrev pub goes_as : {P A B : Type 0} → (Result A SlateDBError → Result B SlateDBError) → Goes P A → Goes P B
goes_as reply (Stay p) = Stay p
goes_as reply (End p r) = End p (reply r)

-- the same of a step
abbrev pub step_as : {A B : Type 0} → (Result A SlateDBError → Result B SlateDBError) → Step A → Step B
step_as reply Again = Again
step_as reply (Done r) = Done (reply r)

-- told as another, a reply is want of memory or a fault exactly where it was
pub record Faithful {A B : Type 0} (told_as : Result A SlateDBError → Result B SlateDBError) : Type 0 where
  pub memory : (r : Result A SlateDBError) → ran_out (told_as r) ≡ ran_out r
  pub fault : (r : Result A SlateDBError) → told_as r ≡ Err StoreFault → r ≡ Err StoreFault

-- a value that isn't there is refused neither for want of memory nor as a fault
pub record MissingIsPlain (missing : ℕ → SlateDBError) : Type 0 where
  pub memory : (n : ℕ) → is_memory (missing n) ≡ false
  pub fault : (n : ℕ) → missing n ≢ StoreFault

-- the latest version, where the log has one
abbrev pub latest_or_none : {T V : Type 0} → (ℕ × T → V) → Result (Option (ℕ × T)) SlateDBError → Result (Option V) SlateDBError
latest_or_none version (Ok (Some v)) = Ok (Some (version v))
latest_or_none version (Ok None) = Ok None
latest_or_none version (Err e) = Err e

-- the latest version; a log without one has none to give
abbrev pub latest : {T V : Type 0} → (ℕ × T → V) → Result (Option (ℕ × T)) SlateDBError → Result V SlateDBError
latest version (Ok (Some v)) = Ok (version v)
latest version (Ok None) = Err LatestTransactionalObjectVersionMissing
latest version (Err e) = Err e

-- the value of a number; one that isn't there is refused so
abbrev pub present : {T : Type 0} → (ℕ → SlateDBError) → ℕ → Result (Option T) SlateDBError → Result T SlateDBError
present missing n (Ok (Some value)) = Ok value
present missing n (Ok None) = Err (missing n)
present missing n (Err e) = Err e

-- the same of the number that a read is to get
abbrev pub present_at : {T : Type 0} → (ℕ → SlateDBError) → TryReadPhase → Result (Option T) SlateDBError → Result T SlateDBError
present_at missing (Getting n) reply = present missing n reply
present_at missing Over reply = present missing 0 reply

-- the latest version was read, and its reply is told as another
abbrev pub ReadAs : {T C A : Type 0} → (C → List ℕ → Result T SlateDBError) → (Result (Option (ℕ × T)) SlateDBError → Result A SlateDBError)
    → Sequenced T C → ℕ → Told → Told → Result A SlateDBError → Type 0
ReadAs {T} {C} {A} decoded told_as sequenced tries old new result =
    OrMemory result (ReadBegan decoded sequenced tries old new) ((reply : Result (Option (ℕ × T)) SlateDBError) × Read decoded sequenced tries old new reply × (told_as reply ≡ result))
