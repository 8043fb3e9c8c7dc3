-- Apply: commit what a change makes of the version held; after a conflict read again.
use Rattle.std.specs.Prelude.{◌≡◌, ◌≢◌, ℤ, ℕ, ◌+◌, ◌<◌, ◌⊎◌, if◌then◌else◌, List, Bool, true, false, Option, Some, None, Result, Ok, Err}
use Rattle.slate_ids.specs.Answers.{is_conflict, OrMemory}
use Rattle.slate_ids.specs.declared.error.SlateDBError.{SlateDBError}
use Rattle.slate_ids.specs.declared.error.SlateDBError.TheVariants.{LatestTransactionalObjectVersionMissing, StoreFault}
use Rattle.slate_store.specs.StoreCalls.{Told}
use Rattle.slate_store.specs.Machines.{Goes, Stay, End, Steps}
use Rattle.slate_store.specs.CallRuns.{Ran, Began}
use Rattle.slate_store.specs.declared.store_call.StoreCall.{StoreCall}
use Rattle.slate_store.specs.declared.step.Step.{Step}
use Rattle.slate_store.specs.declared.store_answer.StoreAnswer.{StoreAnswer}
use Rattle.slate_txn_log.specs.Change.{renewed}
use Rattle.slate_txn_log.specs.CommitPhase.{commit_asks, commit_goes, commit_due, commit_rank}
use Rattle.slate_txn_log.specs.Due.{NoFault}
use Rattle.slate_txn.specs.Holder.{Holder, at_version}
use Rattle.slate_txn_log.specs.ReadPhase.{read_asks, read_goes, read_due, is_listing, rank}
use Rattle.slate_txn.specs.declared.apply.ApplyPhase.{ApplyPhase}
use Rattle.slate_txn.specs.declared.apply.ApplyPhase.TheVariants.{Reading, Committing}
use Rattle.slate_txn_log.specs.declared.commit_phase.CommitPhase.{CommitPhase}
use Rattle.slate_txn_log.specs.declared.read_phase.ReadPhase.{ReadPhase}
use Rattle.slate_txn_log.specs.declared.read_phase.ReadPhase.TheVariants.{Listing}
use Rattle.slate_txn_log.specs.declared.right.Right.{Right}

-- the phase and the holder
abbrev pub ApplyState : Type 0 → Type 0 → Type 0 → Type 0
ApplyState T C R = ApplyPhase T × Holder T C R

-- how it goes on
abbrev pub ApplyGoes : Type 0 → Type 0 → Type 0 → Type 0
ApplyGoes T C R = Goes (ApplyState T C R) (Unit {0})

-- the one call of each phase
abbrev pub apply_asks : {T C R : Type 0} → ApplyState T C R → StoreCall
apply_asks (Reading read, holder) = read_asks holder.sequenced.db holder.sequenced.log read
apply_asks (Committing commit, holder) = commit_asks holder.sequenced.db holder.sequenced.log commit

-- what a holder is generic over: the codec's two directions, the rules, the change and the right
pub record Ways (T C R : Type 0) : Type 0 where
  pub decoded : C → List ℕ → Result T SlateDBError
  pub encoded : C → T → Result (List ℕ) SlateDBError
  pub refusal : R → ℕ → T → T → Right → Option SlateDBError
  pub changed : ℕ → T → Result (Option T) SlateDBError
  pub right : Right

-- the ways of a holder that commits by a change under a right
abbrev pub ways_of : {T C R : Type 0} → (C → List ℕ → Result T SlateDBError) → (C → T → Result (List ℕ) SlateDBError)
    → (R → ℕ → T → T → Right → Option SlateDBError) → (ℕ → T → Result (Option T) SlateDBError) → Right → Ways T C R
ways_of decoded encoded refusal changed right = record { decoded = decoded; encoded = encoded; refusal = refusal; changed = changed; right = right }

-- the commit of what the change makes of a version of this holder's log
abbrev pub renews : {T C R : Type 0} → Ways T C R → Holder T C R → ℕ → T → Result (Option (CommitPhase T)) SlateDBError
renews ways holder = renewed ways.changed (ways.refusal holder.rules) (ways.encoded holder.sequenced.codec) ways.right

-- a version that was read: it is held, and the change of it is committed
abbrev pub begun : {T C R : Type 0} → ApplyPhase T → Holder T C R → Result (Option (CommitPhase T)) SlateDBError → ApplyGoes T C R
begun phase holder (Err e) = End (phase, holder) (Err e)
begun phase holder (Ok None) = End (phase, holder) (Ok tt)
begun phase holder (Ok (Some commit)) = Stay (Committing commit, holder)

-- with its holder: where the read ends, what the change makes of the version is committed
abbrev pub read_on : {T C R : Type 0} → Holder T C R → (ℕ → T → Result (Option (CommitPhase T)) SlateDBError) → Goes (ReadPhase T) (Option (ℕ × T)) → ApplyGoes T C R
read_on holder renew (Stay read) = Stay (Reading read, holder)
read_on holder renew (End read (Err e)) = End (Reading read, holder) (Err e)
read_on holder renew (End read (Ok None)) = End (Reading read, holder) (Err LatestTransactionalObjectVersionMissing)
read_on holder renew (End read (Ok (Some version))) = begun (Reading read) (at_version holder version.0 version.1) (renew version.0 version.1)

-- after a conflict the latest version is read again
abbrev pub commit_on : {T C R : Type 0} → Holder T C R → Goes (CommitPhase T) (ℕ × T) → ApplyGoes T C R
commit_on holder (Stay commit) = Stay (Committing commit, holder)
commit_on holder (End commit (Ok version)) = End (Committing commit, at_version holder version.0 version.1) (Ok tt)
commit_on holder (End commit (Err e)) = if is_conflict e then Stay (Reading Listing, holder) else End (Committing commit, holder) (Err e)

-- how it goes on
abbrev pub apply_goes : {T C R : Type 0} → Ways T C R → ApplyState T C R → StoreAnswer → ApplyGoes T C R
apply_goes ways (Reading read, holder) answer = read_on holder (renews ways holder) (read_goes holder.sequenced.log (ways.decoded holder.sequenced.codec) read answer)
apply_goes ways (Committing commit, holder) answer = commit_on holder (commit_goes commit answer)

-- what next does, by these ways at a moment
abbrev pub ApplySteps : {T C R : Type 0} → Ways T C R → ℤ → Told → Told → ApplyState T C R → ApplyState T C R → Step (Unit {0}) → Type 0
ApplySteps ways moment old new from to step = Steps old new (apply_asks from) moment (apply_goes ways from) from to step

-- whether a call is due
abbrev pub apply_due : {T : Type 0} → ApplyPhase T → Bool
apply_due (Reading read) = read_due read
apply_due (Committing commit) = commit_due commit

-- the same of phase and holder
abbrev pub state_due : {T C R : Type 0} → ApplyState T C R → Bool
state_due state = apply_due state.0

-- whether a version is to be read anew
abbrev pub is_start : {T : Type 0} → ApplyPhase T → Bool
is_start (Reading read) = is_listing read
is_start (Committing commit) = false

-- the same of phase and holder
abbrev pub apply_starts : {T C R : Type 0} → ApplyState T C R → Bool
apply_starts state = is_start state.0

-- the steps of a try that are left
abbrev pub apply_rank : {T : Type 0} → ApplyPhase T → ℕ
apply_rank (Reading read) = rank read + 3
apply_rank (Committing commit) = commit_rank commit

-- a step starts again, or fewer steps are left
abbrev pub ApplyFalls : {T : Type 0} → ApplyPhase T → ApplyPhase T → Type 0
ApplyFalls old new = (is_start new ≡ true) ⊎ (apply_rank new < apply_rank old)

-- whether the latest version is being read
abbrev pub is_reading_phase : {T : Type 0} → ApplyPhase T → Bool
is_reading_phase (Reading read) = true
is_reading_phase (Committing commit) = false

-- a plain call ran from this commit
abbrev pub Applied : {T C R : Type 0} → Ways T C R → ℤ → ℕ → Told → Told → CommitPhase T → Holder T C R → Holder T C R → Result (Unit {0}) SlateDBError → Type 0
Applied ways moment tries old new commit from to result =
    (phase : ApplyPhase _) × Ran apply_starts apply_asks (apply_goes ways) moment tries old new (Committing commit, from) (phase, to) result

-- memory ran out in a plain call from this commit
abbrev pub ApplyBegan : {T C R : Type 0} → Ways T C R → ℤ → ℕ → Told → Told → CommitPhase T → Holder T C R → Holder T C R → Type 0
ApplyBegan ways moment tries old new commit from to =
    (phase : ApplyPhase _) × Began apply_starts apply_asks (apply_goes ways) moment tries old new (Committing commit, from) (phase, to)

-- it is refused before any call, or commits nothing, or runs from the commit of the new value
abbrev pub Begins : {T C R : Type 0} → Ways T C R → ℤ → ℕ → Told → Told → Result (Option (CommitPhase T)) SlateDBError → Holder T C R → Holder T C R → Result (Unit {0}) SlateDBError → Type 0
Begins ways moment tries old new (Err e) from to result = (result ≡ Err e) × (new ≡ old) × (to ≡ from)
Begins ways moment tries old new (Ok None) from to result = (result ≡ Ok tt) × (new ≡ old) × (to ≡ from)
Begins ways moment tries old new (Ok (Some commit)) from to result = Applied ways moment tries old new commit from to result

-- memory ran out before the first call, or within the run
abbrev pub ApplyStopped : {T C R : Type 0} → Ways T C R → ℤ → ℕ → Told → Told → Result (Option (CommitPhase T)) SlateDBError → Holder T C R → Holder T C R → Type 0
ApplyStopped ways moment tries old new start from to =
    ((new ≡ old) × (to ≡ from)) ⊎ ((commit : CommitPhase _) × (start ≡ Ok (Some commit)) × ApplyBegan ways moment tries old new commit from to)

-- a whole plain call, from the holder before it to the holder after it
abbrev pub Applies : {T C R : Type 0} → Ways T C R → ℤ → ℕ → Told → Told → Holder T C R → Holder T C R → Result (Unit {0}) SlateDBError → Type 0
Applies ways moment tries old new from to result =
    OrMemory result (ApplyStopped ways moment tries old new (renews ways from from.id from.object) from to) (Begins ways moment tries old new (renews ways from from.id from.object) from to result)

-- neither codec, rules nor change answers a fault
pub record FaultFree {T C R : Type 0} (ways : Ways T C R) : Type 0 where
  pub decodes : (codec : C) → NoFault (ways.decoded codec)
  pub renewal : (holder : Holder T C R) (id : ℕ) (value : T) → renews ways holder id value ≢ Err StoreFault
