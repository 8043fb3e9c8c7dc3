-- Apply by a function that may answer differently each time.
use Rattle.std.specs.Prelude.{◌≡◌, ◌≢◌, ◌⊎◌, ℤ, ℕ, false, List, Option, Some, None, Result, Ok, Err}
use Rattle.slate_ids.specs.Answers.{OrMemory, ran_out}
use Rattle.slate_ids.specs.declared.error.SlateDBError.{SlateDBError}
use Rattle.slate_ids.specs.declared.error.SlateDBError.TheVariants.{LatestTransactionalObjectVersionMissing, StoreFault}
use Rattle.slate_store.specs.StoreCalls.{Told}
use Rattle.slate_store.specs.Machines.{Goes, Stay, End}
use Rattle.slate_store.specs.declared.store_answer.StoreAnswer.{StoreAnswer}
use Rattle.slate_txn_log.specs.Change.{wanted}
use Rattle.slate_txn_log.specs.CommitPhase.{commit_goes, prepared}
use Rattle.slate_txn_log.specs.Due.{NoFault}
use Rattle.slate_txn_log.specs.ReadPhase.{read_goes}
use Rattle.slate_txn_log.specs.declared.commit_phase.CommitPhase.{CommitPhase}
use Rattle.slate_txn_log.specs.declared.read_phase.ReadPhase.{ReadPhase}
use Rattle.slate_txn_log.specs.declared.right.Right.{Right}
use Rattle.slate_txn.specs.Apply.{ApplyState, ApplyGoes, apply_asks, apply_starts, begun, commit_on}
use Rattle.slate_txn.specs.Holder.{Holder, at_version}
use Rattle.slate_txn.specs.Moves.{RanBy, BeganBy}
use Rattle.slate_txn.specs.Updating.{maybe_of}
use Rattle.slate_txn.specs.declared.apply.ApplyPhase.{ApplyPhase}
use Rattle.slate_txn.specs.declared.apply.ApplyPhase.TheVariants.{Reading, Committing}
use Rattle.slate_txn.specs.declared.update.UpdateMachine.{UpdateMachine}

-- a function gave an answer that it may give of this version, and this is the commit of it: none where it made nothing, and its refusal where it refused
pub record RenewedBy {T : Type 0} (may : ℕ → T → Result (Option T) SlateDBError → Type 0) (refusal : ℕ → T → T → Right → Option SlateDBError)
    (encoded : T → Result (List ℕ) SlateDBError) (right : Right) (id : ℕ) (value : T)
    (start : Result (Option (CommitPhase T)) SlateDBError) : Type 0 where
  pub reply : Result (Option T) SlateDBError
  pub given : may id value reply
  pub enough : ran_out reply ≡ false
  pub commits : wanted (λ new. prepared refusal encoded id value new right) reply ≡ start

-- what a holder is generic over, as `Ways`, with the answers that a function may give in place of what it makes
pub record MayWays (T C R : Type 0) : Type 1 where
  pub decoded : C → List ℕ → Result T SlateDBError
  pub encoded : C → T → Result (List ℕ) SlateDBError
  pub refusal : R → ℕ → T → T → Right → Option SlateDBError
  pub may : ℕ → T → Result (Option T) SlateDBError → Type 0
  pub right : Right

-- the ways of a holder that commits under a right what a function may answer
abbrev pub ways_by : {T C R : Type 0} → (C → List ℕ → Result T SlateDBError) → (C → T → Result (List ℕ) SlateDBError)
    → (R → ℕ → T → T → Right → Option SlateDBError) → (ℕ → T → Result (Option T) SlateDBError → Type 0) → Right → MayWays T C R
ways_by decoded encoded refusal may right = record { decoded = decoded; encoded = encoded; refusal = refusal; may = may; right = right }

-- a commit of what the function may answer of a version of this holder's log
abbrev pub RenewsBy : {T C R : Type 0} → MayWays T C R → Holder T C R → ℕ → T → Result (Option (CommitPhase T)) SlateDBError → Type 0
RenewsBy ways holder id value start = RenewedBy ways.may (ways.refusal holder.rules) (ways.encoded holder.sequenced.codec) ways.right id value start

-- with its holder: where the read ends, what the function answers of the version is committed
abbrev pub ReadMoves : {T C R : Type 0} → Holder T C R → (ℕ → T → Result (Option (CommitPhase T)) SlateDBError → Type 0) → Goes (ReadPhase T) (Option (ℕ × T)) → ApplyGoes T C R → Type 0
ReadMoves holder renew (Stay read) out = Stay (Reading read, holder) ≡ out
ReadMoves holder renew (End read (Err e)) out = End (Reading read, holder) (Err e) ≡ out
ReadMoves holder renew (End read (Ok None)) out = End (Reading read, holder) (Err LatestTransactionalObjectVersionMissing) ≡ out
ReadMoves holder renew (End read (Ok (Some version))) out =
    (start : Result (Option (CommitPhase _)) SlateDBError) × renew version.0 version.1 start × (begun (Reading read) (at_version holder version.0 version.1) start ≡ out)

-- how an apply may go on
abbrev pub ApplyMoves : {T C R : Type 0} → MayWays T C R → ApplyState T C R → StoreAnswer → ApplyGoes T C R → Type 0
ApplyMoves ways (Reading read, holder) answer out = ReadMoves holder (RenewsBy ways holder) (read_goes holder.sequenced.log (ways.decoded holder.sequenced.codec) read answer) out
ApplyMoves ways (Committing commit, holder) answer out = commit_on holder (commit_goes commit answer) ≡ out

-- a plain call ran from this commit
abbrev pub AppliedBy : {T C R : Type 0} → MayWays T C R → ℤ → ℕ → Told → Told → CommitPhase T → Holder T C R → Holder T C R → Result (Unit {0}) SlateDBError → Type 0
AppliedBy ways moment tries old new commit from to result =
    (phase : ApplyPhase _) × RanBy apply_starts apply_asks (ApplyMoves ways) moment tries old new (Committing commit, from) (phase, to) result

-- memory ran out in a plain call from this commit
abbrev pub ApplyBeganBy : {T C R : Type 0} → MayWays T C R → ℤ → ℕ → Told → Told → CommitPhase T → Holder T C R → Holder T C R → Type 0
ApplyBeganBy ways moment tries old new commit from to =
    (phase : ApplyPhase _) × BeganBy apply_starts apply_asks (ApplyMoves ways) moment tries old new (Committing commit, from) (phase, to)

-- from this commit a plain call ran to its end, or memory ran out in it
abbrev pub DrivenBy : {T C R : Type 0} → MayWays T C R → ℤ → ℕ → Told → Told → CommitPhase T → Holder T C R → Holder T C R → Result (Unit {0}) SlateDBError → Type 0
DrivenBy ways moment tries old new commit from to result =
    OrMemory result (ApplyBeganBy ways moment tries old new commit from to) (AppliedBy ways moment tries old new commit from to result)

-- it is refused before any call, or commits nothing, or runs from the commit of the new value
abbrev pub BeginsBy : {T C R : Type 0} → MayWays T C R → ℤ → ℕ → Told → Told → Result (Option (CommitPhase T)) SlateDBError → Holder T C R → Holder T C R → Result (Unit {0}) SlateDBError → Type 0
BeginsBy ways moment tries old new (Err e) from to result = (result ≡ Err e) × (new ≡ old) × (to ≡ from)
BeginsBy ways moment tries old new (Ok None) from to result = (result ≡ Ok tt) × (new ≡ old) × (to ≡ from)
BeginsBy ways moment tries old new (Ok (Some commit)) from to result = AppliedBy ways moment tries old new commit from to result

-- the function answered of the version held, and from the commit of that it begins
abbrev pub BegunBy : {T C R : Type 0} → MayWays T C R → ℤ → ℕ → Told → Told → Holder T C R → Holder T C R → Result (Unit {0}) SlateDBError → Type 0
BegunBy ways moment tries old new from to result =
    (start : Result (Option (CommitPhase _)) SlateDBError) × RenewsBy ways from from.id from.object start × BeginsBy ways moment tries old new start from to result

-- memory ran out before the first call, or within the run
abbrev pub ApplyStoppedBy : {T C R : Type 0} → MayWays T C R → ℤ → ℕ → Told → Told → Holder T C R → Holder T C R → Type 0
ApplyStoppedBy ways moment tries old new from to =
    ((new ≡ old) × (to ≡ from)) ⊎ ((commit : CommitPhase _) × RenewsBy ways from from.id from.object (Ok (Some commit)) × ApplyBeganBy ways moment tries old new commit from to)

-- a whole plain call, from the holder before it to the holder after it
abbrev pub AppliesBy : {T C R : Type 0} → MayWays T C R → ℤ → ℕ → Told → Told → Holder T C R → Holder T C R → Result (Unit {0}) SlateDBError → Type 0
AppliesBy ways moment tries old new from to result = OrMemory result (ApplyStoppedBy ways moment tries old new from to) (BegunBy ways moment tries old new from to result)

-- neither codec, rules nor function answer a fault
pub record NeverFaults {T C R : Type 0} (ways : MayWays T C R) : Type 0 where
  pub decodes : (codec : C) → NoFault (ways.decoded codec)
  pub renewal : (holder : Holder T C R) (id : ℕ) (value : T) (start : Result (Option (CommitPhase T)) SlateDBError) → RenewsBy ways holder id value start → start ≢ Err StoreFault

-- the machine of a commit of what the function may answer of this version
abbrev pub MaybeBy : {T : Type 0} → (ℕ → T → Result (Option T) SlateDBError → Type 0) → (ℕ → T → T → Right → Option SlateDBError)
    → (T → Result (List ℕ) SlateDBError) → Right → ℕ → T → UpdateMachine T → Type 0
MaybeBy may refusal encoded right id value machine = (start : Result (Option (CommitPhase _)) SlateDBError) × RenewedBy may refusal encoded right id value start × (machine ≡ maybe_of start)
