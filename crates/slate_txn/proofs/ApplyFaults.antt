-- An apply ends in a fault only where the store faults.
use Rattle.std.specs.Prelude.{◌≡◌, ◌≢◌, ◌+◌, ◌==◌, ℕ, Bool, true, false, List, Option, Some, None, Result, Ok, Err, if◌then◌else◌, refl}
use Rattle.std.proofs.Common.{◌⊎◌, inl, inr, ap, sym, subst}
use Rattle.slate_ids.specs.Answers.{is_conflict}
use Rattle.slate_ids.specs.Limits.{last_number}
use Rattle.slate_store.specs.StoreCalls.{IsAnswerTo}
use Rattle.slate_ids.specs.declared.error.SlateDBError.{SlateDBError}
use Rattle.slate_ids.specs.declared.error.SlateDBError.TheVariants.{StoreFault, Exhausted, LatestTransactionalObjectVersionMissing}
use Rattle.slate_store.specs.Machines.{Goes, Stay, End, IsEnd}
use Rattle.slate_store.specs.declared.store_answer.StoreAnswer.{StoreAnswer}
use Rattle.slate_store.specs.declared.store_answer.StoreAnswer.TheVariants.{Fault}
use Rattle.slate_txn.specs.Apply.{Ways, FaultFree, renews, begun, read_on, commit_on, apply_asks, apply_goes, state_due}
use Rattle.slate_txn_log.specs.Change.{wanted, some_commit}
use Rattle.slate_txn_log.specs.CommitPhase.{commit_goes, commit_due, prepared, checked_commit, encoded_commit}
use Rattle.slate_txn_log.proofs.Commits.{commit_faults}
use Rattle.slate_txn_log.proofs.Faults.{OnlyFaults, Fine, fine_stay, fine_ok, fine_err}
use Rattle.slate_txn.specs.Holder.{Holder, at_version}
use Rattle.slate_txn_log.specs.ReadPhase.{read_goes, read_due, Reply}
use Rattle.slate_txn_log.proofs.ReadFaults.{read_faults}
use Rattle.slate_txn.specs.declared.apply.ApplyPhase.{ApplyPhase}
use Rattle.slate_txn.specs.declared.apply.ApplyPhase.TheVariants.{Reading, Committing}
use Rattle.slate_txn_log.specs.declared.commit_phase.CommitPhase.{CommitPhase}
use Rattle.slate_txn_log.specs.declared.commit_phase.CommitPhase.TheVariants.{Putting, Bounding, Over as CommitOver}
use Rattle.slate_txn_log.specs.declared.read_phase.ReadPhase.{ReadPhase}
use Rattle.slate_txn_log.specs.declared.read_phase.ReadPhase.TheVariants.{Listing, Getting, Bounding as BoundingRead, Over}
use Rattle.slate_txn_log.specs.declared.right.Right.{Right}

-- a commit that is made is due
abbrev pub Due : {T : Type 0} → Result (Option (CommitPhase T)) SlateDBError → Type 0
Due (Ok (Some commit)) = commit_due commit ≡ true
Due (Ok None) = Unit {0}
Due (Err e) = Unit {0}

due_encoded : {T : Type 0} (n : ℕ) (value : T) (bytes : Result (List ℕ) SlateDBError) → Due (some_commit (encoded_commit n value bytes))
due_encoded n value (Ok bytes) = refl
due_encoded n value (Err e) = tt

due_checked : {T : Type 0} (e : Option SlateDBError) (n : ℕ) (value : T) (bytes : Result (List ℕ) SlateDBError) → Due (some_commit (checked_commit e n value bytes))
due_checked (Some e) n value bytes = tt
due_checked None n value bytes = due_encoded n value bytes

due_if : {T : Type 0} (b : Bool) (id : ℕ) (e : Option SlateDBError) (n : ℕ) (value : T) (bytes : Result (List ℕ) SlateDBError) → Due (some_commit (if b then Err (Exhausted id) else checked_commit e n value bytes))
due_if true id e n value bytes = tt
due_if false id e n value bytes = due_checked e n value bytes

pub due_wanted : {T : Type 0} (refusal : ℕ → T → T → Right → Option SlateDBError) (encoded : T → Result (List ℕ) SlateDBError) (right : Right) (id : ℕ) (value : T) (new : Result (Option T) SlateDBError)
    → Due (wanted (λ v. prepared refusal encoded id value v right) new)
due_wanted refusal encoded right id value (Err e) = tt
due_wanted refusal encoded right id value (Ok None) = tt
due_wanted refusal encoded right id value (Ok (Some v)) = due_if (id == last_number) id (refusal id value v right) (id + 1) v (encoded v)

due_renews : {T C R : Type 0} (ways : Ways T C R) (holder : Holder T C R) (id : ℕ) (value : T) → Due (renews ways holder id value)
due_renews ways holder id value = due_wanted (ways.refusal holder.rules) (ways.encoded holder.sequenced.codec) ways.right id value (ways.changed id value)

pub fine_begun : {T C R : Type 0} (phase : ApplyPhase T) (holder : Holder T C R) (r : Result (Option (CommitPhase T)) SlateDBError) → r ≢ Err StoreFault → Due r → Fine state_due (begun phase holder r)
fine_begun phase holder (Err e) good due = fine_err state_due (phase, holder) e (λ same. good (ap (λ (k : SlateDBError). Err k) same))
fine_begun phase holder (Ok None) good due = fine_ok state_due (phase, holder) tt
fine_begun phase holder (Ok (Some commit)) good due = fine_stay state_due (Committing commit, holder) due

fine_read : {T C R : Type 0} (ways : Ways T C R) (free : FaultFree ways) (holder : Holder T C R) (out : Reply T) → Fine read_due out → Fine state_due (read_on holder (renews ways holder) out)
fine_read ways free holder (Stay read) fine = fine_stay state_due (Reading read, holder) (fine.stays read refl)
fine_read ways free holder (End read (Err e)) fine = fine_err state_due (Reading read, holder) e (λ same. fine.ends read (ap (λ (k : SlateDBError). End read (Err k)) same))
fine_read ways free holder (End read (Ok None)) fine = fine_err state_due (Reading read, holder) LatestTransactionalObjectVersionMissing (λ same. absurd cc)
fine_read ways free holder (End read (Ok (Some version))) fine =
    fine_begun (Reading read) (at_version holder version.0 version.1) (renews ways holder version.0 version.1) (free.renewal holder version.0 version.1) (due_renews ways holder version.0 version.1)

fine_if : {T C R : Type 0} (b : Bool) (holder : Holder T C R) (commit : CommitPhase T) (e : SlateDBError) → e ≢ StoreFault → Fine {R = Unit {0}} state_due (if b then Stay (Reading Listing, holder) else End (Committing commit, holder) (Err e))
fine_if true holder commit e good = fine_stay state_due (Reading Listing, holder) refl
fine_if false holder commit e good = fine_err state_due (Committing commit, holder) e good

fine_commit : {T C R : Type 0} (holder : Holder T C R) (out : Goes (CommitPhase T) (ℕ × T)) → Fine commit_due out → Fine state_due (commit_on holder out)
fine_commit holder (Stay commit) fine = fine_stay state_due (Committing commit, holder) (fine.stays commit refl)
fine_commit holder (End commit (Ok version)) fine = fine_ok state_due (Committing commit, at_version holder version.0 version.1) tt
fine_commit holder (End commit (Err e)) fine = fine_if (is_conflict e) holder commit e (λ same. fine.ends commit (ap (λ (k : SlateDBError). End commit (Err k)) same))

read_ends : {T C R : Type 0} (ways : Ways T C R) (holder : Holder T C R) (read : ReadPhase T) → IsEnd (apply_goes ways (Reading read, holder) Fault)
read_ends ways holder Listing = tt
read_ends ways holder (Getting n) = tt
read_ends ways holder (BoundingRead n value) = tt
read_ends ways holder Over = tt

commit_ends : {T C R : Type 0} (ways : Ways T C R) (holder : Holder T C R) (commit : CommitPhase T) → IsEnd (apply_goes ways (Committing commit, holder) Fault)
commit_ends ways holder (Putting n bytes value) = tt
commit_ends ways holder (Bounding n value) = tt
commit_ends ways holder CommitOver = tt

sound_read : {T C R : Type 0} (ways : Ways T C R) (free : FaultFree ways) (holder : Holder T C R) (read : ReadPhase T) (answer : StoreAnswer)
    → ((answer ≡ Fault) × IsEnd (read_goes holder.sequenced.log (ways.decoded holder.sequenced.codec) read answer)) ⊎ Fine read_due (read_goes holder.sequenced.log (ways.decoded holder.sequenced.codec) read answer)
    → ((answer ≡ Fault) × IsEnd (apply_goes ways (Reading read, holder) answer)) ⊎ Fine state_due (apply_goes ways (Reading read, holder) answer)
sound_read ways free holder read answer (inl f) = inl (f.0, subst (λ (a : StoreAnswer). IsEnd (apply_goes ways (Reading read, holder) a)) (sym f.0) (read_ends ways holder read))
sound_read ways free holder read answer (inr fine) = inr (fine_read ways free holder (read_goes holder.sequenced.log (ways.decoded holder.sequenced.codec) read answer) fine)

pub sound_commit : {T C R : Type 0} (ways : Ways T C R) (holder : Holder T C R) (commit : CommitPhase T) (answer : StoreAnswer) → ((answer ≡ Fault) × IsEnd (commit_goes commit answer)) ⊎ Fine commit_due (commit_goes commit answer)
    → ((answer ≡ Fault) × IsEnd (apply_goes ways (Committing commit, holder) answer)) ⊎ Fine state_due (apply_goes ways (Committing commit, holder) answer)
sound_commit ways holder commit answer (inl f) = inl (f.0, subst (λ (a : StoreAnswer). IsEnd (apply_goes ways (Committing commit, holder) a)) (sym f.0) (commit_ends ways holder commit))
sound_commit ways holder commit answer (inr fine) = inr (fine_commit holder (commit_goes commit answer) fine)

by_phase : {T C R : Type 0} (ways : Ways T C R) (free : FaultFree ways) (phase : ApplyPhase T) (holder : Holder T C R) (answer : StoreAnswer) → state_due (phase, holder) ≡ true → IsAnswerTo (apply_asks (phase, holder)) answer
    → ((answer ≡ Fault) × IsEnd (apply_goes ways (phase, holder) answer)) ⊎ Fine state_due (apply_goes ways (phase, holder) answer)
by_phase ways free (Reading read) holder answer due kind =
    let only = read_faults holder.sequenced.db holder.sequenced.log (ways.decoded holder.sequenced.codec) (free.decodes holder.sequenced.codec) in
    sound_read ways free holder read answer (only.sound read answer due kind)
by_phase ways free (Committing commit) holder answer due kind =
    let only = commit_faults holder.sequenced.db holder.sequenced.log in
    sound_commit ways holder commit answer (only.sound commit answer due kind)

-- an apply ends in a fault only where the store faults
pub apply_faults : {T C R : Type 0} (ways : Ways T C R) → FaultFree ways → OnlyFaults state_due apply_asks (apply_goes ways)
apply_faults ways free = record { sound = λ state answer. by_phase ways free state.0 state.1 answer }
