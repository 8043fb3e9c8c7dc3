-- A change under way ends in a fault only where the store faults.
use Rattle.std.specs.Prelude.{◌≡◌, ◌≢◌, ℕ, ℤ, Bool, true, false, List, Option, Some, None, Result, Ok, Err, refl}
use Rattle.std.proofs.Common.{ap, sym, ◌∙◌, ◌⊎◌}
use Rattle.slate_txn_changes.proofs.Sound.{Sound, sound_commit, sound_ends, sound_read, sound_turned, turn_due}
use Rattle.slate_txn_changes.specs.Latest.{begins_again, latest_goes, lists_again}
use Rattle.slate_txn_changes.specs.LogWorks.{WorkGoes, change_goes, commit_on, read_on, work_asks, work_due, work_goes}
use Rattle.slate_txn_changes.specs.Turns.{turn_asks}
use Rattle.slate_txn_changes.specs.declared.log_work.LogEnd.{LogEnd}
use Rattle.slate_txn_changes.specs.declared.log_work.LogEnd.TheVariants.{Absent, Unchanged, Committed}
use Rattle.slate_txn_changes.specs.declared.log_work.LogWork.{LogWork}
use Rattle.slate_txn_changes.specs.declared.log_work.LogWork.TheVariants.{Reading, Committing}
use Rattle.slate_ids.specs.declared.error.SlateDBError.{SlateDBError}
use Rattle.slate_ids.specs.declared.error.SlateDBError.TheVariants.{StoreFault}
use Rattle.slate_txn_log.specs.CommitPhase.{CommitGoes, commit_asks, commit_due, commit_goes}
use Rattle.slate_txn_log.specs.Due.{NoFault}
use Rattle.slate_txn_log.specs.ReadPhase.{Reply, read_asks, read_due, read_goes}
use Rattle.slate_txn_log.specs.declared.commit_phase.CommitPhase.{CommitPhase}
use Rattle.slate_txn_log.specs.declared.log_kind.LogKind.{LogKind}
use Rattle.slate_txn_log.specs.declared.read_phase.ReadPhase.TheVariants as reading
use Rattle.slate_txn_log.proofs.Faults.{Fine, OnlyFaults, fine_err, fine_ok, fine_stay}
use Rattle.slate_store.specs.StoreCalls.{IsAnswerTo}
use Rattle.slate_store.specs.Machines.{Stay, End}
use Rattle.slate_store.specs.declared.store_answer.StoreAnswer.{StoreAnswer}

-- a commit whose call is due, or none, or a refusal that isn't a fault
abbrev pub MayPut : {V : Type 0} → Result (Option (CommitPhase V)) SlateDBError → Type 0
MayPut (Ok (Some commit)) = commit_due commit ≡ true
MayPut (Ok None) = Unit {0}
MayPut (Err e) = e ≢ StoreFault

module _ {V : Type 0} where
  made_fine : (now : ℤ) (n : ℕ) (v : V) (commit : Result (Option (CommitPhase V)) SlateDBError) → MayPut commit → Fine work_due (change_goes now n v commit)
  made_fine now n v (Ok (Some commit)) due = fine_stay work_due (Committing now commit) due
  made_fine now n v (Ok None) due = fine_ok work_due (Reading reading.Over) (Unchanged n v)
  made_fine now n v (Err e) other = fine_err work_due (Reading reading.Over) e other

  read_fine : (commit : ℤ → ℕ → V → Result (Option (CommitPhase V)) SlateDBError) → ((now : ℤ) (n : ℕ) (v : V) → MayPut (commit now n v)) → (now : ℤ) (out : Reply V) → Fine read_due out → Fine work_due (read_on commit now out)
  read_fine commit puts now (Stay phase) fine = fine_stay work_due (Reading phase) (fine.stays phase refl)
  read_fine commit puts now (End phase (Ok None)) fine = fine_ok work_due (Reading phase) Absent
  read_fine commit puts now (End phase (Ok (Some version))) fine = made_fine now version.0 version.1 (commit now version.0 version.1) (puts now version.0 version.1)
  read_fine commit puts now (End phase (Err e)) fine = fine_err work_due (Reading phase) e (λ same. fine.ends phase (ap (λ (k : SlateDBError). End phase (Err k)) same))

  commit_fine : (made : ℤ) (out : CommitGoes V) → Fine commit_due out → Fine work_due (commit_on made out)
  commit_fine made (Stay phase) fine = fine_stay work_due (Committing made phase) (fine.stays phase refl)
  commit_fine made (End phase (Ok version)) fine = fine_ok work_due (Committing made phase) (Committed version.0 version.1)
  commit_fine made (End phase (Err e)) fine = fine_err work_due (Committing made phase) e (λ same. fine.ends phase (ap (λ (k : SlateDBError). End phase (Err k)) same))

  -- a step of a change, where neither its bytes nor what it makes are refused as a fault
  pub work_sound : (db : List ℕ) (log : LogKind) (decoded : List ℕ → Result V SlateDBError) (commit : ℤ → ℕ → V → Result (Option (CommitPhase V)) SlateDBError)
      → NoFault decoded → ((now : ℤ) (n : ℕ) (v : V) → MayPut (commit now n v)) → (now : ℤ) (work : LogWork V) (answer : StoreAnswer)
      → work_due work ≡ true → IsAnswerTo (work_asks db log work) answer → Sound work_due answer (work_goes log decoded commit now work answer)
  work_sound db log decoded commit good puts now (Reading phase) answer here kind = sound_read work_due (read_on commit now) db log decoded phase answer good refl (read_fine commit puts now) here kind
  work_sound db log decoded commit good puts now (Committing made phase) answer here kind = sound_commit work_due (commit_on made) db log phase answer refl (commit_fine made) here kind

  -- the plain call
  pub latest_faults : (db : List ℕ) (log : LogKind) (decoded : List ℕ → Result V SlateDBError) (commit : ℤ → ℕ → V → Result (Option (CommitPhase V)) SlateDBError)
      → NoFault decoded → ((now : ℤ) (n : ℕ) (v : V) → MayPut (commit now n v)) → (now : ℤ) → OnlyFaults (turn_due work_due) (turn_asks (work_asks db log)) (latest_goes log decoded commit now)
  latest_faults db log decoded commit good puts now = record {
    sound = λ turn answer here kind.
        sound_ends (turn_due work_due) answer (latest_goes log decoded commit now turn answer)
        (sound_turned work_due lists_again begins_again turn answer (work_goes log decoded commit now turn.0 answer) (λ p. refl) (work_sound db log decoded commit good puts now turn.0 answer here kind));
  }
