-- A machine that ends in a fault only where the store faults, also where it begins again after a conflict.
use Rattle.std.specs.Prelude.{◌≡◌, ◌≢◌, Bool, true, false, Option, Result, Ok, Err, List, ℕ, if◌then◌else◌, refl}
use Rattle.std.proofs.Common.{◌⊎◌, ap, inl, inr, subst, sym}
use Rattle.slate_txn_changes.specs.Turns.{Turn, turned_on}
use Rattle.slate_ids.specs.Answers.{is_conflict}
use Rattle.slate_ids.specs.declared.error.SlateDBError.{SlateDBError}
use Rattle.slate_ids.specs.declared.error.SlateDBError.TheVariants.{StoreFault}
use Rattle.slate_txn_log.specs.CommitPhase.{commit_asks, commit_due, commit_goes, CommitGoes}
use Rattle.slate_txn_log.specs.Due.{NoFault}
use Rattle.slate_txn_log.specs.ReadPhase.{read_asks, read_due, read_goes, Reply}
use Rattle.slate_txn_log.specs.declared.commit_phase.CommitPhase.{CommitPhase}
use Rattle.slate_txn_log.specs.declared.commit_phase.CommitPhase.TheVariants as commits
use Rattle.slate_txn_log.specs.declared.log_kind.LogKind.{LogKind}
use Rattle.slate_txn_log.specs.declared.read_phase.ReadPhase.{ReadPhase}
use Rattle.slate_txn_log.specs.declared.read_phase.ReadPhase.TheVariants as reads
use Rattle.slate_txn_log.proofs.Commits.{commit_faults}
use Rattle.slate_txn_log.proofs.Faults.{Fine, fine_stay, fine_ok, fine_err}
use Rattle.slate_txn_log.proofs.ReadFaults.{read_faults}
use Rattle.slate_store.specs.StoreCalls.{IsAnswerTo}
use Rattle.slate_store.specs.Machines.{Goes, Stay, End, IsEnd}
use Rattle.slate_store.specs.declared.store_answer.StoreAnswer.{StoreAnswer}
use Rattle.slate_store.specs.declared.store_answer.StoreAnswer.TheVariants.{Fault}

-- it ends in a fault
abbrev pub IsFault : {P R : Type 0} → Goes P R → Type 0
IsFault (Stay p) = ⊥
IsFault (End p (Ok r)) = ⊥
IsFault (End p (Err e)) = e ≡ StoreFault

-- after a fault it ends in one, and after another answer it goes on or ends otherwise
abbrev pub Sound : {P R : Type 0} → (P → Bool) → StoreAnswer → Goes P R → Type 0
Sound due answer out = ((answer ≡ Fault) × IsFault out) ⊎ Fine due out

fault_ends : {P R : Type 0} (out : Goes P R) → IsFault out → IsEnd out
fault_ends (Stay p) fault = absurd fault
fault_ends (End p (Ok r)) fault = tt
fault_ends (End p (Err e)) fault = tt

-- as the law on faults asks it
pub sound_ends : {P R : Type 0} (due : P → Bool) (answer : StoreAnswer) (out : Goes P R) → Sound due answer out → ((answer ≡ Fault) × IsEnd out) ⊎ Fine due out
sound_ends due answer out (inl fault) = inl (fault.0, fault_ends out fault.1)
sound_ends due answer out (inr fine) = inr fine

-- ---- the plain call

-- whether a call is due in a turn
abbrev pub turn_due : {P : Type 0} → (P → Bool) → Turn P → Bool
turn_due due turn = due turn.0

module _ {P R : Type 0} (due : P → Bool) (again : P → P → Bool) (restart : P → P) where
  fault_turned : (from : Turn P) (out : Goes P R) → IsFault out → IsFault (turned_on again restart from out)
  fault_turned from (Stay p) fault = absurd fault
  fault_turned from (End p (Ok r)) fault = absurd fault
  fault_turned from (End p (Err e)) fault = subst (λ (k : SlateDBError). IsFault (turned_on {P = P} {R = R} again restart from (End p (Err k)))) (sym fault) refl

  fine_test : (p q : Turn P) (e : SlateDBError) (b : Bool) → due q.0 ≡ true → e ≢ StoreFault → Fine {R = R} (turn_due due) (if b then Stay q else End p (Err e))
  fine_test p q e true here other = fine_stay (turn_due due) q here
  fine_test p q e false here other = fine_err (turn_due due) p e other

  fine_turned : (from : Turn P) (out : Goes P R) → ((p : P) → due (restart p) ≡ true) → Fine due out → Fine (turn_due due) (turned_on again restart from out)
  fine_turned from (Stay p) here fine = fine_stay (turn_due due) (p, again from.0 p) (fine.stays p refl)
  fine_turned from (End p (Ok r)) here fine = fine_ok (turn_due due) (p, from.1) r
  fine_turned from (End p (Err e)) here fine = fine_test (p, from.1) (restart p, true) e (is_conflict e) (here p) (λ same. fine.ends p (ap (λ (k : SlateDBError). End p (Err k)) same))

  -- begun again after a conflict it is sound too
  pub sound_turned : (from : Turn P) (answer : StoreAnswer) (out : Goes P R) → ((p : P) → due (restart p) ≡ true) → Sound due answer out → Sound (turn_due due) answer (turned_on again restart from out)
  sound_turned from answer out here (inl fault) = inl (fault.0, fault_turned from out fault.1)
  sound_turned from answer out here (inr fine) = inr (fine_turned from out here fine)

-- ---- reads and commits

read_fault : {T : Type 0} (log : LogKind) (decoded : List ℕ → Result T SlateDBError) (read : ReadPhase T) → read_goes log decoded read Fault ≡ End reads.Over (Err StoreFault)
read_fault log decoded reads.Listing = refl
read_fault log decoded (reads.Getting n) = refl
read_fault log decoded (reads.Bounding n value) = refl
read_fault log decoded reads.Over = refl

commit_fault : {T : Type 0} (commit : CommitPhase T) → commit_goes commit Fault ≡ End commits.Over (Err StoreFault)
commit_fault (commits.Putting n bytes value) = refl
commit_fault (commits.Bounding n value) = refl
commit_fault commits.Over = refl

-- what follows the step of a read, where a fault ends it and nothing else does
pub sound_read : {T P R : Type 0} (due : P → Bool) (follows : Reply T → Goes P R) (db : List ℕ) (log : LogKind) (decoded : List ℕ → Result T SlateDBError) (read : ReadPhase T) (answer : StoreAnswer) → NoFault decoded
    → IsFault (follows (End reads.Over (Err StoreFault))) → ((out : Reply T) → Fine read_due out → Fine due (follows out)) → read_due read ≡ true → IsAnswerTo (read_asks db log read) answer → Sound due answer (follows (read_goes log decoded read answer))
sound_read {T} due follows db log decoded read answer good faulted fine here kind = elim ((read_faults db log decoded good).sound read answer here kind) [
  | inl f ↦ inl (f.0, subst (λ (a : StoreAnswer). IsFault (follows (read_goes log decoded read a))) (sym f.0) (subst (λ (out : Reply T). IsFault (follows out)) (sym (read_fault log decoded read)) faulted))
  | inr goes ↦ inr (fine (read_goes log decoded read answer) goes)
]

-- and that of a commit
pub sound_commit : {T P R : Type 0} (due : P → Bool) (follows : CommitGoes T → Goes P R) (db : List ℕ) (log : LogKind) (commit : CommitPhase T) (answer : StoreAnswer)
    → IsFault (follows (End commits.Over (Err StoreFault))) → ((out : CommitGoes T) → Fine commit_due out → Fine due (follows out)) → commit_due commit ≡ true → IsAnswerTo (commit_asks db log commit) answer → Sound due answer (follows (commit_goes commit answer))
sound_commit {T} due follows db log commit answer faulted fine here kind = elim ((commit_faults db log).sound commit answer here kind) [
  | inl f ↦ inl (f.0, subst (λ (a : StoreAnswer). IsFault (follows (commit_goes commit a))) (sym f.0) (subst (λ (out : CommitGoes T). IsFault (follows out)) (sym (commit_fault commit)) faulted))
  | inr goes ↦ inr (fine (commit_goes commit answer) goes)
]
