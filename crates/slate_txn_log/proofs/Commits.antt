-- A commit ends in a fault only where the store faults, and answers what was put.
use Rattle.std.specs.Prelude.{◌≡◌, ℕ, Bool, true, false, List, Option, Some, None, Result, Ok, Err, nat_le, if◌then◌else◌, IfOk, refl}
use Rattle.std.proofs.Common.{◌⊎◌, sym, ◌∙◌}
use Rattle.slate_ids.specs.declared.error.SlateDBError.{SlateDBError}
use Rattle.slate_ids.specs.declared.error.SlateDBError.TheVariants.{TransactionalObjectVersionExists, Corrupt}
use Rattle.slate_ids.specs.declared.error.FormatName.TheVariants.{Boundary as BoundaryFormat}
use Rattle.slate_store.specs.StoreCalls.{IsAnswerTo}
use Rattle.slate_store.specs.Machines.{End, IsEnd}
use Rattle.slate_store.specs.declared.step.Step.TheVariants.{Done}
use Rattle.slate_store.specs.declared.store_answer.StoreAnswer.{StoreAnswer}
use Rattle.slate_store.specs.declared.store_answer.StoreAnswer.TheVariants.{Got, Created, Fault}
use Rattle.slate_txn_log.specs.Boundary.{boundary_got}
use Rattle.slate_txn_log.specs.CommitPhase.{commit_asks, commit_goes, commit_due, commit_version, KeepsVersion, CommitGoes, created_goes, bounded_goes}
use Rattle.slate_txn_log.proofs.Faults.{OnlyFaults, Fine, fine_stay, fine_ok, fine_err, sound_at, get_answers, create_answers}
use Rattle.slate_txn_log.specs.LogPaths.{version_path, boundary_path}
use Rattle.slate_txn_log.specs.declared.commit_phase.CommitPhase.{CommitPhase}
use Rattle.slate_txn_log.specs.declared.commit_phase.CommitPhase.TheVariants.{Putting, Bounding, Over}
use Rattle.slate_txn_log.specs.declared.log_kind.LogKind.{LogKind}

abbrev FineCommit : {T : Type 0} → CommitGoes T → Type 0
FineCommit out = Fine commit_due out

fine_created : {T : Type 0} (n : ℕ) (value : T) (tag : Option ℕ) → FineCommit (created_goes n value tag)
fine_created n value None = fine_err commit_due Over (TransactionalObjectVersionExists n None) (λ same. absurd cc)
fine_created n value (Some tag) = fine_stay commit_due (Bounding n value) refl

fine_above : {T : Type 0} (n b : ℕ) (value : T) (test : Bool) → FineCommit (if test then End Over (Err (TransactionalObjectVersionExists n (Some b))) else End Over (Ok (n, value)))
fine_above n b value true = fine_err commit_due Over (TransactionalObjectVersionExists n (Some b)) (λ same. absurd cc)
fine_above n b value false = fine_ok commit_due Over (n, value)

fine_bounded : {T : Type 0} (n : ℕ) (value : T) (b : Option ℕ) → FineCommit (bounded_goes n value b)
fine_bounded n value None = fine_err commit_due Over (Corrupt BoundaryFormat) (λ same. absurd cc)
fine_bounded n value (Some b) = fine_above n b value (nat_le n b)

by_phase : {T : Type 0} (db : List ℕ) (log : LogKind) (p : CommitPhase T) (answer : StoreAnswer) → commit_due p ≡ true → IsAnswerTo (commit_asks db log p) answer → ((answer ≡ Fault) × IsEnd (commit_goes p answer)) ⊎ Fine commit_due (commit_goes p answer)
by_phase db log (Putting n bytes value) answer due kind = sound_at commit_due (commit_goes (Putting n bytes value)) Created answer (create_answers (version_path log db n) bytes answer kind) tt (λ tag. fine_created n value tag)
by_phase db log (Bounding n value) answer due kind = sound_at commit_due (commit_goes (Bounding n value)) Got answer (get_answers (boundary_path log db) answer kind) tt (λ object. fine_bounded n value (boundary_got object))
by_phase db log Over answer due kind = absurd cc

-- a commit ends in a fault only where the store faults
pub commit_faults : {T : Type 0} (db : List ℕ) (log : LogKind) → OnlyFaults {P = CommitPhase T} commit_due (commit_asks db log) commit_goes
commit_faults db log = record { sound = λ p answer. by_phase db log p answer }

-- what was put is what is answered
pub answers_version : {T : Type 0} (start p q : CommitPhase T) (result : Result (ℕ × T) SlateDBError) → KeepsVersion p q (Done result) → commit_version p ≡ commit_version start → IfOk result (λ version. commit_version start ≡ Some version)
answers_version start p q (Ok version) keeps same = sym same ∙ keeps
answers_version start p q (Err e) keeps same = tt
