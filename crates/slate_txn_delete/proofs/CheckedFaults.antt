-- A checked delete ends in a fault only where the store faults, and what it reads with.
use Rattle.std.specs.Prelude.{◌≡◌, ◌≢◌, ℕ, Bool, true, false, List, Option, Some, None, Result, Ok, Err, if◌then◌else◌, refl}
use Rattle.std.proofs.Common.{ap, ◌⊎◌, inl, inr, subst, sym}
use Rattle.slate_ids.specs.declared.error.SlateDBError.{SlateDBError}
use Rattle.slate_ids.specs.declared.error.SlateDBError.TheVariants.{StoreFault, Corrupt, InvalidDeletion, LatestTransactionalObjectVersionMissing}
use Rattle.slate_ids.specs.declared.error.FormatName.TheVariants.{Boundary as BoundaryFormat}
use Rattle.slate_store.specs.StoreCalls.{IsAnswerTo, is_reading}
use Rattle.slate_store.specs.Machines.{Goes, Stay, End, IsEnd}
use Rattle.slate_store.specs.declared.store_answer.StoreAnswer.{StoreAnswer}
use Rattle.slate_store.specs.declared.store_answer.StoreAnswer.TheVariants.{Deleted, Fault}
use Rattle.slate_txn_log.specs.Due.{NoFault}
use Rattle.slate_txn_log.specs.LogPaths.{version_path}
use Rattle.slate_txn_log.specs.ReadPhase.{read_asks, read_goes, read_due}
use Rattle.slate_txn_log.specs.declared.log_kind.LogKind.{LogKind}
use Rattle.slate_txn_log.specs.declared.read_phase.ReadPhase.{ReadPhase}
use Rattle.slate_txn_log.specs.declared.read_phase.ReadPhase.TheVariants as reads
use Rattle.slate_txn_log.proofs.Faults.{OnlyFaults, Fine, fine_stay, fine_ok, fine_err, sound_at, delete_answers}
use Rattle.slate_txn_log.proofs.ReadFaults.{read_faults}
use Rattle.slate_txn_log.proofs.Steps.{reads_only}
use Rattle.slate_txn_delete.specs.CheckedDelete.{CheckedGoes, allowed_goes, boundary_told, checked_asks, checked_due, checked_goes, is_reading_phase, judged, may_delete}
use Rattle.slate_txn_delete.specs.declared.checked_delete_phase.CheckedDeletePhase.{CheckedDeletePhase}
use Rattle.slate_txn_delete.specs.declared.checked_delete_phase.CheckedDeletePhase.TheVariants.{Reading, Deleting, Over}

abbrev FineChecked : {T : Type 0} → CheckedGoes T → Type 0
FineChecked out = Fine checked_due out

fine_test : {T : Type 0} (n : ℕ) (b : Bool) → FineChecked {T = T} (if b then Stay (Deleting n) else End Over (Err (InvalidDeletion n)))
fine_test n true = fine_stay checked_due (Deleting n) refl
fine_test n false = fine_err checked_due Over (InvalidDeletion n) (λ same. absurd cc)

fine_allowed : {T : Type 0} (names : T → ℕ → Bool) (n : ℕ) (version : ℕ × T) (boundary : Option ℕ) → FineChecked (allowed_goes names n version boundary)
fine_allowed names n version None = fine_err checked_due Over (Corrupt BoundaryFormat) (λ same. absurd cc)
fine_allowed names n version (Some boundary) = fine_test n (may_delete names n version boundary)

fine_judged : {T : Type 0} (names : T → ℕ → Bool) (n : ℕ) (boundary : Option ℕ) (out : Goes (ReadPhase T) (Option (ℕ × T))) → Fine read_due out → FineChecked (judged names n boundary out)
fine_judged names n boundary (Stay read) fine = fine_stay checked_due (Reading n read) (fine.stays read refl)
fine_judged names n boundary (End read (Err e)) fine = fine_err checked_due Over e (λ same. fine.ends read (ap (λ (k : SlateDBError). End read (Err k)) same))
fine_judged names n boundary (End read (Ok None)) fine = fine_err checked_due Over LatestTransactionalObjectVersionMissing (λ same. absurd cc)
fine_judged names n boundary (End read (Ok (Some version))) fine = fine_allowed names n version boundary

fault_ends : {T : Type 0} (log : LogKind) (decoded : List ℕ → Result T SlateDBError) (read : ReadPhase T) → read_goes log decoded read Fault ≡ End reads.Over (Err StoreFault)
fault_ends log decoded reads.Listing = refl
fault_ends log decoded (reads.Getting n) = refl
fault_ends log decoded (reads.Bounding n value) = refl
fault_ends log decoded reads.Over = refl

judged_fault : {T : Type 0} (log : LogKind) (decoded : List ℕ → Result T SlateDBError) (names : T → ℕ → Bool) (n : ℕ) (boundary : Option ℕ) (read : ReadPhase T) → IsEnd (judged names n boundary (read_goes log decoded read Fault))
judged_fault log decoded names n boundary read = subst (λ (out : Goes (ReadPhase _) (Option (ℕ × _))). IsEnd (judged names n boundary out)) (sym (fault_ends log decoded read)) tt

in_read : {T : Type 0} (log : LogKind) (decoded : List ℕ → Result T SlateDBError) (names : T → ℕ → Bool) (n : ℕ) (read : ReadPhase T) (answer : StoreAnswer)
    → ((answer ≡ Fault) × IsEnd (read_goes log decoded read answer)) ⊎ Fine read_due (read_goes log decoded read answer)
    → ((answer ≡ Fault) × IsEnd (checked_goes log decoded names (Reading n read) answer)) ⊎ FineChecked (checked_goes log decoded names (Reading n read) answer)
in_read log decoded names n read answer (inl fault) =
    inl (fault.0, subst (λ (a : StoreAnswer). IsEnd (judged names n (boundary_told a) (read_goes log decoded read a))) (sym fault.0) (judged_fault log decoded names n (boundary_told Fault) read))
in_read log decoded names n read answer (inr fine) = inr (fine_judged names n (boundary_told answer) (read_goes log decoded read answer) fine)

-- a checked delete ends in a fault only where the store faults
pub checked_faults : {T : Type 0} (db : List ℕ) (log : LogKind) (decoded : List ℕ → Result T SlateDBError) (names : T → ℕ → Bool) → NoFault decoded → OnlyFaults checked_due (checked_asks db log) (checked_goes log decoded names)
checked_faults db log decoded names good = record { sound = λ p answer. by_phase p answer } where
  by_phase : (p : CheckedDeletePhase _) (answer : StoreAnswer) → checked_due p ≡ true → IsAnswerTo (checked_asks db log p) answer → ((answer ≡ Fault) × IsEnd (checked_goes log decoded names p answer)) ⊎ FineChecked (checked_goes log decoded names p answer)
  by_phase (Reading n read) answer due kind = in_read log decoded names n read answer ((read_faults db log decoded good).sound read answer due kind)
  by_phase (Deleting n) answer due kind = sound_at checked_due (checked_goes log decoded names (Deleting n)) (λ (u : Unit {0}). Deleted) answer (delete_answers (version_path log db n) answer kind) tt (λ u. fine_ok checked_due Over tt)
  by_phase Over answer due kind = absurd cc

-- what it reads with, only reads
pub checked_reads : {T : Type 0} (db : List ℕ) (log : LogKind) (p : CheckedDeletePhase T) → is_reading_phase p ≡ true → is_reading (checked_asks db log p) ≡ true
checked_reads db log (Reading n read) h = reads_only db log read
checked_reads db log (Deleting n) h = absurd cc
checked_reads db log Over h = absurd cc
