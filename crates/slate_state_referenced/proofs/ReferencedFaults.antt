-- The reading of the versions that checkpoints name ends in a fault only where the store faults.
use Rattle.std.specs.Prelude.{◌≡◌, ◌≢◌, ℕ, ℤ, Bool, true, false, List, [], ◌∷◌, drop, is_some, Option, Some, None, Result, Ok, Err, refl}
use Rattle.std.proofs.Common.{ap, ◌⊎◌, inl, inr, subst, sym}
use Rattle.slate_ids.specs.declared.error.SlateDBError.{SlateDBError}
use Rattle.slate_ids.specs.declared.error.SlateDBError.TheVariants.{StoreFault, ManifestMissing}
use Rattle.slate_ids.specs.Answers.{OrMemory}
use Rattle.slate_store.specs.StoreCalls.{Told, IsAnswerTo, is_reading}
use Rattle.slate_store.specs.Machines.{Goes, Stay, End, IsEnd, Steps}
use Rattle.slate_store.specs.declared.step.Step.{Step}
use Rattle.slate_store.specs.declared.store_answer.StoreAnswer.{StoreAnswer}
use Rattle.slate_store.specs.declared.store_answer.StoreAnswer.TheVariants.{Got, Fault}
use Rattle.slate_store.specs.declared.object.StoredObject.{StoredObject}
use Rattle.slate_txn_log.specs.Due.{NoFault}
use Rattle.slate_txn_log.specs.LogPaths.{version_path, boundary_path}
use Rattle.slate_txn_log.specs.TryRead.{some_value, value_got}
use Rattle.slate_txn_log.specs.declared.log_kind.LogKind.TheVariants as logs
use Rattle.slate_txn_log.proofs.Faults.{OnlyFaults, Fine, fine_stay, fine_ok, fine_err, sound_at, get_answers}
use Rattle.slate_model.specs.declared.manifest.Manifest.{Manifest}
use Rattle.slate_state_referenced.specs.Referenced.{Versions, ReferencedGoes, IfNone, first_number, number_asks, number_goes, rest_goes, referenced_asks, referenced_due, referenced_goes, ReferencedSteps, ReadsAll, ReferencedBegan, ReferencedRan}
use Rattle.slate_state_referenced.specs.declared.referenced_phase.ReferencedPhase.{ReferencedPhase}
use Rattle.slate_state_referenced.specs.declared.referenced_phase.ReferencedPhase.TheVariants.{Getting, Over}

abbrev pub FineRead : ReferencedGoes → Type 0
FineRead out = Fine referenced_due out

-- the rest of the reading ends in no fault
pub fine_rest : (left : List ℕ) (found : Versions) → FineRead (rest_goes left found)
fine_rest [] found = fine_ok referenced_due Over found
fine_rest (n ∷ left) found = fine_stay referenced_due (Getting (n ∷ left) found) refl

fine_number : (n : ℕ) (left : List ℕ) (found : Versions) (reply : Result (Option Manifest) SlateDBError) → reply ≢ Err StoreFault → FineRead (number_goes n left found reply)
fine_number n left found (Ok (Some m)) h = fine_rest left _
fine_number n left found (Ok None) h = fine_err referenced_due Over (ManifestMissing n) (λ same. absurd cc)
fine_number n left found (Err e) h = fine_err referenced_due Over e (λ same. h (ap (λ (k : SlateDBError). Err k) same))

no_fault_some : (r : Result Manifest SlateDBError) → r ≢ Err StoreFault → some_value r ≢ Err StoreFault
no_fault_some (Ok m) h = λ same. absurd cc
no_fault_some (Err e) h = λ same. h (let both : e ≡ StoreFault = cc in ap (λ (k : SlateDBError). Err k) both)

no_fault_got : (decoded : List ℕ → Result Manifest SlateDBError) → NoFault decoded → (object : Option StoredObject) → value_got decoded object ≢ Err StoreFault
no_fault_got decoded good None = λ same. absurd cc
no_fault_got decoded good (Some object) = no_fault_some (decoded object.bytes) (good object.bytes)

-- the reading ends in a fault only where the store faults
pub referenced_faults : (db : List ℕ) (decoded : List ℕ → Result Manifest SlateDBError) → NoFault decoded → OnlyFaults referenced_due (referenced_asks db) (referenced_goes decoded)
referenced_faults db decoded good = record { sound = λ p answer. by_phase p answer } where
  by_phase : (p : ReferencedPhase) (answer : StoreAnswer) → referenced_due p ≡ true → IsAnswerTo (referenced_asks db p) answer → ((answer ≡ Fault) × IsEnd (referenced_goes decoded p answer)) ⊎ FineRead (referenced_goes decoded p answer)
  by_phase (Getting [] found) answer due kind = absurd cc
  by_phase (Getting (n ∷ left) found) answer due kind = sound_at referenced_due (referenced_goes decoded (Getting (n ∷ left) found)) Got answer (get_answers (version_path logs.Manifest db n) answer kind) tt (λ object. fine_number n left found (value_got decoded object) (no_fault_got decoded good object))
  by_phase Over answer due kind = absurd cc

asks_reads : (db : List ℕ) (n : Option ℕ) → is_reading (number_asks db n) ≡ true
asks_reads db (Some n) = refl
asks_reads db None = refl

-- it only reads
pub referenced_reads : (db : List ℕ) (p : ReferencedPhase) → is_reading (referenced_asks db p) ≡ true
referenced_reads db (Getting left found) = asks_reads db (first_number left)
referenced_reads db Over = refl

-- the fact that holds where a number is left
if_some : (P Q : Type 0) (n : Option ℕ) → is_some n ≡ true → Q → IfNone n P Q
if_some P Q None h q = absurd cc
if_some P Q (Some n) h q = q

-- a step where a call is due
pub steps_at : (db : List ℕ) (decoded : List ℕ → Result Manifest SlateDBError) (old new : Told) (moment : ℤ) (from to : ReferencedPhase) (step : Step Versions) → referenced_due from ≡ true
    → Steps old new (referenced_asks db from) moment (referenced_goes decoded from) from to step → ReferencedSteps db decoded old new moment from to step
steps_at db decoded old new moment (Getting left found) to step due steps = if_some _ _ (first_number left) due steps
steps_at db decoded old new moment Over to step due steps = absurd cc

-- a reading that is to get something
pub reads_at : (db : List ℕ) (decoded : List ℕ → Result Manifest SlateDBError) (old new : Told) (from : ReferencedPhase) (result : Result Versions SlateDBError) → referenced_due from ≡ true
    → OrMemory result (ReferencedBegan db decoded old new from) (ReferencedRan db decoded old new from result) → ReadsAll db decoded old new from result
reads_at db decoded old new (Getting left found) result due ran = if_some _ _ (first_number left) due ran
reads_at db decoded old new Over result due ran = absurd cc
