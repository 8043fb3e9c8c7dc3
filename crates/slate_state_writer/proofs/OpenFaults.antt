-- An open ends in a fault only where the store faults.
use Rattle.std.specs.Prelude.{◌≡◌, ℕ, ℤ, Bool, true, List, Option, Some, None, Result, Ok, Err, refl}
use Rattle.std.proofs.Common.{ap, inl, inr}
use Rattle.slate_txn_changes.proofs.Sound.{IsFault, Sound, sound_ends, sound_turned, turn_due}
use Rattle.slate_txn_changes.proofs.WorkFaults.{work_sound}
use Rattle.slate_txn_changes.specs.LogWorks.{WorkGoes, work_due}
use Rattle.slate_txn_changes.specs.Turns.{turn_asks}
use Rattle.slate_state_logs.specs.laws.RecordsPlain as record_bytes
use Rattle.slate_state_calls.specs.Commits.{ManifestChanging, RecordChanging, manifest_in, manifest_put, record_in, record_put, first_of, first_put}
use Rattle.slate_state_calls.specs.Compactors.{opened_with}
use Rattle.slate_state_calls.specs.Opening.{OpenGoes, after_record, on_record, open_asks, open_due, open_goes, open_lists_again, puts, raised, raising, with_version, without_version}
use Rattle.slate_state_calls.specs.declared.compactor.Compactor.{Compactor}
use Rattle.slate_state_calls.specs.declared.open_phase.OpenPhase.{OpenPhase}
use Rattle.slate_state_calls.specs.declared.open_phase.OpenPhase.TheVariants.{Raising, OnRecord, Over}
use Rattle.slate_state_calls.specs.declared.open_phase.OpenStep.{OpenStep}
use Rattle.slate_state_calls.specs.declared.open_phase.OpenStep.TheVariants.{Give, Begin, GiveFirst, Reset}
use Rattle.slate_state_writer.proofs.PutFaults.{MayBegin, RecordsPlain, first_begins, manifest_puts, record_begins, record_puts}
use Rattle.slate_state_writer.specs.PlainOpening.{begins_again, open_turning, writer_goes}
use Rattle.slate_state_writer.specs.Writer.{held_by}
use Rattle.slate_ids.specs.Answers.{ran_out}
use Rattle.slate_ids.specs.declared.error.SlateDBError.{SlateDBError}
use Rattle.slate_ids.specs.declared.error.SlateDBError.TheVariants.{LatestTransactionalObjectVersionMissing, StoreFault}
use Rattle.slate_txn_log.proofs.Faults.{Fine, OnlyFaults, fine_err, fine_ok, fine_stay}
use Rattle.slate_txn_log.specs.declared.log_kind.LogKind.TheVariants.{Compactions as RecordLog, Manifest as ManifestLog}
use Rattle.slate_layout_manifests.specs.Decoding.{decoded_manifest}
use Rattle.slate_state_logs.specs.laws.ManifestsPlain as manifest_bytes
use Rattle.slate_model.specs.declared.manifest.Manifest.{Manifest}
use Rattle.slate_layout_records.specs.RecordBytes.{decoded_record}
use Rattle.slate_state_record_updates.specs.declared.record_change.RecordChange.TheVariants as changes
use Rattle.slate_model_records.specs.Records.{Record}
use Rattle.slate_txn_laws.specs.Replies.{Faithful, goes_as, step_as}
use Rattle.slate_store.specs.StoreCalls.{IsAnswerTo}
use Rattle.slate_store.specs.Machines.{Goes, Stay, End, IsAgain}
use Rattle.slate_store.specs.declared.step.Step.{Step}
use Rattle.slate_store.specs.declared.step.Step.TheVariants.{Again, Done}
use Rattle.slate_store.specs.declared.store_answer.StoreAnswer.{StoreAnswer}

-- what follows a machine is sound where that is
pub sound_follows : {P R Q S : Type 0} (due : P → Bool) (after : Q → Bool) (follows : Goes P R → Goes Q S) (answer : StoreAnswer) (out : Goes P R) → (IsFault out → IsFault (follows out)) → (Fine due out → Fine after (follows out)) → Sound due answer out → Sound after answer (follows out)
sound_follows due after follows answer out fault fine (inl faulted) = inl (faulted.0, fault faulted.1)
sound_follows due after follows answer out fault fine (inr fines) = inr (fine fines)

abbrev FineOpen : OpenGoes → Type 0
FineOpen out = Fine open_due out

missing_fine : FineOpen (End Over (Err LatestTransactionalObjectVersionMissing))
missing_fine = fine_err open_due Over LatestTransactionalObjectVersionMissing (λ same. absurd cc)

-- ---- what follows each phrase

puts_fine : (step : OpenStep) (m : ℕ × Manifest) (put : Result RecordChanging SlateDBError) → MayBegin put → FineOpen (puts step m put)
puts_fine step m (Ok p) due = fine_stay open_due (OnRecord step m p) due
puts_fine step m (Err e) other = fine_err open_due Over e other

with_fine : RecordsPlain → (step : OpenStep) (m : ℕ × Manifest) (now : ℤ) (r : ℕ × Record) → FineOpen (with_version step m now r)
with_fine plain Give m now r = puts_fine Reset m _ (record_begins plain (changes.Reset m.1.compactor_epoch) now r)
with_fine plain Begin m now r = puts_fine GiveFirst m _ (record_begins plain (changes.GiveEpoch m.1.compactor_epoch) now r)
with_fine plain GiveFirst m now r = puts_fine Reset m _ (record_begins plain (changes.Reset m.1.compactor_epoch) now r)
with_fine plain Reset m now r = fine_ok open_due Over (opened_with m r)

without_fine : RecordsPlain → (step : OpenStep) (m : ℕ × Manifest) (now : ℤ) → FineOpen (without_version step m now)
without_fine plain Give m now = puts_fine Begin m (first_of now first_put) (first_begins plain now)
without_fine plain _ m now = missing_fine

after_fine : RecordsPlain → (step : OpenStep) (m : ℕ × Manifest) (now : ℤ) (found : Option (ℕ × Record)) → FineOpen (after_record step m now found)
after_fine plain step m now None = without_fine plain step m now
after_fine plain step m now (Some r) = with_fine plain step m now r

raised_fine : (found : Option (ℕ × Manifest)) → FineOpen (raised found)
raised_fine None = missing_fine
raised_fine (Some m) = fine_stay open_due _ refl

-- ---- each phrase

raising_fine : (p : ManifestChanging) (out : WorkGoes Manifest) → Fine work_due out → FineOpen (raising p out)
raising_fine p (Stay work) fine = fine_stay open_due (Raising (record p { work = work })) (fine.stays work refl)
raising_fine p (End work (Ok end)) fine = raised_fine (manifest_in end)
raising_fine p (End work (Err e)) fine = fine_err open_due Over e (λ same. fine.ends work (ap (λ (k : SlateDBError). End work (Err k)) same))

raising_fault : (p : ManifestChanging) (out : WorkGoes Manifest) → IsFault out → IsFault (raising p out)
raising_fault p (Stay work) fault = absurd fault
raising_fault p (End work (Ok end)) fault = absurd fault
raising_fault p (End work (Err e)) fault = fault

record_fine : RecordsPlain → (step : OpenStep) (m : ℕ × Manifest) (now : ℤ) (p : RecordChanging) (out : WorkGoes Record) → Fine work_due out → FineOpen (on_record step m now p out)
record_fine plain step m now p (Stay work) fine = fine_stay open_due (OnRecord step m (record p { work = work })) (fine.stays work refl)
record_fine plain step m now p (End work (Ok end)) fine = after_fine plain step m now (record_in end)
record_fine plain step m now p (End work (Err e)) fine = fine_err open_due Over e (λ same. fine.ends work (ap (λ (k : SlateDBError). End work (Err k)) same))

record_fault : (step : OpenStep) (m : ℕ × Manifest) (now : ℤ) (p : RecordChanging) (out : WorkGoes Record) → IsFault out → IsFault (on_record step m now p out)
record_fault step m now p (Stay work) fault = absurd fault
record_fault step m now p (End work (Ok end)) fault = absurd fault
record_fault step m now p (End work (Err e)) fault = fault

by_phase : RecordsPlain → (db : List ℕ) (now : ℤ) (phase : OpenPhase) (answer : StoreAnswer) → open_due phase ≡ true → IsAnswerTo (open_asks db phase) answer → Sound open_due answer (open_goes now phase answer)
by_phase plain db now (Raising p) answer due kind = sound_follows work_due open_due (raising p) answer _ (raising_fault p _) (raising_fine p _)
    (work_sound db ManifestLog decoded_manifest (manifest_put p.change) manifest_bytes.decoding_fine (manifest_puts p.change) now p.work answer due kind)
by_phase plain db now (OnRecord step m p) answer due kind = sound_follows work_due open_due (on_record step m now p) answer _ (record_fault step m now p _) (record_fine plain step m now p _)
    (work_sound db RecordLog decoded_record (record_put p.change) record_bytes.decoding_fine (record_puts plain p.change) now p.work answer due kind)
by_phase plain db now Over answer due kind = absurd cc

-- ---- the writer in place of what it holds

held_fine : (db : List ℕ) (out : OpenGoes) → FineOpen out → Fine open_due (goes_as (held_by db) out)
held_fine db (Stay p) fine = fine_stay open_due p (fine.stays p refl)
held_fine db (End p (Ok c)) fine = fine_ok open_due p _
held_fine db (End p (Err e)) fine = fine_err open_due p e (λ same. fine.ends p (ap (λ (k : SlateDBError). End p (Err k)) same))

held_fault : (db : List ℕ) (out : OpenGoes) → IsFault out → IsFault (goes_as (held_by db) out)
held_fault db (Stay p) fault = absurd fault
held_fault db (End p (Ok c)) fault = absurd fault
held_fault db (End p (Err e)) fault = fault

held_memory : (db : List ℕ) (r : Result Compactor SlateDBError) → ran_out (held_by db r) ≡ ran_out r
held_memory db (Ok c) = refl
held_memory db (Err e) = refl

held_refusal : (db : List ℕ) (r : Result Compactor SlateDBError) → held_by db r ≡ Err StoreFault → r ≡ Err StoreFault
held_refusal db (Ok c) h = absurd cc
held_refusal db (Err e) h = let both : e ≡ StoreFault = cc in ap (λ (k : SlateDBError). Err k) both

pub held_faithful : (db : List ℕ) → Faithful (held_by db)
held_faithful db = record { memory = held_memory db; fault = held_refusal db }

-- a step goes on where it did
pub again_as : (db : List ℕ) (step : Step Compactor) → IsAgain (step_as (held_by db) step) → IsAgain step
again_as db Again again = tt
again_as db (Done r) again = absurd again

held_sound : RecordsPlain → (db : List ℕ) (now : ℤ) (phase : OpenPhase) (answer : StoreAnswer) → open_due phase ≡ true → IsAnswerTo (open_asks db phase) answer → Sound open_due answer (writer_goes db now phase answer)
held_sound plain db now phase answer due kind = sound_follows open_due open_due (goes_as (held_by db)) answer (open_goes now phase answer) (held_fault db _) (held_fine db _) (by_phase plain db now phase answer due kind)

-- its machine
pub open_faults : RecordsPlain → (db : List ℕ) (now : ℤ) → OnlyFaults open_due (open_asks db) (writer_goes db now)
open_faults plain db now = record { sound = λ phase answer due kind. sound_ends open_due answer (writer_goes db now phase answer) (held_sound plain db now phase answer due kind) }

-- and the plain call
pub turning_faults : RecordsPlain → (db : List ℕ) (now : ℤ) → OnlyFaults (turn_due open_due) (turn_asks (open_asks db)) (open_turning db now)
turning_faults plain db now = record {
  sound = λ turn answer due kind. sound_ends (turn_due open_due) answer (open_turning db now turn answer)
      (sound_turned open_due open_lists_again begins_again turn answer (writer_goes db now turn.0 answer) (λ p. refl) (held_sound plain db now turn.0 answer due kind));
}
