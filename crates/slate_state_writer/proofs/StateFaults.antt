-- A call on the state ends in a fault only where the store faults.
use Rattle.std.specs.Prelude.{◌≡◌, ◌≢◌, ℕ, ℤ, Bool, true, false, List, Option, Some, None, Result, Ok, Err, refl}
use Rattle.std.proofs.Common.{ap}
use Rattle.slate_txn_changes.proofs.Sound.{IsFault, Sound, sound_ends, sound_turned, turn_due}
use Rattle.slate_txn_changes.proofs.WorkFaults.{work_sound}
use Rattle.slate_txn_changes.specs.LogWorks.{WorkGoes, work_due}
use Rattle.slate_txn_changes.specs.Turns.{turn_asks}
use Rattle.slate_txn_changes.specs.declared.log_work.LogEnd.{LogEnd}
use Rattle.slate_txn_changes.specs.declared.log_work.LogEnd.TheVariants.{Absent, Unchanged, Committed}
use Rattle.slate_state_logs.specs.laws.RecordsPlain as record_bytes
use Rattle.slate_state_compactor.specs.Local.{refreshed}
use Rattle.slate_state_compactor.specs.declared.local_state.LocalState.{LocalState}
use Rattle.slate_state_calls.specs.Commits.{ManifestChanging, RecordChanging, manifest_in, manifest_put, merge_of, record_in, record_put, statuses_of}
use Rattle.slate_state_calls.specs.Compactors.{with_manifest}
use Rattle.slate_state_calls.specs.StateSteps.{StateAt, StateGoes, follows, manifest_next, merge_by, merges, next_after, on_manifest, on_record, onward, or_missing, record_next, records, refresh_of, refreshes, start_phase, state_due, state_goes}
use Rattle.slate_state_calls.specs.declared.compactor.Compactor.{Compactor}
use Rattle.slate_state_calls.specs.declared.state_phase.ManifestStep.{ManifestStep}
use Rattle.slate_state_calls.specs.declared.state_phase.ManifestStep.TheVariants.{Follow, Keep, Merge}
use Rattle.slate_state_calls.specs.declared.state_phase.RecordStep.{RecordStep}
use Rattle.slate_state_calls.specs.declared.state_phase.RecordStep.TheVariants as steps
use Rattle.slate_state_calls.specs.declared.state_phase.StatePhase.{StatePhase}
use Rattle.slate_state_calls.specs.declared.state_phase.StatePhase.TheVariants.{OnManifest, OnRecord, Over}
use Rattle.slate_state_calls.specs.declared.state_start.StateStart.{StateStart}
use Rattle.slate_state_calls.specs.declared.state_start.StateStart.TheVariants.{Refresh, Schedule, WriteTrees, WriteRecord}
use Rattle.slate_state_calls.specs.declared.state_start.TreesWrite.{TreesWrite}
use Rattle.slate_state_writer.proofs.OpenFaults.{sound_follows}
use Rattle.slate_state_writer.proofs.PutFaults.{Apart, MayBegin, RecordsPlain, fence_apart, manifest_begins, manifest_puts, record_begins, record_puts, refreshed_apart}
use Rattle.slate_state_writer.specs.StateCalls.{asks_at, begins_again, lists_again, state_turning}
use Rattle.slate_ids.specs.declared.error.SlateDBError.{SlateDBError}
use Rattle.slate_ids.specs.declared.error.SlateDBError.TheVariants.{LatestTransactionalObjectVersionMissing, StoreFault}
use Rattle.slate_txn_log.proofs.Faults.{Fine, OnlyFaults, fine_err, fine_ok, fine_stay}
use Rattle.slate_txn_log.specs.Fence.{fence, unless}
use Rattle.slate_txn_log.specs.declared.log_kind.LogKind.TheVariants.{Compactions as RecordLog, Manifest as ManifestLog}
use Rattle.slate_layout_manifests.specs.Decoding.{decoded_manifest}
use Rattle.slate_state_logs.specs.laws.ManifestsPlain as manifest_bytes
use Rattle.slate_model.specs.declared.manifest.Manifest.{Manifest}
use Rattle.slate_layout_records.specs.RecordBytes.{decoded_record}
use Rattle.slate_model_records.specs.Records.{Record}
use Rattle.slate_store.specs.StoreCalls.{IsAnswerTo}
use Rattle.slate_store.specs.Machines.{Stay, End}
use Rattle.slate_store.specs.declared.store_answer.StoreAnswer.{StoreAnswer}

-- whether a call is due
abbrev pub due_at : StateAt → Bool
due_at at = state_due at.0

abbrev FineState : StateGoes → Type 0
FineState out = Fine due_at out

no_version : (c : Compactor) → FineState (End (Over, c) (Err LatestTransactionalObjectVersionMissing))
no_version c = fine_err due_at (Over, c) LatestTransactionalObjectVersionMissing (λ same. absurd cc)

missing_fine : {V : Type 0} (c : Compactor) (next : V → StateGoes) (found : Option V) → ((v : V) → FineState (next v)) → FineState (or_missing c next found)
missing_fine c next None each = no_version c
missing_fine c next (Some v) each = each v

-- ---- the record

follows_fine : (c : Compactor) (v : ℕ × Record) (refusal : Option SlateDBError) → Apart refusal → FineState (follows c v refusal)
follows_fine c v (Some e) other = fine_err due_at (Over, c) e other
follows_fine c v None other = fine_stay due_at _ refl

records_fine : (write : Option TreesWrite) (c : Compactor) (put : Result RecordChanging SlateDBError) → MayBegin put → FineState (records write c put)
records_fine write c (Ok p) due = fine_stay due_at _ due
records_fine write c (Err e) other = fine_err due_at (Over, c) e other

record_fine : RecordsPlain → (step : RecordStep) (now : ℤ) (c : Compactor) (v : ℕ × Record) → FineState (record_next step now c v)
record_fine plain steps.Follow now c v = follows_fine c v (fence c.epoch v.1.compactor_epoch) (fence_apart c.epoch v.1.compactor_epoch)
record_fine plain steps.Schedule now c v = fine_ok due_at _ tt
record_fine plain (steps.Fetch write) now c v = records_fine write c _ (record_begins plain (statuses_of c.epoch c.local) now v)
record_fine plain (steps.Record write) now c v = fine_ok due_at _ tt

on_record_fine : RecordsPlain → (step : RecordStep) (now : ℤ) (c : Compactor) (p : RecordChanging) (out : WorkGoes Record) → Fine work_due out → FineState (on_record step now c p out)
on_record_fine plain step now c p (Stay work) fine = fine_stay due_at (OnRecord step (record p { work = work }), c) (fine.stays work refl)
on_record_fine plain step now c p (End work (Ok end)) fine = missing_fine c (record_next step now c) (record_in end) (record_fine plain step now c)
on_record_fine plain step now c p (End work (Err e)) fine = fine_err due_at (Over, c) e (λ same. fine.ends work (ap (λ (k : SlateDBError). End work (Err k)) same))

on_record_fault : (step : RecordStep) (now : ℤ) (c : Compactor) (p : RecordChanging) (out : WorkGoes Record) → IsFault out → IsFault (on_record step now c p out)
on_record_fault step now c p (Stay work) fault = absurd fault
on_record_fault step now c p (End work (Ok end)) fault = absurd fault
on_record_fault step now c p (End work (Err e)) fault = fault

-- ---- the manifest

refreshes_fine : (c : Compactor) (v : ℕ × Manifest) (local : Result LocalState SlateDBError) → local ≢ Err StoreFault → FineState (refreshes c v local)
refreshes_fine c v (Ok local) other = fine_ok due_at _ tt
refreshes_fine c v (Err e) other = fine_err due_at (Over, c) e (λ same. other (ap (λ (k : SlateDBError). Err k) same))

unless_apart : (refusal : Option SlateDBError) (local : Result LocalState SlateDBError) → Apart refusal → local ≢ Err StoreFault → unless refusal local ≢ Err StoreFault
unless_apart None local fenced other = other
unless_apart (Some e) local fenced other = λ same. fenced (let both : e ≡ StoreFault = cc in both)

refresh_apart : (c : Compactor) (m : Manifest) → refresh_of c m ≢ Err StoreFault
refresh_apart c m = unless_apart (fence c.epoch m.compactor_epoch) (refreshed c.compactions m.core c.local) (fence_apart c.epoch m.compactor_epoch) (refreshed_apart c.compactions m.core c.local)

merges_fine : (write : TreesWrite) (c : Compactor) (put : Result ManifestChanging SlateDBError) → MayBegin put → FineState (merges write c put)
merges_fine write c (Ok p) due = fine_stay due_at _ due
merges_fine write c (Err e) other = fine_err due_at (Over, c) e other

onward_fine : (whole : Bool) (write : TreesWrite) (c : Compactor) → FineState (onward c (next_after whole write))
onward_fine true write c = fine_stay due_at _ refl
onward_fine false write c = fine_ok due_at _ tt

manifest_fine : (step : ManifestStep) (now : ℤ) (c : Compactor) (end : LogEnd Manifest) → FineState (manifest_next step now c end)
manifest_fine Follow now c end = missing_fine c _ (manifest_in end) (λ v. refreshes_fine c v (refresh_of c v.1) (refresh_apart c v.1))
manifest_fine (Keep write) now c end = missing_fine c (merge_by write now c) (manifest_in end) (λ v. merges_fine write (with_manifest v c) _ (manifest_begins (merge_of c.epoch c.local) now v))
manifest_fine (Merge write) now c Absent = no_version c
manifest_fine (Merge write) now c (Unchanged n m) = no_version c
manifest_fine (Merge write) now c (Committed n m) = onward_fine write.whole write _

on_manifest_fine : (step : ManifestStep) (now : ℤ) (c : Compactor) (p : ManifestChanging) (out : WorkGoes Manifest) → Fine work_due out → FineState (on_manifest step now c p out)
on_manifest_fine step now c p (Stay work) fine = fine_stay due_at (OnManifest step (record p { work = work }), c) (fine.stays work refl)
on_manifest_fine step now c p (End work (Ok end)) fine = manifest_fine step now c end
on_manifest_fine step now c p (End work (Err e)) fine = fine_err due_at (Over, c) e (λ same. fine.ends work (ap (λ (k : SlateDBError). End work (Err k)) same))

on_manifest_fault : (step : ManifestStep) (now : ℤ) (c : Compactor) (p : ManifestChanging) (out : WorkGoes Manifest) → IsFault out → IsFault (on_manifest step now c p out)
on_manifest_fault step now c p (Stay work) fault = absurd fault
on_manifest_fault step now c p (End work (Ok end)) fault = absurd fault
on_manifest_fault step now c p (End work (Err e)) fault = fault

-- ---- all phases

by_phase : RecordsPlain → (db : List ℕ) (now : ℤ) (phase : StatePhase) (c : Compactor) (answer : StoreAnswer) → state_due phase ≡ true → IsAnswerTo (asks_at db (phase, c)) answer → Sound due_at answer (state_goes now (phase, c) answer)
by_phase plain db now (OnRecord step p) c answer due kind = sound_follows work_due due_at (on_record step now c p) answer _ (on_record_fault step now c p _) (on_record_fine plain step now c p _)
    (work_sound db RecordLog decoded_record (record_put p.change) record_bytes.decoding_fine (record_puts plain p.change) now p.work answer due kind)
by_phase plain db now (OnManifest step p) c answer due kind = sound_follows work_due due_at (on_manifest step now c p) answer _ (on_manifest_fault step now c p _) (on_manifest_fine step now c p _)
    (work_sound db ManifestLog decoded_manifest (manifest_put p.change) manifest_bytes.decoding_fine (manifest_puts p.change) now p.work answer due kind)
by_phase plain db now Over c answer due kind = absurd cc

-- its machine
pub state_faults : RecordsPlain → (db : List ℕ) (now : ℤ) → OnlyFaults due_at (asks_at db) (state_goes now)
state_faults plain db now = record { sound = λ at answer due kind. sound_ends due_at answer (state_goes now at answer) (by_phase plain db now at.0 at.1 answer due kind) }

pub start_due : (start : StateStart) (c : Compactor) → state_due (start_phase start c) ≡ true
start_due Refresh c = refl
start_due (Schedule id) c = refl
start_due (WriteTrees write) c = refl
start_due WriteRecord c = refl

-- and the plain call
pub turning_faults : RecordsPlain → (db : List ℕ) (start : StateStart) (now : ℤ) → OnlyFaults (turn_due due_at) (turn_asks (asks_at db)) (state_turning start now)
turning_faults plain db start now = record {
  sound = λ turn answer due kind. sound_ends (turn_due due_at) answer (state_turning start now turn answer)
      (sound_turned due_at lists_again (begins_again start) turn answer (state_goes now turn.0 answer) (λ p. start_due start p.1) (by_phase plain db now turn.0.0 turn.0.1 answer due kind));
}
