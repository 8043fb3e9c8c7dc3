-- A call of a compactor on its state: what a step of it brings.
use Rattle.std.proofs.Common.{◌≡◌, ℕ, ℤ, Bool, true, false, List, Option, Some, None, Result, Ok, Err, refl, sym, ap}
use Rattle.slate_txn_changes.specs.LogWorks.{WorkGoes, work_goes}
use Rattle.slate_txn_changes.specs.declared.log_work.LogEnd.{LogEnd}
use Rattle.slate_txn_changes.specs.declared.log_work.LogEnd.TheVariants.{Absent, Unchanged, Committed}
use Rattle.slate_state_compactor.specs.declared.local_state.LocalState.{LocalState}
use Rattle.slate_state_calls.specs.Commits.{ManifestChanging, RecordChanging, manifest_in, manifest_put, manifest_put_of, merge_of, put_of, record_in, record_put, statuses_of}
use Rattle.slate_state_calls.specs.Compactors.{with_manifest}
use Rattle.slate_state_calls.specs.StateSteps.{StateGoes, follows, manifest_next, merge_by, merges, next_after, on_manifest, on_record, onward, or_missing, record_next, records, refresh_of, refreshes, start_phase, state_goes}
use Rattle.slate_state_calls.specs.declared.compactor.Compactor.{Compactor}
use Rattle.slate_state_calls.specs.declared.state_phase.ManifestStep.{ManifestStep}
use Rattle.slate_state_calls.specs.declared.state_phase.ManifestStep.TheVariants.{Follow, Keep, Merge}
use Rattle.slate_state_calls.specs.declared.state_phase.RecordStep.{RecordStep}
use Rattle.slate_state_calls.specs.declared.state_phase.RecordStep.TheVariants as steps
use Rattle.slate_state_calls.specs.declared.state_phase.StatePhase.{StatePhase}
use Rattle.slate_state_calls.specs.declared.state_phase.StatePhase.TheVariants.{OnRecord, OnManifest, Over}
use Rattle.slate_state_calls.specs.declared.state_start.StateStart.{StateStart}
use Rattle.slate_state_calls.specs.declared.state_start.StateStart.TheVariants as starts
use Rattle.slate_state_calls.specs.declared.state_start.TreesWrite.{TreesWrite}
use Rattle.slate_script_events.specs.declared.call.Call.{Call}
use Rattle.slate_script_events.specs.declared.call.Call.TheVariants.{Schedule}
use Rattle.slate_ids.specs.declared.error.SlateDBError.{SlateDBError}
use Rattle.slate_txn_log.specs.Fence.{fence}
use Rattle.slate_txn_log.specs.declared.log_kind.LogKind.TheVariants as logs
use Rattle.slate_layout_manifests.specs.Decoding.{decoded_manifest}
use Rattle.slate_model.specs.declared.manifest.Manifest.{Manifest}
use Rattle.slate_layout_records.specs.RecordBytes.{decoded_record}
use Rattle.slate_model_records.specs.Records.{Record}
use Rattle.slate_store.specs.Machines.{Stay, End}
use Rattle.slate_store.specs.Store.{Store}
use Rattle.slate_store.specs.declared.store_answer.StoreAnswer.{StoreAnswer}
use Rattle.slate_cluster_protocol.specs.Calls.{state_phase, unless_open}
use Rattle.slate_cluster_protocol.specs.Holding.{FitsState, IsManifestStep, IsRecordStep, schedule_of, write_of}
use Rattle.slate_cluster_protocol.specs.Logs.{Chains, log_of, manifest_puts, record_puts, state_phrase}
use Rattle.slate_cluster_laws.proofs.Changing.{EndKnows, IsHeld, ManifestBrings, RecordBrings, manifest_brings, manifest_held, manifest_makes, put_knows, record_brings, record_held, record_makes}
use Rattle.slate_cluster_laws.proofs.Facts.{IsSound, IsValue}
use Rattle.slate_cluster_laws.proofs.Steps.{PhraseKnows, PhraseBrings}

-- what a compactor holds after a step: it has the epoch that it had
abbrev pub SameEpoch : Compactor → Compactor → Type 0
SameEpoch c new = new.epoch ≡ c.epoch

module _ (db : List ℕ) (s : Store) (chains : Chains) (n : ℕ) (call : Call) where
  -- where the call goes on, its phrase is known and its change is that of its step
  abbrev pub PhaseKnows : StatePhase → Compactor → Type 0
  PhaseKnows phase c = PhraseKnows s chains n (state_phrase db phase) × FitsState call phase (Some c)

  abbrev pub StateBrings : Compactor → StateGoes → Type 0
  StateBrings c (Stay at) = SameEpoch c at.1 × PhaseKnows at.0 at.1
  StateBrings c (End at r) = SameEpoch c at.1

  -- ---- of the record

  follows_brings : (c : Compactor) (v : ℕ × Record) (o : Option SlateDBError) → StateBrings c (follows c v o)
  follows_brings c v (Some e) = refl
  follows_brings c v None = (refl, (tt, (tt, refl)))

  records_brings : IsSound (log_of logs.Compactions) db s (chains logs.Compactions db) → (write : Option TreesWrite) → write_of call ≡ write → (c : Compactor) (now : ℤ) (v : ℕ × Record) → IsValue (chains logs.Compactions db) v.0 v.1
      → (r : Result RecordChanging SlateDBError) → put_of (statuses_of c.epoch c.local) now v ≡ r → StateBrings c (records write c r)
  records_brings i write is_write c now v value (Ok p) is =
      let k = put_knows logs.Compactions db s chains n i record_puts record_put (record_makes n) (statuses_of c.epoch c.local) now v value p is in
      (refl, (k.0, (is_write, k.1)))
  records_brings i write is_write c now v value (Err e) is = refl

  record_next_brings : IsSound (log_of logs.Compactions) db s (chains logs.Compactions db) → (step : RecordStep) → IsRecordStep call step → (now : ℤ) (c : Compactor) (o : Option (ℕ × Record)) → IsHeld db s chains n logs.Compactions o
      → StateBrings c (or_missing c (record_next step now c) o)
  record_next_brings i step is now c None h = refl
  record_next_brings i steps.Follow is now c (Some v) h = follows_brings c v (fence c.epoch v.1.compactor_epoch)
  record_next_brings i steps.Schedule is now c (Some v) h = refl
  record_next_brings i (steps.Fetch write) is now c (Some v) h = records_brings i write is c now v h (put_of (statuses_of c.epoch c.local) now v) refl
  record_next_brings i (steps.Record write) is now c (Some v) h = refl

  on_record_brings : IsSound (log_of logs.Compactions) db s (chains logs.Compactions db) → (step : RecordStep) (now : ℤ) (c : Compactor) (p : RecordChanging) → FitsState call (OnRecord step p) (Some c) → (g : WorkGoes Record) → RecordBrings db s chains n p.change g
      → StateBrings c (on_record step now c p g)
  on_record_brings i step now c p fits (Stay work) b = (refl, (b, fits))
  on_record_brings i step now c p fits (End work (Ok end)) b = record_next_brings i step fits.0 now c (record_in end) (record_held db s chains n p.change end b)
  on_record_brings i step now c p fits (End work (Err e)) b = refl

  -- ---- of the manifest

  refreshes_brings : (c : Compactor) (v : ℕ × Manifest) (r : Result LocalState SlateDBError) → StateBrings c (refreshes c v r)
  refreshes_brings c v (Ok local) = refl
  refreshes_brings c v (Err e) = refl

  merges_brings : IsSound (log_of logs.Manifest) db s (chains logs.Manifest db) → (write : TreesWrite) → write_of call ≡ Some write → (now : ℤ) (c : Compactor) (v : ℕ × Manifest) → IsValue (chains logs.Manifest db) v.0 v.1
      → (r : Result ManifestChanging SlateDBError) → manifest_put_of (merge_of c.epoch c.local) now v ≡ r → StateBrings c (merges write (with_manifest v c) r)
  merges_brings i write is_write now c v value (Ok p) is =
      let k = put_knows logs.Manifest db s chains n i manifest_puts manifest_put (manifest_makes n) (merge_of c.epoch c.local) now v value p is in
      (refl, (k.0, (is_write, k.1)))
  merges_brings i write is_write now c v value (Err e) is = refl

  -- a whole state has its record fetched then
  next_brings : (c new : Compactor) → SameEpoch c new → (write : TreesWrite) → write_of call ≡ Some write → (b : Bool) → StateBrings c (onward new (next_after b write))
  next_brings c new same write is true = (same, (tt, (is, refl)))
  next_brings c new same write is false = same

  manifest_next_brings : IsSound (log_of logs.Manifest) db s (chains logs.Manifest db) → (step : ManifestStep) → IsManifestStep call step → (now : ℤ) (c : Compactor) (change : _) (end : LogEnd Manifest)
      → EndKnows logs.Manifest db s chains n (manifest_puts change) (manifest_put change) end → StateBrings c (manifest_next step now c end)
  manifest_next_brings i Follow is now c change end h = follow (manifest_in end)
    where
      follow : (o : Option (ℕ × Manifest)) → StateBrings c (or_missing c (λ v. refreshes c v (refresh_of c v.1)) o)
      follow None = refl
      follow (Some v) = refreshes_brings c v (refresh_of c v.1)
  manifest_next_brings i (Keep write) is now c change end h = keep (manifest_in end) (manifest_held db s chains n change end h)
    where
      keep : (o : Option (ℕ × Manifest)) → IsHeld db s chains n logs.Manifest o → StateBrings c (or_missing c (merge_by write now c) o)
      keep None h = refl
      keep (Some v) h = merges_brings i write is now c v h (manifest_put_of (merge_of c.epoch c.local) now v) refl
  manifest_next_brings i (Merge write) is now c change Absent h = refl
  manifest_next_brings i (Merge write) is now c change (Unchanged k m) h = refl
  manifest_next_brings i (Merge write) is now c change (Committed k m) h = next_brings c _ refl write is write.whole

  on_manifest_brings : IsSound (log_of logs.Manifest) db s (chains logs.Manifest db) → (step : ManifestStep) (now : ℤ) (c : Compactor) (p : ManifestChanging) → FitsState call (OnManifest step p) (Some c) → (g : WorkGoes Manifest) → ManifestBrings db s chains n p.change g
      → StateBrings c (on_manifest step now c p g)
  on_manifest_brings i step now c p fits (Stay work) b = (refl, (b, fits))
  on_manifest_brings i step now c p fits (End work (Ok end)) b = manifest_next_brings i step fits.0 now c p.change end b
  on_manifest_brings i step now c p fits (End work (Err e)) b = refl

  -- ---- of both

  pub state_brings : IsSound (log_of logs.Manifest) db s (chains logs.Manifest db) → IsSound (log_of logs.Compactions) db s (chains logs.Compactions db) → (now : ℤ) (phase : StatePhase) (c : Compactor) (answer : StoreAnswer) → FitsState call phase (Some c)
      → PhraseBrings s chains n (state_phrase db phase) now answer → StateBrings c (state_goes now (phase, c) answer)
  state_brings i j now (OnRecord step p) c answer fits b =
      on_record_brings j step now c p fits (work_goes logs.Compactions decoded_record (record_put p.change) now p.work answer) (record_brings db s chains n j p now answer b)
  state_brings i j now (OnManifest step p) c answer fits b =
      on_manifest_brings i step now c p fits (work_goes logs.Manifest decoded_manifest (manifest_put p.change) now p.work answer) (manifest_brings db s chains n i p now answer b)
  state_brings i j now Over c answer fits b = absurd fits

  -- ---- as it begins

  -- the call is what it begins as
  abbrev pub BeginsAs : StateStart → Type 0
  BeginsAs starts.Refresh = Unit {0}
  BeginsAs (starts.Schedule id) = call ≡ Schedule id
  BeginsAs (starts.WriteTrees write) = write_of call ≡ Some write
  BeginsAs starts.WriteRecord = write_of call ≡ None

  started : (start : StateStart) → BeginsAs start → (c : Compactor) → PhaseKnows (start_phase start c) c
  started starts.Refresh is c = (tt, (tt, refl))
  started (starts.Schedule id) is c = (tt, (tt, sym (ap (λ (x : Call). schedule_of x c.epoch) is)))
  started (starts.WriteTrees write) is c = (tt, (is, refl))
  started starts.WriteRecord is c = (tt, (is, refl))

  pub state_begins : (start : StateStart) → BeginsAs start → (o : Option Compactor) → unless_open o ≡ None → PhraseKnows s chains n (state_phrase db (state_phase start o)) × FitsState call (state_phase start o) o
  state_begins start is None open_is = absurd (cc open_is)
  state_begins start is (Some c) open_is = started start is c
