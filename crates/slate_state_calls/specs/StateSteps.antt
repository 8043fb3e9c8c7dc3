-- How the calls of a compactor on its state go on, step by step: each with its phase and what the compactor holds then. What it holds changes where a phrase ended well.
use Rattle.std.specs.Prelude.{◌≡◌, ◌⊎◌, ◌<◌, ◌+◌, ℕ, ℤ, Bool, true, false, List, Option, Some, None, Result, Ok, Err}
use Rattle.slate_txn_changes.specs.LogWorks.{WorkGoes, work_asks, work_due, work_goes, work_rank, work_start, work_starts}
use Rattle.slate_txn_changes.specs.declared.changing.Changing.{Changing}
use Rattle.slate_txn_changes.specs.declared.log_work.LogEnd.{LogEnd}
use Rattle.slate_txn_changes.specs.declared.log_work.LogEnd.TheVariants.{Committed}
use Rattle.slate_state_compactor.specs.Local.{refreshed, scheduled, manifest_committed, record_committed}
use Rattle.slate_state_compactor.specs.declared.local_state.LocalState.{LocalState}
use Rattle.slate_state_calls.specs.Commits.{ManifestChanging, RecordChanging, manifest_in, manifest_put, manifest_put_of, merge_of, put_of, record_in, record_put, statuses_of}
use Rattle.slate_state_calls.specs.Compactors.{with_local, with_manifest, with_record}
use Rattle.slate_state_calls.specs.declared.compactor.Compactor.{Compactor}
use Rattle.slate_state_calls.specs.declared.state_phase.ManifestStep.{ManifestStep}
use Rattle.slate_state_calls.specs.declared.state_phase.ManifestStep.TheVariants.{Follow, Keep, Merge}
use Rattle.slate_state_calls.specs.declared.state_phase.RecordStep.{RecordStep}
use Rattle.slate_state_calls.specs.declared.state_phase.RecordStep.TheVariants as steps
use Rattle.slate_state_calls.specs.declared.state_phase.StatePhase.{StatePhase}
use Rattle.slate_state_calls.specs.declared.state_phase.StatePhase.TheVariants.{OnRecord, OnManifest, Over}
use Rattle.slate_state_calls.specs.declared.state_start.StateStart.{StateStart}
use Rattle.slate_state_calls.specs.declared.state_start.StateStart.TheVariants.{Refresh, Schedule, WriteTrees, WriteRecord}
use Rattle.slate_state_calls.specs.declared.state_start.TreesWrite.{TreesWrite}
use Rattle.slate_layout_encodable.specs.Normal.{normal_manifest}
use Rattle.slate_ids.specs.Answers.{is_memory}
use Rattle.slate_ids.specs.declared.error.SlateDBError.{SlateDBError}
use Rattle.slate_ids.specs.declared.error.SlateDBError.TheVariants.{LatestTransactionalObjectVersionMissing, StoreFault}
use Rattle.slate_txn_log.specs.Fence.{fence, unless}
use Rattle.slate_txn_log.specs.ReadPhase.{read_asks}
use Rattle.slate_txn_log.specs.declared.log_kind.LogKind.TheVariants.{Compactions as RecordLog, Manifest as ManifestLog}
use Rattle.slate_txn_log.specs.declared.read_phase.ReadPhase.TheVariants.{Listing}
use Rattle.slate_layout_manifests.specs.Decoding.{decoded_manifest}
use Rattle.slate_model.specs.declared.manifest.Manifest.{Manifest}
use Rattle.slate_layout_records.specs.RecordBytes.{decoded_record}
use Rattle.slate_state_record_updates.specs.declared.record_change.RecordChange.TheVariants as changes
use Rattle.slate_model_records.specs.Records.{Record}
use Rattle.slate_store.specs.Machines.{Goes, Stay, End}
use Rattle.slate_store.specs.declared.store_answer.StoreAnswer.{StoreAnswer}
use Rattle.slate_store.specs.declared.store_call.StoreCall.{StoreCall}
use Rattle.slate_state_updates.specs.declared.manifest_change.ManifestChange.TheVariants.{KeepTrees}

-- the phase of a call, and what the compactor holds
abbrev pub StateAt : Type 0
StateAt = StatePhase × Compactor

-- how a call goes on
abbrev pub StateGoes : Type 0
StateGoes = Goes StateAt (Unit {0})

-- it is refused
abbrev pub refuses : Compactor → SlateDBError → StateGoes
refuses c e = End (Over, c) (Err e)

-- it goes on at the phase that is next, and where there is none it has ended well
abbrev pub onward : Compactor → Option StatePhase → StateGoes
onward c None = End (Over, c) (Ok tt)
onward c (Some next) = Stay (next, c)

-- what follows a version, which there has to be
abbrev pub or_missing : {V : Type 0} → Compactor → (V → StateGoes) → Option V → StateGoes
or_missing c follows None = refuses c LatestTransactionalObjectVersionMissing
or_missing c follows (Some v) = follows v

-- a change at its start; without one it is a read
abbrev pub starting : {C V : Type 0} → Option C → Changing (Option C) V
starting change = record { change = change; work = work_start }

-- where a call begins, also after a conflict
abbrev pub start_phase : StateStart → Compactor → StatePhase
start_phase Refresh c = OnRecord steps.Follow (starting None)
start_phase (Schedule id) c = OnRecord steps.Schedule (starting (Some (changes.Schedule (Some c.epoch) id)))
start_phase (WriteTrees write) c = OnManifest (Keep write) (starting (Some (KeepTrees (Some c.epoch) write.checkpoint)))
start_phase WriteRecord c = OnRecord (steps.Fetch None) (starting None)

-- ---- after a phrase of the record

-- the record read is held, unless it fences the compactor; then the manifest is read
abbrev pub follows : Compactor → ℕ × Record → Option SlateDBError → StateGoes
follows c v (Some e) = refuses c e
follows c v None = onward (with_record v c) (Some (OnManifest Follow (starting None)))

-- the local statuses are put into the record read, which isn't held
abbrev pub records : Option TreesWrite → Compactor → Result RecordChanging SlateDBError → StateGoes
records write c (Ok p) = onward c (Some (OnRecord (steps.Record write) p))
records write c (Err e) = refuses c e

-- with a version of it: it is followed; the local record follows the one with the schedule; the local statuses are put; the local record is the one that was put
abbrev pub record_next : RecordStep → ℤ → Compactor → ℕ × Record → StateGoes
record_next steps.Follow now c v = follows c v (fence c.epoch v.1.compactor_epoch)
record_next steps.Schedule now c v = onward (with_local (scheduled v.1 c.local) (with_record v c)) None
record_next (steps.Fetch write) now c v = records write c (put_of (statuses_of c.epoch c.local) now v)
record_next (steps.Record write) now c v = onward (with_local (record_committed v.1 c.local) (with_record v c)) None

-- ---- after a phrase of the manifest

-- what is local follows both versions, unless that is refused: then the manifest read isn't held
abbrev pub refresh_of : Compactor → Manifest → Result LocalState SlateDBError
refresh_of c m = unless (fence c.epoch m.compactor_epoch) (refreshed c.compactions m.core c.local)

abbrev pub refreshes : Compactor → ℕ × Manifest → Result LocalState SlateDBError → StateGoes
refreshes c v (Ok local) = onward (with_local local (with_manifest v c)) None
refreshes c v (Err e) = refuses c e

-- the local trees are merged into a version that is held
abbrev pub merges : TreesWrite → Compactor → Result ManifestChanging SlateDBError → StateGoes
merges write c (Ok p) = onward c (Some (OnManifest (Merge write) p))
merges write c (Err e) = refuses c e

abbrev pub merge_by : TreesWrite → ℤ → Compactor → ℕ × Manifest → StateGoes
merge_by write now c v = merges write (with_manifest v c) (manifest_put_of (merge_of c.epoch c.local) now v)

-- where the whole state is written, the record is next
abbrev pub next_after : Bool → TreesWrite → Option StatePhase
next_after true write = Some (OnRecord (steps.Fetch (Some write)) (starting None))
next_after false write = None

-- the trees of the version that was put are the local ones, and nothing is pending
abbrev pub merged : TreesWrite → Compactor → LogEnd Manifest → StateGoes
merged write c (Committed n m) = onward (with_local (manifest_committed (normal_manifest m).core c.local) (with_manifest (n, normal_manifest m) c)) (next_after write.whole write)
merged write c _ = refuses c LatestTransactionalObjectVersionMissing

abbrev pub manifest_next : ManifestStep → ℤ → Compactor → LogEnd Manifest → StateGoes
manifest_next Follow now c end = or_missing c (λ v. refreshes c v (refresh_of c v.1)) (manifest_in end)
manifest_next (Keep write) now c end = or_missing c (merge_by write now c) (manifest_in end)
manifest_next (Merge write) now c end = merged write c end

-- ---- each phrase

abbrev pub on_record : RecordStep → ℤ → Compactor → RecordChanging → WorkGoes Record → StateGoes
on_record step now c p (Stay work) = Stay (OnRecord step (record p { work = work }), c)
on_record step now c p (End work (Ok end)) = or_missing c (record_next step now c) (record_in end)
on_record step now c p (End work (Err e)) = refuses c e

abbrev pub on_manifest : ManifestStep → ℤ → Compactor → ManifestChanging → WorkGoes Manifest → StateGoes
on_manifest step now c p (Stay work) = Stay (OnManifest step (record p { work = work }), c)
on_manifest step now c p (End work (Ok end)) = manifest_next step now c end
on_manifest step now c p (End work (Err e)) = refuses c e

-- ---- all phases

-- the one call of each phase
abbrev pub state_asks : List ℕ → StatePhase → StoreCall
state_asks db (OnRecord step p) = work_asks db RecordLog p.work
state_asks db (OnManifest step p) = work_asks db ManifestLog p.work
state_asks db Over = read_asks {T = Record} db RecordLog Listing

-- how it goes on from the answer, at a moment; an answer to another call ends as a fault does
abbrev pub state_goes : ℤ → StateAt → StoreAnswer → StateGoes
state_goes now (OnRecord step p, c) answer = on_record step now c p (work_goes RecordLog decoded_record (record_put p.change) now p.work answer)
state_goes now (OnManifest step p, c) answer = on_manifest step now c p (work_goes ManifestLog decoded_manifest (manifest_put p.change) now p.work answer)
state_goes now (Over, c) answer = refuses c StoreFault

-- whether a call is due
abbrev pub state_due : StatePhase → Bool
state_due (OnRecord step p) = work_due p.work
state_due (OnManifest step p) = work_due p.work
state_due Over = false

-- ---- its turns

-- whether its calls are on the log of manifests
abbrev pub at_manifests : StatePhase → Bool
at_manifests (OnManifest step p) = true
at_manifests _ = false

-- whether the versions of that log are to be listed, or those of the record
abbrev pub state_lists : Bool → StatePhase → Bool
state_lists false (OnRecord step p) = work_starts p.work
state_lists true (OnManifest step p) = work_starts p.work
state_lists _ _ = false

-- whether a step led back to a list of the same log
abbrev pub state_lists_again : StatePhase → StatePhase → Bool
state_lists_again old new = state_lists (at_manifests old) new

-- the steps of a turn that are left after a phrase, with one more
abbrev pub after_record : RecordStep → ℕ
after_record steps.Follow = 6
after_record (steps.Fetch write) = 3
after_record _ = 0

abbrev pub after_manifest : ManifestStep → ℕ
after_manifest Follow = 0
after_manifest (Keep write) = 12
after_manifest (Merge write) = 9

-- the steps of a turn that are left
abbrev pub state_rank : StatePhase → ℕ
state_rank (OnRecord step p) = work_rank p.work + after_record step
state_rank (OnManifest step p) = work_rank p.work + after_manifest step
state_rank Over = 0

-- a step uses a turn, or fewer steps are left
abbrev pub StateFalls : StatePhase → StatePhase → Type 0
StateFalls old new = (state_lists_again old new ≡ true) ⊎ (state_rank new < state_rank old)

-- what a part of a step answers of what follows a phrase: what is next, with a call due and so few steps left, or why that is refused; where memory ran out nothing changed
abbrev pub Leads : StateGoes → Compactor → Compactor → ℕ → Result (Option StatePhase) SlateDBError → Type 0
Leads goes old new left (Ok None) = goes ≡ onward new None
Leads goes old new left (Ok (Some next)) = (goes ≡ onward new (Some next)) × (state_due next ≡ true) × (state_rank next < left)
Leads goes old new left (Err e) = ((goes ≡ refuses new e) ⊎ (is_memory e ≡ true)) × (is_memory e ≡ true → new ≡ old)
