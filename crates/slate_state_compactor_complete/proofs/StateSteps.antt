-- The steps of a compactor's calls on its state, where both logs are ready.
use Rattle.std.proofs.Common.{◌≡◌, ℕ, ℤ, Bool, true, false, List, Option, Some, None, Result, Ok, Err, refl, sym, ap, subst, ◌∙◌}
use Rattle.slate_ids.specs.Ids.{is_db_path}
use Rattle.slate_ids.specs.declared.error.SlateDBError.{SlateDBError}
use Rattle.slate_ids.specs.declared.error.SlateDBError.TheVariants.{LatestTransactionalObjectVersionMissing}
use Rattle.slate_layout_encodable.specs.Normal.{normal_manifest}
use Rattle.slate_layout_manifests.specs.Decoding.{decoded_manifest}
use Rattle.slate_layout_records.specs.RecordBytes.{decoded_record}
use Rattle.slate_layout_records.specs.RecordNormal.{normal_record}
use Rattle.slate_model.specs.declared.manifest.Manifest.{Manifest}
use Rattle.slate_model_records.specs.Records.{Record}
use Rattle.slate_state_calls.specs.Commits.{ManifestChanging, RecordChanging, begun, manifest_put, manifest_put_of, merge_of, record_put, statuses_of}
use Rattle.slate_state_calls.specs.Compactors.{with_manifest}
use Rattle.slate_state_calls.specs.StateSteps.{StateAt, StateGoes, follows, manifest_next, merge_by, merges, next_after, on_manifest, on_record, onward, record_next, records, refresh_of, refreshes, refuses, start_phase, state_asks, state_goes, state_lists, at_manifests}
use Rattle.slate_state_calls.specs.declared.compactor.Compactor.{Compactor}
use Rattle.slate_state_calls.specs.declared.state_phase.ManifestStep.{ManifestStep}
use Rattle.slate_state_calls.specs.declared.state_phase.ManifestStep.TheVariants.{Follow, Keep, Merge}
use Rattle.slate_state_calls.specs.declared.state_phase.RecordStep.{RecordStep}
use Rattle.slate_state_calls.specs.declared.state_phase.RecordStep.TheVariants as steps
use Rattle.slate_state_calls.specs.declared.state_phase.StatePhase.TheVariants.{OnRecord, OnManifest, Over}
use Rattle.slate_state_calls.specs.declared.state_start.StateStart.{StateStart}
use Rattle.slate_state_calls.specs.declared.state_start.StateStart.TheVariants.{Refresh, Schedule, WriteTrees, WriteRecord}
use Rattle.slate_state_calls.specs.declared.state_start.TreesWrite.{TreesWrite}
use Rattle.slate_state_compactor.specs.Local.{refreshed}
use Rattle.slate_state_compactor.specs.declared.local_state.LocalState.{LocalState}
use Rattle.slate_state_compactor_complete.proofs.OpenSteps.{ByManifests, ByRecords, IsManifest, IsRecord, ManifestHolds, ManifestRefused, ManifestTo, MayBegin, RecordHolds, RecordTo, manifests_apart, of_manifests, of_records, put_may, records_apart, to_manifests, to_records}
use Rattle.slate_state_compactor_complete.proofs.PlainPuts.{fence_calm, manifest_back, manifest_work, record_back, record_work, refreshed_calm}
use Rattle.slate_state_compactor_complete.specs.Calls.{Causes}
use Rattle.slate_state_compactor_complete.specs.Refusals.{CallRefused, PutsManifest, PutsRecord}
use Rattle.slate_state_compactor_complete.specs.Refusals.CallRefused.{AtManifest, AtRecord, CantFollow, IsFenced}
use Rattle.slate_state_compactor_complete.specs.Refusals.PhraseRefused.{MakesNone, NoVersion, OfPhrase}
use Rattle.slate_state_compactor_complete.specs.Refusals.PutsManifest.{Follows, Keeps, Merges}
use Rattle.slate_state_compactor_complete.specs.Refusals.PutsRecord.{Reads, Schedules, Statuses}
use Rattle.slate_state_record_updates.specs.declared.record_change.RecordChange.{RecordChange}
use Rattle.slate_state_updates.specs.declared.manifest_change.ManifestChange.{ManifestChange}
use Rattle.slate_store.specs.Machines.{Stay, End}
use Rattle.slate_store.specs.Store.{Store, whole}
use Rattle.slate_store.specs.StoreCalls.{moment_of}
use Rattle.slate_txn_changes.specs.LogWorks.{WorkGoes, work_starts}
use Rattle.slate_txn_changes.specs.declared.log_work.LogEnd.TheVariants.{Absent, Unchanged, Committed}
use Rattle.slate_txn_changes_laws.proofs.BackPuts.{MayPutBack}
use Rattle.slate_txn_changes_laws.proofs.PlainChanges.{RefusesCalmly}
use Rattle.slate_txn_changes_laws.proofs.TwoLogs.{begins, small_of, work_to}
use Rattle.slate_txn_changes_laws.specs.BothLogs.{AreReady}
use Rattle.slate_txn_changes_laws.specs.ChangeEnds.WhyRefused.{OfChange}
use Rattle.slate_txn_changes_laws.specs.Works.{IsInside, MayPut}
use Rattle.slate_txn_laws.specs.Outside.{is_outside}
use Rattle.slate_txn_laws.specs.Ready.{top_of}
use Rattle.slate_txn_log.specs.Fence.{fence, unless}
use Rattle.slate_txn_log.specs.declared.commit_phase.CommitPhase.{CommitPhase}
use Rattle.slate_txn_log.specs.declared.log_kind.LogKind.TheVariants.{Manifest as ManifestLog, Compactions as RecordLog}

unless_calm : {X : Type 0} (o : Option SlateDBError) (r : Result X SlateDBError) → RefusesCalmly o → IsInside r → IsInside (unless o r)
unless_calm (Some e) r calm h = calm
unless_calm None r calm h = h

module _ (db : List ℕ) (named : is_db_path db ≡ true) (moment : ℤ) (start : StateStart) (epoch : ℕ) where
  abbrev Refused : Store → SlateDBError → Type 0
  Refused = CallRefused db moment start epoch

  abbrev ItsManifest : Option ManifestChange → Type 0
  ItsManifest = PutsManifest start epoch

  abbrev ItsRecord : Option RecordChange → Type 0
  ItsRecord = PutsRecord start epoch

  -- which call has this step of the manifest
  abbrev ByManifest : ManifestStep → Type 0
  ByManifest Follow = start ≡ Refresh
  ByManifest (Keep write) = start ≡ WriteTrees write
  ByManifest (Merge write) = start ≡ WriteTrees write

  -- and of the record
  abbrev ByRecord : RecordStep → Type 0
  ByRecord steps.Follow = start ≡ Refresh
  ByRecord _ = Unit {0}

  -- what is known at each phase
  abbrev pub CallAt : Store → StateAt → Type 0
  CallAt t (OnRecord step p, c) = RecordHolds db named moment t p.work × ItsRecord p.change × ByRecord step × (c.epoch ≡ epoch)
  CallAt t (OnManifest step p, c) = ManifestHolds db named moment t p.work × ItsManifest p.change × ByManifest step × (c.epoch ≡ epoch)
  CallAt t (Over, c) = ⊥

  -- it goes on and lists no versions again, or ends
  abbrev pub CallTo : Bool → Store → StateGoes → Type 0
  CallTo b t (Stay q) = (state_lists b q.0 ≡ false) × CallAt t q
  CallTo b t (End q r) = IsInside r × AreReady db t × Causes Refused t r

  -- ---- after a phrase of the record

  of_records_put : (t : Store) (write : Option TreesWrite) (c : Compactor) → c.epoch ≡ epoch → ByRecords db named moment t → (r : Result RecordChanging SlateDBError) → MayBegin db named moment ItsRecord t r → CallTo false t (records write c r)
  of_records_put t write c own both (Ok p) h = (h.0, (h.1, h.2, tt, own))
  of_records_put t write c own both (Err e) h = (h.0, of_records db named moment t both, AtRecord h.1)

  of_follows : (t : Store) (c : Compactor) → c.epoch ≡ epoch → (v : ℕ × Record) → start ≡ Refresh → ByRecords db named moment t → IsRecord db named moment t v → (o : Option SlateDBError) → fence epoch v.1.compactor_epoch ≡ o → RefusesCalmly o → CallTo false t (follows c v o)
  of_follows t c own v by both is (Some e) at calm = (calm, of_records db named moment t both, IsFenced v.0 v.1 by is at)
  of_follows t c own v by both is None at calm = (refl, ((to_manifests db named moment t both, tt), Follows by refl, by, own))

  -- the fence by the epoch of what is held
  own_fence : (c : Compactor) → c.epoch ≡ epoch → (read : ℕ) → fence epoch read ≡ fence c.epoch read
  own_fence c own read = ap (λ (e : ℕ). fence e read) (sym own)

  statuses : (c : Compactor) → c.epoch ≡ epoch → (local : LocalState) → ItsRecord (Some (statuses_of c.epoch local))
  statuses c own local = subst (λ (e : ℕ). ItsRecord (Some (statuses_of e local))) (sym own) (Statuses local refl)

  of_version : (t : Store) (step : RecordStep) (c : Compactor) → c.epoch ≡ epoch → (v : ℕ × Record) → ByRecord step → ByRecords db named moment t → IsRecord db named moment t v → CallTo false t (record_next step moment c v)
  of_version t steps.Follow c own v by both is = of_follows t c own v by both is (fence c.epoch v.1.compactor_epoch) (own_fence c own v.1.compactor_epoch) (fence_calm c.epoch v.1.compactor_epoch)
  of_version t steps.Schedule c own v by both is = (tt, of_records db named moment t both, tt)
  of_version t (steps.Fetch write) c own v by both is = of_records_put t write c own both _ (put_may db named moment ItsRecord t v (statuses_of c.epoch c.local) (statuses c own c.local) both is)
  of_version t (steps.Record write) c own v by both is = (tt, of_records db named moment t both, tt)

  of_record : (t : Store) (step : RecordStep) (c : Compactor) → c.epoch ≡ epoch → ByRecord step → (p : RecordChanging) → ItsRecord p.change → (g : WorkGoes Record) → RecordTo db named moment p.change t g → CallTo false t (on_record step moment c p g)
  of_record t step c own by p its (Stay work) h = (h.0, (h.1, its, by, own))
  of_record t step c own by p its (End work (Ok Absent)) h = (refl, of_records db named moment t h.0, AtRecord (NoVersion h.1 refl))
  of_record t step c own by p its (End work (Ok (Unchanged n v))) h = of_version t step c own (n, v) by h.0 h.1
  of_record t step c own by p its (End work (Ok (Committed n v))) h = of_version t step c own (n, normal_record v) by h.0 h.1
  of_record t step c own by p its (End work (Err e)) h = (h.1, of_records db named moment t h.0, AtRecord (OfPhrase p.change its h.2))

  -- ---- after a phrase of the manifest

  of_refreshes : (t : Store) (c : Compactor) → c.epoch ≡ epoch → (v : ℕ × Manifest) → start ≡ Refresh → ByManifests db named moment t → IsManifest db named moment t v → (r : Result LocalState SlateDBError) → refresh_of c v.1 ≡ r → IsInside r → CallTo true t (refreshes c v r)
  of_refreshes t c own v by both is (Ok local) at h = (tt, of_manifests db named moment t both, tt)
  of_refreshes t c own v by both is (Err e) at h = (h, of_manifests db named moment t both, CantFollow c v.0 v.1 by own is at)

  -- a change of the manifest that is put at once
  abbrev MayMerge : Store → Result ManifestChanging SlateDBError → Type 0
  MayMerge t (Ok p) = (work_starts p.work ≡ false) × ManifestHolds db named moment t p.work × ItsManifest p.change
  MayMerge t (Err e) = (is_outside e ≡ false) × ManifestRefused db named moment ItsManifest t e

  begun_may : (t : Store) (v : ℕ × Manifest) (change : ManifestChange) → ItsManifest (Some change) → ByManifests db named moment t → IsManifest db named moment t v → (commit : Result (Option (CommitPhase Manifest)) SlateDBError) → manifest_put (Some change) moment v.0 v.1 ≡ commit
      → MayPut v.0 commit → MayPutBack decoded_manifest normal_manifest commit → MayMerge t (begun change moment commit)
  begun_may t v change its both is (Ok (Some phase)) made may told = (refl, begins decoded_manifest normal_manifest db ManifestLog RecordLog manifests_apart named moment t v.0 phase both is.latest.top may told, its)
  begun_may t v change its both is (Ok None) made may told = (refl, MakesNone change v.0 v.1 its is made refl)
  begun_may t v change its both is (Err e) made may told = (may, OfPhrase (Some change) its (OfChange v.0 v.1 is made))

  merge_may : (t : Store) (v : ℕ × Manifest) (change : ManifestChange) → ItsManifest (Some change) → ByManifests db named moment t → IsManifest db named moment t v → MayMerge t (manifest_put_of change moment v)
  merge_may t v change its both is =
      begun_may t v change its both is (manifest_put (Some change) moment v.0 v.1) refl
      ((manifest_work (Some change)).makes moment v.0 v.1 (small_of decoded_manifest normal_manifest db ManifestLog RecordLog manifests_apart named moment t v.0 both is.latest.top))
      (manifest_back (Some change) moment v.0 v.1)

  merging : (c : Compactor) → c.epoch ≡ epoch → (write : TreesWrite) (local : LocalState) → start ≡ WriteTrees write → ItsManifest (Some (merge_of c.epoch local))
  merging c own write local by = subst (λ (e : ℕ). ItsManifest (Some (merge_of e local))) (sym own) (Merges write local by refl)

  of_merges : (t : Store) (write : TreesWrite) (c : Compactor) → c.epoch ≡ epoch → start ≡ WriteTrees write → ByManifests db named moment t → (r : Result ManifestChanging SlateDBError) → MayMerge t r → CallTo true t (merges write c r)
  of_merges t write c own by both (Ok p) h = (h.0, (h.1, h.2, by, own))
  of_merges t write c own by both (Err e) h = (h.0, of_manifests db named moment t both, AtManifest h.1)

  of_next : (t : Store) (c : Compactor) → c.epoch ≡ epoch → (write : TreesWrite) → ByManifests db named moment t → (b : Bool) → CallTo true t (onward c (next_after b write))
  of_next t c own write both true = (refl, ((to_records db named moment t both, tt), Reads refl, tt, own))
  of_next t c own write both false = (tt, of_manifests db named moment t both, tt)

  no_manifest : (t : Store) (c : Compactor) → ByManifests db named moment t → top_of db ManifestLog t ≡ None → CallTo true t (refuses c LatestTransactionalObjectVersionMissing)
  no_manifest t c both top = (refl, of_manifests db named moment t both, AtManifest (NoVersion top refl))

  -- what follows a version that is read, or put as it is held
  following : (t : Store) (c : Compactor) → c.epoch ≡ epoch → (v : ℕ × Manifest) → start ≡ Refresh → ByManifests db named moment t → IsManifest db named moment t v → CallTo true t (refreshes c v (refresh_of c v.1))
  following t c own v by both is =
      of_refreshes t c own v by both is (refresh_of c v.1) refl (unless_calm (fence c.epoch v.1.compactor_epoch) (refreshed c.compactions v.1.core c.local) (fence_calm c.epoch v.1.compactor_epoch) (refreshed_calm c.compactions v.1.core c.local))

  keeping : (t : Store) (write : TreesWrite) (c : Compactor) → c.epoch ≡ epoch → (v : ℕ × Manifest) → start ≡ WriteTrees write → ByManifests db named moment t → IsManifest db named moment t v → CallTo true t (merge_by write moment c v)
  keeping t write c own v by both is = of_merges t write (with_manifest v c) own by both _ (merge_may t v (merge_of c.epoch c.local) (merging c own write c.local by) both is)

  -- trees that make nothing of it
  unmade : (t : Store) (v : ℕ × Manifest) (write : TreesWrite) (change : Option ManifestChange) → ItsManifest change → start ≡ WriteTrees write → IsManifest db named moment t v → manifest_put change moment v.0 v.1 ≡ Ok None → ManifestRefused db named moment ItsManifest t LatestTransactionalObjectVersionMissing
  unmade t v write (Some change) its by is none = MakesNone change v.0 v.1 its is none refl
  unmade t v write None (Follows reads none) by is makes = absurd (apart (sym reads ∙ by))
    where
      apart : Refresh ≡ WriteTrees write → ⊥
      apart same = cc
  unmade t v write None (Keeps other writes some) by is makes = cc
  unmade t v write None (Merges other local writes some) by is makes = cc

  of_unchanged : (t : Store) (step : ManifestStep) (c : Compactor) → c.epoch ≡ epoch → (n : ℕ) (m : Manifest) → ByManifest step → (change : Option ManifestChange) → ItsManifest change → ByManifests db named moment t → IsManifest db named moment t (n, m) → manifest_put change moment n m ≡ Ok None → CallTo true t (manifest_next step moment c (Unchanged n m))
  of_unchanged t Follow c own n m by change its both is none = following t c own (n, m) by both is
  of_unchanged t (Keep write) c own n m by change its both is none = keeping t write c own (n, m) by both is
  of_unchanged t (Merge write) c own n m by change its both is none = (refl, of_manifests db named moment t both, AtManifest (unmade t (n, m) write change its by is none))

  of_put : (t : Store) (step : ManifestStep) (c : Compactor) → c.epoch ≡ epoch → (n : ℕ) (m : Manifest) → ByManifest step → ByManifests db named moment t → IsManifest db named moment t (n, normal_manifest m) → CallTo true t (manifest_next step moment c (Committed n m))
  of_put t Follow c own n m by both is = following t c own (n, normal_manifest m) by both is
  of_put t (Keep write) c own n m by both is = keeping t write c own (n, normal_manifest m) by both is
  of_put t (Merge write) c own n m by both is = of_next t _ own write both write.whole

  of_absent : (t : Store) (step : ManifestStep) (c : Compactor) → ByManifests db named moment t → top_of db ManifestLog t ≡ None → CallTo true t (manifest_next step moment c Absent)
  of_absent t Follow c both top = no_manifest t c both top
  of_absent t (Keep write) c both top = no_manifest t c both top
  of_absent t (Merge write) c both top = no_manifest t c both top

  of_manifest : (t : Store) (step : ManifestStep) (c : Compactor) → c.epoch ≡ epoch → ByManifest step → (p : ManifestChanging) → ItsManifest p.change → (g : WorkGoes Manifest) → ManifestTo db named moment p.change t g → CallTo true t (on_manifest step moment c p g)
  of_manifest t step c own by p its (Stay work) h = (h.0, (h.1, its, by, own))
  of_manifest t step c own by p its (End work (Ok Absent)) h = of_absent t step c h.0 h.1
  of_manifest t step c own by p its (End work (Ok (Unchanged n m))) h = of_unchanged t step c own n m by p.change its h.0 h.1 h.2
  of_manifest t step c own by p its (End work (Ok (Committed n m))) h = of_put t step c own n m by h.0 h.1
  of_manifest t step c own by p its (End work (Err e)) h = (h.1, of_manifests db named moment t h.0, AtManifest (OfPhrase p.change its h.2))

  abbrev Stepped : Store → StateAt → Type 0
  Stepped t at = CallTo (at_manifests at.0) (whole (state_asks db at.0) (moment_of (state_asks db at.0) moment) t).store (state_goes moment at (whole (state_asks db at.0) (moment_of (state_asks db at.0) moment) t).answer)

  pub call_steps : (t : Store) (at : StateAt) → CallAt t at → Stepped t at
  call_steps t (OnRecord step p, c) h = of_record _ step c h.3 h.2 p h.1 _ (work_to decoded_record normal_record db RecordLog ManifestLog records_apart named moment (record_put p.change) (record_work p.change) (record_back p.change) t p.work h.0)
  call_steps t (OnManifest step p, c) h = of_manifest _ step c h.3 h.2 p h.1 _ (work_to decoded_manifest normal_manifest db ManifestLog RecordLog manifests_apart named moment (manifest_put p.change) (manifest_work p.change) (manifest_back p.change) t p.work h.0)
  call_steps t (Over, c) h = absurd h

-- where a call begins
pub begins_at : (db : List ℕ) (named : is_db_path db ≡ true) (moment : ℤ) (t : Store) → AreReady db t → (start : StateStart) (c : Compactor) → CallAt db named moment start c.epoch t (start_phase start c, c)
begins_at db named moment t ready Refresh c = ((record { own = ready.records; aside = ready.manifests }, tt), Reads refl, refl, refl)
begins_at db named moment t ready (Schedule id) c = ((record { own = ready.records; aside = ready.manifests }, tt), Schedules id refl refl, tt, refl)
begins_at db named moment t ready (WriteTrees write) c = ((record { own = ready.manifests; aside = ready.records }, tt), Keeps write refl refl, refl, refl)
begins_at db named moment t ready WriteRecord c = ((record { own = ready.records; aside = ready.manifests }, tt), Reads refl, tt, refl)
