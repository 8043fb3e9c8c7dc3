-- The steps of a compactor's open, where both logs are ready.
use Rattle.std.proofs.Common.{◌≡◌, ℕ, ℤ, Bool, true, false, List, Option, Some, None, Result, Ok, Err, refl, ap}
use Rattle.slate_ids.specs.Ids.{is_db_path}
use Rattle.slate_ids.specs.declared.error.SlateDBError.{SlateDBError}
use Rattle.slate_ids.specs.declared.error.SlateDBError.TheVariants.{LatestTransactionalObjectVersionMissing}
use Rattle.slate_layout.specs.RecordCodec.{record_encoded}
use Rattle.slate_layout.specs.laws.Codecs.{record_codec_trip}
use Rattle.slate_layout_encodable.specs.Normal.{normal_manifest}
use Rattle.slate_layout_manifests.specs.Decoding.{decoded_manifest}
use Rattle.slate_layout_records.specs.RecordBytes.{decoded_record}
use Rattle.slate_layout_records.specs.RecordNormal.{normal_record}
use Rattle.slate_model.specs.declared.manifest.Manifest.{Manifest}
use Rattle.slate_model_records.specs.Records.{Record}
use Rattle.slate_state_calls.specs.Commits.{ManifestChanging, RecordChanging, begun, first_of, first_put, manifest_put, put_of, record_put}
use Rattle.slate_state_calls.specs.Opening.{OpenGoes, on_record, open_asks, open_goes, open_lists, puts, raised, raises, raising, with_version, without_version}
use Rattle.slate_state_calls.specs.declared.open_phase.OpenPhase.{OpenPhase}
use Rattle.slate_state_calls.specs.declared.open_phase.OpenPhase.TheVariants.{Raising, OnRecord, Over}
use Rattle.slate_state_calls.specs.declared.open_phase.OpenStep.{OpenStep}
use Rattle.slate_state_calls.specs.declared.open_phase.OpenStep.TheVariants.{Give, Begin, GiveFirst, Reset}
use Rattle.slate_state_compactor_complete.proofs.PlainPuts.{manifest_back, manifest_work, record_back, record_work}
use Rattle.slate_state_compactor_complete.specs.Calls.{Causes}
use Rattle.slate_state_compactor_complete.specs.Refusals.{OpenRefused, OpensRecord, PhraseRefused, Raises}
use Rattle.slate_state_compactor_complete.specs.Refusals.OpenRefused.{AtFirst, AtManifest, AtRecord}
use Rattle.slate_state_compactor_complete.specs.Refusals.OpensRecord.{Gives, Makes, Resets}
use Rattle.slate_state_compactor_complete.specs.Refusals.PhraseRefused.{MakesNone, NoVersion, OfPhrase}
use Rattle.slate_state_logs.specs.laws.RecordsPlain.{records_plain}
use Rattle.slate_state_record_updates.specs.RecordEpochs.{first_record}
use Rattle.slate_state_record_updates.specs.declared.record_change.RecordChange.{RecordChange}
use Rattle.slate_state_record_updates.specs.declared.record_change.RecordChange.TheVariants as changes
use Rattle.slate_state_updates.specs.declared.manifest_change.ManifestChange.{ManifestChange}
use Rattle.slate_store.specs.Machines.{Stay, End}
use Rattle.slate_store.specs.Store.{Store, whole}
use Rattle.slate_store.specs.StoreCalls.{moment_of}
use Rattle.slate_txn_changes.specs.LogWorks.{WorkGoes, work_starts}
use Rattle.slate_txn_changes.specs.declared.log_work.LogEnd.TheVariants.{Absent, Unchanged, Committed}
use Rattle.slate_txn_changes.specs.declared.log_work.LogWork.{LogWork}
use Rattle.slate_txn_changes_laws.proofs.BackPuts.{MayPutBack}
use Rattle.slate_txn_changes_laws.proofs.PlainChanges.{plain_calm}
use Rattle.slate_txn_changes_laws.proofs.TwoLogs.{Both, WorkHolds, WorkTo, begins, begins_first, small_of, work_to}
use Rattle.slate_txn_changes_laws.specs.BothLogs.{AreReady}
use Rattle.slate_txn_changes_laws.specs.ChangeEnds.{IsRead}
use Rattle.slate_txn_changes_laws.specs.ChangeEnds.WhyRefused.{OfChange}
use Rattle.slate_txn_changes_laws.specs.Works.{IsInside, MayPut}
use Rattle.slate_txn_laws.specs.Outside.{is_outside}
use Rattle.slate_txn_laws.specs.Ready.{top_of}
use Rattle.slate_txn_log.specs.CommitPhase.{encoded_commit}
use Rattle.slate_txn_log.specs.declared.commit_phase.CommitPhase.{CommitPhase}
use Rattle.slate_txn_log.specs.declared.log_kind.LogKind.TheVariants.{Manifest as ManifestLog, Compactions as RecordLog}

pub manifests_apart : ManifestLog ≡ RecordLog → ⊥
manifests_apart same = cc

pub records_apart : RecordLog ≡ ManifestLog → ⊥
records_apart same = cc

module _ (db : List ℕ) (named : is_db_path db ≡ true) (moment : ℤ) where
  -- both logs, by that of manifests and by that of records
  abbrev pub ByManifests : Store → Type 0
  ByManifests t = Both decoded_manifest normal_manifest db ManifestLog RecordLog manifests_apart named moment t

  abbrev pub ByRecords : Store → Type 0
  ByRecords t = Both decoded_record normal_record db RecordLog ManifestLog records_apart named moment t

  pub to_records : (t : Store) → ByManifests t → ByRecords t
  to_records t both = record { own = both.aside; aside = both.own }

  pub to_manifests : (t : Store) → ByRecords t → ByManifests t
  to_manifests t both = record { own = both.aside; aside = both.own }

  pub of_manifests : (t : Store) → ByManifests t → AreReady db t
  of_manifests t both = record { manifests = both.own; records = both.aside }

  pub of_records : (t : Store) → ByRecords t → AreReady db t
  of_records t both = record { manifests = both.aside; records = both.own }

  abbrev pub ManifestHolds : Store → LogWork Manifest → Type 0
  ManifestHolds = WorkHolds decoded_manifest normal_manifest db ManifestLog RecordLog manifests_apart named moment

  abbrev pub RecordHolds : Store → LogWork Record → Type 0
  RecordHolds = WorkHolds decoded_record normal_record db RecordLog ManifestLog records_apart named moment

  abbrev pub ManifestTo : Option ManifestChange → Store → WorkGoes Manifest → Type 0
  ManifestTo change = WorkTo decoded_manifest normal_manifest db ManifestLog RecordLog manifests_apart named moment (manifest_put change)

  abbrev pub RecordTo : Option RecordChange → Store → WorkGoes Record → Type 0
  RecordTo change = WorkTo decoded_record normal_record db RecordLog ManifestLog records_apart named moment (record_put change)

  -- the version of this number is the latest record, and reads so
  abbrev pub IsRecord : Store → ℕ × Record → Type 0
  IsRecord t v = IsRead decoded_record db RecordLog t v.0 v.1

  -- and of the manifest
  abbrev pub IsManifest : Store → ℕ × Manifest → Type 0
  IsManifest t v = IsRead decoded_manifest db ManifestLog t v.0 v.1

  -- why a phrase of the record is refused, of changes that are these
  abbrev pub RecordRefused : (Option RecordChange → Type 0) → Store → SlateDBError → Type 0
  RecordRefused = PhraseRefused decoded_record record_put db RecordLog moment

  -- and of the manifest
  abbrev pub ManifestRefused : (Option ManifestChange → Type 0) → Store → SlateDBError → Type 0
  ManifestRefused = PhraseRefused decoded_manifest manifest_put db ManifestLog moment

  -- ---- a change that is put at once

  module _ (Its : Option RecordChange → Type 0) where
    -- one that is under way; or refused for no reason from outside, and why
    abbrev pub MayBegin : Store → Result RecordChanging SlateDBError → Type 0
    MayBegin t (Ok p) = (work_starts p.work ≡ false) × RecordHolds t p.work × Its p.change
    MayBegin t (Err e) = (is_outside e ≡ false) × RecordRefused Its t e

    begun_may : (t : Store) (v : ℕ × Record) (change : RecordChange) → Its (Some change) → ByRecords t → IsRecord t v → (commit : Result (Option (CommitPhase Record)) SlateDBError) → record_put (Some change) moment v.0 v.1 ≡ commit
        → MayPut v.0 commit → MayPutBack decoded_record normal_record commit → MayBegin t (begun change moment commit)
    begun_may t v change its both is (Ok (Some phase)) made may told = (refl, begins decoded_record normal_record db RecordLog ManifestLog records_apart named moment t v.0 phase both is.latest.top may told, its)
    begun_may t v change its both is (Ok None) made may told = (refl, MakesNone change v.0 v.1 its is made refl)
    begun_may t v change its both is (Err e) made may told = (may, OfPhrase (Some change) its (OfChange v.0 v.1 is made))

    pub put_may : (t : Store) (v : ℕ × Record) (change : RecordChange) → Its (Some change) → ByRecords t → IsRecord t v → MayBegin t (put_of change moment v)
    put_may t v change its both is =
        begun_may t v change its both is (record_put (Some change) moment v.0 v.1) refl
        ((record_work (Some change)).makes moment v.0 v.1 (small_of decoded_record normal_record db RecordLog ManifestLog records_apart named moment t v.0 both is.latest.top))
        (record_back (Some change) moment v.0 v.1)

  -- the first record, or why there is none
  abbrev FirstBegins : Store → Result RecordChanging SlateDBError → Type 0
  FirstBegins t (Ok p) = (work_starts p.work ≡ false) × RecordHolds t p.work × OpensRecord p.change
  FirstBegins t (Err e) = (is_outside e ≡ false) × OpenRefused db moment t e

  first_may : (t : Store) → ByRecords t → top_of db RecordLog t ≡ None → (bytes : Result (List ℕ) SlateDBError) → record_encoded first_record ≡ bytes → IsInside bytes → FirstBegins t (first_of moment (encoded_commit 1 first_record bytes))
  first_may t both top (Ok bytes) is h =
      (refl, begins_first decoded_record normal_record db RecordLog ManifestLog records_apart named moment t bytes first_record both top (record_codec_trip first_record bytes is), Makes refl)
  first_may t both top (Err e) is h = (h, AtFirst top (ap (λ (r : Result (List ℕ) SlateDBError). encoded_commit 1 first_record r) is))

  -- ---- the open

  -- what is known at each phase
  abbrev pub OpenAt : Store → OpenPhase → Type 0
  OpenAt t (Raising p) = ManifestHolds t p.work × Raises p.change
  OpenAt t (OnRecord step m p) = RecordHolds t p.work × OpensRecord p.change
  OpenAt t Over = ⊥

  -- it goes on and lists no versions again, or ends
  abbrev pub OpenTo : Bool → Store → OpenGoes → Type 0
  OpenTo b t (Stay q) = (open_lists b q ≡ false) × OpenAt t q
  OpenTo b t (End q r) = IsInside r × AreReady db t × Causes (OpenRefused db moment) t r

  of_puts : (t : Store) (step : OpenStep) (m : ℕ × Manifest) → ByRecords t → (r : Result RecordChanging SlateDBError) → MayBegin OpensRecord t r → OpenTo false t (puts step m r)
  of_puts t step m both (Ok p) h = (h.0, (h.1, h.2))
  of_puts t step m both (Err e) h = (h.0, of_records t both, AtRecord h.1)

  of_first : (t : Store) (step : OpenStep) (m : ℕ × Manifest) → ByRecords t → (r : Result RecordChanging SlateDBError) → FirstBegins t r → OpenTo false t (puts step m r)
  of_first t step m both (Ok p) h = (h.0, (h.1, h.2))
  of_first t step m both (Err e) h = (h.0, of_records t both, h.1)

  of_version : (t : Store) (step : OpenStep) (m : ℕ × Manifest) (v : ℕ × Record) → ByRecords t → IsRecord t v → OpenTo false t (with_version step m moment v)
  of_version t Give m v both is = of_puts t Reset m both _ (put_may OpensRecord t v (changes.Reset m.1.compactor_epoch) (Resets m.1.compactor_epoch refl) both is)
  of_version t Begin m v both is = of_puts t GiveFirst m both _ (put_may OpensRecord t v (changes.GiveEpoch m.1.compactor_epoch) (Gives m.1.compactor_epoch refl) both is)
  of_version t GiveFirst m v both is = of_puts t Reset m both _ (put_may OpensRecord t v (changes.Reset m.1.compactor_epoch) (Resets m.1.compactor_epoch refl) both is)
  of_version t Reset m v both is = (tt, of_records t both, tt)

  no_record : (t : Store) → ByRecords t → top_of db RecordLog t ≡ None → OpenTo false t (End Over (Err LatestTransactionalObjectVersionMissing))
  no_record t both top = (refl, of_records t both, AtRecord (NoVersion top refl))

  of_none : (t : Store) (step : OpenStep) (m : ℕ × Manifest) → ByRecords t → top_of db RecordLog t ≡ None → OpenTo false t (without_version step m moment)
  of_none t Give m both top = of_first t Begin m both (first_of moment first_put) (first_may t both top (record_encoded first_record) refl (plain_calm (record_encoded first_record) (records_plain.encodes (record {}) first_record)))
  of_none t Begin m both top = no_record t both top
  of_none t GiveFirst m both top = no_record t both top
  of_none t Reset m both top = no_record t both top

  of_record : (t : Store) (step : OpenStep) (m : ℕ × Manifest) (p : RecordChanging) → OpensRecord p.change → (g : WorkGoes Record) → RecordTo p.change t g → OpenTo false t (on_record step m moment p g)
  of_record t step m p its (Stay work) h = (h.0, (h.1, its))
  of_record t step m p its (End work (Ok Absent)) h = of_none t step m h.0 h.1
  of_record t step m p its (End work (Ok (Unchanged n v))) h = of_version t step m (n, v) h.0 h.1
  of_record t step m p its (End work (Ok (Committed n v))) h = of_version t step m (n, normal_record v) h.0 h.1
  of_record t step m p its (End work (Err e)) h = (h.1, of_records t h.0, AtRecord (OfPhrase p.change its h.2))

  -- the record is read, to give it the epoch
  gives_to : (t : Store) (m : ℕ × Manifest) → ByManifests t → OpenTo true t (raised (Some m))
  gives_to t m both = (refl, ((to_records t both, tt), Gives m.1.compactor_epoch refl))

  of_raising : (t : Store) (p : ManifestChanging) → Raises p.change → (g : WorkGoes Manifest) → ManifestTo p.change t g → OpenTo true t (raising p g)
  of_raising t p its (Stay work) h = (h.0, (h.1, its))
  of_raising t p its (End work (Ok Absent)) h = (refl, of_manifests t h.0, AtManifest (NoVersion h.1 refl))
  of_raising t p its (End work (Ok (Unchanged n m))) h = gives_to t (n, m) h.0
  of_raising t p its (End work (Ok (Committed n m))) h = gives_to t (n, normal_manifest m) h.0
  of_raising t p its (End work (Err e)) h = (h.1, of_manifests t h.0, AtManifest (OfPhrase p.change its h.2))

  abbrev Stepped : Store → OpenPhase → Type 0
  Stepped t p = OpenTo (raises p) (whole (open_asks db p) (moment_of (open_asks db p) moment) t).store (open_goes moment p (whole (open_asks db p) (moment_of (open_asks db p) moment) t).answer)

  pub open_steps : (t : Store) (p : OpenPhase) → OpenAt t p → Stepped t p
  open_steps t (Raising p) h = of_raising _ p h.1 _ (work_to decoded_manifest normal_manifest db ManifestLog RecordLog manifests_apart named moment (manifest_put p.change) (manifest_work p.change) (manifest_back p.change) t p.work h.0)
  open_steps t (OnRecord step m p) h = of_record _ step m p h.1 _ (work_to decoded_record normal_record db RecordLog ManifestLog records_apart named moment (record_put p.change) (record_work p.change) (record_back p.change) t p.work h.0)
  open_steps t Over h = absurd h
