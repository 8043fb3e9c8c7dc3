-- What a step of a call makes of its party's uploads, and what the author of a step puts.
use Rattle.std.proofs.Common.{◌≡◌, ◌≢◌, ℕ, ℤ, Bool, true, false, List, Option, Some, None, Ok, Err, is_none, ◌⊎◌, inl, inr, refl, sym, ap, ◌∙◌, subst}
use Rattle.std.specs.BTreeMap.{is_at}
use Rattle.slate_ids.specs.Ulids.{id_cmp as ulid_cmp}
use Rattle.slate_ids.specs.declared.gc_message.GcMessage.{GcMessage}
use Rattle.slate_model.specs.declared.manifest.Manifest.{Manifest}
use Rattle.slate_model_records.specs.Records.{Record}
use Rattle.slate_gc_passes.specs.GcPhase.{GcGoes, gc_goes}
use Rattle.slate_gc_passes.specs.declared.gc_phase.GcPhase.{GcPhase}
use Rattle.slate_gc_passes.specs.declared.gc_phase.GcPhase.TheVariants.{Removing, Collecting}
use Rattle.slate_gc_passes.specs.declared.pass_phase.PassPhase.{PassPhase}
use Rattle.slate_gc_passes.specs.declared.pass_phase.PassPhase.TheVariants as passing
use Rattle.slate_gc_passes.specs.declared.pass_settings.PassSettings.{PassSettings}
use Rattle.slate_script_events.specs.declared.call.Call.{Call}
use Rattle.slate_script_events.specs.declared.call.Call.TheVariants.{OpenWriter, Flush, Claim, Report, Schedule, WriteCheckpoint, ReplaceCheckpoint, RefreshCheckpoint, DeleteCheckpoint}
use Rattle.slate_script_events.specs.declared.filter_word.FilterWord.{FilterWord}
use Rattle.slate_state_calls.specs.Commits.{ManifestChanging, RecordChanging, manifest_put, record_put}
use Rattle.slate_state_calls.specs.Opening.{OpenGoes, open_goes}
use Rattle.slate_state_calls.specs.StateSteps.{StateGoes, state_goes}
use Rattle.slate_state_calls.specs.declared.compactor.Compactor.{Compactor}
use Rattle.slate_state_calls.specs.declared.open_phase.OpenPhase.{OpenPhase}
use Rattle.slate_state_calls.specs.declared.open_phase.OpenPhase.TheVariants as opening
use Rattle.slate_state_calls.specs.declared.open_phase.OpenStep.{OpenStep}
use Rattle.slate_state_calls.specs.declared.open_phase.OpenStep.TheVariants.{Give, Begin, GiveFirst, Reset}
use Rattle.slate_state_calls.specs.declared.state_phase.ManifestStep.{ManifestStep}
use Rattle.slate_state_calls.specs.declared.state_phase.ManifestStep.TheVariants as manifest_steps
use Rattle.slate_state_calls.specs.declared.state_phase.RecordStep.{RecordStep}
use Rattle.slate_state_calls.specs.declared.state_phase.RecordStep.TheVariants as steps
use Rattle.slate_state_calls.specs.declared.state_phase.StatePhase.{StatePhase}
use Rattle.slate_state_calls.specs.declared.state_phase.StatePhase.TheVariants as compacting
use Rattle.slate_state_record_updates.specs.declared.record_change.RecordChange.{RecordChange}
use Rattle.slate_state_updates.specs.declared.manifest_change.ManifestChange.{ManifestChange}
use Rattle.slate_state_updates.specs.declared.manifest_change.ManifestChange.TheVariants.{DropExpired, RaiseCompactor}
use Rattle.slate_store.specs.Machines.{Stay, End}
use Rattle.slate_store.specs.declared.store_answer.StoreAnswer.{StoreAnswer}
use Rattle.slate_store.specs.declared.store_answer.StoreAnswer.TheVariants.{Written}
use Rattle.slate_txn_changes.specs.LogWorks.{WorkGoes, work_goes}
use Rattle.slate_txn_changes.specs.declared.log_work.LogEnd.{LogEnd}
use Rattle.slate_txn_changes.specs.declared.log_work.LogEnd.TheVariants.{Absent, Unchanged, Committed}
use Rattle.slate_txn_changes.specs.declared.log_work.LogWork.{LogWork}
use Rattle.slate_txn_changes.specs.declared.log_work.LogWork.TheVariants.{Reading, Committing}
use Rattle.slate_txn_log.specs.declared.log_kind.LogKind.{LogKind}
use Rattle.slate_txn_log.specs.declared.log_kind.LogKind.TheVariants as logs
use Rattle.slate_layout_manifests.specs.Decoding.{decoded_manifest}
use Rattle.slate_layout_records.specs.RecordBytes.{decoded_record}
use Rattle.slate_cluster_protocol.specs.Calls.{change_of, facts_after, facts_with, is_unknown, record_change_of}
use Rattle.slate_cluster_protocol.specs.Holding.{Fits, change_at, FitsOpen, FitsState, open_change, record_change_at, schedule_of}
use Rattle.slate_cluster_protocol.specs.Logs.{Held, Puts, OfManifest, change_phrase, collect_phrase, manifest_puts, open_phrase, pass_phrase, phrase_of, record_puts, state_phrase}
use Rattle.slate_cluster_protocol.specs.Rows.{Standing, compactor_on, manifest_on, moved, open_on, pass_on, put_on, record_on, replies, state_on}
use Rattle.slate_script_events.specs.declared.reply.Reply.TheVariants.{Done}
use Rattle.slate_cluster_protocol.specs.Uploaded.{with_upload}
use Rattle.slate_cluster_protocol.specs.Works.{pass_ways}
use Rattle.slate_cluster_protocol.specs.declared.party.Facts.{Facts}
use Rattle.slate_cluster_protocol.specs.declared.uploads.Upload.{Upload}
use Rattle.slate_cluster_protocol.specs.declared.work.Work.{Work}
use Rattle.slate_cluster_protocol.specs.declared.work.Work.TheVariants as works
use Rattle.slate_cluster_laws.proofs.Maps.{insert_else}
use Rattle.slate_cluster_laws.proofs.Pools.{ulid_order}
use Rattle.slate_cluster_laws.proofs.Steps.{author_in}
use Rattle.slate_model_tables.specs.declared.ss_table_id.SsTableId.{SsTableId}
use Rattle.slate_model_tables.specs.declared.ss_table_id.SsTableId.TheVariants.{Compacted}
use Rattle.slate_cluster_table_laws.proofs.NewViews.{PutsTables}
use Rattle.slate_cluster_table_laws.proofs.Outputs.{PutsBring}
use Rattle.slate_cluster_table_laws.proofs.Starting.{Named, Uploads, flush_put, report_put}

-- ---- uploads

same_ulid : (x y : ℕ × ℕ) → (x ≡ y) ⊎ (x ≢ y)
same_ulid x y = test (is_at (ulid_cmp x) y) refl
  where
    test : (b : Bool) → is_at (ulid_cmp x) y ≡ b → (x ≡ y) ⊎ (x ≢ y)
    test true is = inl (ulid_order.one x y is)
    test false is = inr (λ (e : x ≡ y). absurd (cc (subst (λ z. is_at (ulid_cmp x) z ≡ true) e (ulid_order.itself x), is)))

-- a table that is known with one upload more is that one, or was known
pub known_more : (upload : Upload) (uploads : Uploads) (id : ℕ × ℕ) → is_unknown (with_upload upload uploads) id ≡ false → (id ≡ upload.table) ⊎ (is_unknown uploads id ≡ false)
known_more upload uploads id h = by (same_ulid id upload.table)
  where
    by : (id ≡ upload.table) ⊎ (id ≢ upload.table) → (id ≡ upload.table) ⊎ (is_unknown uploads id ≡ false)
    by (inl same) = inl same
    by (inr ne) = inr (ap is_none (sym (insert_else ulid_cmp ulid_order upload.table id upload.info uploads ne)) ∙ h)

-- how a step leaves the uploads of its party: as they were, or with the table that was put, whose put was answered so
pub data Leaves (facts : Facts) (work : Work) (answer : StoreAnswer) (standing : Standing) : Type 0 where
  Same : standing.facts.uploads ≡ facts.uploads → standing.facts.db ≡ facts.db → Leaves facts work answer standing
  More : (db : List ℕ) (upload : Upload) (bytes : List ℕ) (tag : ℕ) → work ≡ works.PutTable db upload bytes → answer ≡ Written tag
      → standing ≡ replies (record facts { uploads = with_upload upload facts.uploads }) Done → Leaves facts work answer standing

module _ (facts : Facts) (call : Call) (work : Work) (answer : StoreAnswer) where
  abbrev Left : Standing → Type 0
  Left standing = Leaves facts work answer standing

  with_left : (c : Call) (m : Manifest) → ((facts_with c m facts).uploads ≡ facts.uploads) × ((facts_with c m facts).db ≡ facts.db)
  with_left OpenWriter m = (refl, refl)
  with_left _ m = (refl, refl)

  after_left : (c : Call) (end : LogEnd Manifest) → ((facts_after c end facts).uploads ≡ facts.uploads) × ((facts_after c end facts).db ≡ facts.db)
  after_left c Absent = (refl, refl)
  after_left c (Unchanged n m) = (refl, refl)
  after_left c (Committed n m) = with_left c m

  manifest_left : (db : List ℕ) (p : ManifestChanging) (g : WorkGoes Manifest) → Left (manifest_on facts call db p g)
  manifest_left db p (Stay w) = Same refl refl
  manifest_left db p (End w (Ok end)) = let same = after_left call end in Same same.0 same.1
  manifest_left db p (End w (Err e)) = Same refl refl

  record_left : (db : List ℕ) (p : RecordChanging) (g : WorkGoes Record) → Left (record_on facts db p g)
  record_left db p (Stay w) = Same refl refl
  record_left db p (End w (Ok end)) = Same refl refl
  record_left db p (End w (Err e)) = Same refl refl

  pass_left : (db : List ℕ) (settings : PassSettings) (filter : FilterWord) (g : GcGoes) → Left (pass_on facts db settings filter g)
  pass_left db settings filter (Stay phase) = Same refl refl
  pass_left db settings filter (End phase (Ok counts)) = Same refl refl
  pass_left db settings filter (End phase (Err e)) = Same refl refl

  open_left : (db : List ℕ) (g : OpenGoes) → Left (open_on facts db g)
  open_left db (Stay phase) = Same refl refl
  open_left db (End phase (Ok compactor)) = Same refl refl
  open_left db (End phase (Err e)) = Same refl refl

  state_left : (db : List ℕ) (g : StateGoes) → Left (state_on facts db g)
  state_left db (Stay at) = Same refl refl
  state_left db (End at (Ok u)) = Same refl refl
  state_left db (End at (Err e)) = Same refl refl

  compactor_left : (db : List ℕ) (now : ℤ) (phase : StatePhase) (o : Option Compactor) → Left (compactor_on facts db now phase answer o)
  compactor_left db now phase None = Same refl refl
  compactor_left db now phase (Some c) = state_left db (state_goes now (phase, c) answer)

put_left : (facts : Facts) (db : List ℕ) (upload : Upload) (bytes : List ℕ) (answer : StoreAnswer) → Leaves facts (works.PutTable db upload bytes) answer (put_on facts upload answer)
put_left facts db upload bytes (Written tag) = More db upload bytes tag refl refl refl
put_left facts db upload bytes _ = Same refl refl

pub moved_left : (facts : Facts) (call : Call) (work : Work) (now : ℤ) (answer : StoreAnswer) → Leaves facts work answer (moved facts call work now answer)
moved_left facts call (works.Manifests db p) now answer = manifest_left facts call (works.Manifests db p) answer db p (work_goes logs.Manifest decoded_manifest (manifest_put p.change) now p.work answer)
moved_left facts call (works.Records db p) now answer = record_left facts call (works.Records db p) answer db p (work_goes logs.Compactions decoded_record (record_put p.change) now p.work answer)
moved_left facts call (works.PutTable db upload bytes) now answer = put_left facts db upload bytes answer
moved_left facts call (works.Pass db settings filter phase) now answer = pass_left facts call (works.Pass db settings filter phase) answer db settings filter (gc_goes (pass_ways filter) settings now phase answer)
moved_left facts call (works.Opening db phase) now answer = open_left facts call (works.Opening db phase) answer db (open_goes now phase answer)
moved_left facts call (works.Compacting db phase) now answer = compactor_left facts call (works.Compacting db phase) answer db now phase facts.compactor

-- ---- what the author of a step puts

module _ (P : ℕ × ℕ → Type 0) (n : ℕ) where
  change_brings : (k : LogKind) (db : List ℕ) (puts : Puts) (work : LogWork (Held k)) → PutsBring P puts → PutsBring P (author_in n (change_phrase k db puts work)).puts
  change_brings k db puts (Reading phase) h = tt
  change_brings k db puts (Committing made phase) h = h

  manifest_brings : (o : Option ManifestChange) → PutsBring P (manifest_puts o)
  manifest_brings None = tt
  manifest_brings (Some change) = tt

  collect_brings : (db : List ℕ) (pass : GcMessage) (phase : PassPhase) → PutsBring P (author_in n (collect_phrase db pass phase)).puts
  collect_brings db pass passing.Over = tt
  collect_brings db pass _ = tt

  pass_brings : (db : List ℕ) (pass : GcMessage) (phase : GcPhase) → PutsBring P (author_in n (pass_phrase db pass phase)).puts
  pass_brings db pass (Removing work) = change_brings logs.Manifest db (OfManifest DropExpired) work tt
  pass_brings db pass (Collecting at phase) = collect_brings db pass phase

  -- a change of the record, by what it is
  at_change : (db : List ℕ) (p : RecordChanging) (o : Option RecordChange) → p.change ≡ o → PutsBring P (record_puts o) → PutsBring P (author_in n (change_phrase logs.Compactions db (record_puts p.change) p.work)).puts
  at_change db p o is h = change_brings logs.Compactions db (record_puts p.change) p.work (subst (λ (x : Option RecordChange). PutsBring P (record_puts x)) (sym is) h)

  open_brings : (step : OpenStep) (own : ℕ) → PutsBring P (record_puts (open_change step own))
  open_brings Give own = tt
  open_brings Begin own = tt
  open_brings GiveFirst own = tt
  open_brings Reset own = tt

  schedule_brings : (call : Call) (own : ℕ) → PutsBring P (record_puts (schedule_of call own))
  schedule_brings (Schedule id) own = tt
  schedule_brings _ own = tt

  step_brings : (call : Call) (step : RecordStep) (c : Compactor) → PutsBring P (record_puts (record_change_at call step c))
  step_brings call steps.Follow c = tt
  step_brings call steps.Schedule c = schedule_brings call c.epoch
  step_brings call (steps.Fetch write) c = tt
  step_brings call (steps.Record write) c = tt

  opening_brings : (db : List ℕ) (phase : OpenPhase) → FitsOpen phase → PutsBring P (author_in n (open_phrase db phase)).puts
  opening_brings db (opening.Raising p) fits = change_brings logs.Manifest db (manifest_puts p.change) p.work (manifest_brings p.change)
  opening_brings db (opening.OnRecord step m p) fits = at_change db p (open_change step m.1.compactor_epoch) fits (open_brings step m.1.compactor_epoch)
  opening_brings db opening.Over fits = absurd fits

  state_brings : (call : Call) (db : List ℕ) (phase : StatePhase) (o : Option Compactor) → FitsState call phase o → PutsBring P (author_in n (state_phrase db phase)).puts
  state_brings call db (compacting.OnRecord step p) (Some c) fits = at_change db p (record_change_at call step c) fits.1 (step_brings call step c)
  state_brings call db (compacting.OnRecord step p) None fits = absurd fits
  state_brings call db (compacting.OnManifest step p) (Some c) fits = change_brings logs.Manifest db (manifest_puts p.change) p.work (manifest_brings p.change)
  state_brings call db (compacting.OnManifest step p) None fits = absurd fits
  state_brings call db compacting.Over (Some c) fits = absurd fits
  state_brings call db compacting.Over None fits = absurd fits

  module _ (facts : Facts) (put : (id : ℕ × ℕ) → is_unknown facts.uploads id ≡ false → P id) where
    call_brings : (call : Call) → Named facts.uploads call → PutsBring P (record_puts (record_change_of facts call))
    call_brings (Claim id) h = tt
    call_brings (Report id tables) h = report_put P facts.uploads put tables h
    call_brings _ h = tt

    pub work_brings : (call : Call) (work : Work) → Fits facts call work → Named facts.uploads call → PutsBring P (author_in n (phrase_of work)).puts
    work_brings call (works.Manifests db p) fits h = change_brings logs.Manifest db (manifest_puts p.change) p.work (manifest_brings p.change)
    work_brings call (works.Records db p) fits h = at_change db p (record_change_of facts call) fits (call_brings call h)
    work_brings call (works.PutTable db upload bytes) fits h = tt
    work_brings call (works.Pass db settings filter phase) fits h = pass_brings db settings.pass phase
    work_brings call (works.Opening db phase) fits h = opening_brings db phase fits
    work_brings call (works.Compacting db phase) fits h = state_brings call db phase facts.compactor fits

-- ---- which tables the author of a step flushes

module _ (Q : SsTableId → Type 0) (n : ℕ) where
  change_tables : (k : LogKind) (db : List ℕ) (puts : Puts) (work : LogWork (Held k)) → PutsTables Q puts → PutsTables Q (author_in n (change_phrase k db puts work)).puts
  change_tables k db puts (Reading phase) h = tt
  change_tables k db puts (Committing made phase) h = h

  record_tables : (o : Option RecordChange) → PutsTables Q (record_puts o)
  record_tables None = tt
  record_tables (Some change) = tt

  at_manifest : (db : List ℕ) (p : ManifestChanging) (o : Option ManifestChange) → p.change ≡ o → PutsTables Q (manifest_puts o) → PutsTables Q (author_in n (change_phrase logs.Manifest db (manifest_puts p.change) p.work)).puts
  at_manifest db p o is h = change_tables logs.Manifest db (manifest_puts p.change) p.work (subst (λ (x : Option ManifestChange). PutsTables Q (manifest_puts x)) (sym is) h)

  at_record : (db : List ℕ) (p : RecordChanging) → PutsTables Q (author_in n (change_phrase logs.Compactions db (record_puts p.change) p.work)).puts
  at_record db p = change_tables logs.Compactions db (record_puts p.change) p.work (record_tables p.change)

  collect_tables : (db : List ℕ) (pass : GcMessage) (phase : PassPhase) → PutsTables Q (author_in n (collect_phrase db pass phase)).puts
  collect_tables db pass passing.Over = tt
  collect_tables db pass _ = tt

  pass_tables : (db : List ℕ) (pass : GcMessage) (phase : GcPhase) → PutsTables Q (author_in n (pass_phrase db pass phase)).puts
  pass_tables db pass (Removing work) = change_tables logs.Manifest db (OfManifest DropExpired) work tt
  pass_tables db pass (Collecting at phase) = collect_tables db pass phase

  opening_tables : (db : List ℕ) (phase : OpenPhase) → FitsOpen phase → PutsTables Q (author_in n (open_phrase db phase)).puts
  opening_tables db (opening.Raising p) fits = at_manifest db p (Some RaiseCompactor) fits tt
  opening_tables db (opening.OnRecord step m p) fits = at_record db p
  opening_tables db opening.Over fits = absurd fits

  step_tables : (step : ManifestStep) (c : Compactor) → PutsTables Q (manifest_puts (change_at step c))
  step_tables manifest_steps.Follow c = tt
  step_tables (manifest_steps.Keep write) c = tt
  step_tables (manifest_steps.Merge write) c = tt

  state_tables : (call : Call) (db : List ℕ) (phase : StatePhase) (o : Option Compactor) → FitsState call phase o → PutsTables Q (author_in n (state_phrase db phase)).puts
  state_tables call db (compacting.OnRecord step p) (Some c) fits = at_record db p
  state_tables call db (compacting.OnRecord step p) None fits = absurd fits
  state_tables call db (compacting.OnManifest step p) (Some c) fits = at_manifest db p (change_at step c) fits.1 (step_tables step c)
  state_tables call db (compacting.OnManifest step p) None fits = absurd fits
  state_tables call db compacting.Over (Some c) fits = absurd fits
  state_tables call db compacting.Over None fits = absurd fits

  module _ (facts : Facts) (put : (id : ℕ × ℕ) → is_unknown facts.uploads id ≡ false → Q (Compacted id)) where
    call_tables : (call : Call) → Named facts.uploads call → PutsTables Q (manifest_puts (change_of facts call))
    call_tables OpenWriter h = tt
    call_tables (Flush tables replay_after next_wal seq tick) h = flush_put Q facts.uploads put tables h
    call_tables (WriteCheckpoint id lifetime source name) h = tt
    call_tables (ReplaceCheckpoint old id lifetime source name) h = tt
    call_tables (RefreshCheckpoint id lifetime) h = tt
    call_tables (DeleteCheckpoint id) h = tt
    call_tables _ h = tt

    pub work_tables : (call : Call) (work : Work) → Fits facts call work → Named facts.uploads call → PutsTables Q (author_in n (phrase_of work)).puts
    work_tables call (works.Manifests db p) fits h = at_manifest db p (change_of facts call) fits (call_tables call h)
    work_tables call (works.Records db p) fits h = at_record db p
    work_tables call (works.PutTable db upload bytes) fits h = tt
    work_tables call (works.Pass db settings filter phase) fits h = pass_tables db settings.pass phase
    work_tables call (works.Opening db phase) fits h = opening_tables db phase fits
    work_tables call (works.Compacting db phase) fits h = state_tables call db phase facts.compactor fits
