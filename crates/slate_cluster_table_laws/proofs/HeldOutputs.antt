-- The outputs that a compactor holds: those of its local compactions, and of the record that it has read.
use Rattle.std.proofs.Common.{◌≡◌, ℕ, ℤ, Bool, true, false, List, Option, Some, None, Result, Ok, Err, refl, sym, subst}
use Rattle.slate_ids.specs.declared.error.SlateDBError.{SlateDBError}
use Rattle.slate_store.specs.Machines.{Stay, End}
use Rattle.slate_store.specs.Store.{Store}
use Rattle.slate_store.specs.declared.store_answer.StoreAnswer.{StoreAnswer}
use Rattle.slate_store.specs.declared.store_answer.StoreAnswer.TheVariants.{Written}
use Rattle.slate_txn_changes.specs.LogWorks.{WorkGoes, change_goes, commit_on, read_on, work_goes}
use Rattle.slate_txn_changes.specs.declared.log_work.LogEnd.{LogEnd}
use Rattle.slate_txn_changes.specs.declared.log_work.LogEnd.TheVariants.{Absent, Unchanged, Committed}
use Rattle.slate_txn_changes.specs.declared.log_work.LogWork.{LogWork}
use Rattle.slate_txn_changes.specs.declared.log_work.LogWork.TheVariants.{Reading, Committing}
use Rattle.slate_txn_log.specs.CommitPhase.{CommitGoes, commit_goes}
use Rattle.slate_txn_log.specs.Fence.{fence, unless}
use Rattle.slate_txn_log.specs.ReadPhase.{Reply, read_goes}
use Rattle.slate_txn_log.specs.declared.commit_phase.CommitPhase.{CommitPhase}
use Rattle.slate_txn_log.specs.declared.log_kind.LogKind.TheVariants as logs
use Rattle.slate_layout_encodable.specs.Normal.{normal_manifest}
use Rattle.slate_layout_manifests.specs.Decoding.{decoded_manifest}
use Rattle.slate_layout_records.specs.RecordBytes.{decoded_record}
use Rattle.slate_layout_records.specs.RecordNormal.{normal_record}
use Rattle.slate_gc_passes.specs.GcPhase.{GcGoes, gc_goes}
use Rattle.slate_gc_passes.specs.declared.pass_settings.PassSettings.{PassSettings}
use Rattle.slate_model.specs.Cores.{Core}
use Rattle.slate_model.specs.declared.manifest.Manifest.{Manifest}
use Rattle.slate_model_records.specs.Records.{Record}
use Rattle.slate_model_records.specs.declared.compaction_status.CompactionStatus.{CompactionStatus}
use Rattle.slate_model_records.specs.declared.compaction_status.CompactionStatus.TheVariants.{Completed, Failed}
use Rattle.slate_script_events.specs.declared.call.Call.{Call}
use Rattle.slate_script_events.specs.declared.call.Call.TheVariants.{OpenWriter, Finish as FinishCall, Fail}
use Rattle.slate_script_events.specs.declared.filter_word.FilterWord.{FilterWord}
use Rattle.slate_state_calls.specs.Commits.{ManifestChanging, RecordChanging, first_of, first_put, manifest_in, manifest_put, manifest_put_of, merge_of, put_of, record_in, record_put, statuses_of}
use Rattle.slate_state_calls.specs.Compactors.{with_local, with_manifest}
use Rattle.slate_state_calls.specs.Opening.{OpenGoes, after_record, on_record as opened_on, open_goes, puts as opening_puts, raised, raising, with_version, without_version}
use Rattle.slate_state_calls.specs.StateSteps.{StateGoes, follows, manifest_next, merge_by, merges, next_after, on_manifest, on_record, onward, or_missing, record_next, records as record_puts_of, refresh_of, refreshes, state_goes}
use Rattle.slate_state_calls.specs.declared.compactor.Compactor.{Compactor}
use Rattle.slate_state_calls.specs.declared.open_phase.OpenPhase.{OpenPhase}
use Rattle.slate_state_calls.specs.declared.open_phase.OpenPhase.TheVariants as opening
use Rattle.slate_state_calls.specs.declared.open_phase.OpenStep.{OpenStep}
use Rattle.slate_state_calls.specs.declared.open_phase.OpenStep.TheVariants.{Give, Begin, GiveFirst, Reset}
use Rattle.slate_state_calls.specs.declared.state_phase.ManifestStep.{ManifestStep}
use Rattle.slate_state_calls.specs.declared.state_phase.ManifestStep.TheVariants.{Follow, Keep, Merge}
use Rattle.slate_state_calls.specs.declared.state_phase.RecordStep.{RecordStep}
use Rattle.slate_state_calls.specs.declared.state_phase.RecordStep.TheVariants as steps
use Rattle.slate_state_calls.specs.declared.state_phase.StatePhase.{StatePhase}
use Rattle.slate_state_calls.specs.declared.state_phase.StatePhase.TheVariants as compacting
use Rattle.slate_state_calls.specs.declared.state_start.TreesWrite.{TreesWrite}
use Rattle.slate_state_compactor.specs.Local.{failed, finished, manifest_committed, refreshed}
use Rattle.slate_state_compactor.specs.declared.local_state.LocalState.{LocalState}
use Rattle.slate_state_record_updates.specs.EntrySteps.{with_local_status, with_local_statuses, with_status}
use Rattle.slate_state_record_updates.specs.declared.record_change.RecordChange.TheVariants as changes
use Rattle.slate_cluster_protocol.specs.Calls.{end_of, facts_after, facts_at_start, facts_with, local_in, made_or_none, with_held}
use Rattle.slate_cluster_protocol.specs.Chains.{Link, link_at}
use Rattle.slate_cluster_protocol.specs.Logs.{Author, Chains, Puts, change_phrase, open_phrase, phrase_of, record_puts, records, state_phrase}
use Rattle.slate_cluster_protocol.specs.Rows.{compactor_on, manifest_on, moved, open_on, pass_on, put_on, record_on, state_on}
use Rattle.slate_cluster_protocol.specs.Works.{db_of, pass_ways}
use Rattle.slate_cluster_protocol.specs.declared.party.Facts.{Facts}
use Rattle.slate_cluster_protocol.specs.declared.uploads.Upload.{Upload}
use Rattle.slate_cluster_protocol.specs.declared.work.Work.{Work}
use Rattle.slate_cluster_protocol.specs.declared.work.Work.TheVariants as works
use Rattle.slate_cluster_chain_laws.proofs.Locals.{GivenStatus, has_failed, has_finished, is_refreshed}
use Rattle.slate_cluster_laws.proofs.Facts.{CommitBrings, ReadBrings}
use Rattle.slate_cluster_laws.proofs.Steps.{PhraseBrings, author_of}
use Rattle.slate_cluster_table_laws.specs.Links.{EachValue}
use Rattle.slate_cluster_table_laws.specs.Presence.{EachOutput}
use Rattle.slate_cluster_table_laws.proofs.EachLink.{each_at}
use Rattle.slate_cluster_table_laws.proofs.Outputs.{entry_own, found_own, mapped_own, outputs_weaker}

-- what holds of the outputs that a compactor holds
pub record CompactorHas (P : ℕ × ℕ → Type 0) (c : Compactor) : Type 0 where
  pub local : EachOutput P c.local.compactions.entries
  pub read : EachOutput P c.compactions.entries

abbrev pub HeldHas : (ℕ × ℕ → Type 0) → Option Compactor → Type 0
HeldHas P None = Unit {0}
HeldHas P (Some c) = CompactorHas P c

pub held_weaker : (P Q : ℕ × ℕ → Type 0) (f : (id : ℕ × ℕ) → P id → Q id) (o : Option Compactor) → HeldHas P o → HeldHas Q o
held_weaker P Q f None h = tt
held_weaker P Q f (Some c) h = record { local = outputs_weaker P Q f c.local.compactions.entries h.local; read = outputs_weaker P Q f c.compactions.entries h.read }

unless_ok : {X : Type 0} (o : Option SlateDBError) (r : Result X SlateDBError) (x : X) → unless o r ≡ Ok x → r ≡ Ok x
unless_ok None r x h = h
unless_ok (Some e) r x h = absurd (cc h)

module _ (P : ℕ × ℕ → Type 0) where
  abbrev RecordHas : Record → Type 0
  RecordHas r = EachOutput P r.entries

  -- ---- the local state

  statuses_has : (local read : Record) → RecordHas read → RecordHas (with_local_statuses local read)
  statuses_has local read h = mapped_own P (with_local_status local.entries) (λ c own. own) read.entries h

  given_has : (id : ℕ × ℕ) (status : CompactionStatus) (old new : Record) → GivenStatus id status old new → RecordHas old → RecordHas new
  given_has id status old new g h = subst RecordHas (sym g.is) (entry_own P (with_status status g.entry) old.entries (found_own P id old.entries g.entry g.at h) h)

  refreshed_has : (read : Record) (core : Core) (local new : LocalState) → refreshed read core local ≡ Ok new → RecordHas read → RecordHas new.compactions
  refreshed_has read core local new made h = subst RecordHas (sym (is_refreshed read core local new made).compactions) (statuses_has local.compactions read h)

  finished_has : (id : ℕ × ℕ) (local new : LocalState) → finished id local ≡ Ok new → RecordHas local.compactions → RecordHas new.compactions
  finished_has id local new made h = given_has id Completed local.compactions new.compactions (has_finished id local new made).ends h

  failed_has : (id : ℕ × ℕ) (local new : LocalState) → failed id local ≡ Ok new → RecordHas local.compactions → RecordHas new.compactions
  failed_has id local new made h = given_has id Failed local.compactions new.compactions (has_failed id local new made).ends h

  -- ---- the start of a call

  module _ (facts : Facts) (h : HeldHas P facts.compactor) where
    module _ (end : LocalState → Result LocalState SlateDBError) (keeps : (local new : LocalState) → end local ≡ Ok new → RecordHas local.compactions → RecordHas new.compactions) where
      ended_by : (o : Option Compactor) → facts.compactor ≡ o → HeldHas P o → HeldHas P (with_held (end_of end o) facts).compactor
      ended_by None is k = h
      ended_by (Some c) is k = by (end c.local) refl
        where
          by : (r : Result LocalState SlateDBError) → end c.local ≡ r → HeldHas P (with_held (made_or_none r) facts).compactor
          by (Err e) made = h
          by (Ok new) made = subst (λ (x : Option Compactor). HeldHas P (local_in new x)) (sym is) (record { local = keeps c.local new made k.local; read = k.read })

    pub start_has : (call : Call) → HeldHas P (facts_at_start facts call).compactor
    start_has (FinishCall id) = ended_by (finished id) (λ local new is k. finished_has id local new is k) facts.compactor refl h
    start_has (Fail id) = ended_by (failed id) (λ local new is k. failed_has id local new is k) facts.compactor refl h
    start_has _ = h

  -- ---- a step of a call, where the records of its database have it

  module _ (n : ℕ) (s : Store) (chains : Chains) (db : List ℕ) (all : EachValue (λ (r : Record). EachOutput P r.entries) (chains logs.Compactions db)) (moment : ℤ) where
    value_has : (j : ℕ) (l : Link Record Author) → link_at j (chains logs.Compactions db) ≡ Some l → (r : Record) → l.value ≡ r → RecordHas r
    value_has j l at r value = subst RecordHas value (each_at RecordHas (chains logs.Compactions db) all j l at)

    -- ---- of the record with which a change of it ends

    abbrev VersionHas : Option (ℕ × Record) → Type 0
    VersionHas None = Unit {0}
    VersionHas (Some v) = RecordHas v.1

    abbrev GoesHas : WorkGoes Record → Type 0
    GoesHas (Stay work) = Unit {0}
    GoesHas (End work (Ok end)) = VersionHas (record_in end)
    GoesHas (End work (Err e)) = Unit {0}

    change_has : (now : ℤ) (j : ℕ) (r : Record) (made : Result (Option (CommitPhase Record)) SlateDBError) → RecordHas r → GoesHas (change_goes now j r made)
    change_has now j r (Ok (Some commit)) h = tt
    change_has now j r (Ok None) h = h
    change_has now j r (Err e) h = tt

    module _ (commit_of : ℤ → ℕ → Record → Result (Option (CommitPhase Record)) SlateDBError) where
      read_has : (g : Reply Record) → ReadBrings records db s (chains logs.Compactions db) g → GoesHas (read_on commit_of moment g)
      read_has (Stay phase) h = tt
      read_has (End phase (Ok None)) h = tt
      read_has (End phase (Ok (Some version))) h = change_has moment version.0 version.1 (commit_of moment version.0 version.1) (value_has version.0 h.link h.at version.1 h.value)
      read_has (End phase (Err e)) h = tt

      commit_has : (author : Author) (made : ℤ) (g : CommitGoes Record) → CommitBrings records db s (chains logs.Compactions db) author g → GoesHas (commit_on made g)
      commit_has author made (Stay phase) h = tt
      commit_has author made (End phase (Ok version)) h = value_has version.0 h.link h.at (normal_record version.1) h.value
      commit_has author made (End phase (Err e)) h = tt

      work_has : (puts : Puts) (work : LogWork Record) (answer : StoreAnswer) → PhraseBrings s chains n (change_phrase logs.Compactions db puts work) moment answer
          → GoesHas (work_goes logs.Compactions decoded_record commit_of moment work answer)
      work_has puts (Reading phase) answer h = read_has (read_goes logs.Compactions decoded_record phase answer) h
      work_has puts (Committing made phase) answer h = commit_has (author_of n puts made) made (commit_goes phase answer) h

    changing_has : (p : RecordChanging) (answer : StoreAnswer) → PhraseBrings s chains n (change_phrase logs.Compactions db (record_puts p.change) p.work) moment answer
        → GoesHas (work_goes logs.Compactions decoded_record (record_put p.change) moment p.work answer)
    changing_has p answer h = work_has (record_put p.change) (record_puts p.change) p.work answer h

    -- ---- of a compactor's call on its state

    abbrev StateHas : StateGoes → Type 0
    StateHas (Stay at) = CompactorHas P at.1
    StateHas (End at r) = CompactorHas P at.1

    module _ (c : Compactor) (h : CompactorHas P c) where
      follow_has : (v : ℕ × Record) → RecordHas v.1 → (o : Option SlateDBError) → StateHas (follows c v o)
      follow_has v has (Some e) = h
      follow_has v has None = record { local = h.local; read = has }

      fetched_has : (write : Option TreesWrite) (r : Result RecordChanging SlateDBError) → StateHas (record_puts_of write c r)
      fetched_has write (Ok p) = h
      fetched_has write (Err e) = h

      next_has : (step : RecordStep) (v : ℕ × Record) → RecordHas v.1 → StateHas (record_next step moment c v)
      next_has steps.Follow v has = follow_has v has (fence c.epoch v.1.compactor_epoch)
      next_has steps.Schedule v has = record { local = statuses_has c.local.compactions v.1 has; read = has }
      next_has (steps.Fetch write) v has = fetched_has write (put_of (statuses_of c.epoch c.local) moment v)
      next_has (steps.Record write) v has = record { local = has; read = has }

      version_has : (step : RecordStep) (o : Option (ℕ × Record)) → VersionHas o → StateHas (or_missing c (record_next step moment c) o)
      version_has step None has = h
      version_has step (Some v) has = next_has step v has

      on_record_has : (step : RecordStep) (p : RecordChanging) (g : WorkGoes Record) → GoesHas g → StateHas (on_record step moment c p g)
      on_record_has step p (Stay work) has = h
      on_record_has step p (End work (Ok end)) has = version_has step (record_in end) has
      on_record_has step p (End work (Err e)) has = h

      refresh_has : (v : ℕ × Manifest) (r : Result LocalState SlateDBError) → refresh_of c v.1 ≡ r → StateHas (refreshes c v r)
      refresh_has v (Ok local) is =
          let made = unless_ok (fence c.epoch v.1.compactor_epoch) (refreshed c.compactions v.1.core c.local) local is in
          record { local = refreshed_has c.compactions v.1.core c.local local made h.read; read = h.read }
      refresh_has v (Err e) is = h

      refreshes_has : (o : Option (ℕ × Manifest)) → StateHas (or_missing c (λ v. refreshes c v (refresh_of c v.1)) o)
      refreshes_has None = h
      refreshes_has (Some v) = refresh_has v (refresh_of c v.1) refl

      merge_has : (write : TreesWrite) (v : ℕ × Manifest) (r : Result ManifestChanging SlateDBError) → StateHas (merges write (with_manifest v c) r)
      merge_has write v (Ok p) = record { local = h.local; read = h.read }
      merge_has write v (Err e) = record { local = h.local; read = h.read }

      merges_has : (write : TreesWrite) (o : Option (ℕ × Manifest)) → StateHas (or_missing c (merge_by write moment c) o)
      merges_has write None = h
      merges_has write (Some v) = merge_has write v (manifest_put_of (merge_of c.epoch c.local) moment v)

      merged_has : (v : ℕ × Manifest) (write : TreesWrite) (b : Bool) → StateHas (onward (with_local (manifest_committed v.1.core c.local) (with_manifest v c)) (next_after b write))
      merged_has v write true = record { local = h.local; read = h.read }
      merged_has v write false = record { local = h.local; read = h.read }

      manifest_next_has : (step : ManifestStep) (end : LogEnd Manifest) → StateHas (manifest_next step moment c end)
      manifest_next_has Follow end = refreshes_has (manifest_in end)
      manifest_next_has (Keep write) end = merges_has write (manifest_in end)
      manifest_next_has (Merge write) Absent = h
      manifest_next_has (Merge write) (Unchanged k m) = h
      manifest_next_has (Merge write) (Committed k m) = merged_has (k, normal_manifest m) write write.whole

      on_manifest_has : (step : ManifestStep) (p : ManifestChanging) (g : WorkGoes Manifest) → StateHas (on_manifest step moment c p g)
      on_manifest_has step p (Stay work) = h
      on_manifest_has step p (End work (Ok end)) = manifest_next_has step end
      on_manifest_has step p (End work (Err e)) = h

      state_has : (phase : StatePhase) (answer : StoreAnswer) → PhraseBrings s chains n (state_phrase db phase) moment answer → StateHas (state_goes moment (phase, c) answer)
      state_has (compacting.OnRecord step p) answer brings = on_record_has step p (work_goes logs.Compactions decoded_record (record_put p.change) moment p.work answer) (changing_has p answer brings)
      state_has (compacting.OnManifest step p) answer brings = on_manifest_has step p (work_goes logs.Manifest decoded_manifest (manifest_put p.change) moment p.work answer)
      state_has compacting.Over answer brings = h

    -- ---- of an open of a compactor

    abbrev OpenHas : OpenGoes → Type 0
    OpenHas (Stay phase) = Unit {0}
    OpenHas (End phase (Ok c)) = CompactorHas P c
    OpenHas (End phase (Err e)) = Unit {0}

    puts_has : (step : OpenStep) (m : ℕ × Manifest) (r : Result RecordChanging SlateDBError) → OpenHas (opening_puts step m r)
    puts_has step m (Ok p) = tt
    puts_has step m (Err e) = tt

    opens_has : (step : OpenStep) (m : ℕ × Manifest) (v : ℕ × Record) → RecordHas v.1 → OpenHas (with_version step m moment v)
    opens_has Give m v has = puts_has Reset m (put_of (changes.Reset m.1.compactor_epoch) moment v)
    opens_has Begin m v has = puts_has GiveFirst m (put_of (changes.GiveEpoch m.1.compactor_epoch) moment v)
    opens_has GiveFirst m v has = puts_has Reset m (put_of (changes.Reset m.1.compactor_epoch) moment v)
    opens_has Reset m v has = record { local = has; read = has }

    begins_has : (step : OpenStep) (m : ℕ × Manifest) → OpenHas (without_version step m moment)
    begins_has Give m = puts_has Begin m (first_of moment first_put)
    begins_has Begin m = tt
    begins_has GiveFirst m = tt
    begins_has Reset m = tt

    after_has : (step : OpenStep) (m : ℕ × Manifest) (o : Option (ℕ × Record)) → VersionHas o → OpenHas (after_record step m moment o)
    after_has step m None has = begins_has step m
    after_has step m (Some v) has = opens_has step m v has

    opened_has : (step : OpenStep) (m : ℕ × Manifest) (p : RecordChanging) (g : WorkGoes Record) → GoesHas g → OpenHas (opened_on step m moment p g)
    opened_has step m p (Stay work) has = tt
    opened_has step m p (End work (Ok end)) has = after_has step m (record_in end) has
    opened_has step m p (End work (Err e)) has = tt

    raised_has : (o : Option (ℕ × Manifest)) → OpenHas (raised o)
    raised_has None = tt
    raised_has (Some m) = tt

    raising_has : (p : ManifestChanging) (g : WorkGoes Manifest) → OpenHas (raising p g)
    raising_has p (Stay work) = tt
    raising_has p (End work (Ok end)) = raised_has (manifest_in end)
    raising_has p (End work (Err e)) = tt

    open_has : (phase : OpenPhase) (answer : StoreAnswer) → PhraseBrings s chains n (open_phrase db phase) moment answer → OpenHas (open_goes moment phase answer)
    open_has (opening.Raising p) answer brings = raising_has p (work_goes logs.Manifest decoded_manifest (manifest_put p.change) moment p.work answer)
    open_has (opening.OnRecord step m p) answer brings = opened_has step m p (work_goes logs.Compactions decoded_record (record_put p.change) moment p.work answer) (changing_has p answer brings)
    open_has opening.Over answer brings = tt

  -- ---- of any work

  module _ (facts : Facts) (call : Call) (h : HeldHas P facts.compactor) where
    with_has : (c : Call) (m : Manifest) → HeldHas P (facts_with c m facts).compactor
    with_has OpenWriter m = h
    with_has _ m = h

    ends_has : (end : LogEnd Manifest) → HeldHas P (facts_after call end facts).compactor
    ends_has Absent = h
    ends_has (Unchanged k m) = h
    ends_has (Committed k m) = with_has call m

    manifest_has : (db : List ℕ) (p : ManifestChanging) (g : WorkGoes Manifest) → HeldHas P (manifest_on facts call db p g).facts.compactor
    manifest_has db p (Stay work) = h
    manifest_has db p (End work (Ok end)) = ends_has end
    manifest_has db p (End work (Err e)) = h

    record_has : (db : List ℕ) (p : RecordChanging) (g : WorkGoes Record) → HeldHas P (record_on facts db p g).facts.compactor
    record_has db p (Stay work) = h
    record_has db p (End work (Ok end)) = h
    record_has db p (End work (Err e)) = h

    put_has : (upload : Upload) (answer : StoreAnswer) → HeldHas P (put_on facts upload answer).facts.compactor
    put_has upload (Written tag) = h
    put_has upload _ = h

    pass_has : (db : List ℕ) (settings : PassSettings) (filter : FilterWord) (g : GcGoes) → HeldHas P (pass_on facts db settings filter g).facts.compactor
    pass_has db settings filter (Stay phase) = h
    pass_has db settings filter (End phase (Ok counts)) = h
    pass_has db settings filter (End phase (Err e)) = h

    module _ (n : ℕ) (s : Store) (chains : Chains) (now : ℤ) (answer : StoreAnswer) where
      abbrev AllHas : List ℕ → Type 0
      AllHas db = EachValue (λ (r : Record). EachOutput P r.entries) (chains logs.Compactions db)

      open_on_has : (db : List ℕ) (all : AllHas db) (g : OpenGoes) → OpenHas n s chains db all now g → HeldHas P (open_on facts db g).facts.compactor
      open_on_has db all (Stay phase) has = h
      open_on_has db all (End phase (Ok c)) has = has
      open_on_has db all (End phase (Err e)) has = h

      state_on_has : (db : List ℕ) (all : AllHas db) (g : StateGoes) → StateHas n s chains db all now g → HeldHas P (state_on facts db g).facts.compactor
      state_on_has db all (Stay at) has = has
      state_on_has db all (End at (Ok u)) has = has
      state_on_has db all (End at (Err e)) has = has

      by_compactor : (db : List ℕ) → AllHas db → (phase : StatePhase) → PhraseBrings s chains n (state_phrase db phase) now answer → (o : Option Compactor) → HeldHas P o → HeldHas P (compactor_on facts db now phase answer o).facts.compactor
      by_compactor db all phase brings None has = h
      by_compactor db all phase brings (Some c) has = state_on_has db all (state_goes now (phase, c) answer) (state_has n s chains db all now c has phase answer brings)

      pub moved_has : (work : Work) → AllHas (db_of work) → PhraseBrings s chains n (phrase_of work) now answer → HeldHas P (moved facts call work now answer).facts.compactor
      moved_has (works.Manifests db p) all brings = manifest_has db p (work_goes logs.Manifest decoded_manifest (manifest_put p.change) now p.work answer)
      moved_has (works.Records db p) all brings = record_has db p (work_goes logs.Compactions decoded_record (record_put p.change) now p.work answer)
      moved_has (works.PutTable db upload bytes) all brings = put_has upload answer
      moved_has (works.Pass db settings filter phase) all brings = pass_has db settings filter (gc_goes (pass_ways filter) settings now phase answer)
      moved_has (works.Opening db phase) all brings = open_on_has db all (open_goes now phase answer) (open_has n s chains db all now phase answer brings)
      moved_has (works.Compacting db phase) all brings = by_compactor db all phase brings facts.compactor h
