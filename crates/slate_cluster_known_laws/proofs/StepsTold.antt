-- What a step of a call brings of the facts of its party: its epoch where the step replies one, and a table where the step uploaded one.
use Rattle.std.proofs.Common.{◌≡◌, ◌≢◌, ℕ, ℤ, ◌==◌, Bool, true, false, List, [], ◌∷◌, ◌+◌, Option, Some, None, is_some, Result, Ok, Err, refl, sym, ap, ◌∙◌, subst}
use Rattle.std.specs.Prelude.{◌||◌, if◌then◌else◌}
use Rattle.std.specs.Option.{option_or}
use Rattle.slate_ids.specs.Limits.{last_number}
use Rattle.slate_ids.specs.Ulids.{id_cmp as ulid_cmp}
use Rattle.slate_ids.specs.declared.error.SlateDBError.{SlateDBError}
use Rattle.slate_ids.specs.declared.error.SlateDBError.TheVariants.{Exhausted, InvalidDBState}
use Rattle.slate_ids.specs.declared.error.StateCause.TheVariants.{NotOpen}
use Rattle.slate_ids.specs.declared.gc_message.GcMessage.{GcMessage}
use Rattle.slate_layout.specs.Codec.{encoded}
use Rattle.slate_layout_manifests.specs.Decoding.{decoded_manifest}
use Rattle.slate_layout_records.specs.RecordBytes.{decoded_record}
use Rattle.slate_model.specs.declared.checkpoint.Checkpoint.{Checkpoint}
use Rattle.slate_model.specs.declared.manifest.Manifest.{Manifest}
use Rattle.slate_model_tables.specs.declared.ss_table_info.SsTableInfo.{SsTableInfo}
use Rattle.slate_model_records.specs.Records.{Record}
use Rattle.slate_store.specs.Machines.{Stay, End}
use Rattle.slate_store.specs.declared.store_answer.StoreAnswer.{StoreAnswer}
use Rattle.slate_store.specs.declared.store_answer.StoreAnswer.TheVariants.{Written}
use Rattle.slate_store.specs.declared.store_call.StoreCall.{StoreCall}
use Rattle.slate_txn_log.specs.AdvancePhase.{advance_asks}
use Rattle.slate_txn_log.specs.CommitPhase.{CommitGoes, commit_asks, commit_goes, prepared}
use Rattle.slate_txn_log.specs.ReadPhase.{Reply as ReadReply, read_asks, read_goes}
use Rattle.slate_txn_log.specs.declared.advance_phase.AdvancePhase.{AdvancePhase}
use Rattle.slate_txn_log.specs.declared.advance_phase.AdvancePhase.TheVariants as advancing
use Rattle.slate_txn_log.specs.declared.commit_phase.CommitPhase.{CommitPhase}
use Rattle.slate_txn_log.specs.declared.commit_phase.CommitPhase.TheVariants as committing
use Rattle.slate_txn_log.specs.declared.log_kind.LogKind.{LogKind}
use Rattle.slate_txn_log.specs.declared.log_kind.LogKind.TheVariants as logs
use Rattle.slate_txn_log.specs.declared.read_phase.ReadPhase.{ReadPhase}
use Rattle.slate_txn_log.specs.declared.right.Right.TheVariants.{Plain}
use Rattle.slate_txn_log.specs.declared.read_phase.ReadPhase.TheVariants as reading
use Rattle.slate_txn_log.specs.Change.{some_commit, wanted}
use Rattle.slate_txn_log.specs.Fence.{fence}
use Rattle.slate_txn_changes.specs.LogWorks.{WorkGoes, change_goes, commit_on, read_on, work_asks, work_goes}
use Rattle.slate_txn_changes.specs.declared.log_work.LogEnd.{LogEnd}
use Rattle.slate_txn_changes.specs.declared.log_work.LogEnd.TheVariants.{Absent, Unchanged, Committed}
use Rattle.slate_txn_changes.specs.declared.log_work.LogWork.{LogWork}
use Rattle.slate_txn_changes.specs.declared.log_work.LogWork.TheVariants.{Reading, Committing}
use Rattle.slate_state_compactor.specs.Local.{finished, failed}
use Rattle.slate_state_compactor.specs.declared.local_state.LocalState.{LocalState}
use Rattle.slate_state_calls.specs.Commits.{ManifestChanging, RecordChanging, manifest_in, manifest_put, manifest_put_of, merge_of, put_of, record_in, record_put, statuses_of}
use Rattle.slate_state_calls.specs.Compactors.{with_manifest}
use Rattle.slate_state_calls.specs.Opening.{OpenGoes, open_asks, open_goes}
use Rattle.slate_state_calls.specs.StateSteps.{StateGoes, follows, manifest_next, merge_by, merges, next_after, on_manifest, on_record, onward, or_missing, record_next, records, refresh_of, refreshes, state_asks, state_goes}
use Rattle.slate_state_calls.specs.declared.compactor.Compactor.{Compactor}
use Rattle.slate_state_calls.specs.declared.open_phase.OpenPhase.{OpenPhase}
use Rattle.slate_state_calls.specs.declared.open_phase.OpenPhase.TheVariants as opening
use Rattle.slate_state_calls.specs.declared.state_phase.ManifestStep.{ManifestStep}
use Rattle.slate_state_calls.specs.declared.state_phase.ManifestStep.TheVariants.{Follow, Keep, Merge}
use Rattle.slate_state_calls.specs.declared.state_phase.RecordStep.{RecordStep}
use Rattle.slate_state_calls.specs.declared.state_phase.RecordStep.TheVariants as steps
use Rattle.slate_state_calls.specs.declared.state_phase.StatePhase.{StatePhase}
use Rattle.slate_state_calls.specs.declared.state_phase.StatePhase.TheVariants as compacting
use Rattle.slate_state_calls.specs.declared.state_start.TreesWrite.{TreesWrite}
use Rattle.slate_state_referenced.specs.Referenced.{referenced_asks}
use Rattle.slate_state_referenced.specs.declared.referenced_phase.ReferencedPhase.{ReferencedPhase}
use Rattle.slate_state_referenced.specs.declared.referenced_phase.ReferencedPhase.TheVariants as fetching
use Rattle.slate_state_updates.specs.Checkpoints.{checkpoint_at}
use Rattle.slate_state_updates.specs.Rules.{manifest_refusal}
use Rattle.slate_state_updates.specs.declared.manifest_change.ManifestChange.{ManifestChange}
use Rattle.slate_state_updates.specs.declared.manifest_change.ManifestChange.TheVariants.{RaiseWriter}
use Rattle.slate_gc_passes.specs.GcPhase.{GcGoes, gc_asks, gc_goes}
use Rattle.slate_gc_passes.specs.Rows.{log_of_pass, log_or_manifests}
use Rattle.slate_gc_passes.specs.declared.gc_phase.GcPhase.{GcPhase}
use Rattle.slate_gc_passes.specs.declared.gc_phase.GcPhase.TheVariants.{Removing, Collecting}
use Rattle.slate_gc_passes.specs.declared.pass_phase.PassPhase.TheVariants as passing
use Rattle.slate_gc_passes.specs.declared.pass_settings.PassSettings.{PassSettings}
use Rattle.slate_script_events.specs.declared.call.Call.{Call}
use Rattle.slate_script_events.specs.declared.call.Call.TheVariants.{OpenWriter, OpenCompactor, Finish as FinishCall, Fail, WriteCheckpoint, ReplaceCheckpoint, RefreshCheckpoint}
use Rattle.slate_script_events.specs.declared.filter_word.FilterWord.{FilterWord}
use Rattle.slate_script_events.specs.declared.party_kind.PartyKind.{PartyKind}
use Rattle.slate_script_events.specs.declared.party_kind.PartyKind.TheVariants.{Writer, Compactor as CompactorKind, Worker, Holder, Collector}
use Rattle.slate_script_events.specs.declared.reply.Reply.{Reply}
use Rattle.slate_script_events.specs.declared.reply.Reply.TheVariants as replies
use Rattle.slate_cluster_protocol.specs.Calls.{change_of, checkpoint_reply, end_of, facts_after, facts_at_start, has_call, local_in, manifest_reply, record_reply, refusal_at_start, with_compactor, with_held, Next, Go, Finish}
use Rattle.slate_cluster_protocol.specs.Holding.{Fits}
use Rattle.slate_cluster_protocol.specs.Known.{compactor_epoch, epoch_in, epoch_of, has_upload, is_done, open_epoch, table_put}
use Rattle.slate_cluster_protocol.specs.Rows.{Standing, begin, begin_unless, compactor_on, first_next, manifest_on, moved, open_on, pass_on, put_on, record_on, state_on}
use Rattle.slate_cluster_protocol.specs.Uploaded.{info_of}
use Rattle.slate_cluster_protocol.specs.Works.{asks, pass_ways}
use Rattle.slate_cluster_protocol.specs.World.{reply_of}
use Rattle.slate_cluster_protocol.specs.declared.party.Facts.{Facts}
use Rattle.slate_cluster_protocol.specs.declared.uploads.Upload.{Upload}
use Rattle.slate_cluster_protocol.specs.declared.work.Work.{Work}
use Rattle.slate_cluster_protocol.specs.declared.work.Work.TheVariants as works
use Rattle.slate_cluster_laws.proofs.FactsKept.{starts_same}
use Rattle.slate_cluster_laws.proofs.Pools.{insert_has, or_false, ulid_at, ulid_order}

-- ---- which calls put a table

read_puts : {V : Type 0} (db : List ℕ) (log : LogKind) (phase : ReadPhase V) → table_put (read_asks db log phase) ≡ None
read_puts db log reading.Listing = refl
read_puts db log (reading.Getting n) = refl
read_puts db log (reading.Bounding n v) = refl
read_puts db log reading.Over = refl

commit_puts : {V : Type 0} (db : List ℕ) (log : LogKind) (phase : CommitPhase V) → table_put (commit_asks db log phase) ≡ None
commit_puts db log (committing.Putting n bytes v) = refl
commit_puts db log (committing.Bounding n v) = refl
commit_puts db log committing.Over = refl

work_puts : {V : Type 0} (db : List ℕ) (log : LogKind) (work : LogWork V) → table_put (work_asks db log work) ≡ None
work_puts db log (Reading phase) = read_puts db log phase
work_puts db log (Committing made phase) = commit_puts db log phase

fetch_puts : (db : List ℕ) (phase : ReferencedPhase) → table_put (referenced_asks db phase) ≡ None
fetch_puts db (fetching.Getting [] found) = refl
fetch_puts db (fetching.Getting (n ∷ left) found) = refl
fetch_puts db fetching.Over = refl

advance_puts : (db : List ℕ) (log : LogKind) (phase : AdvancePhase) → table_put (advance_asks db log phase) ≡ None
advance_puts db log (advancing.Bounding n) = refl
advance_puts db log (advancing.Creating n) = refl
advance_puts db log (advancing.Replacing n tag) = refl
advance_puts db log advancing.Over = refl

gc_puts : (db : List ℕ) (pass : GcMessage) (phase : GcPhase) → table_put (gc_asks db pass phase) ≡ None
gc_puts db pass (Removing work) = work_puts db logs.Manifest work
gc_puts db pass (Collecting at (passing.ReadingRecord phase)) = read_puts db logs.Compactions phase
gc_puts db pass (Collecting at (passing.ReadingManifest least phase)) = read_puts db logs.Manifest phase
gc_puts db pass (Collecting at (passing.Fetching heads phase)) = fetch_puts db phase
gc_puts db pass (Collecting at (passing.Listing heads versions)) = refl
gc_puts db pass (Collecting at (passing.Getting n listed found)) = refl
gc_puts db pass (Collecting at (passing.Bounding n listed found)) = refl
gc_puts db pass (Collecting at (passing.Advancing phase left counts)) = advance_puts db (log_or_manifests (log_of_pass pass)) phase
gc_puts db pass (Collecting at (passing.Deleting [] counts)) = refl
gc_puts db pass (Collecting at (passing.Deleting (m ∷ left) counts)) = refl
gc_puts db pass (Collecting at passing.Over) = refl

open_puts : (db : List ℕ) (phase : OpenPhase) → table_put (open_asks db phase) ≡ None
open_puts db (opening.Raising p) = work_puts db logs.Manifest p.work
open_puts db (opening.OnRecord step m p) = work_puts db logs.Compactions p.work
open_puts db opening.Over = refl

state_puts : (db : List ℕ) (phase : StatePhase) → table_put (state_asks db phase) ≡ None
state_puts db (compacting.OnRecord step p) = work_puts db logs.Compactions p.work
state_puts db (compacting.OnManifest step p) = work_puts db logs.Manifest p.work
state_puts db compacting.Over = refl

-- ---- the raise of a writer's epoch always puts a manifest, unless it is refused

abbrev AlwaysPuts : WorkGoes Manifest → Type 0
AlwaysPuts (Stay work) = Unit {0}
AlwaysPuts (End work (Ok Absent)) = Unit {0}
AlwaysPuts (End work (Ok (Unchanged n m))) = ⊥
AlwaysPuts (End work (Ok (Committed n m))) = Unit {0}
AlwaysPuts (End work (Err e)) = Unit {0}

some_put : (r : Result (CommitPhase Manifest) SlateDBError) → some_commit r ≢ Ok None
some_put (Ok commit) h = cc h
some_put (Err e) h = cc h

raise_puts : (now : ℤ) (n : ℕ) (m : Manifest) → manifest_put (Some RaiseWriter) now n m ≢ Ok None
raise_puts now n m = test (m.writer_epoch == last_number)
  where
    test : (b : Bool) → wanted (λ (new : Manifest). prepared manifest_refusal encoded n m new Plain)
        (if b then Err (Exhausted m.writer_epoch) else Ok (Some (record m { writer_epoch = m.writer_epoch + 1 }))) ≢ Ok None
    test true h = cc h
    test false h = some_put _ h

changed_puts : (now : ℤ) (n : ℕ) (m : Manifest) (r : Result (Option (CommitPhase Manifest)) SlateDBError) → r ≢ Ok None → AlwaysPuts (change_goes now n m r)
changed_puts now n m (Ok (Some commit)) h = tt
changed_puts now n m (Ok None) h = absurd (h refl)
changed_puts now n m (Err e) h = tt

read_always : (now : ℤ) (g : ReadReply Manifest) → AlwaysPuts (read_on (manifest_put (Some RaiseWriter)) now g)
read_always now (Stay phase) = tt
read_always now (End phase (Ok None)) = tt
read_always now (End phase (Ok (Some version))) = changed_puts now version.0 version.1 (manifest_put (Some RaiseWriter) now version.0 version.1) (raise_puts now version.0 version.1)
read_always now (End phase (Err e)) = tt

commit_always : (made : ℤ) (g : CommitGoes Manifest) → AlwaysPuts (commit_on made g)
commit_always made (Stay phase) = tt
commit_always made (End phase (Ok version)) = tt
commit_always made (End phase (Err e)) = tt

raise_always : (now : ℤ) (work : LogWork Manifest) (answer : StoreAnswer) → AlwaysPuts (work_goes logs.Manifest decoded_manifest (manifest_put (Some RaiseWriter)) now work answer)
raise_always now (Reading phase) answer = read_always now (read_goes logs.Manifest decoded_manifest phase answer)
raise_always now (Committing made phase) answer = commit_always made (commit_goes phase answer)

-- ---- a compactor's calls on its state keep its epoch

abbrev KeepsEpoch : Compactor → StateGoes → Type 0
KeepsEpoch c (Stay at) = at.1.epoch ≡ c.epoch
KeepsEpoch c (End at r) = at.1.epoch ≡ c.epoch

follows_keep : (c : Compactor) (v : ℕ × Record) (o : Option SlateDBError) → KeepsEpoch c (follows c v o)
follows_keep c v (Some e) = refl
follows_keep c v None = refl

records_keep : (write : Option TreesWrite) (c : Compactor) (r : Result RecordChanging SlateDBError) → KeepsEpoch c (records write c r)
records_keep write c (Ok p) = refl
records_keep write c (Err e) = refl

record_next_keeps : (step : RecordStep) (now : ℤ) (c : Compactor) (o : Option (ℕ × Record)) → KeepsEpoch c (or_missing c (record_next step now c) o)
record_next_keeps step now c None = refl
record_next_keeps steps.Follow now c (Some v) = follows_keep c v (fence c.epoch v.1.compactor_epoch)
record_next_keeps steps.Schedule now c (Some v) = refl
record_next_keeps (steps.Fetch write) now c (Some v) = records_keep write c (put_of (statuses_of c.epoch c.local) now v)
record_next_keeps (steps.Record write) now c (Some v) = refl

on_record_keeps : (step : RecordStep) (now : ℤ) (c : Compactor) (p : RecordChanging) (g : WorkGoes Record) → KeepsEpoch c (on_record step now c p g)
on_record_keeps step now c p (Stay work) = refl
on_record_keeps step now c p (End work (Ok end)) = record_next_keeps step now c (record_in end)
on_record_keeps step now c p (End work (Err e)) = refl

refreshes_keep : (c : Compactor) (v : ℕ × Manifest) (r : Result LocalState SlateDBError) → KeepsEpoch c (refreshes c v r)
refreshes_keep c v (Ok local) = refl
refreshes_keep c v (Err e) = refl

merges_keep : (write : TreesWrite) (c : Compactor) (v : ℕ × Manifest) (r : Result ManifestChanging SlateDBError) → KeepsEpoch c (merges write (with_manifest v c) r)
merges_keep write c v (Ok p) = refl
merges_keep write c v (Err e) = refl

next_keeps : (c new : Compactor) (write : TreesWrite) → new.epoch ≡ c.epoch → (b : Bool) → KeepsEpoch c (onward new (next_after b write))
next_keeps c new write same true = same
next_keeps c new write same false = same

manifest_next_keeps : (step : ManifestStep) (now : ℤ) (c : Compactor) (end : LogEnd Manifest) → KeepsEpoch c (manifest_next step now c end)
manifest_next_keeps Follow now c end = by_version (manifest_in end)
  where
    by_version : (o : Option (ℕ × Manifest)) → KeepsEpoch c (or_missing c (λ v. refreshes c v (refresh_of c v.1)) o)
    by_version None = refl
    by_version (Some v) = refreshes_keep c v (refresh_of c v.1)
manifest_next_keeps (Keep write) now c end = by_version (manifest_in end)
  where
    by_version : (o : Option (ℕ × Manifest)) → KeepsEpoch c (or_missing c (merge_by write now c) o)
    by_version None = refl
    by_version (Some v) = merges_keep write c v (manifest_put_of (merge_of c.epoch c.local) now v)
manifest_next_keeps (Merge write) now c Absent = refl
manifest_next_keeps (Merge write) now c (Unchanged n m) = refl
manifest_next_keeps (Merge write) now c (Committed n m) = next_keeps c _ write refl write.whole

on_manifest_keeps : (step : ManifestStep) (now : ℤ) (c : Compactor) (p : ManifestChanging) (g : WorkGoes Manifest) → KeepsEpoch c (on_manifest step now c p g)
on_manifest_keeps step now c p (Stay work) = refl
on_manifest_keeps step now c p (End work (Ok end)) = manifest_next_keeps step now c end
on_manifest_keeps step now c p (End work (Err e)) = refl

state_keeps : (now : ℤ) (phase : StatePhase) (c : Compactor) (answer : StoreAnswer) → KeepsEpoch c (state_goes now (phase, c) answer)
state_keeps now (compacting.OnRecord step p) c answer = on_record_keeps step now c p (work_goes logs.Compactions decoded_record (record_put p.change) now p.work answer)
state_keeps now (compacting.OnManifest step p) c answer = on_manifest_keeps step now c p (work_goes logs.Manifest decoded_manifest (manifest_put p.change) now p.work answer)
state_keeps now compacting.Over c answer = refl

-- ---- what a step brings

-- an open of a compactor is a compactor's
abbrev pub MayDo : PartyKind → Work → Type 0
MayDo kind (works.Opening db phase) = kind ≡ CompactorKind
MayDo kind _ = Unit {0}

abbrev pub MayGo : PartyKind → Next → Type 0
MayGo kind (Go work) = MayDo kind work
MayGo kind (Finish reply) = Unit {0}

-- where a call stands after a step that made this call: the epoch is the one replied, if one was; one table more is uploaded, if its put was answered done
pub record Tells (facts : Facts) (asked : StoreCall) (standing : Standing) : Type 0 where
  pub epoch : epoch_of (Some standing.facts) ≡ option_or (epoch_in (reply_of standing.next)) (epoch_of (Some facts))
  pub uploads : (table : ℕ × ℕ) → has_upload table (Some standing.facts) ≡ (has_upload table (Some facts) || is_done table (table_put asked) (reply_of standing.next))
  pub may : MayGo facts.kind standing.next

-- a writer's epoch is its own
of_writer : (kind : PartyKind) (e : ℕ) (o : Option Compactor) → has_call kind OpenWriter ≡ true → open_epoch kind (Some e) o ≡ Some e
of_writer Writer e o may = refl
of_writer CompactorKind e o may = absurd cc
of_writer Worker e o may = refl
of_writer Holder e o may = refl
of_writer Collector e o may = refl

-- and a compactor's that of what it holds
of_compactor : (kind : PartyKind) (epoch : Option ℕ) (c : Compactor) → kind ≡ CompactorKind → open_epoch kind epoch (Some c) ≡ Some c.epoch
of_compactor kind epoch c is = ap (λ (k : PartyKind). open_epoch k epoch (Some c)) is

same_epoch : (kind : PartyKind) (epoch : Option ℕ) (old new : Option Compactor) → compactor_epoch new ≡ compactor_epoch old → open_epoch kind epoch new ≡ open_epoch kind epoch old
same_epoch CompactorKind epoch old new same = same
same_epoch Writer epoch old new same = refl
same_epoch Worker epoch old new same = refl
same_epoch Holder epoch old new same = refl
same_epoch Collector epoch old new same = refl

none_checkpoint : (id : List ℕ) (o : Option Checkpoint) → epoch_in (Some (checkpoint_reply id o)) ≡ None
none_checkpoint id None = refl
none_checkpoint id (Some c) = refl

none_record : (end : LogEnd Record) → epoch_in (Some (record_reply end)) ≡ None
none_record Absent = refl
none_record (Unchanged n r) = refl
none_record (Committed n r) = refl

module _ (facts : Facts) (call : Call) where
  -- a call that puts no table leaves the uploads
  module _ (asked : StoreCall) (none : table_put asked ≡ None) where
    nothing_put : (table : ℕ × ℕ) (reply : Option Reply) → has_upload table (Some facts) ≡ (has_upload table (Some facts) || is_done table (table_put asked) reply)
    nothing_put table reply = sym (ap (λ (o : Option (ℕ × ℕ)). has_upload table (Some facts) || is_done table o reply) none ∙ or_false (has_upload table (Some facts)))

    -- the facts stay, and no epoch is replied
    stays : (next : Next) → epoch_in (reply_of next) ≡ None → MayGo facts.kind next → Tells facts asked (record { facts = facts; next = next })
    stays next none_told may = record {
      epoch = sym (ap (λ (o : Option ℕ). option_or o (epoch_of (Some facts))) none_told);
      uploads = λ table. nothing_put table (reply_of next);
      may = may;
    }

  -- ---- a change of the manifest

  abbrev EndPuts : LogEnd Manifest → Type 0
  EndPuts Absent = Unit {0}
  EndPuts (Unchanged n m) = ⊥
  EndPuts (Committed n m) = Unit {0}

  kept_epoch : (o : Option ℕ) → o ≡ None → epoch_of (Some facts) ≡ option_or o (epoch_of (Some facts))
  kept_epoch o none = sym (ap (λ (x : Option ℕ). option_or x (epoch_of (Some facts))) none)

  ended : (by : Call) (end : LogEnd Manifest) → has_call facts.kind by ≡ true → (by ≡ OpenWriter → EndPuts end)
      → epoch_of (Some (facts_after by end facts)) ≡ option_or (epoch_in (Some (manifest_reply by end))) (epoch_of (Some facts))
  ended by Absent may puts = refl
  ended OpenWriter (Unchanged n m) may puts = absurd (puts refl)
  ended OpenWriter (Committed n m) may puts = of_writer facts.kind m.writer_epoch facts.compactor may
  ended (WriteCheckpoint id lifetime source name) (Unchanged n m) may puts = kept_epoch _ (none_checkpoint id (checkpoint_at id m.core.checkpoints))
  ended (WriteCheckpoint id lifetime source name) (Committed n m) may puts = kept_epoch _ (none_checkpoint id (checkpoint_at id m.core.checkpoints))
  ended (ReplaceCheckpoint old id lifetime source name) (Unchanged n m) may puts = kept_epoch _ (none_checkpoint id (checkpoint_at id m.core.checkpoints))
  ended (ReplaceCheckpoint old id lifetime source name) (Committed n m) may puts = kept_epoch _ (none_checkpoint id (checkpoint_at id m.core.checkpoints))
  ended (RefreshCheckpoint id lifetime) (Unchanged n m) may puts = kept_epoch _ (none_checkpoint id (checkpoint_at id m.core.checkpoints))
  ended (RefreshCheckpoint id lifetime) (Committed n m) may puts = kept_epoch _ (none_checkpoint id (checkpoint_at id m.core.checkpoints))
  ended _ (Unchanged n m) may puts = refl
  ended _ (Committed n m) may puts = refl

  same_uploads : (by : Call) (end : LogEnd Manifest) → (facts_after by end facts).uploads ≡ facts.uploads
  same_uploads by Absent = refl
  same_uploads by (Unchanged n m) = refl
  same_uploads OpenWriter (Committed n m) = refl
  same_uploads _ (Committed n m) = refl

  module _ (may : has_call facts.kind call ≡ true) where
    manifest_tells : (db : List ℕ) (p : ManifestChanging) (g : WorkGoes Manifest) → (call ≡ OpenWriter → AlwaysPuts g) → Tells facts (asks (works.Manifests db p)) (manifest_on facts call db p g)
    manifest_tells db p (Stay work) puts = stays (asks (works.Manifests db p)) (work_puts db logs.Manifest p.work) (Go (works.Manifests db (record p { work = work }))) refl tt
    manifest_tells db p (End work (Err e)) puts = stays (asks (works.Manifests db p)) (work_puts db logs.Manifest p.work) (Finish (replies.Refused e)) refl tt
    manifest_tells db p (End work (Ok end)) puts =
        let asked = asks (works.Manifests db p) in
        record {
          epoch = ended call end may (λ is. end_puts end (puts is));
          uploads = λ table. ap (λ (us : List ((ℕ × ℕ) × SsTableInfo)). is_some (info_of table us)) (same_uploads call end)
              ∙ nothing_put asked (work_puts db logs.Manifest p.work) table (Some (manifest_reply call end));
          may = tt;
        }
      where
        end_puts : (end : LogEnd Manifest) → AlwaysPuts (End work (Ok end)) → EndPuts end
        end_puts Absent h = h
        end_puts (Unchanged n m) h = h
        end_puts (Committed n m) h = h

    -- ---- the others

    record_tells : (db : List ℕ) (p : RecordChanging) (g : WorkGoes Record) → Tells facts (asks (works.Records db p)) (record_on facts db p g)
    record_tells db p (Stay work) = stays (asks (works.Records db p)) (work_puts db logs.Compactions p.work) (Go (works.Records db (record p { work = work }))) refl tt
    record_tells db p (End work (Ok end)) = stays (asks (works.Records db p)) (work_puts db logs.Compactions p.work) (Finish (record_reply end)) (none_record end) tt
    record_tells db p (End work (Err e)) = stays (asks (works.Records db p)) (work_puts db logs.Compactions p.work) (Finish (replies.Refused e)) refl tt

    put_tells : (db : List ℕ) (upload : Upload) (bytes : List ℕ) (answer : StoreAnswer) → Tells facts (asks (works.PutTable db upload bytes)) (put_on facts upload answer)
    put_tells db upload bytes (Written tag) = record {
      epoch = refl;
      uploads = λ table.
          insert_has ulid_cmp ulid_order table upload.table upload.info facts.uploads
          ∙ ap (λ (b : Bool). has_upload table (Some facts) || b) (ulid_at table upload.table);
      may = tt;
    }
    put_tells db upload bytes _ = record { epoch = refl; uploads = λ table. sym (or_false (has_upload table (Some facts))); may = tt }

    pass_tells : (db : List ℕ) (settings : PassSettings) (filter : FilterWord) (phase : GcPhase) (g : GcGoes) → Tells facts (asks (works.Pass db settings filter phase)) (pass_on facts db settings filter g)
    pass_tells db settings filter phase (Stay to) = stays (asks (works.Pass db settings filter phase)) (gc_puts db settings.pass phase) (Go (works.Pass db settings filter to)) refl tt
    pass_tells db settings filter phase (End to (Ok counts)) =
        stays (asks (works.Pass db settings filter phase)) (gc_puts db settings.pass phase) (Finish (replies.Pass counts.picked counts.deleted counts.failed)) refl tt
    pass_tells db settings filter phase (End to (Err e)) = stays (asks (works.Pass db settings filter phase)) (gc_puts db settings.pass phase) (Finish (replies.Refused e)) refl tt

    open_tells : (db : List ℕ) (phase : OpenPhase) → facts.kind ≡ CompactorKind → (g : OpenGoes) → Tells facts (asks (works.Opening db phase)) (open_on facts db g)
    open_tells db phase is (Stay to) = stays (asks (works.Opening db phase)) (open_puts db phase) (Go (works.Opening db to)) refl is
    open_tells db phase is (End to (Ok compactor)) = record {
      epoch = of_compactor facts.kind facts.epoch compactor is;
      uploads = λ table. nothing_put (asks (works.Opening db phase)) (open_puts db phase) table (Some (replies.Epoch compactor.epoch));
      may = tt;
    }
    open_tells db phase is (End to (Err e)) = stays (asks (works.Opening db phase)) (open_puts db phase) (Finish (replies.Refused e)) refl tt

    module _ (db : List ℕ) (phase : StatePhase) where
      holds : (c new : Compactor) → facts.compactor ≡ Some c → new.epoch ≡ c.epoch → epoch_of (Some (with_compactor new facts)) ≡ epoch_of (Some facts)
      holds c new is same =
          same_epoch facts.kind facts.epoch facts.compactor (Some new)
          (ap (λ (e : ℕ). Some e) same ∙ sym (ap compactor_epoch is))

      state_tells : (c : Compactor) → facts.compactor ≡ Some c → (g : StateGoes) → KeepsEpoch c g → Tells facts (asks (works.Compacting db phase)) (state_on facts db g)
      state_tells c is (Stay at) keeps = record { epoch = holds c at.1 is keeps; uploads = λ table. nothing_put (asks (works.Compacting db phase)) (state_puts db phase) table None; may = tt }
      state_tells c is (End at (Ok u)) keeps = record { epoch = holds c at.1 is keeps; uploads = λ table. nothing_put (asks (works.Compacting db phase)) (state_puts db phase) table (Some replies.Done); may = tt }
      state_tells c is (End at (Err e)) keeps = record { epoch = holds c at.1 is keeps; uploads = λ table. nothing_put (asks (works.Compacting db phase)) (state_puts db phase) table (Some (replies.Refused e)); may = tt }

      compactor_tells : (now : ℤ) (answer : StoreAnswer) (o : Option Compactor) → facts.compactor ≡ o → Tells facts (asks (works.Compacting db phase)) (compactor_on facts db now phase answer o)
      compactor_tells now answer None is = stays (asks (works.Compacting db phase)) (state_puts db phase) (Finish (replies.Refused (InvalidDBState NotOpen))) refl tt
      compactor_tells now answer (Some c) is = state_tells c is (state_goes now (phase, c) answer) (state_keeps now phase c answer)

    -- a step of the work under way
    pub moved_tells : (work : Work) → Fits facts call work → MayDo facts.kind work → (now : ℤ) (answer : StoreAnswer) → Tells facts (asks work) (moved facts call work now answer)
    moved_tells (works.Manifests db p) fits does now answer = manifest_tells db p (work_goes logs.Manifest decoded_manifest (manifest_put p.change) now p.work answer) raises
      where
        raises : call ≡ OpenWriter → AlwaysPuts (work_goes logs.Manifest decoded_manifest (manifest_put p.change) now p.work answer)
        raises is =
            let raise : p.change ≡ Some RaiseWriter = fits ∙ ap (change_of facts) is in
            subst (λ (change : Option ManifestChange). AlwaysPuts (work_goes logs.Manifest decoded_manifest (manifest_put change) now p.work answer)) (sym raise) (raise_always now p.work answer)
    moved_tells (works.Records db p) fits does now answer = record_tells db p (work_goes logs.Compactions decoded_record (record_put p.change) now p.work answer)
    moved_tells (works.PutTable db upload bytes) fits does now answer = put_tells db upload bytes answer
    moved_tells (works.Pass db settings filter phase) fits does now answer = pass_tells db settings filter phase (gc_goes (pass_ways filter) settings now phase answer)
    moved_tells (works.Opening db phase) fits does now answer = open_tells db phase does (open_goes now phase answer)
    moved_tells (works.Compacting db phase) fits does now answer = compactor_tells db phase now answer facts.compactor refl

-- ---- what a start brings

-- it tells no epoch, and changes neither epoch nor uploads
pub record Starts (facts : Facts) (standing : Standing) : Type 0 where
  pub silent : epoch_in (reply_of standing.next) ≡ None
  pub epoch : epoch_of (Some standing.facts) ≡ epoch_of (Some facts)
  pub uploads : standing.facts.uploads ≡ facts.uploads
  pub kind : standing.facts.kind ≡ facts.kind
  pub may : MayGo facts.kind standing.next

compactors_open : (kind : PartyKind) → has_call kind OpenCompactor ≡ true → kind ≡ CompactorKind
compactors_open CompactorKind may = refl
compactors_open Writer may = absurd cc
compactors_open Worker may = absurd cc
compactors_open Holder may = absurd cc
compactors_open Collector may = absurd cc

module _ (facts : Facts) where
  local_epoch : (local : LocalState) (o : Option Compactor) → compactor_epoch (local_in local o) ≡ compactor_epoch o
  local_epoch local None = refl
  local_epoch local (Some c) = refl

  held_epoch : (o : Option LocalState) → epoch_of (Some (with_held o facts)) ≡ epoch_of (Some facts)
  held_epoch None = refl
  held_epoch (Some local) = same_epoch facts.kind facts.epoch facts.compactor (local_in local facts.compactor) (local_epoch local facts.compactor)

  held_uploads : (o : Option LocalState) → (with_held o facts).uploads ≡ facts.uploads
  held_uploads None = refl
  held_uploads (Some local) = refl

  start_epoch : (call : Call) → epoch_of (Some (facts_at_start facts call)) ≡ epoch_of (Some facts)
  start_epoch (FinishCall id) = held_epoch (end_of (finished id) facts.compactor)
  start_epoch (Fail id) = held_epoch (end_of (failed id) facts.compactor)
  start_epoch _ = refl

  start_uploads : (call : Call) → (facts_at_start facts call).uploads ≡ facts.uploads
  start_uploads (FinishCall id) = held_uploads (end_of (finished id) facts.compactor)
  start_uploads (Fail id) = held_uploads (end_of (failed id) facts.compactor)
  start_uploads _ = refl

  first_silent : (call : Call) → epoch_in (reply_of (first_next facts call)) ≡ None
  first_silent (FinishCall id) = refl
  first_silent (Fail id) = refl
  first_silent _ = refl

  first_may : (call : Call) → has_call facts.kind call ≡ true → MayGo facts.kind (first_next facts call)
  first_may (FinishCall id) may = tt
  first_may (Fail id) may = tt
  first_may OpenCompactor may = compactors_open facts.kind may
  first_may _ may = tt

  pub begin_tells : (call : Call) → has_call facts.kind call ≡ true → Starts facts (begin facts call)
  begin_tells call may = record {
    silent = silent (refusal_at_start facts call);
    epoch = start_epoch call;
    uploads = start_uploads call;
    kind = (starts_same facts call).kind;
    may = may_go (refusal_at_start facts call);
  }
    where
      silent : (o : Option SlateDBError) → epoch_in (reply_of (begin_unless o facts call)) ≡ None
      silent (Some e) = refl
      silent None = first_silent call

      may_go : (o : Option SlateDBError) → MayGo facts.kind (begin_unless o facts call)
      may_go (Some e) = tt
      may_go None = first_may call may
