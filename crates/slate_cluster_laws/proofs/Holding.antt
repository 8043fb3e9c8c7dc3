-- What the parties of a run hold.
use Rattle.std.proofs.Common.{◌≡◌, ◌⊎◌, inl, inr, ℕ, ◌<◌, ◌≤◌, ◌^◌, ℤ, Bool, nat_le, true, false, List, [], ◌∷◌, ◌++◌, Option, Some, None, Result, Ok, Err, refl, sym, ap, ◌∙◌, subst, arith}
use Rattle.std.proofs.lemmas.Bool.Decides.{nat_tests}
use Rattle.std.specs.Prelude.{if◌then◌else◌}
use Rattle.slate_txn_changes.specs.LogWorks.{WorkGoes, commit_on, work_asks as changes_ask, work_goes}
use Rattle.slate_txn_changes.specs.declared.log_work.LogWork.{LogWork}
use Rattle.slate_txn_changes.specs.declared.log_work.LogWork.TheVariants.{Reading, Committing}
use Rattle.slate_state_calls.specs.Commits.{ManifestChanging, RecordChanging, manifest_put, record_put}
use Rattle.slate_state_calls.specs.Opening.{on_record as open_record, raising}
use Rattle.slate_state_calls.specs.StateSteps.{on_manifest as state_manifest, on_record as state_record, state_asks}
use Rattle.slate_state_calls.specs.declared.compactor.Compactor.{Compactor}
use Rattle.slate_state_calls.specs.declared.open_phase.OpenPhase.TheVariants as opening
use Rattle.slate_state_calls.specs.declared.state_phase.StatePhase.{StatePhase}
use Rattle.slate_state_calls.specs.declared.state_phase.StatePhase.TheVariants as compacting
use Rattle.slate_ids.specs.declared.error.SlateDBError.{SlateDBError}
use Rattle.slate_ids.specs.declared.error.SlateDBError.TheVariants.{InvalidDBState, TransactionalObjectVersionExists, StoreFault}
use Rattle.slate_ids.specs.declared.error.StateCause.TheVariants.{NotOpen}
use Rattle.slate_layout.specs.Codec.{encoded}
use Rattle.slate_layout_manifests.specs.Decoding.{decoded_manifest}
use Rattle.slate_gc_passes.specs.GcPhase.{removed_goes}
use Rattle.slate_layout_records.specs.RecordBytes.{decoded_record}
use Rattle.slate_store.specs.declared.store_answer.StoreAnswer.{StoreAnswer}
use Rattle.slate_store.specs.declared.store_answer.StoreAnswer.TheVariants.{Created}
use Rattle.slate_store.specs.declared.store_call.StoreCall.{StoreCall}
use Rattle.slate_state_updates.specs.ManifestChanges.{commit_of}
use Rattle.slate_state_updates.specs.declared.manifest_change.ManifestChange.TheVariants.{DropExpired}
use Rattle.slate_ids.specs.declared.object_path.ObjectPath.{ObjectPath}
use Rattle.slate_store.specs.Machines.{Stay, End}
use Rattle.slate_store.specs.Store.{Store, effect}
use Rattle.slate_store.specs.declared.mark.Mark.{Mark}
use Rattle.slate_store.specs.declared.mark.Mark.TheVariants.{Good, Fail, Lost}
use Rattle.slate_script_events.specs.declared.call.Call.{Call}
use Rattle.slate_script_events.specs.declared.db_spec.DbSpec.{DbSpec}
use Rattle.slate_script_events.specs.declared.event.Event.{Event}
use Rattle.slate_ids.specs.declared.gc_message.GcMessage.{GcMessage}
use Rattle.slate_ids.specs.declared.gc_message.GcMessage.TheVariants as of
use Rattle.slate_gc_passes.specs.declared.gc_phase.GcPhase.TheVariants as gc
use Rattle.slate_gc_passes.specs.Rows.{log_of_pass}
use Rattle.slate_gc_passes.specs.declared.heads.Heads.{Heads}
use Rattle.slate_gc_passes.specs.declared.pass_phase.PassPhase.{PassPhase}
use Rattle.slate_gc_passes.specs.declared.pass_phase.PassPhase.TheVariants as passing
use Rattle.slate_txn_log.specs.Advance.{boundary_at}
use Rattle.slate_txn_log.specs.CommitPhase.{CommitGoes, commit_asks, commit_goes, created_goes, bounded_goes}
use Rattle.slate_store.specs.declared.object.ObjectMetadata.{ObjectMetadata}
use Rattle.slate_txn_log.specs.LogPaths.{version_path}
use Rattle.slate_txn_log.specs.ReadPhase.{Reply, read_asks, read_goes}
use Rattle.slate_txn_log.specs.declared.commit_phase.CommitPhase.{CommitPhase}
use Rattle.slate_txn_log.specs.declared.commit_phase.CommitPhase.TheVariants.{Putting, Bounding, Over}
use Rattle.slate_txn_log.specs.declared.log_kind.LogKind.{LogKind}
use Rattle.slate_txn_log.specs.declared.log_kind.LogKind.TheVariants as logs
use Rattle.slate_txn_log.specs.declared.read_phase.ReadPhase.{ReadPhase}
use Rattle.slate_model.specs.declared.manifest.Manifest.{Manifest}
use Rattle.slate_state_referenced.specs.declared.referenced_phase.ReferencedPhase.TheVariants as fetching
use Rattle.slate_cluster_protocol.specs.Chains.{Link, Log, bound_in, AgreesAt}
use Rattle.slate_cluster_protocol.specs.Holding.{Fits, FitsState, IsIn, IsPutBy, IsVersion, IsMadeOf, Each, IsRefused, picks_in, due_in, IsOfLog, IsVersionThat, pass_log}
use Rattle.slate_cluster_protocol.specs.Holding.IsMadeOf.{OfVersion as Makes, OfNone as Begins}
use Rattle.slate_cluster_protocol.specs.Lawful.{IsAccepted, AreGood, chains_at_end, course_after, gone_after}
use Rattle.slate_cluster_protocol.specs.Logs.{Held, Chain, Chains, Author, Phrase, Puts, OfManifest, change_phrase, log_of, manifest_phrase, manifest_puts, phrase_of, record_phrase, record_puts, state_phrase, world_after}
use Rattle.slate_cluster_protocol.specs.Logs.Phrase.{Reads, Commits, Fetches, Collects}
use Rattle.slate_cluster_protocol.specs.Owners.{owner_of}
use Rattle.slate_cluster_protocol.specs.Owners.Owner.{Version}
use Rattle.slate_cluster_protocol.specs.Reach.{IsSpare}
use Rattle.slate_cluster_protocol.specs.Referenced.{IsReferenced}
use Rattle.slate_cluster_protocol.specs.Rows.{compactor_on, manifest_on, moved, open_on, pass_on, record_on, state_on}
use Rattle.slate_cluster_protocol.specs.Runs.{opening}
use Rattle.slate_cluster_protocol.specs.Safe.{EachPath, IsCollectedVersion}
use Rattle.slate_cluster_protocol.specs.Specs.{opening_world}
use Rattle.slate_cluster_protocol.specs.Works.{asks}
use Rattle.slate_cluster_protocol.specs.World.{World, HasDb, party_of}
use Rattle.slate_cluster_protocol.specs.declared.party.Facts.{Facts}
use Rattle.slate_cluster_protocol.specs.declared.party.Party.{Party}
use Rattle.slate_cluster_protocol.specs.declared.party.State.TheVariants.{Busy}
use Rattle.slate_cluster_protocol.specs.declared.party.Task.{Task}
use Rattle.slate_cluster_protocol.specs.declared.work.Work.{Work}
use Rattle.slate_cluster_protocol.specs.declared.work.Work.TheVariants.{Manifests, Records, PutTable, Pass, Opening, Compacting}
use Rattle.slate_cluster_laws.proofs.Advances.{at_least}
use Rattle.slate_cluster_laws.proofs.AfterEvents.{after_inv, course_gone}
use Rattle.slate_cluster_laws.proofs.Calls.{WorkKnows}
use Rattle.slate_cluster_chain_laws.proofs.LogRules.{IsMade}
use Rattle.slate_cluster_laws.proofs.Facts.{HoldsBy, IsSound, ReadKnows, ReadBrings, CommitKnows, CommitBrings}
use Rattle.slate_cluster_chain_laws.proofs.LogRules.IsMade.{OfVersion, OfNone}
use Rattle.slate_cluster_laws.proofs.GoingOn.{run_world}
use Rattle.slate_cluster_chain_laws.proofs.Manifests.{log_laws}
use Rattle.slate_cluster_laws.proofs.Passes.{PassKnows, each_is}
use Rattle.slate_cluster_laws.proofs.Paths.{version_owner}
use Rattle.slate_cluster_laws.proofs.Removals.{good_run}
use Rattle.slate_cluster_laws.proofs.Runs.{Inv, StateKnows}
use Rattle.slate_cluster_laws.proofs.Steps.{CollectKnows, PhraseKnows, by_phase, db_in, work_db}
use Rattle.slate_cluster_laws.proofs.Safety.{IsGone}
use Rattle.slate_cluster_laws.proofs.Stores.{IsTidy}
use Rattle.slate_cluster_laws.proofs.Turns.{above_test, read_step, bound_step}
use Rattle.slate_cluster_laws.proofs.Tallies.{its_kind}

pub above_bound : (specs : List DbSpec) (events : List Event) (k : LogKind) (db : List ℕ) (bound number : ℕ) → IsAccepted specs → HasDb (world_after events (opening_world specs)) db
    → bound_in (log_of k) db (world_after events (opening_world specs)).store ≡ Some bound → bound < number → number < 2 ^ 64
    → AgreesAt (log_of k) db (world_after events (opening_world specs)).store (chains_at_end specs events k db) number
above_bound specs events k db bound number accepted has read lt small =
    let i = after_inv specs events accepted in
    let log = i.logs k db (i.named db has) in
    let same : bound ≡ log.bound = cc (log.read, read) in
    log.above number (subst (λ b. b < number) same lt) small

-- ---- reads

-- the end of a read answers a committed version
module _ {V A : Type 0} (log : Log V A) (db : List ℕ) (s : Store) (c : List (Link V A)) where
  answered : (g : Reply V) (to : ReadPhase V) (number : ℕ) (v : V) → g ≡ End to (Ok (Some (number, v))) → ReadBrings log db s c g → IsVersion c number v
  answered g to number v e b = let it = subst (λ (x : Reply V). ReadBrings log db s c x) e b in record { link = it.link; at = it.at; value = it.value }

answers_of : (k : LogKind) (db : List ℕ) (s : Store) (c : Chain k) → IsSound (log_of k) db s c → IsTidy s.objects → (phase : ReadPhase (Held k)) (mark : Mark) (moment : ℤ) → ReadKnows (log_of k) db s c phase
    → (to : ReadPhase (Held k)) (number : ℕ) (v : Held k) → read_goes k (log_of k).decoded phase (effect mark (read_asks db k phase) moment s).answer ≡ End to (Ok (Some (number, v))) → IsVersion c number v
answers_of logs.Manifest db s c i tidy phase mark moment h to number v e =
    answered (log_of logs.Manifest) db s c _ to number v e (read_step (log_of logs.Manifest) (log_laws logs.Manifest) db s c i tidy phase mark moment h).brings
answers_of logs.Compactions db s c i tidy phase mark moment h to number v e =
    answered (log_of logs.Compactions) db s c _ to number v e (read_step (log_of logs.Compactions) (log_laws logs.Compactions) db s c i tidy phase mark moment h).brings

-- ---- the end of a commit

-- the step of a put doesn't end it well
created_ends : {T : Type 0} (n : ℕ) (v : T) (tag : Option ℕ) (to : CommitPhase T) (version : ℕ × T) → created_goes n v tag ≡ End to (Ok version) → ⊥
created_ends n v (Some tag) to version e = cc e
created_ends n v None to version e = cc e

put_ends : {T : Type 0} (n : ℕ) (bytes : List ℕ) (v : T) (answer : StoreAnswer) (to : CommitPhase T) (version : ℕ × T) → commit_goes (Putting n bytes v) answer ≡ End to (Ok version) → ⊥
put_ends n bytes v (Created tag) to version e = created_ends n v tag to version e
put_ends n bytes v _ to version e = cc e

-- the end of a commit answers a committed version, by its author
module _ {V A : Type 0} (log : Log V A) (db : List ℕ) (s : Store) (c : List (Link V A)) (author : A) where
  committed : (g : CommitGoes V) (to : CommitPhase V) (number : ℕ) (v : V) → g ≡ End to (Ok (number, v)) → CommitBrings log db s c author g → IsPutBy log c author number v
  committed g to number v e b = subst (λ (x : CommitGoes V). CommitBrings log db s c author x) e b

bound_ends : (k : LogKind) (db : List ℕ) (s : Store) (c : Chain k) (author : Author) → IsSound (log_of k) db s c → (n : ℕ) (w : Held k) (mark : Mark) (moment : ℤ) → CommitKnows (log_of k) db s c author (Bounding n w)
    → (to : CommitPhase (Held k)) (number : ℕ) (v : Held k) → commit_goes (Bounding n w) (effect mark (commit_asks db k (Bounding n w)) moment s).answer ≡ End to (Ok (number, v)) → IsPutBy (log_of k) c author number v
bound_ends logs.Manifest db s c author i n w mark moment h to number v e =
    committed (log_of logs.Manifest) db s c author _ to number v e (bound_step (log_of logs.Manifest) (log_laws logs.Manifest) db s c i author n w mark moment h).brings
bound_ends logs.Compactions db s c author i n w mark moment h to number v e =
    committed (log_of logs.Compactions) db s c author _ to number v e (bound_step (log_of logs.Compactions) (log_laws logs.Compactions) db s c i author n w mark moment h).brings

ends_of : (k : LogKind) (db : List ℕ) (s : Store) (c : Chain k) (author : Author) → IsSound (log_of k) db s c → (phase : CommitPhase (Held k)) (mark : Mark) (moment : ℤ) → CommitKnows (log_of k) db s c author phase
    → (to : CommitPhase (Held k)) (number : ℕ) (v : Held k) → commit_goes phase (effect mark (commit_asks db k phase) moment s).answer ≡ End to (Ok (number, v)) → IsPutBy (log_of k) c author number v
ends_of k db s c author i (Putting n bytes w) mark moment h to number v e = absurd (put_ends n bytes w _ to (number, v) e)
ends_of k db s c author i (Bounding n w) mark moment h to number v e = bound_ends k db s c author i n w mark moment h to number v e
ends_of k db s c author i Over mark moment h to number v e = absurd h

-- ---- a commit whose number was collected

-- a commit that ended with a refusal
record CommitFails {T : Type 0} (g : CommitGoes T) : Type 0 where
  pub phase : CommitPhase T
  pub error : _
  pub is : g ≡ End phase (Err error)

at_most : (n b : ℕ) → n ≤ b → nat_le n b ≡ true
at_most n b h = grind (arith, nat_tests)

-- a change under way that ended so
record ChangeFails {V : Type 0} (g : WorkGoes V) : Type 0 where
  pub work : LogWork V
  pub error : _
  pub is : g ≡ End work (Err error)

-- at or below the boundary it is refused, whatever the mark
bound_fails : {T : Type 0} (db : List ℕ) (k : LogKind) (n : ℕ) (v : T) (s : Store) (moment : ℤ) (mark : Mark) (b : ℕ) → boundary_at db k s ≡ Some b → n ≤ b
    → CommitFails (commit_goes (Bounding n v) (effect mark (commit_asks db k (Bounding n v)) moment s).answer)
bound_fails db k n v s moment Good b read le = record {
  phase = Over;
  error = TransactionalObjectVersionExists n (Some b);
  is = ap (bounded_goes n v) read ∙ ap (λ t. if t then End Over (Err (TransactionalObjectVersionExists n (Some b))) else End Over (Ok (n, v))) (at_most n b le);
}
bound_fails db k n v s moment Fail b read le = record { phase = Over; error = StoreFault; is = refl }
bound_fails db k n v s moment Lost b read le = record { phase = Over; error = StoreFault; is = refl }

-- a phrase that is a commit whose step ends with a refusal
abbrev PhraseFails : Store → ℤ → Mark → Phrase → Type 0
PhraseFails s moment mark (Commits k db puts now phase) = CommitFails (commit_goes phase (effect mark (commit_asks db k phase) moment s).answer)
PhraseFails s moment mark _ = ⊥

-- then the call ends with it
module _ (s : Store) (moment : ℤ) (mark : Mark) (facts : Facts) (call : Call) where
  abbrev answered_by : StoreCall → StoreAnswer
  answered_by asked = (effect mark asked moment s).answer

  -- the refusal of a commit is that of the change under way
  change_fails : (k : LogKind) (db : List ℕ) (puts : Puts) (commit_of : ℤ → ℕ → Held k → Result (Option (CommitPhase (Held k))) SlateDBError) (work : LogWork (Held k)) → PhraseFails s moment mark (change_phrase k db puts work)
      → ChangeFails (work_goes k (log_of k).decoded commit_of moment work (answered_by (changes_ask db k work)))
  change_fails k db puts commit_of (Reading phase) h = absurd h
  change_fails k db puts commit_of (Committing made phase) h = record { work = Committing made h.phase; error = h.error; is = ap (commit_on made) h.is }

  manifest_fails : (db : List ℕ) (p : ManifestChanging) → PhraseFails s moment mark (manifest_phrase db p) → ChangeFails (work_goes logs.Manifest decoded_manifest (manifest_put p.change) moment p.work (answered_by (changes_ask db logs.Manifest p.work)))
  manifest_fails db p h = change_fails logs.Manifest db (manifest_puts p.change) (manifest_put p.change) p.work h

  record_fails : (db : List ℕ) (p : RecordChanging) → PhraseFails s moment mark (record_phrase db p) → ChangeFails (work_goes logs.Compactions decoded_record (record_put p.change) moment p.work (answered_by (changes_ask db logs.Compactions p.work)))
  record_fails db p h = change_fails logs.Compactions db (record_puts p.change) (record_put p.change) p.work h

  compactor_fails : (db : List ℕ) (phase : StatePhase) (o : Option Compactor) → PhraseFails s moment mark (state_phrase db phase) → IsRefused (compactor_on facts db moment phase (answered_by (state_asks db phase)) o).next
  compactor_fails db phase None h = record { error = InvalidDBState NotOpen; is = refl }
  compactor_fails db (compacting.OnRecord step p) (Some c) h = let f = record_fails db p h in record { error = f.error; is = ap (λ g. (state_on facts db (state_record step moment c p g)).next) f.is }
  compactor_fails db (compacting.OnManifest step p) (Some c) h = let f = manifest_fails db p h in record { error = f.error; is = ap (λ g. (state_on facts db (state_manifest step moment c p g)).next) f.is }
  compactor_fails db compacting.Over (Some c) h = absurd h

  work_fails : (work : Work) → PhraseFails s moment mark (phrase_of work) → IsRefused (moved facts call work moment (answered_by (asks work))).next
  work_fails (Manifests db p) h = let f = manifest_fails db p h in record { error = f.error; is = ap (λ g. (manifest_on facts call db p g).next) f.is }
  work_fails (Records db p) h = let f = record_fails db p h in record { error = f.error; is = ap (λ g. (record_on facts db p g).next) f.is }
  work_fails (PutTable db upload bytes) h = absurd h
  work_fails (Pass db settings filter (gc.Removing work)) h =
      let f = change_fails logs.Manifest db (OfManifest DropExpired) (commit_of encoded DropExpired) work h in
      record { error = f.error; is = ap (λ g. (pass_on facts db settings filter (removed_goes settings.pass g)).next) f.is }
  work_fails (Pass db settings filter (gc.Collecting at phase)) h = absurd (by_phase (λ phrase. PhraseFails s moment mark phrase → ⊥) db settings.pass (λ k read none. none) (λ n fetch none. none) (λ collect none. none) phase h)
  work_fails (Opening db (opening.Raising p)) h = let f = manifest_fails db p h in record { error = f.error; is = ap (λ g. (open_on facts db (raising p g)).next) f.is }
  work_fails (Opening db (opening.OnRecord step m p)) h = let f = record_fails db p h in record { error = f.error; is = ap (λ g. (open_on facts db (open_record step m moment p g)).next) f.is }
  work_fails (Opening db opening.Over) h = absurd h
  work_fails (Compacting db phase) h = compactor_fails db phase facts.compactor h

-- ---- a put that was answered created

-- where a put of a version leads to
abbrev pub after_put : Phrase → Option Phrase
after_put (Commits k db puts now (Putting number bytes v)) = Some (Commits k db puts now (Bounding number v))
after_put _ = None

-- a change under way that goes on so
record ChangeIn (k : LogKind) (db : List ℕ) (puts : Puts) (phrase : Phrase) (g : WorkGoes (Held k)) : Type 0 where
  pub work : LogWork (Held k)
  pub is : g ≡ Stay work
  pub same : change_phrase k db puts work ≡ phrase

module _ (tag : ℕ) (moment : ℤ) (facts : Facts) (call : Call) (phrase : Phrase) where
  change_created : (k : LogKind) (db : List ℕ) (puts : Puts) (commit_of : ℤ → ℕ → Held k → Result (Option (CommitPhase (Held k))) SlateDBError) (work : LogWork (Held k)) → after_put (change_phrase k db puts work) ≡ Some phrase
      → ChangeIn k db puts phrase (work_goes k (log_of k).decoded commit_of moment work (Created (Some tag)))
  change_created k db puts commit_of (Reading phase) e = absurd (cc e)
  change_created k db puts commit_of (Committing made (Putting n bytes v)) e = record { work = Committing made (Bounding n v); is = refl; same = cc e }
  change_created k db puts commit_of (Committing made (Bounding n v)) e = absurd (cc e)
  change_created k db puts commit_of (Committing made Over) e = absurd (cc e)

  manifest_created : (db : List ℕ) (p : ManifestChanging) → after_put (manifest_phrase db p) ≡ Some phrase
      → ChangeIn logs.Manifest db (manifest_puts p.change) phrase (work_goes logs.Manifest decoded_manifest (manifest_put p.change) moment p.work (Created (Some tag)))
  manifest_created db p e = change_created logs.Manifest db (manifest_puts p.change) (manifest_put p.change) p.work e

  record_created : (db : List ℕ) (p : RecordChanging) → after_put (record_phrase db p) ≡ Some phrase
      → ChangeIn logs.Compactions db (record_puts p.change) phrase (work_goes logs.Compactions decoded_record (record_put p.change) moment p.work (Created (Some tag)))
  record_created db p e = change_created logs.Compactions db (record_puts p.change) (record_put p.change) p.work e

  compactor_created : (db : List ℕ) (phase : StatePhase) (o : Option Compactor) → FitsState call phase o → after_put (state_phrase db phase) ≡ Some phrase → IsIn phrase (compactor_on facts db moment phase (Created (Some tag)) o).next
  compactor_created db (compacting.OnRecord step p) (Some c) fits e =
      let f = record_created db p e in
      record { work = Compacting db (compacting.OnRecord step (record p { work = f.work })); is = ap (λ g. (state_on facts db (state_record step moment c p g)).next) f.is; same = f.same }
  compactor_created db (compacting.OnManifest step p) (Some c) fits e =
      let f = manifest_created db p e in
      record { work = Compacting db (compacting.OnManifest step (record p { work = f.work })); is = ap (λ g. (state_on facts db (state_manifest step moment c p g)).next) f.is; same = f.same }
  compactor_created db compacting.Over o fits e = absurd (cc e)
  compactor_created db (compacting.OnRecord step p) None fits e = absurd fits
  compactor_created db (compacting.OnManifest step p) None fits e = absurd fits

  -- the call goes on to the read of the boundary
  pub work_created : (work : Work) → Fits facts call work → after_put (phrase_of work) ≡ Some phrase → IsIn phrase (moved facts call work moment (Created (Some tag))).next
  work_created (Manifests db p) fits e =
      let f = manifest_created db p e in
      record { work = Manifests db (record p { work = f.work }); is = ap (λ g. (manifest_on facts call db p g).next) f.is; same = f.same }
  work_created (Records db p) fits e =
      let f = record_created db p e in
      record { work = Records db (record p { work = f.work }); is = ap (λ g. (record_on facts db p g).next) f.is; same = f.same }
  work_created (PutTable db upload bytes) fits e = absurd (cc e)
  work_created (Pass db settings filter (gc.Removing work)) fits e =
      let f = change_created logs.Manifest db (OfManifest DropExpired) (commit_of encoded DropExpired) work e in
      record { work = Pass db settings filter (gc.Removing f.work); is = ap (λ g. (pass_on facts db settings filter (removed_goes settings.pass g)).next) f.is; same = f.same }
  work_created (Pass db settings filter (gc.Collecting at phase)) fits e = absurd (cc (by_phase (λ other. after_put other ≡ None) db settings.pass (λ k read. refl) (λ n fetch. refl) (λ collect. refl) phase, e))
  work_created (Opening db (opening.Raising p)) fits e =
      let f = manifest_created db p e in
      record { work = Opening db (opening.Raising (record p { work = f.work })); is = ap (λ g. (open_on facts db (raising p g)).next) f.is; same = f.same }
  work_created (Opening db (opening.OnRecord step m p)) fits e =
      let f = record_created db p e in
      record { work = Opening db (opening.OnRecord step m (record p { work = f.work })); is = ap (λ g. (open_on facts db (open_record step m moment p g)).next) f.is; same = f.same }
  work_created (Opening db opening.Over) fits e = absurd (cc e)
  work_created (Compacting db phase) fits e = compactor_created db phase facts.compactor fits e

-- the boundary as a commit reads it
read_by : (s : Store) (k : LogKind) (db : List ℕ) (b : ℕ) → bound_in (log_of k) db s ≡ Some b → boundary_at db k s ≡ Some b
read_by s logs.Manifest db b e = e
read_by s logs.Compactions db b e = e

-- the step that reads the boundary after a put ends the call with a refusal, or what was put is the committed version of its number, by its author
pub refused_or_own : (s : Store) (moment : ℤ) (mark : Mark) (facts : Facts) (call : Call) (work : Work) (k : LogKind) (db : List ℕ) (puts : Puts) (now : ℤ) (number : ℕ) (v : Held k) (c : Chain k) (author : Author)
    → IsSound (log_of k) db s c → HoldsBy (log_of k) db s c author number v → phrase_of work ≡ Commits k db puts now (Bounding number v)
    → IsRefused (moved facts call work moment (effect mark (asks work) moment s).answer).next ⊎ IsPutBy (log_of k) c author number v
refused_or_own s moment mark facts call work k db puts now number v c author i h e = by_test i.bound i.read (nat_le number i.bound) refl
  where
    by_test : (b : ℕ) → bound_in (log_of k) db s ≡ Some b → (t : Bool) → nat_le number b ≡ t → IsRefused (moved facts call work moment (effect mark (asks work) moment s).answer).next ⊎ IsPutBy (log_of k) c author number v
    by_test b read true is = inl (work_fails s moment mark facts call work (subst (PhraseFails s moment mark) (sym e) (bound_fails db k number v s moment mark b (read_by s k db b read) (at_least number b is))))
    by_test b read false is = inr (h.same b read (above_test number b is))

-- what was removed up to now is a collected version, or of no log
all_gone : (specs : List DbSpec) (events : List Event) → IsAccepted specs → AreGood specs events → EachPath (IsGone (world_after events (opening_world specs)) (chains_at_end specs events)) (gone_after specs events)
all_gone specs events accepted good =
    subst (λ (w : World). EachPath (IsGone w (chains_at_end specs events)) (gone_after specs events)) (run_world events 0 (opening specs) (course_after specs events) (good_run specs events good))
    (course_gone specs events accepted good)

one_of : (P : ObjectPath → Type 0) (front : List ObjectPath) (path : ObjectPath) (back : List ObjectPath) → EachPath P (front ++ path ∷ back) → P path
one_of P [] path back h = h.0
one_of P (x ∷ front) path back h = one_of P front path back h.1

-- a version that was removed was collected
version_gone : (w : World) (chains : Chains) (k : LogKind) (db : List ℕ) (number : ℕ) → IsGone w chains (version_path k db number) → IsCollectedVersion w chains (version_path k db number)
version_gone w chains k db number (inl h) = h
version_gone w chains k db number (inr other) = absurd ((other.other k db).version number (version_owner k db number))

-- ---- the parties

module _ (specs : List DbSpec) (events : List Event) (n : ℕ) (p : Party) (task : Task) (accepted : IsAccepted specs) (at : party_of n (world_after events (opening_world specs)).parties ≡ Some p) (is : p.state ≡ Busy task) where
  abbrev w : World
  w = world_after events (opening_world specs)

  abbrev chains : Chains
  chains = chains_at_end specs events

  i : Inv w chains
  i = after_inv specs events accepted

  known : WorkKnows w.store chains n p.facts task.call task.work
  known = subst (λ s. StateKnows w.store chains n p.facts s) is (i.parties n p at).knows

  knows : (phrase : Phrase) → phrase_of task.work ≡ phrase → PhraseKnows w.store chains n phrase
  knows phrase e = subst (λ ph. PhraseKnows w.store chains n ph) e known.knows

  -- what it puts is what its facts and its call say
  pub work_fits : Fits p.facts task.call task.work
  work_fits = known.fits

  made_of : (k : LogKind) (c : Chain k) (author : Author) (number : ℕ) (v : Held k) → IsMade (log_of k) c author number v → IsMadeOf k c author number v
  made_of k c author number v (OfVersion old at number_is makes lawful passed) = Makes old at number_is makes
  made_of k c author number v (OfNone number_is first) = Begins number_is first

  pub commit_holds : (k : LogKind) (db : List ℕ) (puts : Puts) (now : ℤ) (number : ℕ) (bytes : List ℕ) (v : Held k) → phrase_of task.work ≡ Commits k db puts now (Putting number bytes v)
      → IsMadeOf k (chains k db) (record { party = n; puts = puts; now = now }) number v
  commit_holds k db puts now number bytes v e = made_of k (chains k db) _ number v (knows (Commits k db puts now (Putting number bytes v)) e).made

  -- where each is a version of a log, by the path of the log
  at_log : (k : LogKind) (db : List ℕ) (P : ℕ → Type 0) (ms : List ObjectMetadata) → Each (IsVersionThat (log_of k).kind db P) ms → Each (IsVersionThat k db P) ms
  at_log k db P ms h = subst (λ j. Each (IsVersionThat j db P) ms) (its_kind k) h

  all_spare : (k : LogKind) (db : List ℕ) (phase : PassPhase) → PassKnows (log_of k) db w.store (chains k db) phase → Each (IsVersionThat k db (IsSpare (log_of k) (chains k db))) (picks_in phase)
  all_spare k db (passing.Advancing phase left counts) h = at_log k db _ left (each_is (log_of k).kind db _ (IsSpare (log_of k) (chains k db)) (λ n w. w.1) left h.1)
  all_spare k db (passing.Deleting left counts) h = at_log k db _ left (each_is (log_of k).kind db _ (IsSpare (log_of k) (chains k db)) (λ n w. w.1) left h)
  all_spare k db _ h = tt

  pass_spare : (db : List ℕ) (pass : GcMessage) (phase : PassPhase) → IsOfLog pass → CollectKnows w.store chains db pass phase
      → Each (IsVersionThat (pass_log pass) db (IsSpare (log_of (pass_log pass)) (chains (pass_log pass) db))) (picks_in phase)
  pass_spare db of.Manifest phase log h = all_spare logs.Manifest db phase h
  pass_spare db of.Compactions phase log h = all_spare logs.Compactions db phase h
  pass_spare db _ phase log h = absurd (cc (log))

  pub spare_picks : (db : List ℕ) (pass : GcMessage) (phase : PassPhase) → IsOfLog pass → phrase_of task.work ≡ Collects db pass phase
      → Each (IsVersionThat (pass_log pass) db (IsSpare (log_of (pass_log pass)) (chains (pass_log pass) db))) (picks_in phase)
  spare_picks db pass phase log e = pass_spare db pass phase log (knows (Collects db pass phase) e)

  all_bounded : (k : LogKind) (db : List ℕ) (bound : ℕ) → bound_in (log_of k) db w.store ≡ Some bound → (phase : PassPhase) → PassKnows (log_of k) db w.store (chains k db) phase → Each (IsVersionThat k db (λ n. n ≤ bound)) (due_in phase)
  all_bounded k db bound read (passing.Deleting left counts) h = at_log k db _ left (each_is (log_of k).kind db _ (λ n. n ≤ bound) (λ n w. w.0.reached bound read) left h)
  all_bounded k db bound read _ h = tt

  pass_bounded : (db : List ℕ) (pass : GcMessage) (phase : PassPhase) (bound : ℕ) → IsOfLog pass → bound_in (log_of (pass_log pass)) db w.store ≡ Some bound → CollectKnows w.store chains db pass phase
      → Each (IsVersionThat (pass_log pass) db (λ n. n ≤ bound)) (due_in phase)
  pass_bounded db of.Manifest phase bound log read h = all_bounded logs.Manifest db bound read phase h
  pass_bounded db of.Compactions phase bound log read h = all_bounded logs.Compactions db bound read phase h
  pass_bounded db _ phase bound log read h = absurd (cc (log))

  pub bounded_due : (db : List ℕ) (pass : GcMessage) (phase : PassPhase) (bound : ℕ) → IsOfLog pass → phrase_of task.work ≡ Collects db pass phase → bound_in (log_of (pass_log pass)) db w.store ≡ Some bound
      → Each (IsVersionThat (pass_log pass) db (λ n. n ≤ bound)) (due_in phase)
  bounded_due db pass phase bound log e read = pass_bounded db pass phase bound log read (knows (Collects db pass phase) e)

  -- what a pass has read of the versions that the latest manifest names
  pub fetched_stand : (db : List ℕ) (number : ℕ) (left : List ℕ) (found : List (ℕ × Manifest)) → phrase_of task.work ≡ Fetches db number (fetching.Getting left found) → IsReferenced (chains logs.Manifest db) number left found
  fetched_stand db number left found e = knows (Fetches db number (fetching.Getting left found)) e

  listed_stand : (db : List ℕ) (pass : GcMessage) (heads : Heads) (versions : List (ℕ × Manifest)) → log_of_pass pass ≡ None → CollectKnows w.store chains db pass (passing.Listing heads versions)
      → IsReferenced (chains logs.Manifest db) heads.latest [] versions
  listed_stand db of.Compacted heads versions none h = h
  listed_stand db of.Wal heads versions none h = h
  listed_stand db of.WalFence heads versions none h = h
  listed_stand db of.Detach heads versions none h = absurd h
  listed_stand db _ heads versions none h = absurd (cc (none))

  pub all_stand : (db : List ℕ) (pass : GcMessage) (heads : Heads) (versions : List (ℕ × Manifest)) → log_of_pass pass ≡ None → phrase_of task.work ≡ Collects db pass (passing.Listing heads versions)
      → IsReferenced (chains logs.Manifest db) heads.latest [] versions
  all_stand db pass heads versions none e = listed_stand db pass heads versions none (knows (Collects db pass (passing.Listing heads versions)) e)

  -- the database of a phrase is one of the cluster
  has_db : (phrase : Phrase) → phrase_of task.work ≡ phrase → HasDb w (db_in phrase)
  has_db phrase e = subst (λ d. HasDb w d) (sym known.own ∙ (sym (work_db task.work) ∙ ap db_in e)) (i.parties n p at).has

  pub read_answers : (k : LogKind) (db : List ℕ) (phase : ReadPhase (Held k)) (mark : Mark) (moment : ℤ) (to : ReadPhase (Held k)) (number : ℕ) (v : Held k) → phrase_of task.work ≡ Reads k db phase
      → read_goes k (log_of k).decoded phase (effect mark (read_asks db k phase) moment w.store).answer ≡ End to (Ok (Some (number, v))) → IsVersion (chains k db) number v
  read_answers k db phase mark moment to number v e answer = answers_of k db w.store (chains k db) (i.logs k db (i.named db (has_db (Reads k db phase) e))) i.tidy phase mark moment (knows (Reads k db phase) e) to number v answer

  -- what it has put is its own where the boundary is below the number
  pub put_stands : (k : LogKind) (db : List ℕ) (puts : Puts) (now : ℤ) (number : ℕ) (v : Held k) (bound : ℕ) → phrase_of task.work ≡ Commits k db puts now (Bounding number v)
      → bound_in (log_of k) db w.store ≡ Some bound → bound < number → IsPutBy (log_of k) (chains k db) (record { party = n; puts = puts; now = now }) number v
  put_stands k db puts now number v bound e read lt = (knows (Commits k db puts now (Bounding number v)) e).same bound read lt

  -- and so is what a commit ends with
  pub commit_ends : (k : LogKind) (db : List ℕ) (puts : Puts) (now : ℤ) (phase : CommitPhase (Held k)) (mark : Mark) (moment : ℤ) (to : CommitPhase (Held k)) (number : ℕ) (v : Held k) → phrase_of task.work ≡ Commits k db puts now phase
      → commit_goes phase (effect mark (commit_asks db k phase) moment w.store).answer ≡ End to (Ok (number, v)) → IsPutBy (log_of k) (chains k db) (record { party = n; puts = puts; now = now }) number v
  commit_ends k db puts now phase mark moment to number v e answer =
      ends_of k db w.store (chains k db) (record { party = n; puts = puts; now = now }) (i.logs k db (i.named db (has_db (Commits k db puts now phase) e))) phase mark moment (knows (Commits k db puts now phase) e) to number v answer

  -- a put that was answered created leads to the read of the boundary
  pub created_goes_on : (k : LogKind) (db : List ℕ) (puts : Puts) (now : ℤ) (number : ℕ) (bytes : List ℕ) (v : Held k) (tag : ℕ) (moment : ℤ) → phrase_of task.work ≡ Commits k db puts now (Putting number bytes v)
      → IsIn (Commits k db puts now (Bounding number v)) (moved p.facts task.call task.work moment (Created (Some tag))).next
  created_goes_on k db puts now number bytes v tag moment e = work_created tag moment p.facts task.call (Commits k db puts now (Bounding number v)) task.work known.fits (ap after_put e)

  -- the step that makes it ends the call with a refusal, or what was put is its own
  pub own_or_refused : (k : LogKind) (db : List ℕ) (puts : Puts) (now : ℤ) (number : ℕ) (v : Held k) (mark : Mark) (moment : ℤ) → phrase_of task.work ≡ Commits k db puts now (Bounding number v)
      → IsRefused (moved p.facts task.call task.work moment (effect mark (asks task.work) moment w.store).answer).next ⊎ IsPutBy (log_of k) (chains k db) (record { party = n; puts = puts; now = now }) number v
  own_or_refused k db puts now number v mark moment e =
      let phrase = Commits k db puts now (Bounding number v) in
      refused_or_own w.store moment mark p.facts task.call task.work k db puts now number v (chains k db) (record { party = n; puts = puts; now = now }) (i.logs k db (i.named db (has_db phrase e))) (knows phrase e) e

  -- the step of a commit whose number was collected ends the call with a refusal
  pub late_refused : (k : LogKind) (db : List ℕ) (puts : Puts) (now : ℤ) (number : ℕ) (v : Held k) (front back : List ObjectPath) (mark : Mark) (moment : ℤ) → phrase_of task.work ≡ Commits k db puts now (Bounding number v)
      → AreGood specs events → gone_after specs events ≡ front ++ version_path k db number ∷ back → IsRefused (moved p.facts task.call task.work moment (effect mark (asks task.work) moment w.store).answer).next
  late_refused k db puts now number v front back mark moment e good gone =
      let all = subst (λ (paths : List ObjectPath). EachPath (IsGone w chains) paths) gone (all_gone specs events accepted good) in
      let one = version_gone w chains k db number (one_of (IsGone w chains) front (version_path k db number) back all) in
      work_fails w.store moment mark p.facts task.call task.work (subst (PhraseFails w.store moment mark) (sym e) (by_log k db number v one))
    where
      by_log : (k : LogKind) (db : List ℕ) (number : ℕ) (v : Held k) → IsCollectedVersion w chains (version_path k db number) → CommitFails (commit_goes (Bounding number v) (effect mark (commit_asks db k (Bounding number v)) moment w.store).answer)
      by_log k db number v h =
          let same : Version h.log h.db h.number ≡ Version k db number = sym (version_owner h.log h.db h.number) ∙ (ap owner_of (sym h.is) ∙ version_owner k db number) in
          let same_log : h.log ≡ k = cc (same) in
          let same_db : h.db ≡ db = cc (same) in
          let same_number : h.number ≡ number = cc (same) in
          let log = i.logs h.log h.db (i.named h.db h.has) in
          let read : boundary_at db k w.store ≡ Some log.bound = subst (λ d. boundary_at d k w.store ≡ Some log.bound) same_db (subst (λ j. boundary_at h.db j w.store ≡ Some log.bound) same_log (read_by w.store h.log h.db log.bound log.read)) in
          bound_fails db k number v w.store moment mark log.bound read (subst (λ j. j ≤ log.bound) same_number (h.bounded log.bound log.read))
