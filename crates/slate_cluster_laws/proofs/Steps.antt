-- One step of the phrase under way: what it leaves of its log, and what its answer brings.
use Rattle.std.proofs.Common.{◌≡◌, ◌≢◌, ℕ, ℤ, pos, Bool, true, false, List, Some, None, refl, sym, ap, ◌∙◌, subst}
use Rattle.std.specs.Prelude.{if◌then◌else◌, bytes_eq}
use Rattle.slate_ids.specs.Ids.{is_db_path}
use Rattle.slate_ids.specs.declared.gc_message.GcMessage.{GcMessage}
use Rattle.slate_ids.specs.declared.gc_message.GcMessage.TheVariants as of
use Rattle.slate_ids.specs.Ulids.{is_id}
use Rattle.slate_ids.specs.declared.object_path.ObjectPath.TheVariants as paths
use Rattle.slate_store.specs.Store.{Store, effect, taken}
use Rattle.slate_store.specs.declared.mark.Mark.{Mark}
use Rattle.slate_store.specs.declared.store_answer.StoreAnswer.{StoreAnswer}
use Rattle.slate_store.specs.declared.store_call.StoreCall.{StoreCall}
use Rattle.slate_store.specs.declared.store_call.StoreCall.TheVariants as store_call
use Rattle.slate_txn_log.specs.CommitPhase.{commit_asks, commit_goes}
use Rattle.slate_txn_log.specs.ReadPhase.{read_asks, read_goes}
use Rattle.slate_txn_log.specs.declared.commit_phase.CommitPhase.{CommitPhase}
use Rattle.slate_txn_log.specs.declared.commit_phase.CommitPhase.TheVariants.{Putting, Bounding, Over}
use Rattle.slate_txn_log.specs.declared.log_kind.LogKind.{LogKind}
use Rattle.slate_txn_log.specs.declared.log_kind.LogKind.TheVariants as logs
use Rattle.slate_txn_log.specs.declared.read_phase.ReadPhase.{ReadPhase}
use Rattle.slate_gc_passes.specs.Defaults.{default_options}
use Rattle.slate_gc_passes.specs.Pass.{PassGoes, pass_asks, pass_goes}
use Rattle.slate_gc_passes.specs.declared.directory_options.GarbageCollectorDirectoryOptions.{GarbageCollectorDirectoryOptions}
use Rattle.slate_txn_changes.specs.LogWorks.{work_asks as changes_ask}
use Rattle.slate_txn_changes.specs.declared.log_work.LogWork.{LogWork}
use Rattle.slate_txn_changes.specs.declared.log_work.LogWork.TheVariants.{Reading, Committing}
use Rattle.slate_state_calls.specs.Commits.{ManifestChanging, RecordChanging}
use Rattle.slate_state_calls.specs.declared.open_phase.OpenPhase.TheVariants as opening
use Rattle.slate_state_calls.specs.declared.state_phase.StatePhase.TheVariants as compacting
use Rattle.slate_gc_passes.specs.declared.gc_phase.GcPhase.TheVariants as whole
use Rattle.slate_gc_passes.specs.declared.pass_phase.PassPhase.{PassPhase}
use Rattle.slate_gc_passes.specs.declared.pass_phase.PassPhase.TheVariants as passing
use Rattle.slate_layout_manifests.specs.Decoding.{decoded_manifest}
use Rattle.slate_state_referenced.specs.Referenced.{referenced_asks, referenced_goes}
use Rattle.slate_state_referenced.specs.declared.referenced_phase.ReferencedPhase.{ReferencedPhase}
use Rattle.slate_script_events.specs.declared.filter_word.FilterWord.{FilterWord}
use Rattle.slate_script_events.specs.declared.filter_word.FilterWord.TheVariants.{Nothing}
use Rattle.slate_cluster_protocol.specs.Chains.{Link, with_link}
use Rattle.slate_cluster_protocol.specs.Holding.{pass_log}
use Rattle.slate_cluster_protocol.specs.Logs.{Author, Puts, OfManifest, First, manifest_puts, record_puts, Held, log_of, Chain, Chains, Phrase, Reads, Commits, Uploads, Fetches, Collects, change_phrase, manifest_phrase, record_phrase, collect_phrase, phrase_of, manifests, records, Put, put_by, chain_with, chains_put}
use Rattle.slate_cluster_protocol.specs.Works.{db_of, asks, pass_ways}
use Rattle.slate_cluster_protocol.specs.World.{wrote}
use Rattle.slate_cluster_protocol.specs.declared.work.Work.{Work}
use Rattle.slate_cluster_protocol.specs.declared.work.Work.TheVariants as works
use Rattle.slate_state_updates.specs.declared.manifest_change.ManifestChange.TheVariants.{DropExpired}
use Rattle.slate_store.proofs.LookUps.{bytes_same}
use Rattle.slate_cluster_laws.proofs.Stores.{IsTidy, decides}
use Rattle.slate_cluster_laws.proofs.Facts.{IsSound, Grows, ReadKnows, CommitKnows, ReadBrings, CommitBrings}
use Rattle.slate_cluster_chain_laws.proofs.Manifests.{log_laws}
use Rattle.slate_cluster_laws.proofs.Paths.{AreApart, nobodys_elsewhere, table_nobodys}
use Rattle.slate_cluster_laws.proofs.Puts.{Leaves, leaves_not, elsewhere_leaves}
use Rattle.slate_cluster_laws.proofs.Turns.{chain_if, read_step, bound_step, put_step}
use Rattle.slate_cluster_laws.proofs.Passes.{PassKnows, PassBrings, bounded_pass, kept_pass, manifest_step, record_step}
use Rattle.slate_cluster_laws.proofs.Referenced.{FetchKnows, FetchBrings, fetch_step}
use Rattle.slate_cluster_laws.proofs.Sweeps.{SweepKnows, SweepBrings, Sweep, kept_sweep, message_of, sweep_step}
use Rattle.slate_cluster_laws.proofs.Sweeps.Sweep.{OfTables, OfFiles, OfFences}

-- ---- phrases

-- the log of a phrase, and its database: of a pass, the one whose versions it deletes; the put of a table is of no log, and leaves that of manifests
-- as it is; so does a pass over no log
abbrev pub log_in : Phrase → LogKind
log_in (Reads k db phase) = k
log_in (Commits k db puts now phase) = k
log_in (Uploads db table bytes) = logs.Manifest
log_in (Fetches db n phase) = logs.Manifest
log_in (Collects db pass phase) = pass_log pass

abbrev pub db_in : Phrase → List ℕ
db_in (Reads k db phase) = db
db_in (Commits k db puts now phase) = db
db_in (Uploads db table bytes) = db
db_in (Fetches db n phase) = db
db_in (Collects db pass phase) = db

-- its store call
abbrev pub phrase_asks : Phrase → StoreCall
phrase_asks (Reads k db phase) = read_asks db (log_of k).kind phase
phrase_asks (Commits k db puts now phase) = commit_asks db (log_of k).kind phase
phrase_asks (Uploads db table bytes) = store_call.Put (paths.Table db table) bytes
phrase_asks (Fetches db n phase) = referenced_asks db phase
phrase_asks (Collects db pass phase) = pass_asks db pass phase

-- they are those of the work
change_asks : (k : LogKind) (db : List ℕ) (puts : Puts) (work : LogWork (Held k)) → changes_ask db k work ≡ phrase_asks (change_phrase k db puts work)
change_asks logs.Manifest db puts (Reading phase) = refl
change_asks logs.Manifest db puts (Committing now phase) = refl
change_asks logs.Compactions db puts (Reading phase) = refl
change_asks logs.Compactions db puts (Committing now phase) = refl

change_db : (k : LogKind) (db : List ℕ) (puts : Puts) (work : LogWork (Held k)) → db_in (change_phrase k db puts work) ≡ db
change_db k db puts (Reading phase) = refl
change_db k db puts (Committing now phase) = refl

manifest_asks : (db : List ℕ) (p : ManifestChanging) → changes_ask db logs.Manifest p.work ≡ phrase_asks (manifest_phrase db p)
manifest_asks db p = change_asks logs.Manifest db (manifest_puts p.change) p.work

record_asks : (db : List ℕ) (p : RecordChanging) → changes_ask db logs.Compactions p.work ≡ phrase_asks (record_phrase db p)
record_asks db p = change_asks logs.Compactions db (record_puts p.change) p.work

collect_asks : (db : List ℕ) (pass : GcMessage) (phase : PassPhase) → pass_asks db pass phase ≡ phrase_asks (collect_phrase db pass phase)
collect_asks db pass (passing.ReadingRecord phase) = refl
collect_asks db pass (passing.ReadingManifest least phase) = refl
collect_asks db pass (passing.Fetching heads phase) = refl
collect_asks db pass (passing.Listing heads versions) = refl
collect_asks db pass (passing.Getting n listed found) = refl
collect_asks db pass (passing.Bounding n listed candidates) = refl
collect_asks db pass (passing.Advancing phase left counts) = refl
collect_asks db pass (passing.Deleting left counts) = refl
collect_asks db pass passing.Over = refl

pub work_asks : (work : Work) → asks work ≡ phrase_asks (phrase_of work)
work_asks (works.Manifests db p) = manifest_asks db p
work_asks (works.Records db p) = record_asks db p
work_asks (works.PutTable db upload bytes) = refl
work_asks (works.Pass db settings filter (whole.Removing work)) = change_asks logs.Manifest db (OfManifest DropExpired) work
work_asks (works.Pass db settings filter (whole.Collecting at phase)) = collect_asks db settings.pass phase
work_asks (works.Opening db (opening.Raising p)) = manifest_asks db p
work_asks (works.Opening db (opening.OnRecord step m p)) = record_asks db p
work_asks (works.Opening db opening.Over) = refl
work_asks (works.Compacting db (compacting.OnRecord step p)) = record_asks db p
work_asks (works.Compacting db (compacting.OnManifest step p)) = manifest_asks db p
work_asks (works.Compacting db compacting.Over) = refl

manifest_db : (db : List ℕ) (p : ManifestChanging) → db_in (manifest_phrase db p) ≡ db
manifest_db db p = change_db logs.Manifest db (manifest_puts p.change) p.work

record_db : (db : List ℕ) (p : RecordChanging) → db_in (record_phrase db p) ≡ db
record_db db p = change_db logs.Compactions db (record_puts p.change) p.work

-- a pass that collects is in a read, gets versions, or lists and deletes
pub by_phase : (P : Phrase → Type 0) (db : List ℕ) (pass : GcMessage) → ((k : LogKind) (phase : ReadPhase (Held k)) → P (Reads k db phase)) → ((n : ℕ) (phase : ReferencedPhase) → P (Fetches db n phase))
    → ((phase : PassPhase) → P (Collects db pass phase)) → (phase : PassPhase) → P (collect_phrase db pass phase)
by_phase P db pass read fetch collect (passing.ReadingRecord phase) = read logs.Compactions phase
by_phase P db pass read fetch collect (passing.ReadingManifest least phase) = read logs.Manifest phase
by_phase P db pass read fetch collect (passing.Fetching heads phase) = fetch heads.latest phase
by_phase P db pass read fetch collect (passing.Listing heads versions) = collect (passing.Listing heads versions)
by_phase P db pass read fetch collect (passing.Getting n listed found) = collect (passing.Getting n listed found)
by_phase P db pass read fetch collect (passing.Bounding n listed candidates) = collect (passing.Bounding n listed candidates)
by_phase P db pass read fetch collect (passing.Advancing phase left counts) = collect (passing.Advancing phase left counts)
by_phase P db pass read fetch collect (passing.Deleting left counts) = collect (passing.Deleting left counts)
by_phase P db pass read fetch collect passing.Over = collect passing.Over

pub work_db : (work : Work) → db_in (phrase_of work) ≡ db_of work
work_db (works.Manifests db p) = manifest_db db p
work_db (works.Records db p) = record_db db p
work_db (works.PutTable db upload bytes) = refl
work_db (works.Pass db settings filter (whole.Removing work)) = change_db logs.Manifest db (OfManifest DropExpired) work
work_db (works.Pass db settings filter (whole.Collecting at phase)) = by_phase (λ phrase. db_in phrase ≡ db) db settings.pass (λ k read. refl) (λ n fetch. refl) (λ collect. refl) phase
work_db (works.Opening db (opening.Raising p)) = manifest_db db p
work_db (works.Opening db (opening.OnRecord step m p)) = record_db db p
work_db (works.Opening db opening.Over) = refl
work_db (works.Compacting db (compacting.OnRecord step p)) = record_db db p
work_db (works.Compacting db (compacting.OnManifest step p)) = manifest_db db p
work_db (works.Compacting db compacting.Over) = refl

-- the author of what a party commits
abbrev pub author_of : ℕ → Puts → ℤ → Author
author_of n puts now = record { party = n; puts = puts; now = now }

-- the author of a phrase, which counts where it commits
abbrev pub author_in : ℕ → Phrase → Author
author_in n (Commits k db puts now phase) = author_of n puts now
author_in n _ = author_of n First (pos 0)

pub author_party : (n : ℕ) (phrase : Phrase) → (author_in n phrase).party ≡ n
author_party n (Reads k db phase) = refl
author_party n (Commits k db puts now phase) = refl
author_party n (Uploads db table bytes) = refl
author_party n (Fetches db m phase) = refl
author_party n (Collects db pass phase) = refl

-- what a pass knows while it lists and deletes, by its log; the detaching one isn't made in a run
abbrev pub ByPass : GcMessage → Type 0 → Type 0 → Type 0 → Type 0
ByPass of.Manifest OfManifests OfRecords OfNone = OfManifests
ByPass of.Compactions OfManifests OfRecords OfNone = OfRecords
ByPass of.Detach OfManifests OfRecords OfNone = ⊥
ByPass _ OfManifests OfRecords OfNone = OfNone

abbrev pub CollectKnows : Store → Chains → List ℕ → GcMessage → PassPhase → Type 0
CollectKnows s chains db pass phase =
    ByPass pass (PassKnows manifests db s (chains logs.Manifest db) phase) (PassKnows records db s (chains logs.Compactions db) phase) (SweepKnows (chains logs.Manifest db) phase)

-- it stays while its log grows
pub kept_collect : (s : Store) (chains : Chains) (s' : Store) (chains' : Chains) (db : List ℕ) (pass : GcMessage) (phase : PassPhase) → Grows (log_of (pass_log pass)) db s (chains (pass_log pass) db) s' (chains' (pass_log pass) db)
    → CollectKnows s chains db pass phase → CollectKnows s' chains' db pass phase
kept_collect s chains s' chains' db of.Manifest phase g h = kept_pass manifests db s (chains logs.Manifest db) s' (chains' logs.Manifest db) g phase h
kept_collect s chains s' chains' db of.Compactions phase g h = kept_pass records db s (chains logs.Compactions db) s' (chains' logs.Compactions db) g phase h
kept_collect s chains s' chains' db of.Compacted phase g h = kept_sweep db s (chains logs.Manifest db) s' (chains' logs.Manifest db) g phase h
kept_collect s chains s' chains' db of.Wal phase g h = kept_sweep db s (chains logs.Manifest db) s' (chains' logs.Manifest db) g phase h
kept_collect s chains s' chains' db of.WalFence phase g h = kept_sweep db s (chains logs.Manifest db) s' (chains' logs.Manifest db) g phase h
kept_collect s chains s' chains' db of.Detach phase g h = h

-- what a step of it brings
abbrev pub CollectBrings : Store → Chains → List ℕ → GcMessage → PassGoes → Type 0
CollectBrings s chains db pass g =
    ByPass pass (PassBrings manifests db s (chains logs.Manifest db) g) (PassBrings records db s (chains logs.Compactions db) g) (SweepBrings (chains logs.Manifest db) g)

-- what a party knows while it is in a phrase
abbrev pub PhraseKnows : Store → Chains → ℕ → Phrase → Type 0
PhraseKnows s chains n (Reads k db phase) = ReadKnows (log_of k) db s (chains k db) phase
PhraseKnows s chains n (Commits k db puts now phase) = CommitKnows (log_of k) db s (chains k db) (author_of n puts now) phase
PhraseKnows s chains n (Uploads db table bytes) = is_id table ≡ true
PhraseKnows s chains n (Fetches db m phase) = FetchKnows (chains logs.Manifest db) m phase
PhraseKnows s chains n (Collects db pass phase) = CollectKnows s chains db pass phase

-- what a phrase's answer at a moment brings
abbrev pub PhraseBrings : Store → Chains → ℕ → Phrase → ℤ → StoreAnswer → Type 0
PhraseBrings s chains n (Reads k db phase) moment answer = ReadBrings (log_of k) db s (chains k db) (read_goes (log_of k).kind (log_of k).decoded phase answer)
PhraseBrings s chains n (Commits k db puts now phase) moment answer = CommitBrings (log_of k) db s (chains k db) (author_of n puts now) (commit_goes phase answer)
PhraseBrings s chains n (Uploads db table bytes) moment answer = Unit {0}
PhraseBrings s chains n (Fetches db m phase) moment answer = FetchBrings (chains logs.Manifest db) m (referenced_goes decoded_manifest phase answer)
PhraseBrings s chains n (Collects db pass phase) moment answer =
    (options : GarbageCollectorDirectoryOptions) (word : FilterWord) (now : ℤ) → CollectBrings s chains db pass (pass_goes (pass_ways word) (bounded_pass pass options) now phase answer)

-- ---- the chain of this log after a put, and those of the others

chain_own : (k : LogKind) (l : Link (Held k) Author) (c : Chain k) → chain_with k k l c ≡ with_link l c
chain_own logs.Manifest l c = refl
chain_own logs.Compactions l c = refl

chain_else : (k j : LogKind) (l : Link (Held j) Author) (c : Chain k) → k ≢ j → chain_with k j l c ≡ c
chain_else logs.Manifest logs.Manifest l c ne = absurd (ne refl)
chain_else logs.Compactions logs.Compactions l c ne = absurd (ne refl)
chain_else logs.Manifest logs.Compactions l c ne = refl
chain_else logs.Compactions logs.Manifest l c ne = refl

abbrev pub put_of : (k : LogKind) → List ℕ → Link (Held k) Author → Put
put_of k db l = record { log = k; db = db; link = l }

pub none_put : (b : Bool) (chains : Chains) (k : LogKind) (d : List ℕ) → chains_put b None chains k d ≡ chains k d
none_put false chains k d = refl
none_put true chains k d = refl

pub own_put : (b : Bool) (k : LogKind) (db : List ℕ) (l : Link (Held k) Author) (chains : Chains) → chains_put b (Some (put_of k db l)) chains k db ≡ chain_if b l (chains k db)
own_put false k db l chains = refl
own_put true k db l chains = ap (λ (b : Bool). if b then chain_with k k l (chains k db) else chains k db) (bytes_same db) ∙ chain_own k l (chains k db)

pub other_put : (b : Bool) (k : LogKind) (db : List ℕ) (l : Link (Held k) Author) (chains : Chains) (j : LogKind) (d : List ℕ) → AreApart j d k db → chains_put b (Some (put_of k db l)) chains j d ≡ chains j d
other_put false k db l chains j d apart = refl
other_put true k db l chains j d apart = test (bytes_eq d db) refl
  where
    test : (t : Bool) → bytes_eq d db ≡ t → (if t then chain_with j k l (chains j d) else chains j d) ≡ chains j d
    test true is = chain_else j k l (chains j d) (λ e. apart e ((decides d db).0 is))
    test false is = refl

-- ---- a step

abbrev pub AfterCall : Store → Phrase → Mark → ℤ → Store
AfterCall s phrase mark moment = (effect mark (phrase_asks phrase) moment s).store

abbrev pub chains_next : Store → Chains → ℕ → Phrase → Mark → ℤ → Chains
chains_next s chains n phrase mark moment = chains_put (wrote s (AfterCall s phrase mark moment)) (put_by n phrase) chains

-- what a step leaves of its own log, and what its answer brings
pub record AfterPhrase (s : Store) (chains : Chains) (n : ℕ) (phrase : Phrase) (mark : Mark) (moment : ℤ) : Type 0 where
  pub leaves : Leaves (log_of (log_in phrase)) (db_in phrase) (author_in n phrase) s (chains (log_in phrase) (db_in phrase)) (AfterCall s phrase mark moment) (chains_next s chains n phrase mark moment (log_in phrase) (db_in phrase))
  pub brings : PhraseBrings (AfterCall s phrase mark moment) (chains_next s chains n phrase mark moment) n phrase moment (effect mark (phrase_asks phrase) moment s).answer

module _ (s : Store) (chains : Chains) (n : ℕ) (tidy : IsTidy s.objects) (mark : Mark) (moment : ℤ) where
  module _ (k : LogKind) (db : List ℕ) (i : IsSound (log_of k) db s (chains k db)) where
    -- a step of a read
    reads : (phase : _) → ReadKnows (log_of k) db s (chains k db) phase → AfterPhrase s chains n (Reads k db phase) mark moment
    reads phase h =
        let o = effect mark (read_asks db (log_of k).kind phase) moment s in
        let r = read_step (log_of k) (log_laws k) db s (chains k db) i tidy phase mark moment h in
        let chain = none_put (wrote s o.store) chains k db in
        record {
          leaves = subst (λ (c : Chain k). Leaves (log_of k) db (author_of n First (pos 0)) s (chains k db) o.store c) (sym chain)
              (subst (λ (t : Store). Leaves (log_of k) db (author_of n First (pos 0)) s (chains k db) t (chains k db)) (sym r.same) (leaves_not (log_of k) db (author_of n First (pos 0)) s (chains k db) i));
          brings = subst (λ (c : Chain k). ReadBrings (log_of k) db o.store c (read_goes (log_of k).kind (log_of k).decoded phase o.answer)) (sym chain)
              (subst (λ (t : Store). ReadBrings (log_of k) db t (chains k db) (read_goes (log_of k).kind (log_of k).decoded phase o.answer)) (sym r.same) r.brings);
        }

    -- a step of a commit
    commits : (named : is_db_path db ≡ true) (puts : Puts) (now : ℤ) (phase : CommitPhase (Held k)) → CommitKnows (log_of k) db s (chains k db) (author_of n puts now) phase
        → AfterPhrase s chains n (Commits k db puts now phase) mark moment
    commits named puts now (Bounding m v) h =
        let author = author_of n puts now in
        let o = effect mark (commit_asks db (log_of k).kind (Bounding m v)) moment s in
        let r = bound_step (log_of k) (log_laws k) db s (chains k db) i author m v mark moment h in
        let chain = none_put (wrote s o.store) chains k db in
        record {
          leaves = subst (λ (c : Chain k). Leaves (log_of k) db author s (chains k db) o.store c) (sym chain)
              (subst (λ (t : Store). Leaves (log_of k) db author s (chains k db) t (chains k db)) (sym r.same) (leaves_not (log_of k) db author s (chains k db) i));
          brings = subst (λ (c : Chain k). CommitBrings (log_of k) db o.store c author (commit_goes (Bounding m v) o.answer)) (sym chain)
              (subst (λ (t : Store). CommitBrings (log_of k) db t (chains k db) author (commit_goes (Bounding m v) o.answer)) (sym r.same) r.brings);
        }
    commits named puts now (Putting m bytes v) h =
        let author = author_of n puts now in
        let o = effect mark (commit_asks db (log_of k).kind (Putting m bytes v)) moment s in
        let l : Link (Held k) Author = record { number = m; bytes = bytes; value = (log_of k).normal v; by = Some author } in
        let r = put_step (log_of k) (log_laws k) db s (chains k db) i author named m bytes v moment h mark in
        let chain = own_put (wrote s o.store) k db l chains in
        record {
          leaves = subst (λ (c : Chain k). Leaves (log_of k) db author s (chains k db) o.store c) (sym chain) r.leaves;
          brings = subst (λ (c : Chain k). CommitBrings (log_of k) db o.store c author (commit_goes (Putting m bytes v) o.answer)) (sym chain) r.brings;
        }
    commits named puts now Over h = absurd h

  -- a step of the put of a table, which leaves the log as it is
  uploads : (db : List ℕ) (table : ℕ × ℕ) (bytes : List ℕ) → is_db_path db ≡ true → IsSound (log_of logs.Manifest) db s (chains logs.Manifest db) → is_id table ≡ true → AfterPhrase s chains n (Uploads db table bytes) mark moment
  uploads db table bytes named i is =
      let author = author_of n First (pos 0) in
      let put = store_call.Put (paths.Table db table) bytes in
      let o = effect mark put moment s in
      let c = chains logs.Manifest db in
      let chain = none_put (wrote s o.store) chains logs.Manifest db in
      let away = nobodys_elsewhere logs.Manifest db (paths.Table db table) named (table_nobodys db table named is) in
      record {
        leaves = subst (λ (d : Chain logs.Manifest). Leaves (log_of logs.Manifest) db author s c o.store d) (sym chain)
            (elsewhere_leaves (log_of logs.Manifest) db author s c (paths.Table db table) bytes moment away i (taken mark put s));
        brings = tt;
      }

  -- a step of the reading of the versions that a manifest names
  fetches : (db : List ℕ) (m : ℕ) → IsSound (log_of logs.Manifest) db s (chains logs.Manifest db) → (phase : ReferencedPhase) → FetchKnows (chains logs.Manifest db) m phase → AfterPhrase s chains n (Fetches db m phase) mark moment
  fetches db m i phase h =
      let author = author_of n First (pos 0) in
      let o = effect mark (referenced_asks db phase) moment s in
      let c = chains logs.Manifest db in
      let f = fetch_step db s c i m phase mark moment h in
      let chain = none_put (wrote s o.store) chains logs.Manifest db in
      record {
        leaves = subst (λ (d : Chain logs.Manifest). Leaves (log_of logs.Manifest) db author s c o.store d) (sym chain)
            (subst (λ (t : Store). Leaves (log_of logs.Manifest) db author s c t c) (sym f.same) (leaves_not (log_of logs.Manifest) db author s c i));
        brings = subst (λ (d : Chain logs.Manifest). FetchBrings d m (referenced_goes decoded_manifest phase o.answer)) (sym chain) f.brings;
      }

  -- a step of what a pass collects, by its steps under all settings: what it leaves of its log doesn't hang on its options, its filter and its moment
  abbrev CollectStep : List ℕ → GcMessage → PassPhase → Type 0
  CollectStep db pass phase =
      let k = pass_log pass in
      let o = effect mark (pass_asks db pass phase) moment s in
      Leaves (log_of k) db (author_of n First (pos 0)) s (chains k db) o.store (chains k db)
      × ((options : GarbageCollectorDirectoryOptions) (word : FilterWord) (now : ℤ) → CollectBrings o.store chains db pass (pass_goes (pass_ways word) (bounded_pass pass options) now phase o.answer))

  collect_step : (db : List ℕ) (pass : GcMessage) (phase : PassPhase) → CollectStep db pass phase → AfterPhrase s chains n (Collects db pass phase) mark moment
  collect_step db pass phase step =
      let k = pass_log pass in
      let author = author_of n First (pos 0) in
      let o = effect mark (pass_asks db pass phase) moment s in
      let b = wrote s o.store in
      record {
        leaves = subst (λ (c : Chain k). Leaves (log_of k) db author s (chains k db) o.store c) (sym (none_put b chains k db)) step.0;
        brings = λ options word now.
            let g = pass_goes (pass_ways word) (bounded_pass pass options) now phase o.answer in
            subst (λ (c : Chain logs.Manifest). ByPass pass (PassBrings manifests db o.store c g) (PassBrings records db o.store (chains_put b None chains logs.Compactions db) g) (SweepBrings c g)) (sym (none_put b chains logs.Manifest db))
            (subst (λ (c : Chain logs.Compactions). ByPass pass (PassBrings manifests db o.store (chains logs.Manifest db) g) (PassBrings records db o.store c g) (SweepBrings (chains logs.Manifest db) g)) (sym (none_put b chains logs.Compactions db))
            (step.1 options word now));
      }

  -- of a pass over the manifests, over the records, and over no log
  module _ (db : List ℕ) (named : is_db_path db ≡ true) (phase : PassPhase) where
    abbrev author : Author
    author = author_of n First (pos 0)

    manifests_collect : IsSound manifests db s (chains logs.Manifest db) → PassKnows manifests db s (chains logs.Manifest db) phase → AfterPhrase s chains n (Collects db of.Manifest phase) mark moment
    manifests_collect i h = collect_step db of.Manifest phase (
      (manifest_step db named author default_options Nothing moment s (chains logs.Manifest db) i tidy phase mark moment h).leaves,
      λ options word now. (manifest_step db named author options word now s (chains logs.Manifest db) i tidy phase mark moment h).brings,
    )

    records_collect : IsSound records db s (chains logs.Compactions db) → PassKnows records db s (chains logs.Compactions db) phase → AfterPhrase s chains n (Collects db of.Compactions phase) mark moment
    records_collect i h = collect_step db of.Compactions phase (
      (record_step db named author default_options Nothing moment s (chains logs.Compactions db) i tidy phase mark moment h).leaves,
      λ options word now. (record_step db named author options word now s (chains logs.Compactions db) i tidy phase mark moment h).brings,
    )

    sweeps : (sweep : Sweep) → IsSound manifests db s (chains logs.Manifest db) → SweepKnows (chains logs.Manifest db) phase → AfterPhrase s chains n (Collects db (message_of sweep) phase) mark moment
    sweeps OfTables i h = collect_step db of.Compacted phase (
      (sweep_step db named author default_options Nothing moment s (chains logs.Manifest db) i tidy OfTables phase mark moment h).leaves,
      λ options word now. (sweep_step db named author options word now s (chains logs.Manifest db) i tidy OfTables phase mark moment h).brings,
    )
    sweeps OfFiles i h = collect_step db of.Wal phase (
      (sweep_step db named author default_options Nothing moment s (chains logs.Manifest db) i tidy OfFiles phase mark moment h).leaves,
      λ options word now. (sweep_step db named author options word now s (chains logs.Manifest db) i tidy OfFiles phase mark moment h).brings,
    )
    sweeps OfFences i h = collect_step db of.WalFence phase (
      (sweep_step db named author default_options Nothing moment s (chains logs.Manifest db) i tidy OfFences phase mark moment h).leaves,
      λ options word now. (sweep_step db named author options word now s (chains logs.Manifest db) i tidy OfFences phase mark moment h).brings,
    )

    collects : (pass : GcMessage) → IsSound (log_of (pass_log pass)) db s (chains (pass_log pass) db) → CollectKnows s chains db pass phase → AfterPhrase s chains n (Collects db pass phase) mark moment
    collects of.Manifest i h = manifests_collect i h
    collects of.Compactions i h = records_collect i h
    collects of.Compacted i h = sweeps OfTables i h
    collects of.Wal i h = sweeps OfFiles i h
    collects of.WalFence i h = sweeps OfFences i h
    collects of.Detach i h = absurd h

  pub phrase_step : (phrase : Phrase) → is_db_path (db_in phrase) ≡ true → IsSound (log_of (log_in phrase)) (db_in phrase) s (chains (log_in phrase) (db_in phrase)) → PhraseKnows s chains n phrase → AfterPhrase s chains n phrase mark moment
  phrase_step (Reads k db phase) named i h = reads k db i phase h
  phrase_step (Commits k db puts now phase) named i h = commits k db i named puts now phase h
  phrase_step (Uploads db table bytes) named i h = uploads db table bytes named i h
  phrase_step (Fetches db m phase) named i h = fetches db m i phase h
  phrase_step (Collects db pass phase) named i h = collects db named phase pass i h
