-- A step of a call: what its party knows of a pass over tables, once the store has answered.
use Rattle.std.proofs.Common.{◌≡◌, ℕ, ℤ, ◌<◌, ◌≤◌, true, List, [], Option, Some, None, Ok, Err, ⊎_elim, sym, ap, ◌∙◌, subst, arith}
use Rattle.slate_ids.specs.Ids.{is_db_path}
use Rattle.slate_ids.specs.declared.gc_message.GcMessage.TheVariants as of
use Rattle.slate_gc_passes.specs.GcPhase.{GcGoes, gc_asks, gc_goes, moment_of_pass}
use Rattle.slate_gc_passes.specs.Rows.{folder_of}
use Rattle.slate_gc_passes.specs.declared.directory_options.GarbageCollectorDirectoryOptions.{GarbageCollectorDirectoryOptions}
use Rattle.slate_gc_passes.specs.declared.gc_phase.GcPhase.{GcPhase}
use Rattle.slate_gc_passes.specs.declared.gc_phase.GcPhase.TheVariants.{Removing, Collecting}
use Rattle.slate_gc_passes.specs.declared.pass_phase.PassPhase.TheVariants as passing
use Rattle.slate_gc_passes.specs.declared.pass_settings.PassSettings.{PassSettings}
use Rattle.slate_layout.specs.Codec.{encoded}
use Rattle.slate_layout_manifests.specs.Decoding.{decoded_manifest}
use Rattle.slate_layout_records.specs.RecordBytes.{decoded_record}
use Rattle.slate_model.specs.declared.manifest.Manifest.{Manifest}
use Rattle.slate_model_records.specs.Records.{Record}
use Rattle.slate_script_events.specs.declared.call.Call.{Call}
use Rattle.slate_script_events.specs.declared.filter_word.FilterWord.{FilterWord}
use Rattle.slate_state_calls.specs.Commits.{ManifestChanging, RecordChanging}
use Rattle.slate_state_calls.specs.Opening.{OpenGoes}
use Rattle.slate_state_calls.specs.StateSteps.{StateGoes, state_goes}
use Rattle.slate_state_calls.specs.declared.compactor.Compactor.{Compactor}
use Rattle.slate_state_calls.specs.declared.state_phase.StatePhase.{StatePhase}
use Rattle.slate_state_referenced.specs.Referenced.{referenced_goes}
use Rattle.slate_state_updates.specs.ManifestChanges.{commit_of}
use Rattle.slate_state_updates.specs.declared.manifest_change.ManifestChange.TheVariants.{DropExpired}
use Rattle.slate_store.specs.Machines.{Stay, End}
use Rattle.slate_store.specs.Store.{Store, effect, listed, object_at}
use Rattle.slate_store.specs.declared.list_dir.ListDir.{ListDir}
use Rattle.slate_store.specs.declared.mark.Mark.{Mark}
use Rattle.slate_store.specs.declared.mark.Mark.TheVariants.{Good, Fail, Lost}
use Rattle.slate_store.specs.declared.object.ObjectMetadata.{ObjectMetadata}
use Rattle.slate_store.specs.declared.store_answer.StoreAnswer.{StoreAnswer}
use Rattle.slate_store.specs.declared.store_answer.StoreAnswer.TheVariants.{Found, Written}
use Rattle.slate_store.specs.declared.store_call.StoreCall.TheVariants.{List as ListCall}
use Rattle.slate_txn_changes.specs.LogWorks.{WorkGoes, work_goes}
use Rattle.slate_txn_log.specs.Boundary.{greatest}
use Rattle.slate_txn_log.specs.LogPaths.{folder, version_path}
use Rattle.slate_txn_log.specs.ReadPhase.{read_goes}
use Rattle.slate_txn_log.specs.declared.log_kind.LogKind.TheVariants as logs
use Rattle.slate_txn_log.specs.declared.read_phase.ReadPhase.TheVariants as reading
use Rattle.slate_cluster_protocol.specs.Calls.{Next, Go, Finish}
use Rattle.slate_cluster_protocol.specs.Chains.{IsChain, top}
use Rattle.slate_cluster_protocol.specs.Holding.{Each}
use Rattle.slate_cluster_protocol.specs.Logs.{Author, Chains, manifests, pass_phrase, records}
use Rattle.slate_cluster_protocol.specs.Rows.{compactor_on, manifest_on, open_on, pass_on, put_on, record_on, state_on}
use Rattle.slate_cluster_protocol.specs.Spares.{least_top}
use Rattle.slate_cluster_protocol.specs.Works.{pass_ways}
use Rattle.slate_cluster_protocol.specs.World.{state_after}
use Rattle.slate_cluster_protocol.specs.declared.party.Facts.{Facts}
use Rattle.slate_cluster_protocol.specs.declared.uploads.Upload.{Upload}
use Rattle.slate_cluster_chain_laws.proofs.Links.{le_or_lt}
use Rattle.slate_cluster_laws.proofs.Facts.{Grows, IsSound}
use Rattle.slate_cluster_laws.proofs.Listed.{list_none, list_top}
use Rattle.slate_cluster_laws.proofs.Passes.{bounded_pass}
use Rattle.slate_cluster_laws.proofs.Referenced.{kept_referenced}
use Rattle.slate_cluster_laws.proofs.Steps.{PhraseBrings, PhraseKnows}
use Rattle.slate_cluster_laws.proofs.Stores.{IsTidy}
use Rattle.slate_cluster_table_laws.specs.Links.{EachValue}
use Rattle.slate_cluster_table_laws.proofs.EachLink.{each_at}
use Rattle.slate_cluster_table_laws.proofs.Marks.{IsMarked}
use Rattle.slate_cluster_spare_laws.proofs.Made.{Leaves}
use Rattle.slate_cluster_spare_laws.proofs.PassSteps.{GoesHas, IsOwnTable, delete_has, fetched_has, list_goes_has, manifest_has, own_found, record_has, removed_has}
use Rattle.slate_cluster_spare_laws.proofs.Picks.{begins}
use Rattle.slate_cluster_spare_laws.proofs.TablePass.{GcHas, HasListed, StateHas, WorkHas, gc_stays, listed_stays}

-- ---- a list

-- what a list finds, it finds in the store as it is
list_finds : (dir : ListDir) (s : Store) (mark : Mark) (moment : ℤ) (found : List ObjectMetadata) → (effect mark (ListCall dir) moment s).answer ≡ Found found → found ≡ listed dir s
list_finds dir s Good moment found is = cc (is)
list_finds dir s Fail moment found is = absurd (cc (is))
list_finds dir s Lost moment found is = absurd (cc (is))

-- the greatest manifest that a list gives is the greatest committed one
module _ (db : List ℕ) (named : is_db_path db ≡ true) (s : Store) (chains : Chains) (sound : IsSound manifests db s (chains logs.Manifest db)) (tidy : IsTidy s.objects) (zero : object_at (version_path logs.Manifest db 0) s ≡ None) where
  none_at : (a : ℕ) → a ≤ 0 → a ≡ 0
  none_at a h = omega (arith, h)

  pub list_gives : (n : ℕ) → greatest logs.Manifest (listed (folder logs.Manifest db) s) ≡ Some n → (0 < top (chains logs.Manifest db)) × (n ≡ top (chains logs.Manifest db))
  list_gives n is =
      ⊎_elim
      (λ (none : top (chains logs.Manifest db) ≤ 0). absurd (cc (list_none manifests db named s (chains logs.Manifest db) sound (none_at (top (chains logs.Manifest db)) none) zero tidy, is)))
      (λ (some : 0 < top (chains logs.Manifest db)). let most = list_top manifests db named s (chains logs.Manifest db) sound some tidy in (some, cc (most, is)))
      (le_or_lt (top (chains logs.Manifest db)) 0)

  pub list_has : (least : ℕ) → least ≤ least_top (chains logs.Compactions db) → (n : ℕ) → greatest logs.Manifest (listed (folder logs.Manifest db) s) ≡ Some n → HasListed chains db least n
  list_has least low n is =
      let gives = list_gives n is in
      let l = begins (chains logs.Manifest db) (chains logs.Compactions db) least sound.chain gives.0 low in
      record { link = l.0; number = l.1.0 ∙ sym gives.1; later = l.1.1 }

-- ---- a step of a pass over tables

module _ (db : List ℕ) (named : is_db_path db ≡ true) (n : ℕ) (s : Store) (chains : Chains) (s' : Store) (chains' : Chains) (own : List ℕ) (author : Author) (l : Leaves chains chains' own author) (mark : Mark) (moment : ℤ)
    (sound : IsSound manifests db s (chains logs.Manifest db)) (tidy : IsTidy s.objects) (zero : object_at (version_path logs.Manifest db 0) s ≡ None) (grows : Grows manifests db s (chains logs.Manifest db) s' (chains' logs.Manifest db))
    (chain : IsChain manifests (chains' logs.Manifest db)) (record_chain : IsChain records (chains' logs.Compactions db)) (marked : EachValue IsMarked (chains' logs.Manifest db)) (word : FilterWord) where
  -- what a step of a pass with these settings does
  abbrev Moves : PassSettings → GcPhase → Type 0
  Moves settings phase =
      PhraseKnows s chains n (pass_phrase db settings.pass phase) → PhraseBrings s' chains' n (pass_phrase db settings.pass phase) moment (effect mark (gc_asks db settings.pass phase) moment s).answer
      → GcHas chains db phase → GoesHas chains' db (gc_goes (pass_ways word) settings moment phase (effect mark (gc_asks db settings.pass phase) moment s).answer)

  module _ (options : GarbageCollectorDirectoryOptions) where
    abbrev its_settings : PassSettings
    its_settings = bounded_pass of.Compacted options

    abbrev answered : GcPhase → StoreAnswer
    answered phase = (effect mark (gc_asks db of.Compacted phase) moment s).answer

    tables_move : (phase : GcPhase) → Moves its_settings phase
    tables_move (Removing work) knows brings h = removed_has chains' db (work_goes logs.Manifest decoded_manifest (commit_of encoded DropExpired) moment work (answered (Removing work)))
    tables_move (Collecting at (passing.ReadingRecord phase)) knows brings h =
        record_has chains' db s' record_chain at (moment_of_pass at moment) (read_goes logs.Compactions decoded_record phase (answered (Collecting at (passing.ReadingRecord phase)))) brings
    tables_move (Collecting at (passing.ReadingManifest least reading.Listing)) knows brings h =
        manifest_has chains' db least s' at (moment_of_pass at moment) reading.Listing (answered (Collecting at (passing.ReadingManifest least reading.Listing)))
        (λ found same is k most.
        let there = list_finds (folder logs.Manifest db) s mark moment found is in
        listed_stays chains chains' own author l db least k
        (list_has db named s chains sound tidy zero least h k (subst (λ (ms : List ObjectMetadata). greatest logs.Manifest ms ≡ Some k) there most)))
        (gc_stays chains chains' own author l db (Collecting at (passing.ReadingManifest least reading.Listing)) h) brings
    tables_move (Collecting at (passing.ReadingManifest least (reading.Getting k))) knows brings h =
        manifest_has chains' db least s' at (moment_of_pass at moment) (reading.Getting k) (answered (Collecting at (passing.ReadingManifest least (reading.Getting k)))) (λ found same is j most. absurd (cc (same)))
        (gc_stays chains chains' own author l db (Collecting at (passing.ReadingManifest least (reading.Getting k))) h) brings
    tables_move (Collecting at (passing.ReadingManifest least (reading.Bounding k m))) knows brings h =
        manifest_has chains' db least s' at (moment_of_pass at moment) (reading.Bounding k m) (answered (Collecting at (passing.ReadingManifest least (reading.Bounding k m)))) (λ found same is j most. absurd (cc (same)))
        (gc_stays chains chains' own author l db (Collecting at (passing.ReadingManifest least (reading.Bounding k m))) h) brings
    tables_move (Collecting at (passing.ReadingManifest least reading.Over)) knows brings h = absurd knows
    tables_move (Collecting at (passing.Fetching heads phase)) knows brings h =
        fetched_has chains' db at (moment_of_pass at moment) heads (referenced_goes decoded_manifest phase (answered (Collecting at (passing.Fetching heads phase))))
        (gc_stays chains chains' own author l db (Collecting at (passing.Fetching heads phase)) h)
    tables_move (Collecting at (passing.Listing heads versions)) knows brings h =
        let has = gc_stays chains chains' own author l db (Collecting at (passing.Listing heads versions)) h in
        list_goes_has chains' db chain heads versions has (kept_referenced db s (chains logs.Manifest db) s' (chains' logs.Manifest db) grows heads.latest [] versions knows)
        (each_at IsMarked (chains' logs.Manifest db) marked has.listed.link.number has.listed.link has.listed.later.at) word options at (moment_of_pass at moment) (moment_of_pass at moment) (answered (Collecting at (passing.Listing heads versions)))
        (λ found is. subst (λ (ms : List ObjectMetadata). Each (IsOwnTable db) ms) (sym (list_finds (folder_of of.Compacted db) s mark moment found is)) (own_found db s.objects))
    tables_move (Collecting at (passing.Getting k count found)) knows brings h = absurd knows
    tables_move (Collecting at (passing.Bounding k count found)) knows brings h = absurd knows
    tables_move (Collecting at (passing.Advancing phase left counts)) knows brings h = absurd knows
    tables_move (Collecting at (passing.Deleting left counts)) knows brings h =
        delete_has chains' db at (moment_of_pass at moment) left counts (answered (Collecting at (passing.Deleting left counts))) (gc_stays chains chains' own author l db (Collecting at (passing.Deleting left counts)) h)
    tables_move (Collecting at passing.Over) knows brings h = absurd knows

  pub pass_moves : (settings : PassSettings) → settings ≡ bounded_pass settings.pass settings.options → settings.pass ≡ of.Compacted → (phase : GcPhase) → Moves settings phase
  pass_moves settings over tables phase =
      let is : settings ≡ bounded_pass of.Compacted settings.options = over ∙ ap (λ p. bounded_pass p settings.options) tables in
      subst (λ (x : PassSettings). Moves x phase) (sym is) (tables_move settings.options phase)

-- ---- a step of any call

-- how a call goes on
abbrev pub NextHas : Chains → Next → Type 0
NextHas chains (Go work) = WorkHas chains work
NextHas chains (Finish reply) = Unit {0}

pub settled_has : (chains : Chains) (call : Call) (next : Next) → NextHas chains next → StateHas chains (state_after call next)
settled_has chains call (Go work) h = h
settled_has chains call (Finish reply) h = tt

module _ (chains : Chains) (facts : Facts) (call : Call) (db : List ℕ) where
  pub manifest_next : (p : ManifestChanging) (g : WorkGoes Manifest) → NextHas chains (manifest_on facts call db p g).next
  manifest_next p (Stay work) = tt
  manifest_next p (End work (Ok end)) = tt
  manifest_next p (End work (Err e)) = tt

  pub record_next : (p : RecordChanging) (g : WorkGoes Record) → NextHas chains (record_on facts db p g).next
  record_next p (Stay work) = tt
  record_next p (End work (Ok end)) = tt
  record_next p (End work (Err e)) = tt

  pub put_next : (upload : Upload) (answer : StoreAnswer) → NextHas chains (put_on facts upload answer).next
  put_next upload (Written tag) = tt
  put_next upload _ = tt

  pub open_next : (g : OpenGoes) → NextHas chains (open_on facts db g).next
  open_next (Stay phase) = tt
  open_next (End phase (Ok compactor)) = tt
  open_next (End phase (Err e)) = tt

  state_next : (g : StateGoes) → NextHas chains (state_on facts db g).next
  state_next (Stay at) = tt
  state_next (End at (Ok u)) = tt
  state_next (End at (Err e)) = tt

  pub compactor_next : (now : ℤ) (phase : StatePhase) (answer : StoreAnswer) (o : Option Compactor) → NextHas chains (compactor_on facts db now phase answer o).next
  compactor_next now phase answer None = tt
  compactor_next now phase answer (Some c) = state_next (state_goes now (phase, c) answer)

  pub pass_next : (settings : PassSettings) (word : FilterWord) (g : GcGoes) → (settings.pass ≡ of.Compacted → GoesHas chains db g) → NextHas chains (pass_on facts db settings word g).next
  pass_next settings word (Stay phase) h = h
  pass_next settings word (End phase (Ok counts)) h = tt
  pass_next settings word (End phase (Err e)) h = tt
