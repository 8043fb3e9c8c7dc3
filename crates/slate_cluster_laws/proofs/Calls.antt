-- What a call knows of its work, and what a step of it brings.
use Rattle.std.proofs.Common.{◌≡◌, ◌⊎◌, inl, inr, ℕ, ℤ, Bool, true, false, List, [], ◌∷◌, Option, Some, None, Ok, Err, refl, sym, subst}
use Rattle.slate_txn_changes.specs.LogWorks.{WorkGoes, work_goes}
use Rattle.slate_txn_changes.specs.declared.log_work.LogEnd.{LogEnd}
use Rattle.slate_txn_changes.specs.declared.log_work.LogEnd.TheVariants.{Absent, Unchanged, Committed}
use Rattle.slate_state_compactor.specs.Local.{finished, failed}
use Rattle.slate_state_compactor.specs.declared.local_state.LocalState.{LocalState}
use Rattle.slate_state_calls.specs.Commits.{ManifestChanging, RecordChanging, manifest_put, record_put}
use Rattle.slate_state_calls.specs.Opening.{OpenGoes, open_goes}
use Rattle.slate_state_calls.specs.StateSteps.{StateGoes, state_goes}
use Rattle.slate_state_calls.specs.declared.compactor.Compactor.{Compactor}
use Rattle.slate_state_calls.specs.declared.state_phase.StatePhase.{StatePhase}
use Rattle.slate_state_calls.specs.declared.state_start.StateStart.{StateStart}
use Rattle.slate_state_calls.specs.declared.state_start.StateStart.TheVariants as starts
use Rattle.slate_script_events.specs.declared.call.Call.{Call}
use Rattle.slate_script_events.specs.declared.call.Call.TheVariants.{OpenWriter, Upload as UploadCall, OpenCompactor, Refresh, Schedule, Finish as FinishCall, Fail, WriteManifest, WriteRecord, WriteState, Claim, Report, Pass}
use Rattle.slate_script_events.specs.declared.filter_word.FilterWord.{FilterWord}
use Rattle.slate_script_events.specs.declared.party_kind.PartyKind.{PartyKind}
use Rattle.slate_script_events.specs.declared.party_kind.PartyKind.TheVariants.{Writer, Compactor as CompactorKind, Worker, Holder, Collector}
use Rattle.slate_ids.specs.Ulids.{is_id}
use Rattle.slate_ids.specs.declared.error.SlateDBError.{SlateDBError}
use Rattle.slate_ids.specs.declared.gc_message.GcMessage.{GcMessage}
use Rattle.slate_ids.specs.declared.gc_message.GcMessage.TheVariants as of
use Rattle.slate_layout.specs.Codec.{encoded}
use Rattle.slate_txn_log.specs.ReadPhase.{Reply, read_goes}
use Rattle.slate_txn_log.specs.declared.log_kind.LogKind.{LogKind}
use Rattle.slate_txn_log.specs.declared.log_kind.LogKind.TheVariants as logs
use Rattle.slate_layout_manifests.specs.Decoding.{decoded_manifest}
use Rattle.slate_model.specs.declared.manifest.Manifest.{Manifest}
use Rattle.slate_gc_passes.specs.GcPhase.{GcGoes, collect_on, collects, gc_goes, moment_of_pass, removed_goes}
use Rattle.slate_gc_passes.specs.Candidates.{heads_at}
use Rattle.slate_gc_passes.specs.Pass.{PassGoes, fetched_goes, first_phase, manifest_goes, pass_goes, record_goes}
use Rattle.slate_gc_passes.specs.declared.directory_options.GarbageCollectorDirectoryOptions.{GarbageCollectorDirectoryOptions}
use Rattle.slate_gc_passes.specs.declared.heads.Heads.{Heads}
use Rattle.slate_gc_passes.specs.declared.pass_phase.PassPhase.{PassPhase}
use Rattle.slate_gc_passes.specs.declared.pass_phase.PassPhase.TheVariants as passing
use Rattle.slate_gc_passes.specs.declared.gc_phase.GcPhase.{GcPhase}
use Rattle.slate_gc_passes.specs.declared.gc_phase.GcPhase.TheVariants.{Removing, Collecting}
use Rattle.slate_gc_passes.specs.declared.pass_settings.PassSettings.{PassSettings}
use Rattle.slate_layout_records.specs.RecordBytes.{decoded_record}
use Rattle.slate_model_records.specs.Records.{Record}
use Rattle.slate_store.specs.Machines.{Stay, End}
use Rattle.slate_store.specs.Store.{Store}
use Rattle.slate_store.specs.declared.store_answer.StoreAnswer.{StoreAnswer}
use Rattle.slate_store.specs.declared.store_answer.StoreAnswer.TheVariants.{Written}
use Rattle.slate_state_referenced.specs.Named.{named_numbers}
use Rattle.slate_state_referenced.specs.Referenced.{ReferencedGoes, referenced_goes, rest_goes}
use Rattle.slate_state_updates.specs.ManifestChanges.{commit_of}
use Rattle.slate_state_updates.specs.declared.manifest_change.ManifestChange.TheVariants.{DropExpired}
use Rattle.slate_cluster_protocol.specs.Calls.{end_of, facts_after, facts_at_start, facts_with, has_call, local_in, refusal_at_start, state_phase, unless_open, with_held, Next, Go, Finish}
use Rattle.slate_cluster_protocol.specs.Chains.{link_at}
use Rattle.slate_cluster_protocol.specs.Holding.{Fits, FitsState, IsOfLog, collects_here}
use Rattle.slate_cluster_protocol.specs.Logs.{Chains, OfManifest, log_of, manifests, records, collect_phrase, pass_phrase, phrase_of}
use Rattle.slate_cluster_protocol.specs.Referenced.{IsReferenced}
use Rattle.slate_cluster_protocol.specs.Rows.{Standing, begin, begin_unless, compactor_on, first_next, manifest_on, moved, open_on, pass_on, put_on, record_on, state_on}
use Rattle.slate_cluster_protocol.specs.Works.{db_of, pass_ways}
use Rattle.slate_cluster_protocol.specs.declared.party.Facts.{Facts}
use Rattle.slate_cluster_protocol.specs.declared.uploads.Upload.{Upload}
use Rattle.slate_cluster_protocol.specs.declared.work.Work.{Work}
use Rattle.slate_cluster_protocol.specs.declared.work.Work.TheVariants as works
use Rattle.slate_cluster_laws.proofs.Changing.{ChangeBrings, ManifestBrings, RecordBrings, change_brings, manifest_brings, manifest_makes, record_brings}
use Rattle.slate_cluster_laws.proofs.Facts.{IsSound, ReadBrings}
use Rattle.slate_cluster_laws.proofs.FactsKept.{SameParty, moved_same, starts_same}
use Rattle.slate_cluster_laws.proofs.Opens.{Given, OpenBrings, OpenKnows, Raised, kept_given, kept_open, kept_raised, open_brings}
use Rattle.slate_cluster_laws.proofs.Passes.{bounded_pass}
use Rattle.slate_cluster_laws.proofs.Referenced.{FetchBrings, referenced_begins}
use Rattle.slate_cluster_laws.proofs.StateCalls.{BeginsAs, StateBrings, state_begins, state_brings}
use Rattle.slate_cluster_laws.proofs.Steps.{ByPass, CollectKnows, CollectBrings, PhraseKnows, PhraseBrings}

-- ---- what is known

-- a pass isn't the detaching one, and keeps boundaries
abbrev pub IsOver : Work → Type 0
IsOver (works.Pass db settings filter phase) = (collects_here settings.pass ≡ true) × (settings ≡ bounded_pass settings.pass settings.options)
IsOver _ = Unit {0}

-- an open knows of the epoch that it raised
abbrev pub WorkHolds : Chains → Work → Type 0
WorkHolds chains (works.Opening db phase) = OpenKnows chains db phase
WorkHolds chains _ = Unit {0}

-- the epoch of a compactor was committed to both logs
abbrev pub Holds : Chains → List ℕ → Option Compactor → Type 0
Holds chains db None = Unit {0}
Holds chains db (Some compactor) = Raised chains db compactor.epoch × Given chains db compactor.epoch

-- what a party knows in its work: it is at the party's database, its kind has the call, and it puts what the facts and the call say
pub record WorkKnows (s : Store) (chains : Chains) (n : ℕ) (facts : Facts) (call : Call) (work : Work) : Type 0 where
  pub own : db_of work ≡ facts.db
  pub over : IsOver work
  pub asked : has_call facts.kind call ≡ true
  pub fits : Fits facts call work
  pub holds : WorkHolds chains work
  pub knows : PhraseKnows s chains n (phrase_of work)

-- where a call stands: in work that it knows, or at its end
abbrev pub NextKnows : Store → Chains → ℕ → Facts → Call → Next → Type 0
NextKnows s chains n facts call (Go work) = WorkKnows s chains n facts call work
NextKnows s chains n facts call (Finish reply) = Unit {0}

-- of a call of a party that had these facts
pub record Reaches (s : Store) (chains : Chains) (n : ℕ) (old : Facts) (call : Call) (standing : Standing) : Type 0 where
  pub same : SameParty old standing.facts
  pub holds : Holds chains standing.facts.db standing.facts.compactor
  pub next : NextKnows s chains n standing.facts call standing.next

-- ---- chains that keep their versions keep it

module _ (chains chains' : Chains) (db : List ℕ) (kept : (k : LogKind) (n : ℕ) (l : _) → link_at n (chains k db) ≡ Some l → link_at n (chains' k db) ≡ Some l) where
  pub kept_holds : (o : Option Compactor) → Holds chains db o → Holds chains' db o
  kept_holds None h = tt
  kept_holds (Some compactor) h =
      (kept_raised chains chains' db (kept logs.Manifest) (kept logs.Compactions) compactor.epoch h.0, kept_given chains chains' db (kept logs.Manifest) (kept logs.Compactions) compactor.epoch h.1)

pub kept_work : (chains chains' : Chains) (work : Work) → ((k : LogKind) (n : ℕ) (l : _) → link_at n (chains k (db_of work)) ≡ Some l → link_at n (chains' k (db_of work)) ≡ Some l) → WorkHolds chains work → WorkHolds chains' work
kept_work chains chains' (works.Opening db phase) kept h = kept_open chains chains' db (kept logs.Manifest) (kept logs.Compactions) phase h
kept_work chains chains' _ kept h = tt

-- ---- a step

-- how a pass begins
first_knows : (s : Store) (chains : Chains) (n : ℕ) (db : List ℕ) (pass : GcMessage) → collects_here pass ≡ true → PhraseKnows s chains n (collect_phrase db pass (first_phase pass))
first_knows s chains n db of.Manifest h = tt
first_knows s chains n db of.Compactions h = tt
first_knows s chains n db of.Compacted h = tt
first_knows s chains n db of.Wal h = tt
first_knows s chains n db of.WalFence h = tt
first_knows s chains n db of.Detach h = absurd cc

-- once all that it reads before its list was read, it lists
lists_knows : (s : Store) (chains : Chains) (db : List ℕ) (pass : GcMessage) (heads : Heads) (versions : List (ℕ × Manifest)) → collects_here pass ≡ true → IsReferenced (chains logs.Manifest db) heads.latest [] versions
    → CollectKnows s chains db pass (passing.Listing heads versions)
lists_knows s chains db of.Manifest heads versions over h = tt
lists_knows s chains db of.Compactions heads versions over h = tt
lists_knows s chains db of.Compacted heads versions over h = h
lists_knows s chains db of.Wal heads versions over h = h
lists_knows s chains db of.WalFence heads versions over h = h
lists_knows s chains db of.Detach heads versions over h = absurd cc

-- from its list on it reads by no phrase of a read
none_of : (pass : GcMessage) (OfManifests OfRecords OfNone : Type 0) → (OfManifests → ⊥) → (OfRecords → ⊥) → (OfNone → ⊥) → ByPass pass OfManifests OfRecords OfNone → ⊥
none_of of.Manifest OfManifests OfRecords OfNone f g e h = f h
none_of of.Compactions OfManifests OfRecords OfNone f g e h = g h
none_of of.Compacted OfManifests OfRecords OfNone f g e h = e h
none_of of.Wal OfManifests OfRecords OfNone f g e h = e h
none_of of.WalFence OfManifests OfRecords OfNone f g e h = e h
none_of of.Detach OfManifests OfRecords OfNone f g e h = h

collects_knows : (s : Store) (chains : Chains) (n : ℕ) (db : List ℕ) (pass : GcMessage) (phase : PassPhase) → CollectKnows s chains db pass phase → PhraseKnows s chains n (collect_phrase db pass phase)
collects_knows s chains n db pass (passing.ReadingRecord phase) h = absurd (none_of pass ⊥ ⊥ ⊥ (λ x. x) (λ x. x) (λ x. x) h)
collects_knows s chains n db pass (passing.ReadingManifest least phase) h = absurd (none_of pass ⊥ ⊥ ⊥ (λ x. x) (λ x. x) (λ x. x) h)
collects_knows s chains n db pass (passing.Fetching heads phase) h = absurd (none_of pass ⊥ ⊥ ⊥ (λ x. x) (λ x. x) (λ x. x) h)
collects_knows s chains n db pass (passing.Listing heads versions) h = h
collects_knows s chains n db pass (passing.Getting m listed found) h = h
collects_knows s chains n db pass (passing.Bounding m listed candidates) h = h
collects_knows s chains n db pass (passing.Advancing phase left counts) h = h
collects_knows s chains n db pass (passing.Deleting left counts) h = h
collects_knows s chains n db pass passing.Over h = h

module _ (s : Store) (chains : Chains) (n : ℕ) (call : Call) (facts : Facts) (asked : has_call facts.kind call ≡ true) (holds : Holds chains facts.db facts.compactor) where
  -- how a call goes on with the facts as they are, or to its end with facts that hold as much
  abbrev Stands : Standing → Type 0
  Stands standing = Holds chains standing.facts.db standing.facts.compactor × NextKnows s chains n standing.facts call standing.next

  module _ (db : List ℕ) (own : db ≡ facts.db) (sound : (k : LogKind) → IsSound (log_of k) db s (chains k db)) where
    -- at the party's database
    here : (o : Option Compactor) → Holds chains db o → Holds chains facts.db o
    here o h = subst (λ d. Holds chains d o) own h

    with_holds : (by : Call) (m : Manifest) → Holds chains (facts_with by m facts).db (facts_with by m facts).compactor
    with_holds OpenWriter m = holds
    with_holds _ m = holds

    after_holds : (end : LogEnd Manifest) → Holds chains (facts_after call end facts).db (facts_after call end facts).compactor
    after_holds Absent = holds
    after_holds (Unchanged k m) = holds
    after_holds (Committed k m) = with_holds call m

    manifest_stands : (p : ManifestChanging) → Fits facts call (works.Manifests db p) → (g : WorkGoes Manifest) → ManifestBrings db s chains n p.change g → Stands (manifest_on facts call db p g)
    manifest_stands p fits (Stay work) b = (holds, record { own = own; over = tt; asked = asked; fits = fits; holds = tt; knows = b })
    manifest_stands p fits (End work (Ok end)) b = (after_holds end, tt)
    manifest_stands p fits (End work (Err e)) b = (holds, tt)

    record_stands : (p : RecordChanging) → Fits facts call (works.Records db p) → (g : WorkGoes Record) → RecordBrings db s chains n p.change g → Stands (record_on facts db p g)
    record_stands p fits (Stay work) b = (holds, record { own = own; over = tt; asked = asked; fits = fits; holds = tt; knows = b })
    record_stands p fits (End work (Ok end)) b = (holds, tt)
    record_stands p fits (End work (Err e)) b = (holds, tt)

    put_stands : (upload : Upload) (answer : StoreAnswer) → Stands (put_on facts upload answer)
    put_stands upload (Written tag) = (holds, tt)
    put_stands upload _ = (holds, tt)

    -- ---- a whole pass

    module _ (settings : PassSettings) (filter : FilterWord) (over : (collects_here settings.pass ≡ true) × (settings ≡ bounded_pass settings.pass settings.options)) (fits : (phase : GcPhase) → Fits facts call (works.Pass db settings filter phase)) where
      abbrev GcBrings : GcGoes → Type 0
      GcBrings (Stay phase) = PhraseKnows s chains n (pass_phrase db settings.pass phase)
      GcBrings (End phase r) = Unit {0}

      pass_stands : (g : GcGoes) → GcBrings g → Stands (pass_on facts db settings filter g)
      pass_stands (Stay phase) b = (holds, record { own = own; over = over; asked = asked; fits = fits phase; holds = tt; knows = b })
      pass_stands (End phase (Ok counts)) b = (holds, tt)
      pass_stands (End phase (Err e)) b = (holds, tt)

      abbrev Collected : PassGoes → Type 0
      Collected g = CollectBrings s chains db settings.pass g

      begins : GcBrings (collects settings.pass)
      begins = first_knows s chains n db settings.pass over.0

      -- after a step of the removal of expired checkpoints
      removed_brings : (g : WorkGoes Manifest) → ChangeBrings logs.Manifest db s chains n (OfManifest DropExpired) (commit_of encoded DropExpired) g → GcBrings (removed_goes settings.pass g)
      removed_brings (Stay work) b = b
      removed_brings (End work (Ok Absent)) b = tt
      removed_brings (End work (Ok (Unchanged k m))) b = begins
      removed_brings (End work (Ok (Committed k m))) b = begins
      removed_brings (End work (Err e)) b = tt

      collect_brings : (at : Option ℤ) (now : ℤ) (g : PassGoes) → Collected g → GcBrings (collect_on at now g)
      collect_brings at now (Stay phase) b = collects_knows s chains n db settings.pass phase (stays settings.pass phase b)
        where
          stays : (pass : GcMessage) (phase : PassPhase) → CollectBrings s chains db pass (Stay phase) → CollectKnows s chains db pass phase
          stays pass phase b = b
      collect_brings at now (End phase r) b = tt

      -- after a step of the read of the record
      record_read_brings : (at : Option ℤ) (now : ℤ) (g : Reply Record) → ReadBrings records db s (chains logs.Compactions db) g → GcBrings (collect_on at now (record_goes g))
      record_read_brings at now (Stay phase) b = b
      record_read_brings at now (End phase (Ok None)) b = tt
      record_read_brings at now (End phase (Ok (Some version))) b = tt
      record_read_brings at now (End phase (Err e)) b = tt

      -- of the read of the latest manifest
      names_bring : (at : Option ℤ) (now : ℤ) (heads : Heads) (left : List ℕ) (found : List (ℕ × Manifest)) → IsReferenced (chains logs.Manifest db) heads.latest left found → GcBrings (collect_on at now (fetched_goes heads (rest_goes left found)))
      names_bring at now heads [] found b = lists_knows s chains db settings.pass heads found over.0 b
      names_bring at now heads (k ∷ left) found b = b

      manifest_read_brings : (at : Option ℤ) (now : ℤ) (least : ℕ) (g : Reply Manifest) → ReadBrings manifests db s (chains logs.Manifest db) g → GcBrings (collect_on at now (manifest_goes least g))
      manifest_read_brings at now least (Stay phase) b = b
      manifest_read_brings at now least (End phase (Ok None)) b = tt
      manifest_read_brings at now least (End phase (Ok (Some version))) b =
          names_bring at now (heads_at least version.0 version.1) (named_numbers version.0 version.1.core.checkpoints) ((version.0, version.1) ∷ [])
          (referenced_begins db s (chains logs.Manifest db) (sound logs.Manifest) version.0 version.1 b)
      manifest_read_brings at now least (End phase (Err e)) b = tt

      -- and of the reading of the versions that it names
      fetched_brings : (at : Option ℤ) (now : ℤ) (heads : Heads) (g : ReferencedGoes) → FetchBrings (chains logs.Manifest db) heads.latest g → GcBrings (collect_on at now (fetched_goes heads g))
      fetched_brings at now heads (Stay phase) b = b
      fetched_brings at now heads (End phase (Ok versions)) b = lists_knows s chains db settings.pass heads versions over.0 b
      fetched_brings at now heads (End phase (Err e)) b = tt

      -- from the list on
      listed_brings : (at : Option ℤ) (now : ℤ) (phase : PassPhase) (answer : StoreAnswer)
          → ((options : GarbageCollectorDirectoryOptions) (word : FilterWord) (moment : ℤ) → Collected (pass_goes (pass_ways word) (bounded_pass settings.pass options) moment phase answer))
          → GcBrings (gc_goes (pass_ways filter) settings now (Collecting at phase) answer)
      listed_brings at now phase answer b =
          let moment = moment_of_pass at now in
          collect_brings at moment (pass_goes (pass_ways filter) settings moment phase answer)
          (subst (λ (x : PassSettings). Collected (pass_goes (pass_ways filter) x moment phase answer)) (sym over.1) (b settings.options filter moment))

      gc_brings : (phase : GcPhase) (now : ℤ) (answer : StoreAnswer) → PhraseBrings s chains n (pass_phrase db settings.pass phase) now answer → GcBrings (gc_goes (pass_ways filter) settings now phase answer)
      gc_brings (Removing work) now answer b =
          removed_brings (work_goes logs.Manifest decoded_manifest (commit_of encoded DropExpired) now work answer)
          (change_brings logs.Manifest db s chains n (OfManifest DropExpired) (commit_of encoded DropExpired) (sound logs.Manifest) (manifest_makes n (Some DropExpired)) now work answer b)
      gc_brings (Collecting at (passing.ReadingRecord phase)) now answer b = record_read_brings at (moment_of_pass at now) (read_goes logs.Compactions decoded_record phase answer) b
      gc_brings (Collecting at (passing.ReadingManifest least phase)) now answer b = manifest_read_brings at (moment_of_pass at now) least (read_goes logs.Manifest decoded_manifest phase answer) b
      gc_brings (Collecting at (passing.Fetching heads phase)) now answer b = fetched_brings at (moment_of_pass at now) heads (referenced_goes decoded_manifest phase answer) b
      gc_brings (Collecting at (passing.Listing heads versions)) now answer b = listed_brings at now (passing.Listing heads versions) answer b
      gc_brings (Collecting at (passing.Getting m listed found)) now answer b = listed_brings at now (passing.Getting m listed found) answer b
      gc_brings (Collecting at (passing.Bounding m listed candidates)) now answer b = listed_brings at now (passing.Bounding m listed candidates) answer b
      gc_brings (Collecting at (passing.Advancing phase left counts)) now answer b = listed_brings at now (passing.Advancing phase left counts) answer b
      gc_brings (Collecting at (passing.Deleting left counts)) now answer b = listed_brings at now (passing.Deleting left counts) answer b
      gc_brings (Collecting at passing.Over) now answer b = listed_brings at now passing.Over answer b

    -- ---- the calls of a compactor

    open_stands : (g : OpenGoes) → OpenBrings db s chains n g → Stands (open_on facts db g)
    open_stands (Stay phase) b = (holds, record { own = own; over = tt; asked = asked; fits = b.1.0; holds = b.1.1; knows = b.0 })
    open_stands (End phase (Ok compactor)) b = (here (Some compactor) b, tt)
    open_stands (End phase (Err e)) b = (holds, tt)

    -- what is held of a compactor is known by its epoch
    same_holds : (c new : Compactor) → new.epoch ≡ c.epoch → Holds chains facts.db (Some c) → Holds chains facts.db (Some new)
    same_holds c new same h = subst (λ e. Raised chains facts.db e × Given chains facts.db e) (sym same) h

    state_stands : (c : Compactor) → Holds chains facts.db (Some c) → (g : StateGoes) → StateBrings db s chains n call c g → Stands (state_on facts db g)
    state_stands c h (Stay at) b = (same_holds c at.1 b.0 h, record { own = own; over = tt; asked = asked; fits = b.1.1; holds = tt; knows = b.1.0 })
    state_stands c h (End at (Ok u)) b = (same_holds c at.1 b h, tt)
    state_stands c h (End at (Err e)) b = (same_holds c at.1 b h, tt)

    compactor_stands : (phase : StatePhase) (o : Option Compactor) → Holds chains facts.db o → FitsState call phase o → (now : ℤ) (answer : StoreAnswer) → PhraseBrings s chains n (phrase_of (works.Compacting db phase)) now answer
        → Stands (compactor_on facts db now phase answer o)
    compactor_stands phase None h fits now answer b = (holds, tt)
    compactor_stands phase (Some c) h fits now answer b =
        state_stands c h (state_goes now (phase, c) answer) (state_brings db s chains n call (sound logs.Manifest) (sound logs.Compactions) now phase c answer fits b)

  work_stands : (work : Work) → db_of work ≡ facts.db → ((k : LogKind) → IsSound (log_of k) (db_of work) s (chains k (db_of work))) → IsOver work → Fits facts call work → WorkHolds chains work → (now : ℤ) (answer : StoreAnswer)
      → PhraseBrings s chains n (phrase_of work) now answer → Stands (moved facts call work now answer)
  work_stands (works.Manifests db p) own sound over fits h now answer b =
      manifest_stands db own sound p fits (work_goes logs.Manifest decoded_manifest (manifest_put p.change) now p.work answer) (manifest_brings db s chains n (sound logs.Manifest) p now answer b)
  work_stands (works.Records db p) own sound over fits h now answer b =
      record_stands db own sound p fits (work_goes logs.Compactions decoded_record (record_put p.change) now p.work answer) (record_brings db s chains n (sound logs.Compactions) p now answer b)
  work_stands (works.PutTable db upload bytes) own sound over fits h now answer b = put_stands db own sound upload answer
  work_stands (works.Pass db settings filter phase) own sound over fits h now answer b =
      pass_stands db own sound settings filter over (λ at. fits) (gc_goes (pass_ways filter) settings now phase answer) (gc_brings db own sound settings filter over (λ at. fits) phase now answer b)
  work_stands (works.Opening db phase) own sound over fits h now answer b =
      open_stands db own sound (open_goes now phase answer) (open_brings db s chains n (sound logs.Manifest) (sound logs.Compactions) now phase answer fits h b)
  work_stands (works.Compacting db phase) own sound over fits h now answer b = compactor_stands db own sound phase facts.compactor holds fits now answer b

  -- how the call goes on after a step of its work
  pub moved_reaches : (work : Work) → db_of work ≡ facts.db → ((k : LogKind) → IsSound (log_of k) (db_of work) s (chains k (db_of work))) → IsOver work → Fits facts call work → WorkHolds chains work → (now : ℤ) (answer : StoreAnswer)
      → PhraseBrings s chains n (phrase_of work) now answer → Reaches s chains n facts call (moved facts call work now answer)
  moved_reaches work own sound over fits h now answer b =
      let stands = work_stands work own sound over fits h now answer b in
      record { same = moved_same facts call work now answer; holds = stands.0; next = stands.1 }

-- ---- a start

-- a table that a party may upload has the numbers of an id
upload_is_id : (kind : PartyKind) (table : ℕ × ℕ) (first last : List ℕ) → has_call kind (UploadCall table first last) ≡ true → is_id table ≡ true
upload_is_id Writer table first last h = h
upload_is_id Worker table first last h = h
upload_is_id _ table first last h = absurd cc

-- a pass that a party may start is one over a log or over tables, so far
pub over_logs_or_tables : (kind : PartyKind) (pass : GcMessage) (min_age : ℕ) (dry_run : Bool) (filter : FilterWord) → has_call kind (Pass pass min_age dry_run filter) ≡ true → IsOfLog pass ⊎ (pass ≡ of.Compacted)
over_logs_or_tables Collector of.Manifest min_age dry_run filter h = inl refl
over_logs_or_tables Collector of.Compactions min_age dry_run filter h = inl refl
over_logs_or_tables Collector of.Compacted min_age dry_run filter h = inr refl
over_logs_or_tables Writer pass min_age dry_run filter h = absurd cc
over_logs_or_tables CompactorKind pass min_age dry_run filter h = absurd cc
over_logs_or_tables Worker pass min_age dry_run filter h = absurd cc
over_logs_or_tables Holder pass min_age dry_run filter h = absurd cc
over_logs_or_tables Collector _ min_age dry_run filter h = absurd cc

-- and none that detaches
over_here : (kind : PartyKind) (pass : GcMessage) (min_age : ℕ) (dry_run : Bool) (filter : FilterWord) → has_call kind (Pass pass min_age dry_run filter) ≡ true → collects_here pass ≡ true
over_here Collector of.Detach min_age dry_run filter h = absurd cc
over_here Writer pass min_age dry_run filter h = absurd cc
over_here CompactorKind pass min_age dry_run filter h = absurd cc
over_here Worker pass min_age dry_run filter h = absurd cc
over_here Holder pass min_age dry_run filter h = absurd cc
over_here Collector _ min_age dry_run filter h = refl

module _ (s : Store) (chains : Chains) (n : ℕ) (facts : Facts) where
  -- a call of a compactor on its state begins with the compactor that is held
  state_first : (call : Call) → has_call facts.kind call ≡ true → (start : StateStart) → unless_open facts.compactor ≡ None → BeginsAs facts.db s chains n call start → WorkKnows s chains n facts call (works.Compacting facts.db (state_phase start facts.compactor))
  state_first call may start opened is =
      let k = state_begins facts.db s chains n call start is facts.compactor opened in
      record { own = refl; over = tt; asked = may; fits = k.1; holds = tt; knows = k.0 }

  -- how a call begins that the party has, once it isn't refused
  first_reached : (call : Call) → has_call facts.kind call ≡ true → refusal_at_start facts call ≡ None → NextKnows s chains n (facts_at_start facts call) call (first_next facts call)
  first_reached (UploadCall table first last) may go = record {
    own = refl;
    over = tt;
    asked = may;
    fits = record { first = first; last = last; is = refl; info = refl };
    holds = tt;
    knows = upload_is_id facts.kind table first last may;
  }
  first_reached (Pass pass min_age dry_run filter) may go = record {
    own = refl;
    over = (over_here facts.kind pass min_age dry_run filter may, refl);
    asked = may;
    fits = refl;
    holds = tt;
    knows = tt;
  }
  first_reached OpenCompactor may go = record { own = refl; over = tt; asked = may; fits = refl; holds = tt; knows = tt }
  first_reached Refresh may opened = state_first Refresh may starts.Refresh opened tt
  first_reached (Schedule id) may opened = state_first (Schedule id) may (starts.Schedule id) opened refl
  first_reached (WriteManifest checkpoint) may opened = state_first (WriteManifest checkpoint) may (starts.WriteTrees (record { checkpoint = checkpoint; whole = false })) opened refl
  first_reached WriteRecord may opened = state_first WriteRecord may starts.WriteRecord opened refl
  first_reached (WriteState checkpoint) may opened = state_first (WriteState checkpoint) may (starts.WriteTrees (record { checkpoint = checkpoint; whole = true })) opened refl
  first_reached (FinishCall id) may go = tt
  first_reached (Fail id) may go = tt
  first_reached (Claim id) may go = record { own = refl; over = tt; asked = may; fits = refl; holds = tt; knows = tt }
  first_reached (Report id tables) may go = record { own = refl; over = tt; asked = may; fits = refl; holds = tt; knows = tt }
  first_reached _ may go = record { own = refl; over = tt; asked = may; fits = refl; holds = tt; knows = tt }

  local_holds : (local : LocalState) (o : Option Compactor) → Holds chains facts.db o → Holds chains facts.db (local_in local o)
  local_holds local None h = tt
  local_holds local (Some c) h = h

  held_holds : (o : Option LocalState) → Holds chains facts.db facts.compactor → Holds chains (with_held o facts).db (with_held o facts).compactor
  held_holds None h = h
  held_holds (Some local) h = local_holds local facts.compactor h

  starts_hold : (call : Call) → Holds chains facts.db facts.compactor → Holds chains (facts_at_start facts call).db (facts_at_start facts call).compactor
  starts_hold (FinishCall id) h = held_holds (end_of (finished id) facts.compactor) h
  starts_hold (Fail id) h = held_holds (end_of (failed id) facts.compactor) h
  starts_hold _ h = h

  pub begin_reaches : (call : Call) → has_call facts.kind call ≡ true → Holds chains facts.db facts.compactor → Reaches s chains n facts call (begin facts call)
  begin_reaches call may h = record { same = starts_same facts call; holds = starts_hold call h; next = unless (refusal_at_start facts call) refl }
    where
      unless : (o : Option SlateDBError) → refusal_at_start facts call ≡ o → NextKnows s chains n (facts_at_start facts call) call (begin_unless o facts call)
      unless (Some e) is = tt
      unless None is = first_reached call may is
