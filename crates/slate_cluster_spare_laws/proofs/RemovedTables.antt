-- What passes remove, and are about to remove, is collected: each table of it is spare, at each moment of a run.
use Rattle.std.proofs.Common.{◌≡◌, ◌≢◌, ◌⊎◌, inl, inr, ℕ, ℤ, true, List, [], ◌∷◌, ◌++◌, Option, Some, None, refl, sym, ap, ◌∙◌, subst}
use Rattle.slate_ids.specs.Ids.{is_db_path}
use Rattle.slate_ids.specs.declared.error.SlateDBError.{SlateDBError}
use Rattle.slate_ids.specs.declared.gc_message.GcMessage.{GcMessage}
use Rattle.slate_ids.specs.declared.gc_message.GcMessage.TheVariants as of
use Rattle.slate_ids.specs.declared.object_path.ObjectPath.{ObjectPath}
use Rattle.slate_ids.specs.declared.object_path.ObjectPath.TheVariants as paths
use Rattle.slate_gc_passes.specs.GcPhase.{gc_goes}
use Rattle.slate_gc_passes.specs.declared.gc_phase.GcPhase.{GcPhase}
use Rattle.slate_gc_passes.specs.declared.gc_phase.GcPhase.TheVariants.{Removing, Collecting}
use Rattle.slate_gc_passes.specs.declared.pass_counts.PassCounts.{PassCounts}
use Rattle.slate_gc_passes.specs.declared.pass_phase.PassPhase.{PassPhase}
use Rattle.slate_gc_passes.specs.declared.pass_phase.PassPhase.TheVariants as passing
use Rattle.slate_gc_passes.specs.declared.pass_settings.PassSettings.{PassSettings}
use Rattle.slate_layout_manifests.specs.Decoding.{decoded_manifest}
use Rattle.slate_layout_records.specs.RecordBytes.{decoded_record}
use Rattle.slate_script_events.specs.declared.call.Call.{Call}
use Rattle.slate_script_events.specs.declared.call.Call.TheVariants.{Finish as FinishCall, Fail, Pass, Upload as UploadCall, OpenCompactor, Refresh, Schedule, WriteManifest, WriteRecord, WriteState, Claim, Report}
use Rattle.slate_script_events.specs.declared.db_spec.DbSpec.{DbSpec}
use Rattle.slate_script_events.specs.declared.event.Event.{Event}
use Rattle.slate_script_events.specs.declared.filter_word.FilterWord.{FilterWord}
use Rattle.slate_state_calls.specs.Commits.{manifest_put, record_put}
use Rattle.slate_state_calls.specs.Opening.{open_goes}
use Rattle.slate_state_calls.specs.declared.open_phase.OpenPhase.TheVariants as opening
use Rattle.slate_state_calls.specs.declared.state_phase.StatePhase.TheVariants as compacting
use Rattle.slate_store.specs.Store.{effect}
use Rattle.slate_store.specs.declared.mark.Mark.{Mark}
use Rattle.slate_store.specs.declared.object.ObjectMetadata.{ObjectMetadata}
use Rattle.slate_store.specs.declared.store_answer.StoreAnswer.{StoreAnswer}
use Rattle.slate_txn_changes.specs.LogWorks.{work_goes}
use Rattle.slate_txn_changes.specs.declared.log_work.LogWork.{LogWork}
use Rattle.slate_txn_changes.specs.declared.log_work.LogWork.TheVariants.{Reading, Committing}
use Rattle.slate_txn_log.specs.declared.log_kind.LogKind.{LogKind}
use Rattle.slate_txn_log.specs.declared.log_kind.LogKind.TheVariants as logs
use Rattle.slate_cluster_protocol.specs.ByRows.{party_in}
use Rattle.slate_cluster_protocol.specs.Calls.{has_call, refusal_at_start}
use Rattle.slate_cluster_protocol.specs.Holding.{Each, Fits, IsOfLog, due_in}
use Rattle.slate_cluster_protocol.specs.Lawful.{AreGood, IsAccepted, chains_at_end, course_after, gone_after, world_at_end}
use Rattle.slate_cluster_protocol.specs.Logs.{Chains, Collects, Held, Phrase, Puts, OfManifest, change_phrase, manifest_puts, phrase_of, record_puts}
use Rattle.slate_cluster_protocol.specs.Owners.{owner_of}
use Rattle.slate_cluster_protocol.specs.Rows.{begin, begin_unless, first_next, moved}
use Rattle.slate_cluster_protocol.specs.Runs.{opening}
use Rattle.slate_cluster_protocol.specs.Safe.{EachPath, IsCollected, removed_by}
use Rattle.slate_cluster_protocol.specs.Safe.IsCollected.{OfLog, OfTables}
use Rattle.slate_cluster_protocol.specs.Spares.{IsSpareTable}
use Rattle.slate_cluster_protocol.specs.Works.{asks, pass_ways}
use Rattle.slate_cluster_protocol.specs.World.{HasDb, World, party_of, settled}
use Rattle.slate_cluster_protocol.specs.declared.party.Facts.{Facts}
use Rattle.slate_cluster_protocol.specs.declared.party.Party.{Party}
use Rattle.slate_cluster_protocol.specs.declared.party.State.{State}
use Rattle.slate_cluster_protocol.specs.declared.party.State.TheVariants.{Busy}
use Rattle.slate_cluster_protocol.specs.declared.party.Task.{Task}
use Rattle.slate_cluster_protocol.specs.declared.work.Work.{Work}
use Rattle.slate_cluster_protocol.specs.declared.work.Work.TheVariants as works
use Rattle.slate_state_updates.specs.declared.manifest_change.ManifestChange.TheVariants.{DropExpired}
use Rattle.slate_cluster_laws.proofs.Along.{All, Does, Kept, LeadsTo, Moment, StepBrings, Turn, all_in_run, along_good, along_run, in_call, its_chains, its_world, moment_stepped, opening_moment, standing_after, step_brings}
use Rattle.slate_cluster_laws.proofs.Along.Does.{Comes, Starts, Carries, Steps, Stops, Idles}
use Rattle.slate_cluster_laws.proofs.Along.LeadsTo.{Begins, Goes}
use Rattle.slate_cluster_laws.proofs.AfterEvents.{after_inv}
use Rattle.slate_cluster_laws.proofs.Calls.{WorkKnows, over_logs_or_tables}
use Rattle.slate_cluster_laws.proofs.GoingOn.{run_world}
use Rattle.slate_cluster_laws.proofs.OpenedEpochs.{epochs_stand}
use Rattle.slate_cluster_laws.proofs.Opening.{no_zero}
use Rattle.slate_cluster_laws.proofs.Paths.{version_owner}
use Rattle.slate_cluster_laws.proofs.Removals.{good_run}
use Rattle.slate_cluster_laws.proofs.Runs.{Inv, StateKnows}
use Rattle.slate_cluster_laws.proofs.Safety.{Deletes, delete_gone, each_both, each_path, event_removes, version_stays}
use Rattle.slate_cluster_laws.proofs.Steps.{CollectKnows, PhraseBrings, PhraseKnows, author_in, db_in, work_db}
use Rattle.slate_cluster_laws.proofs.Zeros.{NoZero}
use Rattle.slate_cluster_compactor_laws.proofs.EachMoment as compactors
use Rattle.slate_cluster_compactor_laws.proofs.Laws.{holds_pending}
use Rattle.slate_cluster_compactor_laws.proofs.Openings as compactor_openings
use Rattle.slate_cluster_compactor_laws.proofs.Wholes.{WholeHas}
use Rattle.slate_cluster_table_laws.specs.Links.{EachValue}
use Rattle.slate_cluster_table_laws.proofs.Marks.{IsMarked}
use Rattle.slate_cluster_table_laws.proofs.Moments as tables
use Rattle.slate_cluster_spare_laws.specs.SpareObjects.{IsSpareObject}
use Rattle.slate_cluster_spare_laws.proofs.Made.{Leaves, leaves}
use Rattle.slate_cluster_spare_laws.proofs.PassMoves.{NextHas, compactor_next, manifest_next, open_next, pass_moves, pass_next, put_next, record_next, settled_has}
use Rattle.slate_cluster_spare_laws.proofs.Stays.{step_stays}
use Rattle.slate_cluster_spare_laws.proofs.TablePass.{StateHas, TableHas, WorkHas, state_stays}

-- ---- how a call begins

module _ (chains : Chains) (facts : Facts) where
  first_has : (call : Call) → NextHas chains (first_next facts call)
  first_has (UploadCall table first last) = tt
  first_has (Pass pass min_age dry_run filter) = λ is. tt
  first_has OpenCompactor = tt
  first_has Refresh = tt
  first_has (Schedule id) = tt
  first_has (WriteManifest checkpoint) = tt
  first_has WriteRecord = tt
  first_has (WriteState checkpoint) = tt
  first_has (FinishCall id) = tt
  first_has (Fail id) = tt
  first_has (Claim id) = tt
  first_has (Report id reported) = tt
  first_has _ = tt

  unless_has : (o : Option SlateDBError) (call : Call) → NextHas chains (begin_unless o facts call)
  unless_has (Some e) call = tt
  unless_has None call = first_has call

  begin_has : (call : Call) → StateHas chains (settled call (begin facts call)).state
  begin_has call = settled_has chains call (begin facts call).next (unless_has (refusal_at_start facts call) call)

-- ---- a pass that collects

-- it is over a log, or over tables; and what it knows then
abbrev CollectsHas : Chains → Phrase → Type 0
CollectsHas chains (Collects db pass phase) = (IsOfLog pass ⊎ (pass ≡ of.Compacted)) × (pass ≡ of.Compacted → TableHas chains db phase)
CollectsHas chains _ = Unit {0}

change_collects : (chains : Chains) (k : LogKind) (db : List ℕ) (puts : Puts) (work : LogWork (Held k)) → CollectsHas chains (change_phrase k db puts work)
change_collects chains k db puts (Reading phase) = tt
change_collects chains k db puts (Committing now phase) = tt

work_collects : (chains : Chains) (facts : Facts) (call : Call) (work : Work) → has_call facts.kind call ≡ true → Fits facts call work → WorkHas chains work → CollectsHas chains (phrase_of work)
work_collects chains facts call (works.Manifests db p) asked fits h = change_collects chains logs.Manifest db (manifest_puts p.change) p.work
work_collects chains facts call (works.Records db p) asked fits h = change_collects chains logs.Compactions db (record_puts p.change) p.work
work_collects chains facts call (works.PutTable db upload bytes) asked fits h = tt
work_collects chains facts call (works.Pass db settings filter (Removing work)) asked fits h = change_collects chains logs.Manifest db (OfManifest DropExpired) work
work_collects chains facts call (works.Pass db settings filter (Collecting at phase)) asked fits h =
    by_phase phase (over_logs_or_tables facts.kind settings.pass settings.options.min_age settings.options.dry_run filter (subst (λ (c : Call). has_call facts.kind c ≡ true) fits asked)) h
  where
    by_phase : (phase : PassPhase) → IsOfLog settings.pass ⊎ (settings.pass ≡ of.Compacted) → (settings.pass ≡ of.Compacted → TableHas chains db phase) → CollectsHas chains (phrase_of (works.Pass db settings filter (Collecting at phase)))
    by_phase (passing.ReadingRecord p) over h = tt
    by_phase (passing.ReadingManifest least p) over h = tt
    by_phase (passing.Fetching heads p) over h = tt
    by_phase (passing.Listing heads versions) over h = (over, h)
    by_phase (passing.Getting n listed found) over h = (over, h)
    by_phase (passing.Bounding n listed candidates) over h = (over, h)
    by_phase (passing.Advancing p left counts) over h = (over, h)
    by_phase (passing.Deleting left counts) over h = (over, h)
    by_phase passing.Over over h = (over, h)
work_collects chains facts call (works.Opening db (opening.Raising p)) asked fits h = change_collects chains logs.Manifest db (manifest_puts p.change) p.work
work_collects chains facts call (works.Opening db (opening.OnRecord step m p)) asked fits h = change_collects chains logs.Compactions db (record_puts p.change) p.work
work_collects chains facts call (works.Opening db opening.Over) asked fits h = tt
work_collects chains facts call (works.Compacting db (compacting.OnRecord step p)) asked fits h = change_collects chains logs.Compactions db (record_puts p.change) p.work
work_collects chains facts call (works.Compacting db (compacting.OnManifest step p)) asked fits h = change_collects chains logs.Manifest db (manifest_puts p.change) p.work
work_collects chains facts call (works.Compacting db compacting.Over) asked fits h = tt

-- ---- each moment

module _ (specs : List DbSpec) (accepted : IsAccepted specs) where
  -- what holds of the whole at a moment: it is one of the run, and what was removed is collected
  record WholeAt (m : Moment) : Type 0 where
    pub leads : LeadsTo (opening_moment specs) m
    pub zero : NoZero m.world
    pub collected : EachPath (IsCollected m.world m.chains) m.removed

  -- and of a party
  abbrev PartyAt : Moment → ℕ → Party → Type 0
  PartyAt m n p = StateHas m.chains p.state

  -- each watermark is at most its floor
  marked_at : (m : Moment) → LeadsTo (opening_moment specs) m → (db : List ℕ) → HasDb m.world db → EachValue IsMarked (m.chains logs.Manifest db)
  marked_at m to db has = (all_in_run tables.WholeAt tables.PartyAt tables.each_kept specs accepted (tables.opening_whole specs accepted) m to).whole.marks db has

  -- what a step leaves of the chains of its database
  step_leaves : (m : Moment) → LeadsTo (opening_moment specs) m → Inv m.world m.chains → (n : ℕ) (moment : ℤ) (mark : Mark) (facts : Facts) (task : Task) → party_of n m.world.parties ≡ Some (in_call facts task)
      → Leaves m.chains (moment_stepped m n facts task moment mark).chains facts.db (author_in n (phrase_of task.work))
  step_leaves m to i n moment mark facts task at =
      let p = in_call facts task in
      let stand = epochs_stand m.world m.chains i n p at in
      let has = (all_in_run WholeHas compactors.PartyAt compactors.each_kept specs accepted (compactor_openings.opening_whole specs accepted) m to).each n p at in
      leaves m n moment mark facts task i at (holds_pending m.world.store m.chains n p (i.parties n p at).knows has stand) stand

  -- ---- what a step of a call brings to its party

  module _ (m : Moment) (to : LeadsTo (opening_moment specs) m) (i : Inv m.world m.chains) (zero : NoZero m.world) (n : ℕ) (moment : ℤ) (mark : Mark) (facts : Facts) (task : Task) (at : party_of n m.world.parties ≡ Some (in_call facts task))
      (marked : EachValue IsMarked ((moment_stepped m n facts task moment mark).chains logs.Manifest facts.db)) where
    abbrev next : Moment
    next = moment_stepped m n facts task moment mark

    brought : StepBrings m n facts task moment mark
    brought = step_brings m n facts task moment mark i at

    named : is_db_path facts.db ≡ true
    named = i.named facts.db brought.has

    abbrev answered : Work → StoreAnswer
    answered work = (effect mark (asks work) moment m.world.store).answer

    pass_stays : (settings : PassSettings) (word : FilterWord) (phase : GcPhase) → WorkKnows m.world.store m.chains n facts task.call (works.Pass facts.db settings word phase) → WorkHas m.chains (works.Pass facts.db settings word phase)
        → PhraseBrings next.world.store next.chains n (phrase_of (works.Pass facts.db settings word phase)) moment (answered (works.Pass facts.db settings word phase)) → NextHas next.chains (moved facts task.call (works.Pass facts.db settings word phase) moment (answered (works.Pass facts.db settings word phase))).next
    pass_stays settings word phase knows h brings =
        let log = brought.log logs.Manifest facts.db named in
        let record_log = brought.log logs.Compactions facts.db named in
        let own = i.logs logs.Manifest facts.db named in
        pass_next next.chains facts task.call facts.db settings word (gc_goes (pass_ways word) settings moment phase (answered (works.Pass facts.db settings word phase)))
        (λ is.
        pass_moves facts.db named n m.world.store m.chains next.world.store next.chains facts.db (author_in n (phrase_of task.work)) (step_leaves m to i n moment mark facts task at) mark moment own i.tidy
        (zero logs.Manifest facts.db brought.has) log.grows log.sound.chain record_log.sound.chain marked word settings knows.over.1 is phase knows.knows brings (h is))

    work_goes_on : (work : Work) → WorkKnows m.world.store m.chains n facts task.call work → WorkHas m.chains work → PhraseBrings next.world.store next.chains n (phrase_of work) moment (answered work) → NextHas next.chains (moved facts task.call work moment (answered work)).next
    work_goes_on (works.Manifests db p) knows h brings = manifest_next next.chains facts task.call db p (work_goes logs.Manifest decoded_manifest (manifest_put p.change) moment p.work (answered (works.Manifests db p)))
    work_goes_on (works.Records db p) knows h brings = record_next next.chains facts task.call db p (work_goes logs.Compactions decoded_record (record_put p.change) moment p.work (answered (works.Records db p)))
    work_goes_on (works.PutTable db upload bytes) knows h brings = put_next next.chains facts task.call db upload (answered (works.PutTable db upload bytes))
    work_goes_on (works.Opening db phase) knows h brings = open_next next.chains facts task.call db (open_goes moment phase (answered (works.Opening db phase)))
    work_goes_on (works.Compacting db phase) knows h brings = compactor_next next.chains facts task.call db moment phase (answered (works.Compacting db phase)) facts.compactor
    work_goes_on (works.Pass db settings word phase) knows h brings =
        subst (λ (d : List ℕ). WorkKnows m.world.store m.chains n facts task.call (works.Pass d settings word phase) → WorkHas m.chains (works.Pass d settings word phase)
        → PhraseBrings next.world.store next.chains n (phrase_of (works.Pass d settings word phase)) moment (answered (works.Pass d settings word phase)) → NextHas next.chains (moved facts task.call (works.Pass d settings word phase) moment (answered (works.Pass d settings word phase))).next)
        (sym knows.own) (pass_stays settings word phase) knows h brings

    stepped : WorkHas m.chains task.work → StateHas next.chains (settled task.call (standing_after m.world facts task moment mark)).state
    stepped h = settled_has next.chains task.call (standing_after m.world facts task moment mark).next (work_goes_on task.work brought.knows h brought.brings)

  -- ---- each event

  -- a spare table stays so
  spare_stays : (m : Moment) (e : Event) (q : Party) (m' : Moment) → Does m e q m' → Turn m e m' → LeadsTo (opening_moment specs) m → (db : List ℕ) (id : ℕ × ℕ) → IsSpareTable m.chains db id → IsSpareTable m'.chains db id
  spare_stays m e q m' (Steps n moment mark facts task at) t to db id h = step_stays db id m.chains m'.chains facts.db (author_in n (phrase_of task.work)) (step_leaves m to t.inv n moment mark facts task at) h
  spare_stays m e q m' (Comes n kind d tally none found) t to db id h = h
  spare_stays m e q m' (Starts n call facts at may) t to db id h = h
  spare_stays m e q m' (Carries n call p at may) t to db id h = h
  spare_stays m e q m' (Stops n p at) t to db id h = h
  spare_stays m e q m' (Idles _ p at) t to db id h = h

  module _ (m : Moment) (e : Event) (m' : Moment) (t : Turn m e m') (stays : (db : List ℕ) (id : ℕ × ℕ) → IsSpareTable m.chains db id → IsSpareTable m'.chains db id) where
    collected_stays : (path : ObjectPath) → IsCollected m.world m.chains path → IsCollected m'.world m'.chains path
    collected_stays path (OfLog h) = OfLog (version_stays m.world m.chains m'.world m'.chains t.grows path h)
    collected_stays path (OfTables h) = OfTables (record { db = h.db; id = h.id; is = h.is; has = t.grows.same h.db ∙ h.has; spare = stays h.db h.id h.spare })

    -- what a pass deletes
    deletes_collected : (db : List ℕ) (pass : GcMessage) (first : ObjectMetadata) (left : List ObjectMetadata) (counts : PassCounts) → HasDb m.world db → CollectKnows m.world.store m.chains db pass (passing.Deleting (first ∷ left) counts)
        → IsOfLog pass ⊎ (pass ≡ of.Compacted) → (pass ≡ of.Compacted → TableHas m.chains db (passing.Deleting (first ∷ left) counts)) → IsCollected m'.world m'.chains first.location
    deletes_collected db of.Manifest first left counts has knows over h = OfLog (delete_gone m.world m.chains m'.world m'.chains t.grows logs.Manifest db first has knows.0)
    deletes_collected db of.Compactions first left counts has knows over h = OfLog (delete_gone m.world m.chains m'.world m'.chains t.grows logs.Compactions db first has knows.0)
    deletes_collected db of.Compacted first left counts has knows over h =
        let one = (h refl).0 in
        OfTables (record { db = db; id = one.id; is = one.is; has = t.grows.same db ∙ has; spare = stays db one.id one.spare })
    deletes_collected db _ first left counts has knows (inl log) h = absurd (cc (log))
    deletes_collected db _ first left counts has knows (inr tables_pass) h = absurd (cc (tables_pass))

    event_collected : All WholeAt PartyAt m → EachPath (IsCollected m'.world m'.chains) (removed_by t.done.entry m.world.store)
    event_collected all = event_removes m.world (IsCollected m'.world m'.chains) deleted e t.done t.is
      where
        deleted : (n : ℕ) (facts : Facts) (task : Task) → party_of n m.world.parties ≡ Some (record { facts = facts; state = Busy task }) → (path : ObjectPath) → Deletes (phrase_of task.work) path → IsCollected m'.world m'.chains path
        deleted n facts task at path del =
            let known = t.inv.parties n (record { facts = facts; state = Busy task }) at in
            let knows = subst (λ (ph : Phrase). PhraseKnows m.world.store m.chains n ph) del.is known.knows.knows in
            let own : facts.db ≡ del.db = sym known.knows.own ∙ (sym (work_db task.work) ∙ ap db_in del.is) in
            let collects = subst (CollectsHas m.chains) del.is (work_collects m.chains facts task.call task.work known.knows.asked known.knows.fits (all.each n (record { facts = facts; state = Busy task }) at)) in
            subst (IsCollected m'.world m'.chains) (sym del.same) (deletes_collected del.db del.pass del.first del.left del.counts (subst (λ d. HasDb m.world d) own known.has) knows collects.0 collects.1)

  whole_kept : (m : Moment) (e : Event) (q : Party) (m' : Moment) → Does m e q m' → Turn m e m' → All WholeAt PartyAt m → WholeAt m'
  whole_kept m e q m' d t h =
      let stays = spare_stays m e q m' d t h.whole.leads in
      record {
        leads = subst (LeadsTo (opening_moment specs)) (sym t.to) (Goes m e t.done h.whole.leads t.is);
        zero = t.grows.zero h.whole.zero;
        collected = subst (λ (paths : List ObjectPath). EachPath (IsCollected m'.world m'.chains) paths) (sym (ap (λ (x : Moment). x.removed) t.to))
            (each_both (IsCollected m'.world m'.chains) m.removed (removed_by t.done.entry m.world.store)
            (each_path (IsCollected m.world m.chains) (IsCollected m'.world m'.chains) (collected_stays m e m' t stays) m.removed h.whole.collected)
            (event_collected m e m' t stays h));
      }

  own_kept : (m : Moment) (e : Event) (q : Party) (m' : Moment) → Does m e q m' → Turn m e m' → All WholeAt PartyAt m → WholeAt m' → PartyAt m' (party_in e) q
  own_kept m e q m' (Comes n kind db tally none found) t h whole = tt
  own_kept m e q m' (Starts n call facts at may) t h whole = begin_has m.chains facts call
  own_kept m e q m' (Carries n call p at may) t h whole = h.each n p at
  own_kept m e q m' (Stops n p at) t h whole = tt
  own_kept m e q m' (Idles _ p at) t h whole = h.each (party_in e) p at
  own_kept m e q m' (Steps n moment mark facts task at) t h whole =
      let has = (step_brings m n facts task moment mark t.inv at).has in
      stepped m h.whole.leads t.inv h.whole.zero n moment mark facts task at (marked_at m' whole.leads facts.db (t.grows.same facts.db ∙ has)) (h.each n (in_call facts task) at)

  others_kept : (m : Moment) (e : Event) (q : Party) (m' : Moment) → Does m e q m' → Turn m e m' → All WholeAt PartyAt m → WholeAt m' → (k : ℕ) → k ≢ party_in e → (p : Party) → party_of k m.world.parties ≡ Some p → PartyAt m k p → PartyAt m' k p
  others_kept m e q m' (Steps n moment mark facts task at) t h whole k ne p is own = state_stays m.chains m'.chains facts.db (author_in n (phrase_of task.work)) (step_leaves m h.whole.leads t.inv n moment mark facts task at) p.state own
  others_kept m e q m' (Comes n kind db tally none found) t h whole k ne p is own = own
  others_kept m e q m' (Starts n call facts at may) t h whole k ne p is own = own
  others_kept m e q m' (Carries n call r at may) t h whole k ne p is own = own
  others_kept m e q m' (Stops n r at) t h whole k ne p is own = own
  others_kept m e q m' (Idles _ r at) t h whole k ne p is own = own

  kept : Kept WholeAt PartyAt
  kept = record { whole = whole_kept; own = own_kept; others = others_kept }

  opens_so : WholeAt (opening_moment specs)
  opens_so = record { leads = Begins; zero = no_zero specs accepted; collected = tt }

  -- ---- at the end of a run

  module _ (events : List Event) where
    -- all that was removed is collected
    pub course_collected : AreGood specs events → EachPath (IsCollected (course_after specs events).world (chains_at_end specs events)) (gone_after specs events)
    course_collected good =
        subst (λ (w : World). EachPath (IsCollected w (chains_at_end specs events)) (gone_after specs events)) (sym (run_world events 0 (opening specs) (course_after specs events) (good_run specs events good)))
        (along_good WholeAt PartyAt kept specs events accepted good opens_so).whole.collected

    its_state : (n : ℕ) (p : Party) → party_of n (world_at_end specs events).parties ≡ Some p → StateHas (chains_at_end specs events) p.state
    its_state n p at =
        let first = opening_moment specs in
        let all = along_run WholeAt PartyAt kept specs events accepted opens_so in
        subst (λ (c : Chains). StateHas c p.state) (its_chains events first) (all.each n p (subst (λ (w : World). party_of n w.parties ≡ Some p) (sym (its_world events first)) at))

    one_of : (P : ObjectPath → Type 0) (front : List ObjectPath) (path : ObjectPath) (back : List ObjectPath) → EachPath P (front ++ path ∷ back) → P path
    one_of P [] path back h = h.0
    one_of P (x ∷ front) path back h = one_of P front path back h.1

    table_spare : (w : World) (chains : Chains) (db : List ℕ) (id : ℕ × ℕ) → IsCollected w chains (paths.Table db id) → IsSpareTable chains db id
    table_spare w chains db id (OfLog h) = absurd (cc (ap owner_of h.is ∙ version_owner h.log h.db h.number))
    table_spare w chains db id (OfTables h) =
        let same : paths.Table db id ≡ paths.Table h.db h.id = h.is in
        let same_db : db ≡ h.db = cc (same) in
        let same_id : id ≡ h.id = cc (same) in
        subst (λ (d : List ℕ). IsSpareTable chains d id) (sym same_db) (subst (λ (t : ℕ × ℕ). IsSpareTable chains h.db t) (sym same_id) h.spare)

    -- a table that was removed is spare
    pub removed_spare : (front back : List ObjectPath) (db : List ℕ) (id : ℕ × ℕ) → AreGood specs events → gone_after specs events ≡ front ++ paths.Table db id ∷ back → IsSpareTable (chains_at_end specs events) db id
    removed_spare front back db id good gone =
        let w = (course_after specs events).world in
        let chains = chains_at_end specs events in
        table_spare w chains db id
        (one_of (IsCollected w chains) front (paths.Table db id) back (subst (λ (ps : List ObjectPath). EachPath (IsCollected w chains) ps) gone (course_collected good)))

    due_of : (db : List ℕ) (phase : PassPhase) → TableHas (chains_at_end specs events) db phase → Each (IsSpareObject (chains_at_end specs events) db) (due_in phase)
    due_of db (passing.Deleting left counts) h = h
    due_of db _ h = tt

    -- and so is one that is due
    pub due_spare : (n : ℕ) (p : Party) (task : Task) (db : List ℕ) (phase : PassPhase) → party_of n (world_at_end specs events).parties ≡ Some p → p.state ≡ Busy task → phrase_of task.work ≡ Collects db of.Compacted phase
        → Each (IsSpareObject (chains_at_end specs events) db) (due_in phase)
    due_spare n p task db phase at is phrase =
        let w = world_at_end specs events in
        let chains = chains_at_end specs events in
        let known = subst (λ (s : State). StateKnows w.store chains n p.facts s) is ((after_inv specs events accepted).parties n p at).knows in
        let has = subst (StateHas chains) is (its_state n p at) in
        due_of db phase ((subst (CollectsHas chains) phrase (work_collects chains p.facts task.call task.work known.asked known.fits has)).1 refl)
