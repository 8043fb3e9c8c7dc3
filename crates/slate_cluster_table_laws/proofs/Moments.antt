-- At each moment of a run: watermarks are at most floors, and what uploads, records, manifests and compactors name was put.
use Rattle.std.proofs.Common.{◌≡◌, ◌≢◌, ℕ, ℤ, true, false, List, Option, Some, inl, inr, ⊎_elim, sym, ap, ◌∙◌, subst}
use Rattle.slate_ids.specs.Ids.{is_db_path}
use Rattle.slate_ids.specs.declared.object_path.ObjectPath.TheVariants as paths
use Rattle.slate_model.specs.declared.manifest.Manifest.{Manifest}
use Rattle.slate_model_records.specs.Records.{Record}
use Rattle.slate_state_calls.specs.declared.compactor.Compactor.{Compactor}
use Rattle.slate_store.specs.Store.{effect, stands_at}
use Rattle.slate_store.specs.declared.mark.Mark.{Mark}
use Rattle.slate_store.specs.declared.store_answer.StoreAnswer.{StoreAnswer}
use Rattle.slate_store.specs.declared.store_answer.StoreAnswer.TheVariants.{Written}
use Rattle.slate_txn_log.specs.declared.log_kind.LogKind.{LogKind}
use Rattle.slate_txn_log.specs.declared.log_kind.LogKind.TheVariants as logs
use Rattle.slate_script_events.specs.declared.call.Call.{Call}
use Rattle.slate_script_events.specs.declared.db_spec.DbSpec.{DbSpec}
use Rattle.slate_script_events.specs.declared.event.Event.{Event}
use Rattle.slate_cluster_protocol.specs.ByRows.{party_in}
use Rattle.slate_cluster_protocol.specs.Calls.{facts_at_start, is_unknown}
use Rattle.slate_cluster_protocol.specs.Chains.{Link, Follows}
use Rattle.slate_cluster_chain_laws.proofs.TableSteps.{none_attaches}
use Rattle.slate_model_tables.specs.declared.ss_table_id.SsTableId.{SsTableId}
use Rattle.slate_cluster_protocol.specs.Lawful.{IsAccepted, AreGood, chains_at_end, world_at_end}
use Rattle.slate_cluster_protocol.specs.Logs.{Author, Chain, Chains, change_by, manifests, phrase_of, records}
use Rattle.slate_cluster_protocol.specs.Rows.{Standing, begin}
use Rattle.slate_cluster_protocol.specs.Works.{asks, db_of}
use Rattle.slate_cluster_protocol.specs.World.{HasDb, World, party_of, settled, state_after, wrote}
use Rattle.slate_cluster_protocol.specs.declared.party.Facts.{Facts}
use Rattle.slate_cluster_protocol.specs.declared.party.Party.{Party}
use Rattle.slate_cluster_protocol.specs.declared.party.Task.{Task}
use Rattle.slate_cluster_protocol.specs.declared.uploads.Upload.{Upload}
use Rattle.slate_cluster_protocol.specs.declared.work.Work.{Work}
use Rattle.slate_cluster_protocol.specs.declared.work.Work.TheVariants as works
use Rattle.slate_cluster_laws.proofs.Along.{All, Does, Kept, Moment, StepBrings, Turn, along_good, along_run, at_rest, end_moment, in_call, its_chains, its_world, moment_stepped, opening_moment, standing_after, step_brings}
use Rattle.slate_cluster_laws.proofs.Along.Does.{Comes, Starts, Carries, Steps, Stops, Idles}
use Rattle.slate_cluster_laws.proofs.Runs.{Inv, other_chain}
use Rattle.slate_cluster_laws.proofs.Steps.{author_in, work_db}
use Rattle.slate_cluster_laws.proofs.Stores.{same_name}
use Rattle.slate_cluster_table_laws.specs.Links.{EachValue}
use Rattle.slate_cluster_table_laws.specs.Presence.{EachOutput, UploadsPut, WasPut}
use Rattle.slate_cluster_table_laws.proofs.EachLink.{each_next, each_weaker}
use Rattle.slate_cluster_table_laws.proofs.HeldOutputs.{HeldHas, held_weaker, moved_has, start_has}
use Rattle.slate_cluster_table_laws.proofs.Marks.{IsMarked, next_marked, none_begins}
use Rattle.slate_cluster_table_laws.proofs.Merges.{MayBring, may_bring}
use Rattle.slate_cluster_table_laws.proofs.Moving.{Leaves, known_more, moved_left, work_brings, work_tables}
use Rattle.slate_cluster_table_laws.proofs.Moving.Leaves.{Same, More}
use Rattle.slate_cluster_table_laws.proofs.NewViews.{EachNew, PutsTables, puts_new}
use Rattle.slate_cluster_table_laws.proofs.OpeningObjects.{OwnAre, opening_marked, opening_own, opening_there}
use Rattle.slate_cluster_table_laws.proofs.OwnTables.{OldOr, old_new, own_put}
use Rattle.slate_cluster_table_laws.proofs.Outputs.{PutsBring, first_has, next_own, outputs_weaker}
use Rattle.slate_cluster_table_laws.proofs.Stand.{put_stays, written_stands}
use Rattle.slate_cluster_table_laws.proofs.Starting.{Named, NamedIn, Uploads, named_after, start_named, start_same}

-- a table was put up to a moment
abbrev pub PutAt : Moment → List ℕ → ℕ × ℕ → Type 0
PutAt m db id = WasPut m.removed m.world.store db id

-- the outputs of a record were
abbrev pub OutputsAt : Moment → List ℕ → Record → Type 0
OutputsAt m db r = EachOutput (PutAt m db) r.entries

-- the own tables of a manifest were
abbrev pub TablesAt : Moment → List ℕ → Manifest → Type 0
TablesAt m db v = OwnAre (PutAt m db) v

-- of the whole
pub record WholeAt (m : Moment) : Type 0 where
  pub marks : (db : List ℕ) → HasDb m.world db → EachValue IsMarked (m.chains logs.Manifest db)
  pub outputs : (db : List ℕ) → HasDb m.world db → EachValue (OutputsAt m db) (m.chains logs.Compactions db)
  pub tables : (db : List ℕ) → HasDb m.world db → EachValue (TablesAt m db) (m.chains logs.Manifest db)

-- of a party
pub record PartyAt (m : Moment) (n : ℕ) (p : Party) : Type 0 where
  pub uploads : UploadsPut m.removed m.world.store p.facts
  pub held : HeldHas (PutAt m p.facts.db) p.facts.compactor
  pub named : NamedIn p.facts.uploads p.state

-- what was put stays so
abbrev Stays : Moment → Moment → Type 0
Stays m m' = (db : List ℕ) (id : ℕ × ℕ) → PutAt m db id → PutAt m' db id

outputs_stay : (m m' : Moment) → Stays m m' → (db : List ℕ) (c : Chain logs.Compactions) → EachValue (OutputsAt m db) c → EachValue (OutputsAt m' db) c
outputs_stay m m' stays db c h = each_weaker (OutputsAt m db) (OutputsAt m' db) (λ r own. outputs_weaker (PutAt m db) (PutAt m' db) (λ id put. stays db id put) r.entries own) c h

tables_stay : (m m' : Moment) → Stays m m' → (db : List ℕ) (c : Chain logs.Manifest) → EachValue (TablesAt m db) c → EachValue (TablesAt m' db) c
tables_stay m m' stays db c h = each_weaker (TablesAt m db) (TablesAt m' db) (λ v own id has. stays db id (own id has)) c h

held_stay : (m m' : Moment) → Stays m m' → (db : List ℕ) (o : Option Compactor) → HeldHas (PutAt m db) o → HeldHas (PutAt m' db) o
held_stay m m' stays db o h = held_weaker (PutAt m db) (PutAt m' db) (λ id put. stays db id put) o h

-- ---- a step

module _ (m : Moment) (n : ℕ) (moment : ℤ) (mark : Mark) (facts : Facts) (task : Task) (i : Inv m.world m.chains) (at : party_of n m.world.parties ≡ Some (in_call facts task)) where
  abbrev next : Moment
  next = moment_stepped m n facts task moment mark

  abbrev author : Author
  author = author_in n (phrase_of task.work)

  brought : StepBrings m n facts task moment mark
  brought = step_brings m n facts task moment mark i at

  step_stays : Stays m next
  step_stays db id h = put_stays m.removed mark (asks task.work) moment m.world.store db id h

  -- a step leaves the chains of other databases
  pub away : (k : LogKind) (d : List ℕ) → d ≢ facts.db → next.chains k d ≡ m.chains k d
  away k d ne = other_chain (wrote m.world.store next.world.store) n (phrase_of task.work) m.chains k d (λ log db. ne (db ∙ (work_db task.work ∙ brought.knows.own)))

  stepped_marked : (db : List ℕ) → is_db_path db ≡ true → EachValue IsMarked (m.chains logs.Manifest db) → EachValue IsMarked (next.chains logs.Manifest db)
  stepped_marked db is h =
      let log = brought.log logs.Manifest db is in
      each_next manifests IsMarked author (λ l by first. none_begins IsMarked author l by first) (λ old new f same own. next_marked old new f own) (m.chains logs.Manifest db) (next.chains logs.Manifest db) log.changed log.sound.chain h

  module _ (own : PartyAt m n (in_call facts task)) where
    brings : PutsBring (PutAt next facts.db) author.puts
    brings = work_brings (PutAt next facts.db) n facts (λ id known. step_stays facts.db id (own.uploads id known)) task.call task.work brought.knows.fits own.named

    stepped_outputs : (db : List ℕ) → is_db_path db ≡ true → EachValue (OutputsAt m db) (m.chains logs.Compactions db) → EachValue (OutputsAt next db) (next.chains logs.Compactions db)
    stepped_outputs db is h =
        let stay = outputs_stay m next step_stays db (m.chains logs.Compactions db) h in
        ⊎_elim
        (λ (same : db ≡ facts.db).
        let log = brought.log logs.Compactions db is in
        let puts = subst (λ (d : List ℕ). PutsBring (PutAt next d) author.puts) (sym same) brings in
        each_next records (OutputsAt next db) author (λ l by first. first_has (PutAt next db) author l by first)
        (λ old new f by has. next_own (PutAt next db) old new f (subst (λ (a : Author). PutsBring (PutAt next db) a.puts) (sym by) puts) has) (m.chains logs.Compactions db) (next.chains logs.Compactions db) log.changed log.sound.chain stay)
        (λ (ne : db ≢ facts.db). subst (EachValue (OutputsAt next db)) (sym (away logs.Compactions db ne)) stay)
        (same_name db facts.db)

    -- what it may bring by its right
    own_brings : MayBring (PutAt next facts.db) author.puts
    own_brings = may_bring (PutAt next facts.db) n facts (held_stay m next step_stays facts.db facts.compactor own.held) task.call task.work brought.knows.fits

    next_tables : (old new : Link Manifest Author) → (f : Follows manifests old new) → f.author ≡ author → TablesAt next facts.db old.value → TablesAt next facts.db new.value
    next_tables old new f its before =
        let P : ℕ × ℕ → Type 0 = PutAt next facts.db in
        let Q : SsTableId → Type 0 = OldOr P old.value.core in
        let puts = work_tables Q n facts (λ id known. inr (step_stays facts.db id (own.uploads id known))) task.call task.work brought.knows.fits own.named in
        let news = puts_new Q f.author.puts f.author.now old.number old.value f.made f.makes (subst (λ (a : Author). PutsTables Q a.puts) (sym its) puts) (old_new P old.value.core) in
        own_put P old.number old.value new.value (manifests.right f.author) f.lawful (none_attaches (change_by f.author.puts)) (subst (λ (v : Manifest). EachNew Q v.core) (sym f.value) news) before
        (subst (λ (a : Author). MayBring P a.puts) (sym its) own_brings)

    stepped_tables : (db : List ℕ) → is_db_path db ≡ true → EachValue (TablesAt m db) (m.chains logs.Manifest db) → EachValue (TablesAt next db) (next.chains logs.Manifest db)
    stepped_tables db is h =
        let stay = tables_stay m next step_stays db (m.chains logs.Manifest db) h in
        ⊎_elim
        (λ (same : db ≡ facts.db).
        let here = subst (λ (d : List ℕ). EachValue (TablesAt next d) (m.chains logs.Manifest d)) same stay in
        let log = brought.log logs.Manifest facts.db (subst (λ (d : List ℕ). is_db_path d ≡ true) same is) in
        subst (λ (d : List ℕ). EachValue (TablesAt next d) (next.chains logs.Manifest d)) (sym same)
        (each_next manifests (TablesAt next facts.db) author (λ l by first. none_begins (TablesAt next facts.db) author l by first) next_tables (m.chains logs.Manifest facts.db) (next.chains logs.Manifest facts.db) log.changed log.sound.chain here))
        (λ (ne : db ≢ facts.db). subst (EachValue (TablesAt next db)) (sym (away logs.Manifest db ne)) stay)
        (same_name db facts.db)

    -- the party's uploads
    put_by : (w : Work) (db : List ℕ) (upload : Upload) (bytes : List ℕ) (tag : ℕ) → w ≡ works.PutTable db upload bytes → (effect mark (asks w) moment m.world.store).answer ≡ Written tag → stands_at (paths.Table db upload.table) (effect mark (asks w) moment m.world.store).store ≡ true
    put_by w db upload bytes tag is answer =
        let here = written_stands (paths.Table db upload.table) bytes moment m.world.store tag mark (subst (λ (x : Work). (effect mark (asks x) moment m.world.store).answer ≡ Written tag) is answer) in
        subst (λ (x : Work). stands_at (paths.Table db upload.table) (effect mark (asks x) moment m.world.store).store ≡ true) (sym is) here

    put_now : (db : List ℕ) (upload : Upload) (bytes : List ℕ) (tag : ℕ) → task.work ≡ works.PutTable db upload bytes → (effect mark (asks task.work) moment m.world.store).answer ≡ Written tag → PutAt next facts.db upload.table
    put_now db upload bytes tag is answer =
        let own_db : db ≡ facts.db = ap db_of (sym is) ∙ brought.knows.own in
        inl (subst (λ (d : List ℕ). stands_at (paths.Table d upload.table) next.world.store ≡ true) own_db (put_by task.work db upload bytes tag is answer))

    abbrev answered : StoreAnswer
    answered = (effect mark (asks task.work) moment m.world.store).answer

    uploads_after : (standing : Standing) → Leaves facts task.work answered standing → UploadsPut next.removed next.world.store standing.facts
    uploads_after standing (Same uploads db) id known =
        subst (λ (d : List ℕ). PutAt next d id) (sym db) (step_stays facts.db id (own.uploads id (subst (λ (x : Uploads). is_unknown x id ≡ false) uploads known)))
    uploads_after standing (More db upload bytes tag is answer same) id known =
        subst (λ (x : Standing). PutAt next x.facts.db id) (sym same)
        (⊎_elim
        (λ (e : id ≡ upload.table). subst (λ (x : ℕ × ℕ). PutAt next facts.db x) (sym e) (put_now db upload bytes tag is answer))
        (λ (e : is_unknown facts.uploads id ≡ false). step_stays facts.db id (own.uploads id e))
        (known_more upload facts.uploads id (subst (λ (x : Standing). is_unknown x.facts.uploads id ≡ false) same known)))

    named_next : (standing : Standing) → Leaves facts task.work answered standing → NamedIn standing.facts.uploads (state_after task.call standing.next)
    named_next standing (Same uploads db) = named_after standing.facts.uploads task.call standing.next (subst (λ (x : Uploads). Named x task.call) (sym uploads) own.named)
    named_next standing (More db upload bytes tag is answer same) = subst (λ (x : Standing). NamedIn x.facts.uploads (state_after task.call x.next)) (sym same) tt

    same_db : (standing : Standing) → Leaves facts task.work answered standing → standing.facts.db ≡ facts.db
    same_db standing (Same uploads db) = db
    same_db standing (More db upload bytes tag is answer same) = ap (λ (x : Standing). x.facts.db) same

    -- what its compactor holds, by the records of its database
    module _ (before : EachValue (OutputsAt m facts.db) (m.chains logs.Compactions facts.db)) where
      after : EachValue (OutputsAt next facts.db) (next.chains logs.Compactions (db_of task.work))
      after = subst (λ (d : List ℕ). EachValue (OutputsAt next facts.db) (next.chains logs.Compactions d)) (sym brought.knows.own) (stepped_outputs facts.db (i.named facts.db brought.has) before)

      held_after : HeldHas (PutAt next facts.db) (standing_after m.world facts task moment mark).facts.compactor
      held_after = moved_has (PutAt next facts.db) facts task.call (held_stay m next step_stays facts.db facts.compactor own.held) n next.world.store next.chains moment answered task.work after brought.brings

      stepped_party : PartyAt next n (settled task.call (standing_after m.world facts task moment mark))
      stepped_party =
          let standing = standing_after m.world facts task moment mark in
          let leaves = moved_left facts task.call task.work moment answered in
          record {
            uploads = uploads_after standing leaves;
            held = subst (λ (d : List ℕ). HeldHas (PutAt next d) standing.facts.compactor) (sym (same_db standing leaves)) held_after;
            named = named_next standing leaves;
          }

-- ---- each event

had_db : (m m' : Moment) (e : Event) → Turn m e m' → (db : List ℕ) → HasDb m'.world db → HasDb m.world db
had_db m m' e t db has = sym (t.grows.same db) ∙ has

whole_kept : (m : Moment) (e : Event) (q : Party) (m' : Moment) → Does m e q m' → Turn m e m' → All WholeAt PartyAt m → WholeAt m'
whole_kept m e q m' (Comes n kind db tally none found) t h = record { marks = h.whole.marks; outputs = h.whole.outputs; tables = h.whole.tables }
whole_kept m e q m' (Starts n call facts at may) t h = record { marks = h.whole.marks; outputs = h.whole.outputs; tables = h.whole.tables }
whole_kept m e q m' (Carries n call p at may) t h = record { marks = h.whole.marks; outputs = h.whole.outputs; tables = h.whole.tables }
whole_kept m e q m' (Stops n p at) t h = record { marks = h.whole.marks; outputs = h.whole.outputs; tables = h.whole.tables }
whole_kept m e q m' (Idles _ p at) t h = h.whole
whole_kept m e q m' (Steps n moment mark facts task at) t h = record {
  marks = λ db has. let was = had_db m m' e t db has in stepped_marked m n moment mark facts task t.inv at db (t.inv.named db was) (h.whole.marks db was);
  outputs = λ db has. let was = had_db m m' e t db has in stepped_outputs m n moment mark facts task t.inv at (h.each n (in_call facts task) at) db (t.inv.named db was) (h.whole.outputs db was);
  tables = λ db has. let was = had_db m m' e t db has in stepped_tables m n moment mark facts task t.inv at (h.each n (in_call facts task) at) db (t.inv.named db was) (h.whole.tables db was);
}

started : (m : Moment) (n : ℕ) (call : Call) (facts : Facts) → PartyAt m n (at_rest facts) → PartyAt m n (settled call (begin facts call))
started m n call facts h =
    let same = start_same facts call in
    record {
      uploads = λ id known. subst (λ (d : List ℕ). PutAt m d id) (sym same.1) (h.uploads id (subst (λ (x : Uploads). is_unknown x id ≡ false) same.0 known));
      held = subst (λ (d : List ℕ). HeldHas (PutAt m d) (facts_at_start facts call).compactor) (sym same.1) (start_has (PutAt m facts.db) facts h.held call);
      named = start_named facts call;
    }

own_kept : (m : Moment) (e : Event) (q : Party) (m' : Moment) → Does m e q m' → Turn m e m' → All WholeAt PartyAt m → WholeAt m' → PartyAt m' (party_in e) q
own_kept m e q m' (Comes n kind db tally none found) t h whole = record { uploads = λ id known. absurd (cc known); held = tt; named = tt }
own_kept m e q m' (Starts n call facts at may) t h whole = let own = started m n call facts (h.each n _ at) in record { uploads = own.uploads; held = own.held; named = own.named }
own_kept m e q m' (Carries n call p at may) t h whole = let own = h.each n p at in record { uploads = own.uploads; held = own.held; named = own.named }
own_kept m e q m' (Stops n p at) t h whole = let own = h.each n p at in record { uploads = own.uploads; held = own.held; named = tt }
own_kept m e q m' (Idles _ p at) t h whole = h.each (party_in e) p at
own_kept m e q m' (Steps n moment mark facts task at) t h whole =
    let has = (step_brings m n facts task moment mark t.inv at).has in
    stepped_party m n moment mark facts task t.inv at (h.each n (in_call facts task) at) (h.whole.outputs facts.db has)

others_kept : (m : Moment) (e : Event) (q : Party) (m' : Moment) → Does m e q m' → Turn m e m' → All WholeAt PartyAt m → WholeAt m' → (k : ℕ) → k ≢ party_in e → (p : Party) → party_of k m.world.parties ≡ Some p → PartyAt m k p → PartyAt m' k p
others_kept m e q m' (Steps n moment mark facts task at) t h whole k ne p is own =
    let stays = step_stays m n moment mark facts task t.inv at in
    record { uploads = λ id known. stays p.facts.db id (own.uploads id known); held = held_stay m m' stays p.facts.db p.facts.compactor own.held; named = own.named }
others_kept m e q m' (Comes n kind db tally none found) t h whole k ne p is own = record { uploads = own.uploads; held = own.held; named = own.named }
others_kept m e q m' (Starts n call facts at may) t h whole k ne p is own = record { uploads = own.uploads; held = own.held; named = own.named }
others_kept m e q m' (Carries n call r at may) t h whole k ne p is own = record { uploads = own.uploads; held = own.held; named = own.named }
others_kept m e q m' (Stops n r at) t h whole k ne p is own = record { uploads = own.uploads; held = own.held; named = own.named }
others_kept m e q m' (Idles _ r at) t h whole k ne p is own = own

pub each_kept : Kept WholeAt PartyAt
each_kept = record { whole = whole_kept; own = own_kept; others = others_kept }

-- ---- at the end of a run

pub opening_whole : (specs : List DbSpec) → IsAccepted specs → WholeAt (opening_moment specs)
opening_whole specs accepted = record {
  marks = λ db has. opening_marked specs accepted db;
  outputs = λ db has. opening_there specs accepted db;
  tables = λ db has. opening_own specs accepted db;
}

pub marked_of_run : (specs : List DbSpec) (events : List Event) → IsAccepted specs → (db : List ℕ) → HasDb (world_at_end specs events) db → EachValue IsMarked (chains_at_end specs events logs.Manifest db)
marked_of_run specs events accepted db has =
    let whole = (along_run WholeAt PartyAt each_kept specs events accepted (opening_whole specs accepted)).whole in
    subst (λ (x : Chains). EachValue IsMarked (x logs.Manifest db)) (its_chains events (opening_moment specs))
    (whole.marks db (subst (λ (v : World). HasDb v db) (sym (its_world events (opening_moment specs))) has))

pub put_of_run : (specs : List DbSpec) (events : List Event) → IsAccepted specs → AreGood specs events → All WholeAt PartyAt (end_moment specs events)
put_of_run specs events accepted good = along_good WholeAt PartyAt each_kept specs events accepted good (opening_whole specs accepted)
