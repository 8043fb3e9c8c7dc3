-- A pass that nobody disturbs, from its start to its end, whatever opens, starts, stops and idle steps come between.
use Rattle.std.proofs.Common.{◌≡◌, ℕ, ◌+◌, ◌<◌, ℤ, ◌==◌, Bool, true, false, List, [], ◌∷◌, ◌++◌, Option, Some, None, is_none, Ok, Err, refl, sym, ap, ◌∙◌, subst, arith}
use Rattle.std.proofs.lemmas.Bool.{and_parts}
use Rattle.std.proofs.lemmas.Bool.Decides.{nat_tests}
use Rattle.std.specs.Prelude.{if◌then◌else◌}
use Rattle.std.specs.List.{list_all}
use Rattle.slate_ids.specs.Ids.{is_db_path}
use Rattle.slate_ids.specs.declared.gc_message.GcMessage.{GcMessage}
use Rattle.slate_layout_manifests.specs.Decoding.{decoded_manifest}
use Rattle.slate_layout.specs.laws.Codecs.{codec_round_trip}
use Rattle.slate_store.specs.Machines.{Stay, End}
use Rattle.slate_store.specs.Store.{Store, Outcome, object_at, whole, under, taken, effect}
use Rattle.slate_store.specs.declared.mark.Mark.{Mark}
use Rattle.slate_store.specs.declared.mark.Mark.TheVariants.{Good, Fail, Lost}
use Rattle.slate_store.specs.declared.object.StoredObject.{StoredObject}
use Rattle.slate_store.specs.declared.store_answer.StoreAnswer.{StoreAnswer}
use Rattle.slate_store.specs.declared.store_call.StoreCall.{StoreCall}
use Rattle.slate_txn_log.specs.LogPaths.{version_path}
use Rattle.slate_txn_log.specs.declared.log_kind.LogKind.{LogKind}
use Rattle.slate_txn_log.specs.declared.log_kind.LogKind.TheVariants as logs
use Rattle.slate_txn_log.specs.declared.read_phase.ReadPhase.TheVariants as reading
use Rattle.slate_gc_passes.specs.GcPhase.{GcGoes, gc_asks, gc_goes}
use Rattle.slate_gc_passes.specs.declared.directory_options.GarbageCollectorDirectoryOptions.{GarbageCollectorDirectoryOptions}
use Rattle.slate_gc_passes.specs.declared.gc_phase.GcPhase.{GcPhase}
use Rattle.slate_txn_changes.specs.declared.log_work.LogWork.TheVariants.{Reading}
use Rattle.slate_gc_passes.specs.declared.gc_phase.GcPhase.TheVariants.{Removing}
use Rattle.slate_gc_passes.specs.declared.pass_settings.PassSettings.{PassSettings}
use Rattle.slate_model.specs.declared.manifest.Manifest.{Manifest}
use Rattle.slate_script_events.specs.declared.call.Call.{Call}
use Rattle.slate_script_events.specs.declared.call.Call.TheVariants as calls
use Rattle.slate_script_events.specs.declared.db_spec.DbSpec.{DbSpec}
use Rattle.slate_script_events.specs.declared.entry.Entry.{Entry}
use Rattle.slate_script_events.specs.declared.entry.Entry.TheVariants.{Opened, Started, Called, Stopped, Idle}
use Rattle.slate_script_events.specs.declared.event.Event.{Event}
use Rattle.slate_script_events.specs.declared.event.Event.TheVariants.{Open, Start, Step, Stop}
use Rattle.slate_script_events.specs.declared.filter_word.FilterWord.{FilterWord}
use Rattle.slate_script_events.specs.declared.reply.Reply.{Reply}
use Rattle.slate_script_events.specs.declared.reply.Reply.TheVariants.{Refused}
use Rattle.slate_script_events.specs.declared.reply.Reply.TheVariants as reply
use Rattle.slate_cluster_protocol.specs.Alone.{all_told, is_answer, is_quiet, reply_at, answers_in, Leaves, PassesAlone}
use Rattle.slate_cluster_protocol.specs.Alone.Leaves.{Collects, Exhausts}
use Rattle.slate_cluster_protocol.specs.Holding.{IsOfLog, pass_log}
use Rattle.slate_cluster_protocol.specs.ByRows.{Doing, Rests, Answers, Stays, Told, AllTold, nobody, reply_in, asked_entry, step_entry, start_entry, stop_entry, entry_by, told_call, told_after, party_in, all_told_after, entry_store, trail_by}
use Rattle.slate_cluster_protocol.specs.Calls.{pass_settings}
use Rattle.slate_cluster_protocol.specs.Chains.{Link, link_at, link_bytes, bytes_of, top}
use Rattle.slate_cluster_protocol.specs.Lawful.{IsAccepted, AreGood, chains_at_end, course_after}
use Rattle.slate_cluster_protocol.specs.Logs.{Author, Chain, Chains, manifests, chains_after, chains_of, opening_chains, world_after}
use Rattle.slate_cluster_protocol.specs.Passes.{pass_answers}
use Rattle.slate_cluster_protocol.specs.Rows.{Answered, Row, Asks, Replies, Standing, begin, answered, stands_after, row_of, row}
use Rattle.slate_cluster_protocol.specs.Runs.{Course, Ran, opening, going_on, run}
use Rattle.slate_cluster_protocol.specs.Specs.{opening_world}
use Rattle.slate_cluster_protocol.specs.Works.{pass_ways}
use Rattle.slate_cluster_protocol.specs.World.{World, Transition, HasDb, party_of, open_at, tally_of, happens}
use Rattle.slate_cluster_protocol.specs.declared.party.Facts.{Facts}
use Rattle.slate_cluster_protocol.specs.declared.party.Party.{Party}
use Rattle.slate_cluster_protocol.specs.declared.party.State.{State}
use Rattle.slate_cluster_protocol.specs.declared.party.State.TheVariants.{Resting, Busy, Halted}
use Rattle.slate_cluster_protocol.specs.declared.tally.Tally.{Tally}
use Rattle.slate_cluster_laws.proofs.FactsKept.{starts_same}
use Rattle.slate_cluster_laws.proofs.AfterEvents.{none_come, course_inv}
use Rattle.slate_cluster_pass_laws.proofs.Alone.{HasBound, IsLatest, IsFine, Knows, RemovalEnds, standing, next_of, Ends, Brings, step_brings}
use Rattle.slate_cluster_pass_laws.proofs.Alone.RemovalEnds.{Lists, Lacks}
use Rattle.slate_cluster_laws.proofs.Changes.{By, event_changes}
use Rattle.slate_cluster_laws.proofs.Facts.{IsSound}
use Rattle.slate_cluster_laws.proofs.GoingOn.{run_world, run_split}
use Rattle.slate_cluster_chain_laws.proofs.Links.{link_here, none_above}
use Rattle.slate_cluster_laws.proofs.Listed.{bound_below, list_top}
use Rattle.slate_cluster_laws.proofs.Opening.{opening_inv}
use Rattle.slate_cluster_laws.proofs.Ordered.{IsOrdered, event_ordered, all_ordered}
use Rattle.slate_cluster_laws.proofs.Passes.{bounded_pass}
use Rattle.slate_cluster_laws.proofs.Removals.{good_run}
use Rattle.slate_cluster_laws.proofs.Rows.{CallIs, Matches, AllMatch, Brought, event_brings, all_after, more_answers, ended, rows_run, told_run}
use Rattle.slate_cluster_laws.proofs.Runs.{Inv, event_inv}
use Rattle.slate_cluster_laws.proofs.Safety.{event_after, run_same}
use Rattle.slate_cluster_laws.proofs.Stores.{IsTidy}
use Rattle.slate_cluster_pass_laws.proofs.Sources.{HasSource, TopHasSource, some_number, source_stays, source_begins}

-- ---- what holds at each moment

pub record IsGood (db : List ℕ) (w : World) (chains : Chains) : Type 0 where
  pub inv : Inv w chains
  pub ordered : IsOrdered w.store.objects
  pub has : HasDb w db
  pub source : TopHasSource (chains logs.Manifest db)

good_after : (db : List ℕ) (w : World) (chains : Chains) (e : Event) (d : Transition) → happens w e ≡ Some d → IsGood db w chains → IsGood db d.world (chains_after w e chains)
good_after db w chains e d h g =
    let i = event_inv w chains e d h g.inv in
    let has = (event_after w chains e d g.inv h).same db ∙ g.has in
    record {
      inv = i;
      ordered = event_ordered w e d h g.ordered;
      has = has;
      source = source_stays (By (party_in e)) (chains logs.Manifest db) (chains_after w e chains logs.Manifest db) (event_changes w chains e g.inv logs.Manifest db (g.inv.named db g.has)) (i.logs logs.Manifest db (i.named db has)).chain g.source;
    }

-- the store has the greatest manifest
module _ (db : List ℕ) (named : is_db_path db ≡ true) (s : Store) where
  module _ (l : Link Manifest Author) (c : Chain logs.Manifest) (i : IsSound manifests db s (l ∷ c)) (h : HasSource l) where
    below : i.bound < l.number
    below = bound_below manifests db named s (l ∷ c) i (some_number (l ∷ c) i.chain h)

    after_bound : i.bound < l.number + 1
    after_bound = let lt = below in omega arith

    none_next : link_at (l.number + 1) (l ∷ c) ≡ None
    none_next = none_above manifests (l.number + 1) (l ∷ c) i.chain (omega arith)

    latest : IsLatest db s l.number l.value
    latest = by_object (object_at (version_path logs.Manifest db l.number) s) refl (i.above l.number below i.small ∙ ap link_bytes (link_here l.number l c refl))
      where
        no_bytes : (o : Option StoredObject) → bytes_of o ≡ None → o ≡ None
        no_bytes None h = refl
        no_bytes (Some object) h = absurd cc

        by_object : (o : Option StoredObject) → object_at (version_path logs.Manifest db l.number) s ≡ o → bytes_of (object_at (version_path logs.Manifest db l.number) s) ≡ Some l.bytes → IsLatest db s l.number l.value
        by_object None at e = absurd (cc (ap bytes_of at, e))
        by_object (Some object) at e =
            let told : Some object.bytes ≡ Some l.bytes = sym (ap bytes_of at) ∙ e in
            let same : object.bytes ≡ l.bytes = cc in
            record {
              object = object;
              at = at;
              value = ap decoded_manifest same ∙ (codec_round_trip h.source l.bytes h.encodes ∙ ap (λ (m : Manifest). Ok m) (sym h.normal));
              source = h.source;
              bytes = l.bytes;
              encodes = h.encodes;
              normal = h.normal;
              apart = h.apart;
              small = i.small;
              free = λ small. no_bytes (object_at (version_path logs.Manifest db (l.number + 1)) s) (i.above (l.number + 1) after_bound small ∙ ap link_bytes none_next);
            }

  fine_by : (k : LogKind) → HasBound k db s → IsTidy s.objects → IsOrdered s.objects → (c : Chain logs.Manifest) → IsSound manifests db s c → TopHasSource c → IsFine k db s
  fine_by k own tidy ordered [] i h = absurd h
  fine_by k own tidy ordered (l ∷ c) i h = record {
    tidy = tidy;
    ordered = ordered;
    bound = i.bound;
    read = i.read;
    top = l.number;
    value = l.value;
    latest = latest l c i h;
    greatest = list_top manifests db named s (l ∷ c) i (some_number (l ∷ c) i.chain h) tidy;
    below = below l c i h;
    own = own;
  }

bound_there : (k : LogKind) (db : List ℕ) (w : World) (chains : Chains) → Inv w chains → HasDb w db → HasBound k db w.store
bound_there logs.Manifest db w chains i has = record { bound = (i.logs logs.Manifest db (i.named db has)).bound; read = (i.logs logs.Manifest db (i.named db has)).read }
bound_there logs.Compactions db w chains i has = record { bound = (i.logs logs.Compactions db (i.named db has)).bound; read = (i.logs logs.Compactions db (i.named db has)).read }

fine : (k : LogKind) (db : List ℕ) (w : World) (chains : Chains) → IsGood db w chains → IsFine k db w.store
fine k db w chains g = fine_by db (g.inv.named db g.has) w.store k (bound_there k db w chains g.inv g.has) g.inv.tidy g.ordered (chains logs.Manifest db) (g.inv.logs logs.Manifest db (g.inv.named db g.has)) g.source

-- ---- entries

-- an entry that makes no store call
abbrev MakesNone : Entry → Type 0
MakesNone (Called k asked moment mark answer r) = ⊥
MakesNone _ = Unit {0}

-- a store call is one of the event's party
abbrev IsOf : ℕ → Entry → Type 0
IsOf n (Called k asked moment mark answer r) = k ≡ n
IsOf n _ = Unit {0}

asked_of : (n : ℕ) (moment : ℤ) (mark : Mark) (s : Store) (facts : Facts) (call : Call) (answers : List Answered) (r : Row) → IsOf n (asked_entry n moment mark s facts call answers r)
asked_of n moment mark s facts call answers (Asks asked) = refl
asked_of n moment mark s facts call answers (Replies r) = tt

entry_of : (e : Event) (told : Option Told) (s : Store) → IsOf (party_in e) (entry_by e told s)
entry_of (Open n kind db) told s = tt
entry_of (Start n call) None s = tt
entry_of (Start n call) (Some told) s = by_doing told.doing
  where
    by_doing : (doing : Doing) → IsOf n (start_entry n call told.facts doing)
    by_doing Rests = tt
    by_doing (Answers under answers) = tt
    by_doing Stays = tt
entry_of (Step n moment mark) None s = tt
entry_of (Step n moment mark) (Some told) s = by_doing told.doing
  where
    by_doing : (doing : Doing) → IsOf n (step_entry n moment mark s told.facts doing)
    by_doing Rests = tt
    by_doing (Answers call answers) = asked_of n moment mark s told.facts call answers (row told.facts call answers)
    by_doing Stays = tt
entry_of (Stop n) None s = tt
entry_of (Stop n) (Some told) s = by_doing told.doing
  where
    by_doing : (doing : Doing) → IsOf n (stop_entry n doing)
    by_doing Rests = tt
    by_doing (Answers call answers) = tt
    by_doing Stays = tt

-- what leaves a party undisturbed makes no store call of another
quiet_none : (n k : ℕ) (x : Entry) → IsOf k x → (n == k) ≡ false → is_quiet n x ≡ true → MakesNone x
quiet_none n k (Called j asked moment mark answer r) of ne h =
    let p = and_parts (j == n) (is_answer answer) h in
    apart n k (subst (λ (i : ℕ). (i == n) ≡ true) of p.0) ne
  where
    apart : (a b : ℕ) → (b == a) ≡ true → (a == b) ≡ false → ⊥
    apart a b e ne = absurd (grind (arith, nat_tests))
quiet_none n k (Opened j) of ne h = tt
quiet_none n k (Started j r) of ne h = tt
quiet_none n k (Stopped j) of ne h = tt
quiet_none n k (Idle j) of ne h = tt

-- such an entry leaves the store, has no reply, and no answer
none_store : (x : Entry) (s : Store) → MakesNone x → entry_store x s ≡ s
none_store (Called j asked moment mark answer r) s h = absurd h
none_store _ s h = refl

none_replied : (x : Entry) (r : Reply) → MakesNone x → reply_at x ≡ Some r → ⊥
none_replied (Called j asked moment mark answer o) r h e = h
none_replied _ r h e = absurd cc

none_answered : (x : Entry) (xs : List Entry) → MakesNone x → answers_in (x ∷ xs) ≡ answers_in xs
none_answered (Called j asked moment mark answer o) xs h = absurd h
none_answered _ xs h = refl

-- a call that didn't fault had its whole effect
no_fault : (mark : Mark) (call : StoreCall) (moment : ℤ) (s : Store) → is_answer (effect mark call moment s).answer ≡ true → effect mark call moment s ≡ whole call moment s
no_fault mark call moment s h = by_mark (taken mark call s) h
  where
    by_mark : (m : Mark) → is_answer (under m (whole call moment s) s).answer ≡ true → under m (whole call moment s) s ≡ whole call moment s
    by_mark Good h = refl
    by_mark Fail h = absurd cc
    by_mark Lost h = absurd cc

none_there : (between : List Entry) (last : Entry) → [] ≡ between ++ last ∷ [] → ⊥
none_there [] last h = absurd cc
none_there (x ∷ between) last h = absurd cc

no_trail : (es : List Event) (all : AllTold) (s : Store) → trail_by es all s ≡ [] → es ≡ []
no_trail [] all s h = refl
no_trail (e ∷ es) all s h = absurd cc

-- the entry of an event, and then the others
trail_more : (e : Event) (es : List Event) (all : AllTold) (w : World) (d : Transition) → Brought e (all (party_in e)) w d → d.entry ∷ trail_by es (all_told_after e d.entry all) d.world.store ≡ trail_by (e ∷ es) all w.store
trail_more e es all w d b =
    ap (λ (s : Store). d.entry ∷ trail_by es (all_told_after e d.entry all) s) b.store ∙ ap (λ (y : Entry). y ∷ trail_by es (all_told_after e y all) (entry_store y w.store)) b.entry

module _ (facts : Facts) (call : Call) (db : List ℕ) (named : is_db_path db ≡ true) (pass : GcMessage) (log : IsOfLog pass) (options : GarbageCollectorDirectoryOptions) (word : FilterWord) (n : ℕ) where
  -- what is said of the party in its call, with these answers
  abbrev in_call : List Answered → Told
  in_call answers = record { facts = facts; doing = Answers call answers }

  -- and once it was stopped
  abbrev stopped : Told
  stopped = record { facts = facts; doing = Stays }

  -- what a store call of a phase does
  abbrev outcome : GcPhase → ℤ → Mark → Store → Outcome
  outcome phase moment mark s = effect mark (gc_asks db pass phase) moment s

  -- how the pass goes on after it
  abbrev gone_on : GcPhase → ℤ → Outcome → GcGoes
  gone_on phase moment o = gc_goes (pass_ways word) (bounded_pass pass options) moment phase o.answer

  -- the reply of a standing
  abbrev reply_then : Standing → Option Reply
  reply_then st = reply_in (row_of st.next)

  -- what an event is for the party: it goes on as it was, or is stopped, or makes its store call
  data EventIs (e : Event) (all : AllTold) (x : Entry) (s : Store) (phase : GcPhase) (answers : List Answered) : Type 0 where
    Passes : MakesNone x → all_told_after e x all n ≡ Some (in_call answers) → EventIs e all x s phase answers
    Halts : MakesNone x → all_told_after e x all n ≡ Some stopped → EventIs e all x s phase answers
    Steps : (k : ℕ) (moment : ℤ) (mark : Mark) (o : Option Reply) → x ≡ Called k (gc_asks db pass phase) moment mark (outcome phase moment mark s).answer o
        → stands_after facts call (answers ++ ((outcome phase moment mark s).answer, moment) ∷ []) ≡ next_of facts call db pass options word (gone_on phase moment (outcome phase moment mark s))
        → o ≡ reply_then (next_of facts call db pass options word (gone_on phase moment (outcome phase moment mark s)))
        → all_told_after e x all n ≡ Some (told_call facts call (answers ++ ((outcome phase moment mark s).answer, moment) ∷ []) o) → EventIs e all x s phase answers

  number_is : (a b : ℕ) → (a == b) ≡ true → a ≡ b
  number_is a b h = grind (arith, nat_tests)

  module _ (w : World) (all : AllTold) (m : AllMatch all w) where
    -- a party that is there isn't opened
    no_open : (k : ℕ) (kind : _) (d' : List ℕ) (told : Told) (d : Transition) → all k ≡ Some told → happens w (Open k kind d') ≡ Some d → ⊥
    no_open k kind d' told d at h = bad (party_of k w.parties) (tally_of d' w.tallies) (subst (λ (o : Option Told). Matches o (party_of k w.parties)) at (m k)) h
      where
        bad : (o : Option Party) (t : Option Tally) → Matches (Some told) o → open_at w k kind d' o t ≡ Some d → ⊥
        bad None t match h = match
        bad (Some p) t match h = absurd cc

    -- what is said of the party after another's event, and after its own
    other_told : (e : Event) (x : Entry) → (n == party_in e) ≡ false → all_told_after e x all n ≡ all n
    other_told e x ne = ap (λ (b : Bool). if b then told_after e x (all n) else all n) ne

    own_told : (e : Event) (x : Entry) → (n == party_in e) ≡ true → all_told_after e x all n ≡ told_after e x (all n)
    own_told e x same = ap (λ (b : Bool). if b then told_after e x (all n) else all n) same

    -- in its call
    module _ (phase : GcPhase) (answers : List Answered) (at : all n ≡ Some (in_call answers)) (stands : stands_after facts call answers ≡ standing facts call db pass options word phase) (d : Transition) where
      own_event : (e : Event) → happens w e ≡ Some d → all (party_in e) ≡ Some (in_call answers) → d.entry ≡ entry_by e (Some (in_call answers)) w.store
          → all_told_after e d.entry all n ≡ told_after e d.entry (Some (in_call answers)) → EventIs e all d.entry w.store phase answers
      own_event (Open k kind d') h here is told = absurd (no_open k kind d' (in_call answers) d here h)
      own_event (Start k c) h here is told = Passes (subst MakesNone (sym is) tt) (told ∙ ap (λ (x : Entry). told_after (Start k c) x (Some (in_call answers))) is)
      own_event (Stop k) h here is told =
          Halts (subst MakesNone (sym is) tt)
          (told ∙ (ap (λ (x : Entry). told_after (Stop k) x (Some (in_call answers))) is ∙ ap (λ (st : Standing). Some (record { facts = st.facts; doing = Stays })) stands))
      own_event (Step k moment mark) h here is told =
          let o = outcome phase moment mark w.store in
          let a : Answered = (o.answer, moment) in
          let reply = reply_in (row facts call (answers ++ a ∷ [])) in
          let entry : d.entry ≡ Called k (gc_asks db pass phase) moment mark o.answer reply = is ∙ ap (λ (st : Standing). asked_entry k moment mark w.store facts call answers (row_of st.next)) stands in
          let next = more_answers call (begin facts call) answers a ∙ ap (λ (st : Standing). answered call st.facts st.next a) stands in
          Steps k moment mark reply entry next (ap reply_then next) (told ∙ ap (λ (x : Entry). told_after (Step k moment mark) x (Some (in_call answers))) entry)

      is_event : (e : Event) → happens w e ≡ Some d → d.entry ≡ entry_by e (all (party_in e)) w.store → is_quiet n d.entry ≡ true → EventIs e all d.entry w.store phase answers
      is_event e h is quiet = test (n == party_in e) refl
        where
          test : (b : Bool) → (n == party_in e) ≡ b → EventIs e all d.entry w.store phase answers
          test false ne =
              Passes (quiet_none n (party_in e) d.entry (subst (IsOf (party_in e)) (sym is) (entry_of e (all (party_in e)) w.store)) ne quiet) (other_told e d.entry ne ∙ at)
          test true same =
              let here : all (party_in e) ≡ Some (in_call answers) = sym (ap all (number_is n (party_in e) same)) ∙ at in
              own_event e h here (is ∙ ap (λ (o : Option Told). entry_by e o w.store) here) (own_told e d.entry same ∙ ap (told_after e d.entry) at)

    -- once it was stopped
    module _ (at : all n ≡ Some stopped) (d : Transition) where
      own_stopped : (e : Event) → happens w e ≡ Some d → all (party_in e) ≡ Some stopped → d.entry ≡ entry_by e (Some stopped) w.store
          → all_told_after e d.entry all n ≡ told_after e d.entry (Some stopped) → MakesNone d.entry × (all_told_after e d.entry all n ≡ Some stopped)
      own_stopped (Open k kind d') h here is told = absurd (no_open k kind d' stopped d here h)
      own_stopped (Start k c) h here is told = (subst MakesNone (sym is) tt, told ∙ ap (λ (x : Entry). told_after (Start k c) x (Some stopped)) is)
      own_stopped (Stop k) h here is told = (subst MakesNone (sym is) tt, told ∙ ap (λ (x : Entry). told_after (Stop k) x (Some stopped)) is)
      own_stopped (Step k moment mark) h here is told = (subst MakesNone (sym is) tt, told ∙ ap (λ (x : Entry). told_after (Step k moment mark) x (Some stopped)) is)

      is_stopped : (e : Event) → happens w e ≡ Some d → d.entry ≡ entry_by e (all (party_in e)) w.store → is_quiet n d.entry ≡ true → MakesNone d.entry × (all_told_after e d.entry all n ≡ Some stopped)
      is_stopped e h is quiet = test (n == party_in e) refl
        where
          test : (b : Bool) → (n == party_in e) ≡ b → MakesNone d.entry × (all_told_after e d.entry all n ≡ Some stopped)
          test false ne =
              (quiet_none n (party_in e) d.entry (subst (IsOf (party_in e)) (sym is) (entry_of e (all (party_in e)) w.store)) ne quiet, other_told e d.entry ne ∙ at)
          test true same =
              let here : all (party_in e) ≡ Some stopped = sym (ap all (number_is n (party_in e) same)) ∙ at in
              own_stopped e h here (is ∙ ap (λ (o : Option Told). entry_by e o w.store) here) (own_told e d.entry same ∙ ap (told_after e d.entry) at)

  -- ---- the walk

  -- from where the party is in a phase, to the end
  abbrev Walks : List Event → AllTold → Store → Store → Type 0
  Walks es all s t =
      (phase : GcPhase) (answers : List Answered) → all n ≡ Some (in_call answers) → stands_after facts call answers ≡ standing facts call db pass options word phase → Knows (pass_log pass) db s phase
      → (between : List Entry) (last : Entry) (r : Reply) → trail_by es all s ≡ between ++ last ∷ [] → list_all (is_quiet n) (between ++ last ∷ []) ≡ true
      → list_all (λ x. is_none (reply_at x)) between ≡ true → reply_at last ≡ Some r → Ends facts call db pass options word phase s (answers_in (between ++ last ∷ [])) r t

  -- a party that was stopped has no reply
  abbrev Ceases : List Event → AllTold → Store → Type 0
  Ceases es all s =
      all n ≡ Some stopped → (between : List Entry) (last : Entry) (r : Reply) → trail_by es all s ≡ between ++ last ∷ [] → list_all (is_quiet n) (between ++ last ∷ []) ≡ true → reply_at last ≡ Some r → ⊥

  -- the end of the pass
  end_of : (P : List Answered → Reply → Store → Type 0) (s : Store) (g : GcGoes) (r : Reply) → Brings facts call db pass options word s P g → reply_then (next_of facts call db pass options word g) ≡ Some r → P [] r s
  end_of P s (Stay phase) r b h = absurd cc
  end_of P s (End phase (Ok counts)) r b h = let same : reply.Pass counts.picked counts.deleted counts.failed ≡ r = cc in subst (λ (x : Reply). P [] x s) same b
  end_of P s (End phase (Err e)) r b h = let same : Refused e ≡ r = cc in subst (λ (x : Reply). P [] x s) same b

  -- it goes on
  more_of : (P : List Answered → Reply → Store → Type 0) (s t : Store) (g : GcGoes) (answers later : List Answered) (r : Reply) → Brings facts call db pass options word s P g
      → is_none (reply_then (next_of facts call db pass options word g)) ≡ true
      → ((phase : GcPhase) → g ≡ Stay phase → Knows (pass_log pass) db s phase → Ends facts call db pass options word phase s later r t) → P later r t
  more_of P s t (Stay phase) answers later r b h f = b.1 later r t (f phase refl b.0)
  more_of P s t (End phase (Ok counts)) answers later r b h f = absurd cc
  more_of P s t (End phase (Err e)) answers later r b h f = absurd cc

  none_is : (o : Option Reply) → is_none o ≡ true → o ≡ None
  none_is None h = refl
  none_is (Some r) h = absurd cc

  -- one event more in front
  module _ (w : World) (chains : Chains) (good : IsGood db w chains) (all : AllTold) (m : AllMatch all w) (e : Event) (d : Transition) (h : happens w e ≡ Some d) (es : List Event) (t : Store)
      (end : es ≡ [] → t ≡ d.world.store) (walks : Walks es (all_told_after e d.entry all) d.world.store t) (ceases : Ceases es (all_told_after e d.entry all) d.world.store) where
    abbrev trail : List Entry
    trail = trail_by es (all_told_after e d.entry all) d.world.store

    b : Brought e (all (party_in e)) w d
    b = event_brings e all w d m h

    -- a store call that didn't fault brings what it is to bring
    brings_then : (phase : GcPhase) (moment : ℤ) (mark : Mark) → Knows (pass_log pass) db w.store phase → is_answer (outcome phase moment mark w.store).answer ≡ true
        → Brings facts call db pass options word (outcome phase moment mark w.store).store (λ later r u. Ends facts call db pass options word phase w.store (((outcome phase moment mark w.store).answer, moment) ∷ later) r u)
        (gone_on phase moment (outcome phase moment mark w.store))
    brings_then phase moment mark k ok =
        subst (λ (o : Outcome). Brings facts call db pass options word o.store (λ later r u. Ends facts call db pass options word phase w.store ((o.answer, moment) ∷ later) r u) (gone_on phase moment o))
        (sym (no_fault mark (gc_asks db pass phase) moment w.store ok)) (step_brings facts call db options word w.store moment pass log (fine (pass_log pass) db w chains good) named phase k)

    answers_well : (k : ℕ) (asked : StoreCall) (moment : ℤ) (mark : Mark) (answer : StoreAnswer) (o : Option Reply) → d.entry ≡ Called k asked moment mark answer o → is_quiet n d.entry ≡ true → is_answer answer ≡ true
    answers_well k asked moment mark answer o is quiet = (and_parts (k == n) (is_answer answer) (sym (ap (is_quiet n) is) ∙ quiet)).1

    -- the last entry
    ends_with : (phase : GcPhase) (answers : List Answered) → Knows (pass_log pass) db w.store phase → (r : Reply) → EventIs e all d.entry w.store phase answers → is_quiet n d.entry ≡ true → reply_at d.entry ≡ Some r → t ≡ d.world.store
        → Ends facts call db pass options word phase w.store (answers_in (d.entry ∷ [])) r t
    ends_with phase answers k r (Passes none told) quiet replied last = absurd (none_replied d.entry r none replied)
    ends_with phase answers k r (Halts none told) quiet replied last = absurd (none_replied d.entry r none replied)
    ends_with phase answers k r (Steps j moment mark o is next follows told) quiet replied last =
        let s' = (outcome phase moment mark w.store).store in
        let store : t ≡ s' = last ∙ (b.store ∙ ap (λ (x : Entry). entry_store x w.store) is) in
        let ended = end_of (λ later r u. Ends facts call db pass options word phase w.store (((outcome phase moment mark w.store).answer, moment) ∷ later) r u) s' (gone_on phase moment (outcome phase moment mark w.store)) r
        (brings_then phase moment mark k (answers_well j (gc_asks db pass phase) moment mark (outcome phase moment mark w.store).answer o is quiet)) (sym follows ∙ (sym (ap reply_at is) ∙ replied)) in
        subst (λ (x : Entry). Ends facts call db pass options word phase w.store (answers_in (x ∷ [])) r t) (sym is)
        (subst (λ (u : Store). Ends facts call db pass options word phase w.store (((outcome phase moment mark w.store).answer, moment) ∷ []) r u) (sym store) ended)

    -- an entry before the last
    goes_with : (phase : GcPhase) (answers : List Answered) → Knows (pass_log pass) db w.store phase → stands_after facts call answers ≡ standing facts call db pass options word phase → EventIs e all d.entry w.store phase answers → is_quiet n d.entry ≡ true
        → is_none (reply_at d.entry) ≡ true → (between : List Entry) (last : Entry) (r : Reply) → trail ≡ between ++ last ∷ [] → list_all (is_quiet n) (between ++ last ∷ []) ≡ true
        → list_all (λ x. is_none (reply_at x)) between ≡ true → reply_at last ≡ Some r → Ends facts call db pass options word phase w.store (answers_in (d.entry ∷ between ++ last ∷ [])) r t
    goes_with phase answers k stands (Halts none told) quiet goes between last r rest quiets go ends = absurd (ceases told between last r rest quiets ends)
    goes_with phase answers k stands (Passes none told) quiet goes between last r rest quiets go ends =
        let store : d.world.store ≡ w.store = b.store ∙ none_store d.entry w.store none in
        let rested = walks phase answers told stands (subst (λ (s : Store). Knows (pass_log pass) db s phase) (sym store) k) between last r rest quiets go ends in
        subst (λ (later : List Answered). Ends facts call db pass options word phase w.store later r t) (sym (none_answered d.entry (between ++ last ∷ []) none))
        (subst (λ (s : Store). Ends facts call db pass options word phase s (answers_in (between ++ last ∷ [])) r t) store rested)
    goes_with phase answers k stands (Steps j moment mark o is next follows told) quiet goes between last r rest quiets go ends =
        let a : Answered = ((outcome phase moment mark w.store).answer, moment) in
        let s' = (outcome phase moment mark w.store).store in
        let g = gone_on phase moment (outcome phase moment mark w.store) in
        let store : d.world.store ≡ s' = b.store ∙ ap (λ (x : Entry). entry_store x w.store) is in
        let none : o ≡ None = none_is o (sym (ap (λ (x : Entry). is_none (reply_at x)) is) ∙ goes) in
        let more = more_of (λ later r u. Ends facts call db pass options word phase w.store (((outcome phase moment mark w.store).answer, moment) ∷ later) r u) s' t g answers (answers_in (between ++ last ∷ [])) r
        (brings_then phase moment mark k (answers_well j (gc_asks db pass phase) moment mark (outcome phase moment mark w.store).answer o is quiet)) (ap is_none (sym follows ∙ none))
        (λ phase' stay known.
        subst (λ (s : Store). Ends facts call db pass options word phase' s (answers_in (between ++ last ∷ [])) r t) store
        (walks phase' (answers ++ a ∷ []) (told ∙ ap (λ (x : Option Reply). Some (told_call facts call (answers ++ a ∷ []) x)) none) (next ∙ ap (next_of facts call db pass options word) stay)
        (subst (λ (s : Store). Knows (pass_log pass) db s phase') (sym store) known) between last r rest quiets go ends)) in
        subst (λ (x : Entry). Ends facts call db pass options word phase w.store (answers_in (x ∷ between ++ last ∷ [])) r t) (sym is) more

    one_walks : Walks (e ∷ es) all w.store t
    one_walks phase answers at stands k [] last r is quiet goes ends =
        let whole : d.entry ∷ trail ≡ last ∷ [] = trail_more e es all w d b ∙ is in
        let same : d.entry ≡ last = cc in
        let none : trail ≡ [] = cc in
        let q : is_quiet n d.entry ≡ true = ap (is_quiet n) same ∙ (and_parts (is_quiet n last) true quiet).0 in
        subst (λ (x : Entry). Ends facts call db pass options word phase w.store (answers_in (x ∷ [])) r t) same
        (ends_with phase answers k r (is_event w all m phase answers at stands d e h b.entry q) q (ap reply_at same ∙ ends) (end (no_trail es (all_told_after e d.entry all) d.world.store none)))
    one_walks phase answers at stands k (y ∷ ys) last r is quiet goes ends =
        let whole : d.entry ∷ trail ≡ y ∷ ys ++ last ∷ [] = trail_more e es all w d b ∙ is in
        let same : d.entry ≡ y = cc in
        let rest : trail ≡ ys ++ last ∷ [] = cc in
        let p = and_parts (is_quiet n y) (list_all (is_quiet n) (ys ++ last ∷ [])) quiet in
        let o = and_parts (is_none (reply_at y)) (list_all (λ x. is_none (reply_at x)) ys) goes in
        let q : is_quiet n d.entry ≡ true = ap (is_quiet n) same ∙ p.0 in
        subst (λ (x : Entry). Ends facts call db pass options word phase w.store (answers_in (x ∷ ys ++ last ∷ [])) r t) same
        (goes_with phase answers k stands (is_event w all m phase answers at stands d e h b.entry q) q (ap (λ (x : Entry). is_none (reply_at x)) same ∙ o.0) ys last r rest p.1 o.1 ends)

    one_ceases : Ceases (e ∷ es) all w.store
    one_ceases at [] last r is quiet ends =
        let whole : d.entry ∷ trail ≡ last ∷ [] = trail_more e es all w d b ∙ is in
        let same : d.entry ≡ last = cc in
        let s = is_stopped w all m at d e h b.entry (ap (is_quiet n) same ∙ (and_parts (is_quiet n last) true quiet).0) in
        none_replied d.entry r s.0 (ap reply_at same ∙ ends)
    one_ceases at (y ∷ ys) last r is quiet ends =
        let whole : d.entry ∷ trail ≡ y ∷ ys ++ last ∷ [] = trail_more e es all w d b ∙ is in
        let same : d.entry ≡ y = cc in
        let rest : trail ≡ ys ++ last ∷ [] = cc in
        let p = and_parts (is_quiet n y) (list_all (is_quiet n) (ys ++ last ∷ [])) quiet in
        let s = is_stopped w all m at d e h b.entry (ap (is_quiet n) same ∙ p.0) in
        ceases s.1 ys last r rest p.1 ends

  -- through all the events
  walk : (es : List Event) (place : ℕ) (c v : Course) (chains : Chains) (all : AllTold) → IsGood db c.world chains → AllMatch all c.world → run es place c ≡ ended v
      → Walks es all c.world.store v.world.store × Ceases es all c.world.store
  walk [] place c v chains all good m h = (
    λ phase answers at stands k between last r is quiet goes ends. absurd (none_there between last is),
    λ at between last r is quiet ends. none_there between last is,
  )
  walk (e ∷ es) place c v chains all good m h =
      went (happens c.world e) refl h
      (λ d is k. walk es (place + 1) (going_on c d) v (chains_after c.world e chains) (all_told_after e d.entry all) (good_after db c.world chains e d is good) (all_after e all c.world d m (event_brings e all c.world d m is)) k)
    where
      went : (o : Option Transition) → happens c.world e ≡ o → (elim o as (λ _. Ran) [ None ↦ record { course = c; bad = Some place } | Some done ↦ run es (place + 1) (going_on c done) ]) ≡ ended v
          → ((d : Transition) → happens c.world e ≡ Some d → run es (place + 1) (going_on c d) ≡ ended v → Walks es (all_told_after e d.entry all) d.world.store v.world.store × Ceases es (all_told_after e d.entry all) d.world.store)
          → Walks (e ∷ es) all c.world.store v.world.store × Ceases (e ∷ es) all c.world.store
      went None is h f = absurd (cc (ap (λ (r : Ran). r.bad) h))
      went (Some d) is h f =
          let rest = f d is h in
          let end = λ (none : es ≡ []). ap (λ (x : World). x.store) (run_world es (place + 1) (going_on c d) v h ∙ ap (λ (xs : List Event). world_after xs d.world) none) in (
            one_walks c.world chains good all m e d is es v.world.store end rest.0 rest.1,
            one_ceases c.world chains good all m e d is es v.world.store end rest.0 rest.1,
          )

-- ---- from the start of a run

-- what holds at each moment holds after events
run_good : (db : List ℕ) (es : List Event) (w : World) (chains : Chains) → IsGood db w chains → IsGood db (world_after es w) (chains_of es w chains)
run_good db [] w chains g = g
run_good db (e ∷ es) w chains g = went (happens w e) refl (λ d is. run_good db es d.world (chains_after w e chains) (good_after db w chains e d is g))
  where
    went : (o : Option Transition) → happens w e ≡ o → ((d : Transition) → happens w e ≡ Some d → IsGood db (world_after es d.world) (chains_of es d.world (chains_after w e chains)))
        → IsGood db (elim o as (λ _. World) [ None ↦ w | Some d ↦ world_after es d.world ]) (elim o as (λ _. Chains) [ None ↦ chains | Some d ↦ chains_of es d.world (chains_after w e chains) ])
    went None is f = g
    went (Some d) is f = f d is

-- as a run begins
begins_good : (specs : List DbSpec) → IsAccepted specs → (db : List ℕ) → HasDb (opening_world specs) db → IsGood db (opening_world specs) (opening_chains specs)
begins_good specs accepted db has = record { inv = opening_inv specs accepted; ordered = all_ordered specs []; has = has; source = source_begins specs accepted db has }

-- there is a manifest of each database
pub manifests_begun : (specs : List DbSpec) (events : List Event) → IsAccepted specs → AreGood specs events → (db : List ℕ) → HasDb (course_after specs events).world db → 0 < top (chains_at_end specs events logs.Manifest db)
manifests_begun specs events accepted good db has =
    let i0 = opening_inv specs accepted in
    let c = course_after specs events in
    let has0 = sym (run_same events 0 (opening specs) c (opening_chains specs) db i0 (good_run specs events good)) ∙ has in
    let g = run_good db events (opening_world specs) (opening_chains specs) (begins_good specs accepted db has0) in
    some_number (chains_at_end specs events logs.Manifest db) (g.inv.logs logs.Manifest db (g.inv.named db g.has)).chain g.source

same_rest : (xs ys zs : List Entry) → xs ++ ys ≡ xs ++ zs → ys ≡ zs
same_rest [] ys zs h = h
same_rest (x ∷ xs) ys zs h = let rest : xs ++ ys ≡ xs ++ zs = cc in same_rest xs ys zs rest

-- the database of a party that is in a call is there
has_db : (w : World) (chains : Chains) (n : ℕ) (facts : Facts) (call : Call) → Inv w chains → Matches (Some (record { facts = facts; doing = Answers call [] })) (party_of n w.parties) → HasDb w facts.db
has_db w chains n facts call i m = by_party (party_of n w.parties) refl m
  where
    by_state : (p : Party) → party_of n w.parties ≡ Some p → (state : State) → CallIs facts (Answers call []) p.facts state → HasDb w facts.db
    by_state p at Resting match = absurd match
    by_state p at Halted match = absurd match
    by_state p at (Busy task) match =
        let same : p.facts.db ≡ facts.db = sym (ap (λ (st : Standing). st.facts.db) match.1) ∙ (starts_same facts task.call).db in
        subst (HasDb w) same (i.parties n p at).has

    by_party : (o : Option Party) → party_of n w.parties ≡ o → Matches (Some (record { facts = facts; doing = Answers call [] })) o → HasDb w facts.db
    by_party None at match = absurd match
    by_party (Some p) at match = by_state p at p.state match

-- the law: a pass that nobody disturbs, between two moments of a run
pub passes_alone : (specs : List DbSpec) (front middle : List Event) → IsAccepted specs → AreGood specs (front ++ middle) → PassesAlone specs front (course_after specs front) (course_after specs (front ++ middle))
passes_alone specs front middle accepted good n facts pass min_age dry_run filter between last r log more u =
    let c = course_after specs front in
    let v = course_after specs (front ++ middle) in
    let call = calls.Pass pass min_age dry_run filter in
    let settings = pass_settings pass min_age dry_run in
    let w0 = opening_world specs in
    let all = all_told front nobody w0.store in
    let split = run_split front middle 0 (opening specs) v (good_run specs (front ++ middle) good) in
    let i0 = opening_inv specs accepted in
    let there : c.world ≡ world_after front w0 = run_world front 0 (opening specs) c split.first in
    let i = course_inv specs front accepted (ap (λ (x : Ran). x.bad) split.first) in
    let match = told_run front 0 (opening specs) c nobody (none_come specs) split.first in
    let has = has_db c.world (chains_of front w0 (opening_chains specs)) n facts call i (subst (λ (o : Option Told). Matches o (party_of n c.world.parties)) u.begins (match n)) in
    let has0 = sym (run_same front 0 (opening specs) c (opening_chains specs) facts.db i0 split.first) ∙ has in
    let begins = begins_good specs accepted facts.db has0 in
    let g = subst (λ (w : World). IsGood facts.db w (chains_of front w0 (opening_chains specs))) (sym there) (run_good facts.db front w0 (opening_chains specs) begins) in
    let entries = same_rest c.trail (trail_by middle all c.world.store) (between ++ last ∷ []) (sym (rows_run middle 0 c v all match split.second) ∙ more) in
    let walks = (walk facts call facts.db (i.named facts.db has) pass log settings.options filter n middle 0 c v (chains_of front w0 (opening_chains specs)) all g match split.second).0 in
    left facts call settings filter (answers_in (between ++ last ∷ [])) r v.world.store (walks (Removing (Reading reading.Listing)) [] u.begins refl tt between last r entries u.quiet u.goes_on u.ends)
  where
    left : (facts : Facts) (call : Call) (settings : PassSettings) (word : FilterWord) (answers : List Answered) (r : Reply) (s : Store) → RemovalEnds (pass_log settings.pass) facts.db settings word (pass_answers call (begin facts call) answers) r s
        → Leaves facts call settings word answers r s
    left facts call settings word answers r s (Lacks none is) = Exhausts none is
    left facts call settings word answers r s (Lists found moment later lists e) = Collects (record { found = found; moment = moment; later = later; lists = lists; replied = e.replied; left = e.left })
