-- Which event is bad, and which ids were carried, is what the databases and the events done say.
use Rattle.std.proofs.Common.{◌≡◌, ◌≢◌, ℕ, ℤ, ◌+◌, ◌==◌, Bool, true, false, not, List, [], ◌∷◌, ◌++◌, Option, Some, None, is_some, is_none, ◌⊎◌, inl, inr, refl, sym, ap, ◌∙◌, subst, arith}
use Rattle.std.proofs.Math.Bool.{or_assoc}
use Rattle.std.proofs.lemmas.Bool.Decides.{nat_tests}
use Rattle.std.proofs.lemmas.Map.Text.{is_eq-slice_cmp}
use Rattle.std.specs.Prelude.{if◌then◌else◌, ◌||◌, bytes_eq}
use Rattle.std.specs.List.{list_any}
use Rattle.std.specs.Option.{option_or}
use Rattle.std.specs.Map.{set_value}
use Rattle.std.specs.BTreeMap.{is_at, insert_entry}
use Rattle.std.specs.Ordering.{nat_cmp}
use Rattle.std.specs.declared.cmp.Ordering.{Ordering}
use Rattle.slate_ids.specs.Ulids.{same_id, id_cmp as ulid_cmp}
use Rattle.slate_ids.specs.declared.object_path.ObjectPath.{ObjectPath}
use Rattle.slate_ids.specs.declared.object_path.ObjectPath.TheVariants as paths
use Rattle.slate_store.specs.Store.{effect}
use Rattle.slate_store.specs.declared.mark.Mark.{Mark}
use Rattle.slate_store.specs.declared.store_call.StoreCall.{StoreCall}
use Rattle.slate_store.specs.declared.store_call.StoreCall.TheVariants.{List as ListCall, Get, PutNew, Replace, Put, Delete}
use Rattle.slate_script_events.specs.declared.call.Call.{Call}
use Rattle.slate_script_events.specs.declared.db_spec.DbSpec.{DbSpec}
use Rattle.slate_script_events.specs.declared.event.Event.{Event}
use Rattle.slate_script_events.specs.declared.event.Event.TheVariants.{Open, Start, Step, Stop}
use Rattle.slate_script_events.specs.declared.party_kind.PartyKind.{PartyKind}
use Rattle.slate_cluster_protocol.specs.Calls.{fresh_checkpoints, named_checkpoints, fresh_ulids, named_ulids}
use Rattle.slate_cluster_protocol.specs.Done.{kind_opened, was_opened, is_database, start_names, was_named, start_names_ulid, was_ulid_named, comes_again, is_old, lacks_call, is_bad_after}
use Rattle.slate_cluster_protocol.specs.Ids.{Pool, checkpoint_cmp, is_carried, is_stale_among, is_stale}
use Rattle.slate_cluster_protocol.specs.Lawful.{IsAccepted, AreGood, course_after, world_at_end}
use Rattle.slate_cluster_protocol.specs.Rows.{begin, moved}
use Rattle.slate_cluster_protocol.specs.Runs.{Course, Ran, going_on, opening, run}
use Rattle.slate_cluster_protocol.specs.Specs.{opening_world}
use Rattle.slate_cluster_protocol.specs.Works.{asks}
use Rattle.slate_cluster_protocol.specs.World.{World, Transition, db_cmp, party_of, with_party, tally_of, raise_tally, to_manifest, to_record, committed, wrote, tallied, newcomer, settled, stepped, step_state, start_state, halted, stop_state, carrying, may_start, open_at, start_at, step_at, stop_at, happens, refuses_start, is_bad}
use Rattle.slate_cluster_protocol.specs.declared.party.Party.{Party}
use Rattle.slate_cluster_protocol.specs.declared.party.State.{State}
use Rattle.slate_cluster_protocol.specs.declared.party.State.TheVariants.{Resting, Busy, Halted}
use Rattle.slate_cluster_protocol.specs.declared.party.Task.{Task}
use Rattle.slate_cluster_protocol.specs.declared.tally.Tally.{Tally}
use Rattle.slate_cluster_laws.proofs.FactsKept.{moved_same, starts_same}
use Rattle.slate_cluster_laws.proofs.GoingOn.{run_world}
use Rattle.slate_cluster_laws.proofs.Maps.{number_order, name_order, set_here, set_else, insert_here, insert_else}
use Rattle.slate_cluster_laws.proofs.Pools.{or_false, shuffle, any_alike, ulid_at, call_carried, call_carried_ulids, databases_open, checkpoints_open, ulids_open}
use Rattle.slate_cluster_laws.proofs.Removals.{good_run}
use Rattle.slate_cluster_laws.proofs.Rows.{ended, same_number}
use Rattle.slate_cluster_laws.proofs.Stores.{same_name}

-- ---- kinds of parties

abbrev kind_of : Option Party → Option PartyKind
kind_of None = None
kind_of (Some p) = Some p.facts.kind

abbrev kind_at : ℕ → World → Option PartyKind
kind_at k w = kind_of (party_of k w.parties)

-- as which kind an event opens a number
abbrev opened_as : ℕ → Event → Option PartyKind
opened_as k (Open n kind db) = if k == n then Some kind else None
opened_as k _ = None

or_none : {X : Type 0} (o : Option X) → option_or o None ≡ o
or_none None = refl
or_none (Some x) = refl

or_or : {X : Type 0} (a b c : Option X) → option_or (option_or a b) c ≡ option_or a (option_or b c)
or_or None b c = refl
or_or (Some x) b c = refl

first_kind : (k : ℕ) (e : Event) (es : List Event) → kind_opened k (e ∷ es) ≡ option_or (opened_as k e) (kind_opened k es)
first_kind k (Open n kind db) es = test (k == n)
  where
    test : (b : Bool) → (if b then Some kind else kind_opened k es) ≡ option_or (if b then Some kind else None) (kind_opened k es)
    test true = refl
    test false = refl
first_kind k (Start n call) es = refl
first_kind k (Step n moment mark) es = refl
first_kind k (Stop n) es = refl

other_number : (a b : ℕ) → (a == b) ≡ false → a ≢ b
other_number a b h = grind (arith, nat_tests)

-- ---- databases

-- the tallies of the same databases
raised_same : (d db : List ℕ) (f : Tally → Tally) (tallies : List (List ℕ × Tally)) → is_some (tally_of d (raise_tally (tally_of db tallies) db f tallies)) ≡ is_some (tally_of d tallies)
raised_same d db f tallies = test (tally_of db tallies) refl
  where
    named : (t : Tally) → tally_of db tallies ≡ Some t → (d ≡ db) ⊎ (d ≢ db) → is_some (tally_of d (set_value (is_at (db_cmp db)) tallies (f t))) ≡ is_some (tally_of d tallies)
    named t at (inl same) = ap is_some (subst (λ (n : List ℕ). tally_of n (set_value (is_at (db_cmp db)) tallies (f t)) ≡ Some (f t)) (sym same) (set_here db_cmp name_order db (f t) t tallies at))
        ∙ sym (ap is_some (subst (λ (n : List ℕ). tally_of n tallies ≡ Some t) (sym same) at))
    named t at (inr ne) = ap is_some (set_else db_cmp name_order db d (f t) tallies ne)

    test : (o : Option Tally) → tally_of db tallies ≡ o → is_some (tally_of d (raise_tally o db f tallies)) ≡ is_some (tally_of d tallies)
    test None at = refl
    test (Some t) at = named t at (same_name d db)

committed_same : (d : List ℕ) (path : ObjectPath) (tallies : List (List ℕ × Tally)) → is_some (tally_of d (committed path tallies)) ≡ is_some (tally_of d tallies)
committed_same d (paths.Manifest db n) tallies = raised_same d db (to_manifest n) tallies
committed_same d (paths.Record db n) tallies = raised_same d db (to_record n) tallies
committed_same d _ tallies = refl

tallied_same : (d : List ℕ) (call : StoreCall) (b : Bool) (tallies : List (List ℕ × Tally)) → is_some (tally_of d (tallied call b tallies)) ≡ is_some (tally_of d tallies)
tallied_same d (PutNew path bytes) true tallies = committed_same d path tallies
tallied_same d (PutNew path bytes) false tallies = refl
tallied_same d (ListCall dir) b tallies = refl
tallied_same d (Get path) b tallies = refl
tallied_same d (Replace path tag bytes) b tallies = refl
tallied_same d (Put path bytes) b tallies = refl
tallied_same d (Delete path) b tallies = refl

-- ---- what an event does

-- the same databases, one party more where it opens one, and the ids that it names
record Does (e : Event) (w : World) (v : World) : Type 0 where
  databases : (d : List ℕ) → is_some (tally_of d v.tallies) ≡ is_some (tally_of d w.tallies)
  kinds : (k : ℕ) → kind_at k v ≡ option_or (kind_at k w) (opened_as k e)
  names : (id : List ℕ) → is_carried checkpoint_cmp id v.carried.checkpoints ≡ (is_carried checkpoint_cmp id w.carried.checkpoints || start_names id e)
  ulids : (id : ℕ × ℕ) → is_carried ulid_cmp id v.carried.ulids ≡ (is_carried ulid_cmp id w.carried.ulids || start_names_ulid id e)

module _ (n : ℕ) (w : World) (p : Party) (at : party_of n w.parties ≡ Some p) where
  -- another state of a party, of the same kind
  kind_kept : (q : Party) → q.facts.kind ≡ p.facts.kind → (k : ℕ) → kind_of (party_of k (with_party n q w.parties)) ≡ kind_at k w
  kind_kept q same k = test (k == n) refl
    where
      test : (b : Bool) → (k == n) ≡ b → kind_of (party_of k (with_party n q w.parties)) ≡ kind_at k w
      test true is =
          let e = same_number k n is in
          subst (λ (j : ℕ). kind_of (party_of j (with_party n q w.parties)) ≡ kind_at j w) (sym e)
          (ap kind_of (set_here nat_cmp number_order n q p w.parties at) ∙ (ap (λ (x : PartyKind). Some x) same ∙ sym (ap kind_of at)))
      test false is = ap kind_of (set_else nat_cmp number_order n k q w.parties (other_number k n is))

  step_does : (moment : ℤ) (mark : Mark) (state : State) → Does (Step n moment mark) w (step_state w n p.facts state moment mark).world
  step_does moment mark state = by_state state
    where
      quiet : Does (Step n moment mark) w w
      quiet = record { databases = λ d. refl; kinds = λ k. sym (or_none (kind_at k w)); names = λ id. sym (or_false (is_carried checkpoint_cmp id w.carried.checkpoints)); ulids = λ id. sym (or_false (is_carried ulid_cmp id w.carried.ulids)) }

      went : (task : Task) → Does (Step n moment mark) w (stepped w n p.facts task moment mark).world
      went task =
          let o = effect mark (asks task.work) moment w.store in
          let standing = moved p.facts task.call task.work moment o.answer in
          record {
            databases = λ d. tallied_same d (asks task.work) (wrote w.store o.store) w.tallies;
            kinds = λ k. kind_kept (settled task.call standing) (moved_same p.facts task.call task.work moment o.answer).kind k ∙ sym (or_none (kind_at k w));
            names = λ id. sym (or_false (is_carried checkpoint_cmp id w.carried.checkpoints));
            ulids = λ id. sym (or_false (is_carried ulid_cmp id w.carried.ulids));
          }

      by_state : (state : State) → Does (Step n moment mark) w (step_state w n p.facts state moment mark).world
      by_state Resting = quiet
      by_state Halted = quiet
      by_state (Busy task) = went task

  start_does : (call : Call) (state : State) → Does (Start n call) w (start_state (carrying n call w) n p.facts state call).world
  start_does call state = by_state state
    where
      quiet : Does (Start n call) w (carrying n call w)
      quiet = record { databases = λ d. refl; kinds = λ k. sym (or_none (kind_at k w)); names = λ id. call_carried id n call w.carried.checkpoints; ulids = λ id. call_carried_ulids id n call w.carried.ulids }

      by_state : (state : State) → Does (Start n call) w (start_state (carrying n call w) n p.facts state call).world
      by_state Resting = record {
        databases = λ d. refl;
        kinds = λ k. kind_kept (settled call (begin p.facts call)) (starts_same p.facts call).kind k ∙ sym (or_none (kind_at k w));
        names = λ id. call_carried id n call w.carried.checkpoints;
        ulids = λ id. call_carried_ulids id n call w.carried.ulids;
      }
      by_state (Busy task) = quiet
      by_state Halted = quiet

  stop_does : (state : State) → Does (Stop n) w (stop_state w n p.facts state).world
  stop_does state = by_state state
    where
      stops : Does (Stop n) w (record w { parties = with_party n (halted p.facts) w.parties })
      stops = record {
        databases = λ d. refl;
        kinds = λ k. kind_kept (halted p.facts) refl k ∙ sym (or_none (kind_at k w));
        names = λ id. sym (or_false (is_carried checkpoint_cmp id w.carried.checkpoints));
        ulids = λ id. sym (or_false (is_carried ulid_cmp id w.carried.ulids));
      }

      by_state : (state : State) → Does (Stop n) w (stop_state w n p.facts state).world
      by_state Resting = stops
      by_state (Busy task) = stops
      by_state Halted = record { databases = λ d. refl; kinds = λ k. sym (or_none (kind_at k w)); names = λ id. sym (or_false (is_carried checkpoint_cmp id w.carried.checkpoints)); ulids = λ id. sym (or_false (is_carried ulid_cmp id w.carried.ulids)) }

-- a party that comes
open_does : (n : ℕ) (kind : PartyKind) (db : List ℕ) (w : World) → party_of n w.parties ≡ None → Does (Open n kind db) w (record w { parties = insert_entry nat_cmp w.parties n (newcomer n kind db) })
open_does n kind db w none = record {
  databases = λ d. refl;
  kinds = λ k. test k (k == n) refl;
  names = λ id. sym (or_false (is_carried checkpoint_cmp id w.carried.checkpoints));
  ulids = λ id. sym (or_false (is_carried ulid_cmp id w.carried.ulids));
}
  where
    test : (k : ℕ) (b : Bool) → (k == n) ≡ b → kind_of (party_of k (insert_entry nat_cmp w.parties n (newcomer n kind db))) ≡ option_or (kind_at k w) (if b then Some kind else None)
    test k true is =
        let e = same_number k n is in
        subst (λ (j : ℕ). kind_of (party_of j (insert_entry nat_cmp w.parties n (newcomer n kind db))) ≡ option_or (kind_at j w) (Some kind)) (sym e)
        (ap kind_of (insert_here nat_cmp number_order n (newcomer n kind db) w.parties) ∙ sym (ap (λ (o : Option Party). option_or (kind_of o) (Some kind)) none))
    test k false is = ap kind_of (insert_else nat_cmp number_order n k (newcomer n kind db) w.parties (other_number k n is)) ∙ sym (or_none (kind_at k w))

event_does : (w : World) (e : Event) (d : Transition) → happens w e ≡ Some d → Does e w d.world
event_does w (Open n kind db) d is = opened (party_of n w.parties) (tally_of db w.tallies) refl is
  where
    opened : (o : Option Party) (t : Option Tally) → party_of n w.parties ≡ o → open_at w n kind db o t ≡ Some d → Does (Open n kind db) w d.world
    opened None (Some t) none is = subst (λ (o : Option Transition). elim o as (λ _. Type 0) [ None ↦ Unit {0} | Some d ↦ Does (Open n kind db) w d.world ]) is (open_does n kind db w none)
    opened None None none is = absurd cc
    opened (Some p) t none is = absurd cc
event_does w (Start n call) d is = started (party_of n w.parties) refl is
  where
    test : (p : Party) → party_of n w.parties ≡ Some p → (b : Bool) → (if b then Some (start_state (carrying n call w) n p.facts p.state call) else None) ≡ Some d → Does (Start n call) w d.world
    test p at true is = let same : start_state (carrying n call w) n p.facts p.state call ≡ d = cc in subst (λ (r : Transition). Does (Start n call) w r.world) same (start_does n w p at call p.state)
    test p at false is = absurd cc

    started : (o : Option Party) → party_of n w.parties ≡ o → start_at w n call o ≡ Some d → Does (Start n call) w d.world
    started None at is = absurd cc
    started (Some p) at is = test p at (may_start w call p) is
event_does w (Step n moment mark) d is = went (party_of n w.parties) refl is
  where
    went : (o : Option Party) → party_of n w.parties ≡ o → step_at w n moment mark o ≡ Some d → Does (Step n moment mark) w d.world
    went None at is = absurd cc
    went (Some p) at is = let same : step_state w n p.facts p.state moment mark ≡ d = cc in subst (λ (r : Transition). Does (Step n moment mark) w r.world) same (step_does n w p at moment mark p.state)
event_does w (Stop n) d is = went (party_of n w.parties) refl is
  where
    went : (o : Option Party) → party_of n w.parties ≡ o → stop_at w n o ≡ Some d → Does (Stop n) w d.world
    went None at is = absurd cc
    went (Some p) at is = let same : stop_state w n p.facts p.state ≡ d = cc in subst (λ (r : Transition). Does (Stop n) w r.world) same (stop_does n w p at p.state)

-- ---- what events do

record Did (es : List Event) (w v : World) : Type 0 where
  databases : (d : List ℕ) → is_some (tally_of d v.tallies) ≡ is_some (tally_of d w.tallies)
  kinds : (k : ℕ) → kind_at k v ≡ option_or (kind_at k w) (kind_opened k es)
  names : (id : List ℕ) → is_carried checkpoint_cmp id v.carried.checkpoints ≡ (is_carried checkpoint_cmp id w.carried.checkpoints || list_any (start_names id) es)
  ulids : (id : ℕ × ℕ) → is_carried ulid_cmp id v.carried.ulids ≡ (is_carried ulid_cmp id w.carried.ulids || list_any (start_names_ulid id) es)

more_did : (e : Event) (es : List Event) (w mid v : World) → Does e w mid → Did es mid v → Did (e ∷ es) w v
more_did e es w mid v a b = record {
  databases = λ d. b.databases d ∙ a.databases d;
  kinds = λ k. b.kinds k ∙ (ap (λ (o : Option PartyKind). option_or o (kind_opened k es)) (a.kinds k) ∙ (or_or (kind_at k w) (opened_as k e) (kind_opened k es) ∙ sym (ap (option_or (kind_at k w)) (first_kind k e es))));
  names = λ id. b.names id ∙ (ap (λ (x : Bool). x || list_any (start_names id) es) (a.names id) ∙ or_assoc (is_carried checkpoint_cmp id w.carried.checkpoints) (start_names id e) (list_any (start_names id) es));
  ulids = λ id. b.ulids id ∙ (ap (λ (x : Bool). x || list_any (start_names_ulid id) es) (a.ulids id) ∙ or_assoc (is_carried ulid_cmp id w.carried.ulids) (start_names_ulid id e) (list_any (start_names_ulid id) es));
}

run_did : (es : List Event) (place : ℕ) (c v : Course) → run es place c ≡ ended v → Did es c.world v.world
run_did [] place c v h =
    let same : c ≡ v = ap (λ (r : Ran). r.course) h in
    subst (λ (x : Course). Did [] c.world x.world) same
    (record { databases = λ d. refl; kinds = λ k. sym (or_none (kind_at k c.world)); names = λ id. sym (or_false (is_carried checkpoint_cmp id c.world.carried.checkpoints)); ulids = λ id. sym (or_false (is_carried ulid_cmp id c.world.carried.ulids)) })
run_did (e ∷ es) place c v h = went (happens c.world e) refl h (λ d k. run_did es (place + 1) (going_on c d) v k)
  where
    went : (o : Option Transition) → happens c.world e ≡ o → (elim o as (λ _. Ran) [ None ↦ record { course = c; bad = Some place } | Some done ↦ run es (place + 1) (going_on c done) ]) ≡ ended v
        → ((d : Transition) → run es (place + 1) (going_on c d) ≡ ended v → Did es d.world v.world) → Did (e ∷ es) c.world v.world
    went None is h f = absurd (cc (ap (λ (r : Ran). r.bad) h))
    went (Some d) is h f = more_did e es c.world d.world v.world (event_does c.world e d is) (f d h)

-- ---- bad events

-- in a pool whose ids are those that were named, an id is stale where it was named or comes again
stale_among : {K : Type 0} (cmp : K → K → Ordering) (is : K → K → Bool) (same : (a b : K) → is_at (cmp a) b ≡ is a b) (pool : Pool K) (was : K → Bool) → ((id : K) → is_carried cmp id pool ≡ was id)
    → (ids others : List K) → is_stale_among cmp ids others pool ≡ (list_any was ids || comes_again is ids others)
stale_among cmp is same pool was told [] others = refl
stale_among {K} cmp is same pool was told (id ∷ ids) others =
    ap (λ (b : Bool). b || list_any (is_at (cmp id)) (ids ++ others) || is_stale_among cmp ids others pool) (told id)
    ∙ (ap (λ (b : Bool). was id || b || is_stale_among cmp ids others pool) (any_alike (is_at (cmp id)) (is id) (ids ++ others) (λ (x : K). same id x))
    ∙ (ap (λ (b : Bool). was id || list_any (is id) (ids ++ others) || b) (stale_among cmp is same pool was told ids others)
    ∙ shuffle (was id) (list_any (is id) (ids ++ others)) (list_any was ids) (comes_again is ids others)))

kind_there : (o : Option Party) → is_some o ≡ is_some (kind_of o)
kind_there None = refl
kind_there (Some p) = refl

none_there : {X : Type 0} (o : Option X) → is_none o ≡ not (is_some o)
none_there None = refl
none_there (Some x) = refl

start_refused : (w : World) (call : Call) (o : Option Party) → refuses_start w call o ≡ (lacks_call (kind_of o) call || is_stale w.carried call)
start_refused w call None = refl
start_refused w call (Some p) = refl

module _ (specs : List DbSpec) (accepted : IsAccepted specs) (events : List Event) (good : AreGood specs events) where
  abbrev end : World
  end = world_at_end specs events

  did : Did events (opening_world specs) end
  did =
      let v = course_after specs events in
      let h = good_run specs events good in
      subst (Did events (opening_world specs)) (run_world events 0 (opening specs) v h) (run_did events 0 (opening specs) v h)

  -- an id of a checkpoint is carried where an opening value or an event done named it
  pub checkpoints_named : (id : List ℕ) → is_carried checkpoint_cmp id end.carried.checkpoints ≡ was_named specs events id
  checkpoints_named id = did.names id ∙ ap (λ (b : Bool). b || list_any (start_names id) events) (checkpoints_open specs accepted.accepted id)

  -- so is an id of a table, a view or a compaction
  pub ulids_named : (id : ℕ × ℕ) → is_carried ulid_cmp id end.carried.ulids ≡ was_ulid_named specs events id
  ulids_named id = did.ulids id ∙ ap (λ (b : Bool). b || list_any (start_names_ulid id) events) (ulids_open specs id)

  database_there : (db : List ℕ) → is_some (tally_of db end.tallies) ≡ is_database db specs
  database_there db = did.databases db ∙ databases_open specs accepted.accepted db

  never_came : (n : ℕ) → is_none (party_of n end.parties) ≡ not (was_opened n events)
  never_came n = none_there (party_of n end.parties) ∙ ap not (kind_there (party_of n end.parties) ∙ ap is_some (did.kinds n))

  -- whether a call brings an id that isn't fresh
  stale : (call : Call) → is_stale end.carried call ≡ is_old specs events call
  stale call =
      ap (λ (b : Bool). b || is_stale_among ulid_cmp (fresh_ulids call) (named_ulids call) end.carried.ulids)
      (stale_among checkpoint_cmp bytes_eq is_eq-slice_cmp end.carried.checkpoints (was_named specs events) checkpoints_named (fresh_checkpoints call) (named_checkpoints call))
      ∙ ap (λ (b : Bool). (list_any (was_named specs events) (fresh_checkpoints call) || comes_again bytes_eq (fresh_checkpoints call) (named_checkpoints call)) || b)
      (stale_among ulid_cmp same_id ulid_at end.carried.ulids (was_ulid_named specs events) ulids_named (fresh_ulids call) (named_ulids call))

  -- an event is bad where the databases and the events done say so
  pub bad_after : (e : Event) → is_bad end e ≡ is_bad_after specs events e
  bad_after (Open n kind db) =
      ap (λ (b : Bool). b || is_none (tally_of db end.tallies)) (kind_there (party_of n end.parties) ∙ ap is_some (did.kinds n))
      ∙ ap (λ (b : Bool). was_opened n events || b) (none_there (tally_of db end.tallies) ∙ ap not (database_there db))
  bad_after (Start n call) =
      start_refused end call (party_of n end.parties)
      ∙ (ap (λ (o : Option PartyKind). lacks_call o call || is_stale end.carried call) (did.kinds n)
      ∙ ap (λ (b : Bool). lacks_call (kind_opened n events) call || b) (stale call))
  bad_after (Step n moment mark) = never_came n
  bad_after (Stop n) = never_came n
