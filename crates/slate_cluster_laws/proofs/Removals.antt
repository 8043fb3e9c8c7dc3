-- Each event has one entry in the trail, and the count of deletes is that of the removals of the trail.
use Rattle.std.proofs.Common.{◌≡◌, ℕ, ℤ, ◌+◌, ◌≤◌, min, suc, nat_lt, Bool, true, false, not, List, [], ◌∷◌, ◌++◌, length, Option, Some, None, is_some, refl, sym, ap, ◌∙◌, subst, cond, append_assoc, arith}
use Rattle.std.proofs.lemmas.Bool.Decides.{nat_tests}
use Rattle.std.proofs.lemmas.List.{append-nil, length-append}
use Rattle.std.specs.Prelude.{if◌then◌else◌, ◌&&◌}
use Rattle.std.specs.Map.{lookup, remove_entry}
use Rattle.std.specs.BTreeMap.{is_at}
use Rattle.std.specs.Ordering.{nat_cmp, is_eq}
use Rattle.std.specs.Cmp.Lexicographic.{slice_cmp}
use Rattle.std.specs.declared.cmp.Ordering.{Ordering}
use Rattle.slate_ids.specs.Limits.{last_number}
use Rattle.slate_ids.specs.PathText.{path_text, path_cmp}
use Rattle.slate_ids.specs.declared.object_path.ObjectPath.{ObjectPath}
use Rattle.slate_store.specs.Store.{Store, stands_at, removed, effect}
use Rattle.slate_store.specs.declared.mark.Mark.{Mark}
use Rattle.slate_store.specs.declared.mark.Mark.TheVariants.{Good, Fail, Lost}
use Rattle.slate_store.specs.declared.object.StoredObject.{StoredObject}
use Rattle.slate_store.specs.declared.store_call.StoreCall.{StoreCall}
use Rattle.slate_store.specs.declared.store_call.StoreCall.TheVariants.{Delete}
use Rattle.slate_script_events.specs.declared.call.Call.{Call}
use Rattle.slate_script_events.specs.declared.db_spec.DbSpec.{DbSpec}
use Rattle.slate_script_events.specs.declared.entry.Entry.{Entry}
use Rattle.slate_script_events.specs.declared.event.Event.{Event}
use Rattle.slate_script_events.specs.declared.event.Event.TheVariants.{Open, Start, Step, Stop}
use Rattle.slate_cluster_protocol.specs.ByRows.{entry_store}
use Rattle.slate_cluster_protocol.specs.Lawful.{AreGood, course_after, gone_after}
use Rattle.slate_cluster_protocol.specs.Runs.{Course, Ran, going_on, opening, run}
use Rattle.slate_cluster_protocol.specs.Safe.{path_if, took_away, removed_by_call, removed_by, gone}
use Rattle.slate_cluster_protocol.specs.Specs.{opening_world}
use Rattle.slate_cluster_protocol.specs.Works.{asks}
use Rattle.slate_cluster_protocol.specs.World.{World, Transition, party_of, tally_of, lost_one, counted, noted, step_state, start_state, stop_state, carrying, may_start, open_at, start_at, step_at, stop_at, happens}
use Rattle.slate_cluster_protocol.specs.declared.party.Facts.{Facts}
use Rattle.slate_cluster_protocol.specs.declared.party.Party.{Party}
use Rattle.slate_cluster_protocol.specs.declared.party.State.{State}
use Rattle.slate_cluster_protocol.specs.declared.party.State.TheVariants.{Resting, Busy, Halted}
use Rattle.slate_cluster_protocol.specs.declared.tally.Tally.{Tally}
use Rattle.slate_cluster_laws.proofs.Ordered.{IsAbove, IsOrdered, event_ordered, all_ordered}
use Rattle.slate_cluster_laws.proofs.Rows.{ended}
use Rattle.slate_store.proofs.LookUps.{same_found}

-- ---- an object that is removed

abbrev Entries : Type 0
Entries = List (ObjectPath × StoredObject)

-- whether an entry is at a path
abbrev has : ObjectPath → Entries → Bool
has p es = is_some (lookup (is_at (path_cmp p)) es)

-- a path that is below all others isn't among them
none_below : (p : ObjectPath) (es : Entries) → IsAbove p es → has p es ≡ false
none_below p [] h = refl
none_below p (e ∷ es) h = ap (λ (o : Ordering). is_some (cond (is_eq o) (Some e.1) (lookup (is_at (path_cmp p)) es))) h.0 ∙ none_below p es h.1

-- nor is one with the text of such a path
none_alike : (p q : ObjectPath) (es : Entries) → path_text p ≡ path_text q → IsAbove q es → has p es ≡ false
none_alike p q es same h = ap (λ (text : List ℕ). is_some (lookup (λ (r : ObjectPath). is_eq (slice_cmp nat_cmp text (path_text r))) es)) same ∙ none_below q es h

-- the objects ascend, so one that is removed is gone
gone_left : (p : ObjectPath) (es : Entries) → IsOrdered es → has p (remove_entry (is_at (path_cmp p)) es) ≡ false
gone_left p [] h = refl
gone_left p (e ∷ es) h = test (is_at (path_cmp p) e.0) refl (gone_left p es h.1)
  where
    test : (b : Bool) → is_at (path_cmp p) e.0 ≡ b → has p (remove_entry (is_at (path_cmp p)) es) ≡ false → has p (cond b es (e ∷ remove_entry (is_at (path_cmp p)) es)) ≡ false
    test true is rest = none_alike p e.0 es (same_found p e.0 is) h.0
    test false is rest = ap (λ (b : Bool). is_some (cond b (Some e.1) (lookup (is_at (path_cmp p)) (remove_entry (is_at (path_cmp p)) es)))) is ∙ rest

less_by_one : (n : ℕ) → nat_lt n (suc n) ≡ true
less_by_one n = grind (arith, nat_tests)

not_less : (n : ℕ) → nat_lt n n ≡ false
not_less n = grind (arith, nat_tests)

both_more : (a b : ℕ) → nat_lt (suc a) (suc b) ≡ nat_lt a b
both_more a b = grind (arith, nat_tests)

-- the list gets shorter exactly where an object was there
shorter : (p : ObjectPath) (es : Entries) → nat_lt (length (remove_entry (is_at (path_cmp p)) es)) (length es) ≡ has p es
shorter p [] = refl
shorter p (e ∷ es) = test (is_at (path_cmp p) e.0) (shorter p es)
  where
    test : (b : Bool) → nat_lt (length (remove_entry (is_at (path_cmp p)) es)) (length es) ≡ has p es
        → nat_lt (length (cond b es (e ∷ remove_entry (is_at (path_cmp p)) es))) (length (e ∷ es)) ≡ is_some (cond b (Some e.1) (lookup (is_at (path_cmp p)) es))
    test true rest = less_by_one (length es)
    test false rest = both_more (length (remove_entry (is_at (path_cmp p)) es)) (length es) ∙ rest

-- ---- what a call counts

no_more : (d : ℕ) → d ≤ last_number → d ≡ min (d + 0) last_number
no_more d h = grind arith

module _ (path : ObjectPath) (s : Store) (deleted : ℕ) (most : deleted ≤ last_number) where
  -- what is counted and what is taken away go by one test
  by_test : (lost took b : Bool) → lost ≡ b → took ≡ b → counted (Delete path) lost deleted ≡ min (deleted + length (path_if took path)) last_number
  by_test lost took true a e = ap (λ (x : Bool). counted (Delete path) x deleted) a ∙ sym (ap (λ (x : Bool). min (deleted + length (path_if x path)) last_number) e)
  by_test lost took false a e = ap (λ (x : Bool). counted (Delete path) x deleted) a ∙ (no_more deleted most ∙ sym (ap (λ (x : Bool). min (deleted + length (path_if x path)) last_number) e))

  and_true : (a : Bool) → (a && true) ≡ a
  and_true true = refl
  and_true false = refl

  and_not : (a : Bool) → (a && not a) ≡ false
  and_not true = refl
  and_not false = refl

  removal_counts : IsOrdered s.objects → counted (Delete path) (lost_one s (removed path s)) deleted ≡ min (deleted + length (removed_by_call (Delete path) s (removed path s))) last_number
  removal_counts h = by_test (lost_one s (removed path s)) (took_away path s (removed path s)) (has path s.objects) (shorter path s.objects)
      (ap (λ (b : Bool). has path s.objects && not b) (gone_left path s.objects h) ∙ and_true (has path s.objects))

  still_counts : counted (Delete path) (lost_one s s) deleted ≡ min (deleted + length (removed_by_call (Delete path) s s)) last_number
  still_counts = by_test (lost_one s s) (took_away path s s) false (not_less (length s.objects)) (and_not (stands_at path s))

  delete_counts : (mark : Mark) (moment : ℤ) → IsOrdered s.objects
      → counted (Delete path) (lost_one s (effect mark (Delete path) moment s).store) deleted ≡ min (deleted + length (removed_by_call (Delete path) s (effect mark (Delete path) moment s).store)) last_number
  delete_counts Good moment h = removal_counts h
  delete_counts Lost moment h = removal_counts h
  delete_counts Fail moment h = still_counts

call_counts : (call : StoreCall) (mark : Mark) (moment : ℤ) (s : Store) (deleted : ℕ) → deleted ≤ last_number → IsOrdered s.objects
    → counted call (lost_one s (effect mark call moment s).store) deleted ≡ min (deleted + length (removed_by_call call s (effect mark call moment s).store)) last_number
call_counts (Delete path) mark moment s deleted most h = delete_counts path s deleted most mark moment h
call_counts _ mark moment s deleted most h = no_more deleted most

-- ---- what an event counts

-- the store is what the entry leaves, and one more is counted where the entry removed one
record Counts (w : World) (d : Transition) : Type 0 where
  store : d.world.store ≡ entry_store d.entry w.store
  deleted : d.world.deleted ≡ min (w.deleted + length (removed_by d.entry w.store)) last_number

module _ (w : World) (most : w.deleted ≤ last_number) (h : IsOrdered w.store.objects) where
  quiet : (d : Transition) → d.world.store ≡ w.store → d.world.deleted ≡ w.deleted → entry_store d.entry w.store ≡ w.store → removed_by d.entry w.store ≡ [] → Counts w d
  quiet d store deleted stays none = record {
    store = store ∙ sym stays;
    deleted = deleted ∙ (no_more w.deleted most ∙ ap (λ (ps : List ObjectPath). min (w.deleted + length ps) last_number) (sym none));
  }

  step_counts : (n : ℕ) (facts : Facts) (moment : ℤ) (mark : Mark) (state : State) → Counts w (step_state w n facts state moment mark)
  step_counts n facts moment mark Resting = quiet (noted n w) refl refl refl refl
  step_counts n facts moment mark Halted = quiet (noted n w) refl refl refl refl
  step_counts n facts moment mark (Busy task) = record { store = refl; deleted = call_counts (asks task.work) mark moment w.store w.deleted most h }

  start_counts : (n : ℕ) (call : Call) (facts : Facts) (state : State) → Counts w (start_state (carrying n call w) n facts state call)
  start_counts n call facts Resting = quiet (start_state (carrying n call w) n facts Resting call) refl refl refl refl
  start_counts n call facts (Busy task) = quiet (noted n (carrying n call w)) refl refl refl refl
  start_counts n call facts Halted = quiet (noted n (carrying n call w)) refl refl refl refl

  stop_counts : (n : ℕ) (facts : Facts) (state : State) → Counts w (stop_state w n facts state)
  stop_counts n facts Resting = quiet (stop_state w n facts Resting) refl refl refl refl
  stop_counts n facts (Busy task) = quiet (stop_state w n facts (Busy task)) refl refl refl refl
  stop_counts n facts Halted = quiet (noted n w) refl refl refl refl

  event_counts : (e : Event) (d : Transition) → happens w e ≡ Some d → Counts w d
  event_counts (Open n kind db) d is = opened (party_of n w.parties) (tally_of db w.tallies) is
    where
      opened : (o : Option Party) (t : Option Tally) → open_at w n kind db o t ≡ Some d → Counts w d
      opened None (Some t) is = subst (λ (o : Option Transition). elim o as (λ _. Type 0) [ None ↦ Unit {0} | Some d ↦ Counts w d ]) is (quiet _ refl refl refl refl)
      opened None None is = absurd cc
      opened (Some p) t is = absurd cc
  event_counts (Start n call) d is = started (party_of n w.parties) is
    where
      test : (p : Party) (b : Bool) → (if b then Some (start_state (carrying n call w) n p.facts p.state call) else None) ≡ Some d → Counts w d
      test p true is = let same : start_state (carrying n call w) n p.facts p.state call ≡ d = cc in subst (Counts w) same (start_counts n call p.facts p.state)
      test p false is = absurd cc

      started : (o : Option Party) → start_at w n call o ≡ Some d → Counts w d
      started None is = absurd cc
      started (Some p) is = test p (may_start w call p) is
  event_counts (Step n moment mark) d is = went (party_of n w.parties) is
    where
      went : (o : Option Party) → step_at w n moment mark o ≡ Some d → Counts w d
      went None is = absurd cc
      went (Some p) is = let same : step_state w n p.facts p.state moment mark ≡ d = cc in subst (Counts w) same (step_counts n p.facts moment mark p.state)
  event_counts (Stop n) d is = went (party_of n w.parties) is
    where
      went : (o : Option Party) → stop_at w n o ≡ Some d → Counts w d
      went None is = absurd cc
      went (Some p) is = let same : stop_state w n p.facts p.state ≡ d = cc in subst (Counts w) same (stop_counts n p.facts p.state)

-- ---- along a run

-- what the entries of a run are: one for each event, and those of them that removed an object are counted
record RunCounts (c v : Course) (events : ℕ) : Type 0 where
  entries : List Entry
  trail : v.trail ≡ c.trail ++ entries
  one_each : length entries ≡ events
  deleted : v.world.deleted ≡ min (c.world.deleted + length (gone entries c.world.store)) last_number

at_most : (n : ℕ) → min n last_number ≤ last_number
at_most n = omega arith

one_more : (a d j k : ℕ) → a ≡ min (d + j) last_number → min (a + k) last_number ≡ min (d + (j + k)) last_number
one_more a d j k h = grind arith

-- one entry more in front
more_counts : (c v : Course) (d : Transition) (events : ℕ) → Counts c.world d → RunCounts (going_on c d) v events → RunCounts c v (suc events)
more_counts c v d events k r = record {
  entries = d.entry ∷ r.entries;
  trail = r.trail ∙ append_assoc c.trail (d.entry ∷ []) r.entries;
  one_each = ap (λ (n : ℕ). suc n) r.one_each;
  deleted = r.deleted
      ∙ (one_more d.world.deleted c.world.deleted (length (removed_by d.entry c.world.store)) (length (gone r.entries d.world.store)) k.deleted
      ∙ ap (λ (n : ℕ). min (c.world.deleted + n) last_number)
      (ap (λ (s : Store). length (removed_by d.entry c.world.store) + length (gone r.entries s)) k.store
      ∙ sym (length-append (removed_by d.entry c.world.store) (gone r.entries (entry_store d.entry c.world.store)))));
}

run_counts : (es : List Event) (place : ℕ) (c v : Course) → c.world.deleted ≤ last_number → IsOrdered c.world.store.objects → run es place c ≡ ended v → RunCounts c v (length es)
run_counts [] place c v most h is =
    let same : c ≡ v = ap (λ (r : Ran). r.course) is in
    record {
      entries = [];
      trail = ap (λ (x : Course). x.trail) (sym same) ∙ sym (append-nil c.trail);
      one_each = refl;
      deleted = ap (λ (x : Course). x.world.deleted) (sym same) ∙ no_more c.world.deleted most;
    }
run_counts (e ∷ es) place c v most h is =
    went (happens c.world e) refl is
    (λ d k at. run_counts es (place + 1) (going_on c d) v (subst (λ (n : ℕ). n ≤ last_number) (sym (event_counts c.world most h e d at).deleted) (at_most (c.world.deleted + length (removed_by d.entry c.world.store)))) (event_ordered c.world e d at h) k)
  where
    went : (o : Option Transition) → happens c.world e ≡ o → (elim o as (λ _. Ran) [ None ↦ record { course = c; bad = Some place } | Some done ↦ run es (place + 1) (going_on c done) ]) ≡ ended v
        → ((d : Transition) → run es (place + 1) (going_on c d) ≡ ended v → happens c.world e ≡ Some d → RunCounts (going_on c d) v (length es)) → RunCounts c v (length (e ∷ es))
    went None at is f = absurd (cc (ap (λ (r : Ran). r.bad) is))
    went (Some d) at is f = more_counts c v d (length es) (event_counts c.world most h e d at) (f d is at)

-- ---- of every run

-- a run of which no event is bad ends where it led
pub good_run : (specs : List DbSpec) (events : List Event) → AreGood specs events → run events 0 (opening specs) ≡ ended (course_after specs events)
good_run specs events good = ap (λ (b : Option ℕ). record { course = course_after specs events; bad = b }) good

counts_of_run : (specs : List DbSpec) (events : List Event) → AreGood specs events → RunCounts (opening specs) (course_after specs events) (length events)
counts_of_run specs events good = run_counts events 0 (opening specs) (course_after specs events) (omega arith) (all_ordered specs []) (good_run specs events good)

-- each event has one entry
pub one_entry : (specs : List DbSpec) (events : List Event) → AreGood specs events → length (course_after specs events).trail ≡ length events
one_entry specs events good = let r = counts_of_run specs events good in ap (λ (xs : List Entry). length xs) r.trail ∙ r.one_each

from_none : (n : ℕ) → min (0 + n) last_number ≡ min n last_number
from_none n = grind arith

-- the count of deletes is that of the removals
pub removals_counted : (specs : List DbSpec) (events : List Event) → AreGood specs events → (course_after specs events).world.deleted ≡ min (length (gone_after specs events)) last_number
removals_counted specs events good =
    let r = counts_of_run specs events good in
    r.deleted ∙ (from_none (length (gone r.entries (opening_world specs).store)) ∙ ap (λ (xs : List Entry). min (length (gone xs (opening_world specs).store)) last_number) (sym r.trail))
