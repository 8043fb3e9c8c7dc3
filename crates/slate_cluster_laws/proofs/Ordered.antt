-- The objects of a store ascend by their paths, whatever happens: each path comes once.
use Rattle.std.proofs.Common.{◌≡◌, ℕ, ℤ, Bool, true, false, List, [], ◌∷◌, Option, Some, None, refl, ap, ◌∙◌, subst, cond}
use Rattle.std.specs.Prelude.{if◌then◌else◌}
use Rattle.std.specs.Map.{remove_entry}
use Rattle.std.specs.BTreeMap.{is_at, insert_entry}
use Rattle.std.specs.Cmp.{IsTotalOrder}
use Rattle.std.specs.Cmp.Lexicographic.{on_texts}
use Rattle.std.specs.Ordering.{match_ordering, ordering_reverse}
use Rattle.std.specs.declared.cmp.Ordering.{Ordering}
use Rattle.std.specs.declared.cmp.Ordering.TheVariants.{Less, Equal, Greater}
use Rattle.slate_ids.specs.PathText.{path_text, path_cmp}
use Rattle.slate_ids.specs.declared.object_path.ObjectPath.{ObjectPath}
use Rattle.slate_store.specs.Store.{Store, object_at, has_tag, stored, put_new, replace, whole, taken, under, effect}
use Rattle.slate_store.specs.declared.mark.Mark.{Mark}
use Rattle.slate_store.specs.declared.mark.Mark.TheVariants.{Good, Fail, Lost}
use Rattle.slate_store.specs.declared.object.StoredObject.{StoredObject}
use Rattle.slate_store.specs.declared.store_call.StoreCall.{StoreCall}
use Rattle.slate_store.specs.declared.store_call.StoreCall.TheVariants.{List as ListCall, Get, PutNew, Replace, Put, Delete}
use Rattle.slate_script_events.specs.declared.call.Call.{Call}
use Rattle.slate_script_events.specs.declared.db_spec.DbSpec.{DbSpec}
use Rattle.slate_script_events.specs.declared.event.Event.{Event}
use Rattle.slate_script_events.specs.declared.event.Event.TheVariants.{Open, Start, Step, Stop}
use Rattle.slate_cluster_protocol.specs.Logs.{world_after}
pub use Rattle.slate_cluster_protocol.specs.OpeningStore.{IsAbove, IsOrdered}
use Rattle.slate_cluster_protocol.specs.Specs.{First, objects_of, listed_or_none, no_objects, store_from, opening_world}
use Rattle.slate_cluster_protocol.specs.Works.{asks}
use Rattle.slate_cluster_protocol.specs.World.{World, Transition, party_of, tally_of, step_state, start_state, stop_state, carrying, may_start, open_at, start_at, step_at, stop_at, happens}
use Rattle.slate_cluster_protocol.specs.declared.party.Facts.{Facts}
use Rattle.slate_cluster_protocol.specs.declared.party.Party.{Party}
use Rattle.slate_cluster_protocol.specs.declared.party.State.{State}
use Rattle.slate_cluster_protocol.specs.declared.party.State.TheVariants.{Resting, Busy, Halted}
use Rattle.slate_cluster_protocol.specs.declared.tally.Tally.{Tally}

abbrev Entries : Type 0
Entries = List (ObjectPath × StoredObject)

pub path_order : IsTotalOrder path_cmp
path_order = on_texts path_text

module _ {X : Type 0} where
  above_all : (q p : ObjectPath) → path_cmp q p ≡ Less → (es : List (ObjectPath × X)) → IsAbove p es → IsAbove q es
  above_all q p lt [] h = tt
  above_all q p lt (e ∷ es) h = (path_order.trans q p e.0 lt h.0, above_all q p lt es h.1)

  above_put : (q p : ObjectPath) (v : X) → path_cmp q p ≡ Less → (es : List (ObjectPath × X)) → IsAbove q es → IsAbove q (insert_entry path_cmp es p v)
  above_put q p v lt [] h = (lt, tt)
  above_put q p v lt (e ∷ es) h = step (path_cmp p e.0) (above_put q p v lt es h.1)
    where
      step : (o : Ordering) → IsAbove q (insert_entry path_cmp es p v) → IsAbove q (match_ordering o ((p, v) ∷ e ∷ es) ((e.0, v) ∷ es) (e ∷ insert_entry path_cmp es p v))
      step Less rest = (lt, h)
      step Equal rest = h
      step Greater rest = (h.0, rest)

  pub ordered_put : (p : ObjectPath) (v : X) (es : List (ObjectPath × X)) → IsOrdered es → IsOrdered (insert_entry path_cmp es p v)
  ordered_put p v [] h = (tt, tt)
  ordered_put p v (e ∷ es) h = step (path_cmp p e.0) refl (ordered_put p v es h.1)
    where
      step : (o : Ordering) → path_cmp p e.0 ≡ o → IsOrdered (insert_entry path_cmp es p v) → IsOrdered (match_ordering o ((p, v) ∷ e ∷ es) ((e.0, v) ∷ es) (e ∷ insert_entry path_cmp es p v))
      step Less at rest = ((at, above_all p e.0 at es h.0), h)
      step Equal at rest = h
      step Greater at rest = (above_put e.0 p v (path_order.antisymm e.0 p ∙ ap ordering_reverse at) es h.0, rest)

module _ (p : ObjectPath) where
  above_left : (q : ObjectPath) (es : Entries) → IsAbove q es → IsAbove q (remove_entry (is_at (path_cmp p)) es)
  above_left q [] h = tt
  above_left q (e ∷ es) h = test (is_at (path_cmp p) e.0) (above_left q es h.1)
    where
      test : (b : Bool) → IsAbove q (remove_entry (is_at (path_cmp p)) es) → IsAbove q (cond b es (e ∷ remove_entry (is_at (path_cmp p)) es))
      test true rest = h.1
      test false rest = (h.0, rest)

  ordered_left : (es : Entries) → IsOrdered es → IsOrdered (remove_entry (is_at (path_cmp p)) es)
  ordered_left [] h = tt
  ordered_left (e ∷ es) h = test (is_at (path_cmp p) e.0) (ordered_left es h.1)
    where
      test : (b : Bool) → IsOrdered (remove_entry (is_at (path_cmp p)) es) → IsOrdered (cond b es (e ∷ remove_entry (is_at (path_cmp p)) es))
      test true rest = h.1
      test false rest = (above_left e.0 es h.0, rest)

-- ---- calls

put_ordered : (p : ObjectPath) (bytes : List ℕ) (moment : ℤ) (s : Store) → IsOrdered s.objects → (o : Option StoredObject) → IsOrdered (put_new o p bytes moment s).store.objects
put_ordered p bytes moment s h (Some object) = h
put_ordered p bytes moment s h None = ordered_put p _ s.objects h

replace_ordered : (p : ObjectPath) (bytes : List ℕ) (moment : ℤ) (s : Store) → IsOrdered s.objects → (b : Bool) → IsOrdered (replace b p bytes moment s).store.objects
replace_ordered p bytes moment s h false = h
replace_ordered p bytes moment s h true = ordered_put p _ s.objects h

whole_ordered : (call : StoreCall) (moment : ℤ) (s : Store) → IsOrdered s.objects → IsOrdered (whole call moment s).store.objects
whole_ordered (ListCall dir) moment s h = h
whole_ordered (Get path) moment s h = h
whole_ordered (PutNew path bytes) moment s h = put_ordered path bytes moment s h (object_at path s)
whole_ordered (Replace path tag bytes) moment s h = replace_ordered path bytes moment s h (has_tag tag (object_at path s))
whole_ordered (Put path bytes) moment s h = ordered_put path _ s.objects h
whole_ordered (Delete path) moment s h = ordered_left path s.objects h

-- a call leaves the order
pub effect_ordered : (mark : Mark) (call : StoreCall) (moment : ℤ) (s : Store) → IsOrdered s.objects → IsOrdered (effect mark call moment s).store.objects
effect_ordered mark call moment s h = by_mark (taken mark call s)
  where
    by_mark : (m : Mark) → IsOrdered (under m (whole call moment s) s).store.objects
    by_mark Good = whole_ordered call moment s h
    by_mark Fail = h
    by_mark Lost = whole_ordered call moment s h

-- ---- events

abbrev Kept : World → Type 0
Kept w = IsOrdered w.store.objects

step_ordered : (w : World) (n : ℕ) (facts : Facts) (moment : ℤ) (mark : Mark) → Kept w → (state : State) → Kept (step_state w n facts state moment mark).world
step_ordered w n facts moment mark h Resting = h
step_ordered w n facts moment mark h Halted = h
step_ordered w n facts moment mark h (Busy task) = effect_ordered mark (asks task.work) moment w.store h

start_ordered : (w : World) (n : ℕ) (facts : Facts) (call : Call) → Kept w → (state : State) → Kept (start_state w n facts state call).world
start_ordered w n facts call h Resting = h
start_ordered w n facts call h (Busy task) = h
start_ordered w n facts call h Halted = h

stop_ordered : (w : World) (n : ℕ) (facts : Facts) → Kept w → (state : State) → Kept (stop_state w n facts state).world
stop_ordered w n facts h Resting = h
stop_ordered w n facts h (Busy task) = h
stop_ordered w n facts h Halted = h

-- an event leaves it
pub event_ordered : (w : World) (e : Event) (d : Transition) → happens w e ≡ Some d → Kept w → Kept d.world
event_ordered w (Open n kind db) d h k = opened (party_of n w.parties) (tally_of db w.tallies) h
  where
    opened : (o : Option Party) (t : Option Tally) → open_at w n kind db o t ≡ Some d → Kept d.world
    opened None (Some t) h = subst Kept (ap (λ (o : Option Transition). elim o as (λ _. World) [ None ↦ w | Some d ↦ d.world ]) h) k
    opened None None h = absurd cc
    opened (Some p) t h = absurd cc
event_ordered w (Start n call) d h k = started (party_of n w.parties) h
  where
    test : (p : Party) (b : Bool) → (if b then Some (start_state (carrying n call w) n p.facts p.state call) else None) ≡ Some d → Kept d.world
    test p true h = let same : start_state (carrying n call w) n p.facts p.state call ≡ d = cc in subst (λ (r : Transition). Kept r.world) same (start_ordered (carrying n call w) n p.facts call k p.state)
    test p false h = absurd cc

    started : (o : Option Party) → start_at w n call o ≡ Some d → Kept d.world
    started None h = absurd cc
    started (Some p) h = test p (may_start w call p) h
event_ordered w (Step n moment mark) d h k = went (party_of n w.parties) h
  where
    went : (o : Option Party) → step_at w n moment mark o ≡ Some d → Kept d.world
    went None h = absurd cc
    went (Some p) h = let same : step_state w n p.facts p.state moment mark ≡ d = cc in subst (λ (r : Transition). Kept r.world) same (step_ordered w n p.facts moment mark k p.state)
event_ordered w (Stop n) d h k = went (party_of n w.parties) h
  where
    went : (o : Option Party) → stop_at w n o ≡ Some d → Kept d.world
    went None h = absurd cc
    went (Some p) h = let same : stop_state w n p.facts p.state ≡ d = cc in subst (λ (r : Transition). Kept r.world) same (stop_ordered w n p.facts k p.state)

run_ordered : (es : List Event) (w : World) → Kept w → Kept (world_after es w)
run_ordered [] w k = k
run_ordered (e ∷ es) w k = went (happens w e) refl (λ d k'. run_ordered es d.world k')
  where
    went : (o : Option Transition) → happens w e ≡ o → ((d : Transition) → Kept d.world → Kept (world_after es d.world)) → Kept (elim o as (λ _. World) [ None ↦ w | Some d ↦ world_after es d.world ])
    went None h f = k
    went (Some d) h f = f d (event_ordered w e d h k)

-- ---- as a run begins

firsts_ordered : (os : List (ObjectPath × First)) (s : Store) → IsOrdered s.objects → IsOrdered (store_from s os).objects
firsts_ordered [] s h = h
firsts_ordered (o ∷ os) s h = firsts_ordered os (stored o.0 o.1.0 o.1.1 s) (ordered_put o.0 _ s.objects h)

-- after any events the objects ascend
pub all_ordered : (specs : List DbSpec) (events : List Event) → IsOrdered (world_after events (opening_world specs)).store.objects
all_ordered specs events = run_ordered events (opening_world specs) (firsts_ordered (listed_or_none (objects_of specs)) no_objects tt)
