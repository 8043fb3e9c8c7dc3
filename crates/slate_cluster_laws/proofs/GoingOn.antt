-- Runs one after the other are one run.
use Rattle.std.proofs.Common.{◌≡◌, ℕ, suc, ◌+◌, List, [], ◌∷◌, ◌++◌, take, Option, Some, None, refl, sym, ap, ◌∙◌, subst, arith, zero-add}
use Rattle.std.proofs.Math.Nat.{add-zero}
use Rattle.slate_script_events.specs.declared.event.Event.{Event}
use Rattle.slate_cluster_protocol.specs.Pasts.{Past, IsPast, course_of}
use Rattle.slate_cluster_protocol.specs.Logs.{world_after}
use Rattle.slate_cluster_protocol.specs.Runs.{Course, Ran, going_on, opening, run}
use Rattle.slate_cluster_protocol.specs.World.{World, Transition, happens}
use Rattle.slate_cluster_laws.proofs.Rows.{ended}

abbrev Leads : List Event → ℕ → Course → Option Transition → Ran
Leads es place c o = elim o as (λ _. Ran) [ None ↦ record { course = c; bad = Some place } | Some done ↦ run es (place + 1) (going_on c done) ]

-- where a run without a bad event leads doesn't depend on the place
run_place : (es : List Event) (p q : ℕ) (c v : Course) → run es p c ≡ ended v → run es q c ≡ ended v
run_place [] p q c v h = h
run_place (e ∷ es) p q c v h = went (happens c.world e) h (λ d k. run_place es (p + 1) (q + 1) (going_on c d) v k)
  where
    went : (o : Option Transition) → Leads es p c o ≡ ended v → ((d : Transition) → run es (p + 1) (going_on c d) ≡ ended v → run es (q + 1) (going_on c d) ≡ ended v) → Leads es q c o ≡ ended v
    went None h f = absurd (cc (ap (λ (r : Ran). r.bad) h))
    went (Some d) h f = f d h

run_append : (xs ys : List Event) (p q : ℕ) (c v u : Course) → run xs p c ≡ ended v → run ys q v ≡ ended u → run (xs ++ ys) p c ≡ ended u
run_append [] ys p q c v u h k =
    let same : c ≡ v = ap (λ (r : Ran). r.course) h in
    subst (λ (x : Course). run ys p x ≡ ended u) (sym same) (run_place ys q p v u k)
run_append (e ∷ xs) ys p q c v u h k = went (happens c.world e) h (λ d r. run_append xs ys (p + 1) q (going_on c d) v u r k)
  where
    went : (o : Option Transition) → Leads xs p c o ≡ ended v → ((d : Transition) → run xs (p + 1) (going_on c d) ≡ ended v → run (xs ++ ys) (p + 1) (going_on c d) ≡ ended u) → Leads (xs ++ ys) p c o ≡ ended u
    went None h f = absurd (cc (ap (λ (r : Ran). r.bad) h))
    went (Some d) h f = f d h

-- what a run to a bad event did is a run of the events before it
pub record Front (es : List Event) (p k : ℕ) (c v : Course) : Type 0 where
  pub count : ℕ
  pub at : k ≡ p + count
  pub run : run (take count es) 0 c ≡ ended v

moved : (m n : ℕ) → (m + 1) + n ≡ m + suc n
moved m n = omega arith

run_front : (es : List Event) (p k : ℕ) (c v : Course) → run es p c ≡ record { course = v; bad = Some k } → Front es p k c v
run_front [] p k c v h = absurd (cc (ap (λ (r : Ran). r.bad) h))
run_front (e ∷ es) p k c v h = went (happens c.world e) refl h (λ d r. run_front es (p + 1) k (going_on c d) v r)
  where
    went : (o : Option Transition) → happens c.world e ≡ o → Leads es p c o ≡ record { course = v; bad = Some k } → ((d : Transition) → run es (p + 1) (going_on c d) ≡ record { course = v; bad = Some k } → Front es (p + 1) k (going_on c d) v) → Front (e ∷ es) p k c v
    went None is h f =
        let at : Some p ≡ Some k = ap (λ (r : Ran). r.bad) h in
        let same : p ≡ k = cc at in
        record { count = 0; at = sym same ∙ sym (add-zero p); run = ap (λ (r : Ran). ended r.course) h }
    went (Some d) is h f =
        let rest = f d h in
        record { count = suc rest.count; at = rest.at ∙ moved p rest.count; run = ap (Leads (take rest.count es) 0 c) is ∙ run_place (take rest.count es) 0 1 (going_on c d) v rest.run }

pub run_specs : (es : List Event) (p : ℕ) (c v : Course) → run es p c ≡ ended v → v.specs ≡ c.specs
run_specs [] p c v h = ap (λ (r : Ran). r.course.specs) (sym h)
run_specs (e ∷ es) p c v h = went (happens c.world e) h (λ d k. run_specs es (p + 1) (going_on c d) v k)
  where
    went : (o : Option Transition) → Leads es p c o ≡ ended v → ((d : Transition) → run es (p + 1) (going_on c d) ≡ ended v → v.specs ≡ c.specs) → v.specs ≡ c.specs
    went None h f = absurd (cc (ap (λ (r : Ran). r.bad) h))
    went (Some d) h f = f d h

-- where a run without a bad event leads
pub run_world : (es : List Event) (p : ℕ) (c v : Course) → run es p c ≡ ended v → v.world ≡ world_after es c.world
run_world [] p c v h = ap (λ (r : Ran). r.course.world) (sym h)
run_world (e ∷ es) p c v h = went (happens c.world e) h (λ d k. run_world es (p + 1) (going_on c d) v k)
  where
    went : (o : Option Transition) → Leads es p c o ≡ ended v → ((d : Transition) → run es (p + 1) (going_on c d) ≡ ended v → v.world ≡ world_after es d.world) → v.world ≡ elim o as (λ _. World) [ None ↦ c.world | Some d ↦ world_after es d.world ]
    went None h f = absurd (cc (ap (λ (r : Ran). r.bad) h))
    went (Some d) h f = f d h

-- events after those of a past are a past
pub is_past_on : (old new : Past) (es : List Event) → IsPast old → run es 0 (course_of old) ≡ ended (course_of new) → new.events ≡ old.events ++ es → IsPast new
is_past_on old new es past h added =
    let same : new.specs ≡ old.specs = run_specs es 0 (course_of old) (course_of new) h in
    record {
      accepted = subst (λ s. Rattle.slate_cluster_protocol.specs.Lawful.IsAccepted s) (sym same) past.accepted;
      led = ap (λ xs. run xs 0 (opening new.specs)) added ∙ (ap (λ s. run (old.events ++ es) 0 (opening s)) same ∙ run_append old.events es 0 0 (opening old.specs) (course_of old) (course_of new) past.led h);
    }

-- so are those before a bad one
pub is_past_to : (old new : Past) (es : List Event) (k : ℕ) → IsPast old → run es 0 (course_of old) ≡ record { course = course_of new; bad = Some k } → new.events ≡ old.events ++ take k es → IsPast new
is_past_to old new es k past h added =
    let front = run_front es 0 k (course_of old) (course_of new) h in
    let count : k ≡ front.count = front.at ∙ zero-add front.count in
    is_past_on old new (take k es) past (subst (λ n. run (take n es) 0 (course_of old) ≡ ended (course_of new)) (sym count) front.run) added

-- a run of two lists, one after the other: the first leads somewhere, from where the second is a run
pub record Split (front back : List Event) (p : ℕ) (c v : Course) : Type 0 where
  pub first : run front p c ≡ ended (run front p c).course
  pub second : run back 0 (run front p c).course ≡ ended v

pub run_split : (front back : List Event) (p : ℕ) (c v : Course) → run (front ++ back) p c ≡ ended v → Split front back p c v
run_split [] back p c v h = record { first = refl; second = run_place back p 0 c v h }
run_split (e ∷ front) back p c v h = went (happens c.world e) refl h (λ d k. run_split front back (p + 1) (going_on c d) v k)
  where
    went : (o : Option Transition) → happens c.world e ≡ o → Leads (front ++ back) p c o ≡ ended v → ((d : Transition) → run (front ++ back) (p + 1) (going_on c d) ≡ ended v → Split front back (p + 1) (going_on c d) v) → Split (e ∷ front) back p c v
    went None is h f = absurd (cc (ap (λ (r : Ran). r.bad) h))
    went (Some d) is h f =
        let s = f d h in
        let leads : run (e ∷ front) p c ≡ run front (p + 1) (going_on c d) = ap (Leads front p c) is in
        record {
          first = leads ∙ (s.first ∙ ap (λ (r : Ran). ended r.course) (sym leads));
          second = subst (λ (r : Ran). run back 0 r.course ≡ ended v) (sym leads) s.second;
        }
