-- One more event of a run.
use Rattle.std.proofs.Common.{◌≡◌, ℕ, zero, suc, add-one, ◌+◌, ◌<◌, List, [], ◌∷◌, ◌++◌, length, get_or, take, drop, Option, Some, None, refl, sym, ap, ◌∙◌, subst, arith, drop-cons, append_assoc}
use Rattle.std.proofs.lemmas.List.{take_more, append-nil, length-append}
use Rattle.std.proofs.Math.Nat.{add-zero}
use Rattle.std.proofs.Math.Seq.{take-length}
use Rattle.slate_script_events.specs.declared.event.Event.{Event}
use Rattle.slate_script_events.specs.declared.entry.Entry.{Entry}
use Rattle.slate_cluster_protocol.specs.World.{World, Transition, happens}
use Rattle.slate_cluster_protocol.specs.Runs.{Course, Ran, going_on, run}
use Rattle.slate_cluster_parties.specs.Events.{Happened}

-- what a run makes of its next event
abbrev next : List Event → ℕ → Course → Option Transition → Ran
next es place c o = elim o [ None ↦ record { course = c; bad = Some place } | Some done ↦ run es (place + 1) (going_on c done) ]

run_good : (e : Event) (es : List Event) (place : ℕ) (c : Course) (d : Transition) → happens c.world e ≡ Some d → run (e ∷ es) place c ≡ run es (place + 1) (going_on c d)
run_good e es place c d h = ap (next es place c) h

run_bad : (e : Event) (es : List Event) (place : ℕ) (c : Course) → happens c.world e ≡ None → run (e ∷ es) place c ≡ record { course = c; bad = Some place }
run_bad e es place c h = ap (next es place c) h

abbrev ended : Course → Ran
ended c = record { course = c; bad = None }

run_more : (xs : List Event) (e : Event) (place : ℕ) (c v : Course) (d : Transition) → run xs place c ≡ ended v → happens v.world e ≡ Some d
    → run (xs ++ e ∷ []) place c ≡ ended (going_on v d)
run_more [] e place c v d r h =
    let same : c ≡ v = ap (λ (x : Ran). x.course) r in
    run_good e [] place c d (ap (λ (x : Course). happens x.world e) same ∙ h) ∙ ap (λ (x : Course). ended (going_on x d)) same
run_more (x ∷ xs) e place c v d r h = step (happens c.world x) r (λ w r'. run_more xs e (place + 1) (going_on c w) v d r' h)
  where
    step : (o : Option Transition) → next xs place c o ≡ ended v
        → ((w : Transition) → run xs (place + 1) (going_on c w) ≡ ended v → run (xs ++ e ∷ []) (place + 1) (going_on c w) ≡ ended (going_on v d))
        → next (xs ++ e ∷ []) place c o ≡ ended (going_on v d)
    step None r f = absurd (cc (ap (λ (y : Ran). y.bad) r))
    step (Some w) r f = f w r

drop_event : (es : List Event) (i : ℕ) (e : Event) → i < length es → e ≡ get_or es i e → drop i es ≡ e ∷ drop (i + 1) es
drop_event es i e lt h = rw (add-one) (drop-cons es i e lt ∙ ap (λ q. q ∷ drop (suc i) es) (sym h))

same_event : (es : List Event) (i : ℕ) (d e : Event) → i < length es → get_or es i d ≡ get_or es i e
same_event [] i d e lt = absurd (omega arith)
same_event (x ∷ es) zero d e lt = refl
same_event (x ∷ es) (suc i) d e lt = same_event es i d e (omega arith)

-- what the loop keeps: the run goes on from here, these events were done, and these entries were added
pub record Goes (es : List Event) (i : ℕ) (old now : Course) : Type 0 where
  pub left : run es 0 old ≡ run (drop i es) i now
  pub so_far : run (take i es) 0 old ≡ record { course = now; bad = None }
  pub added : List Entry
  pub grown : now.trail ≡ old.trail ++ added

pub goes_from : (es : List Event) (old : Course) → Goes es 0 old old
goes_from es old = record { left = refl; so_far = refl; added = []; grown = sym (append-nil old.trail) }

goes_on : (es : List Event) (i : ℕ) (e : Event) (old now : Course) (d : Transition) → i < length es → e ≡ get_or es i e → Goes es i old now → happens now.world e ≡ Some d → Goes es (i + 1) old (going_on now d)
goes_on es i e old now d lt at g h = record {
  left = g.left ∙ (ap (λ xs. run xs i now) (drop_event es i e lt at) ∙ run_good e (drop (i + 1) es) i now d h);
  so_far = rw (take_more es i e lt) (rw (← at) (run_more (take i es) e 0 old now d g.so_far h));
  added = g.added ++ d.entry ∷ [];
  grown = ap (λ (xs : List Entry). xs ++ d.entry ∷ []) g.grown ∙ append_assoc old.trail g.added (d.entry ∷ []);
}

-- a bad event ends the run
pub goes_wrong : (es : List Event) (i : ℕ) (d : Event) (old now : Course) → i < length es → Goes es i old now → happens now.world (get_or es i d) ≡ None → run es 0 old ≡ record { course = now; bad = Some i }
goes_wrong es i d old now lt g h =
    let e = get_or es i d in
    g.left ∙ (ap (λ xs. run xs i now) (drop_event es i e lt (same_event es i d e lt)) ∙ run_bad e (drop (i + 1) es) i now h)

-- all events were done
pub whole : (es : List Event) (i : ℕ) (old now : Course) → i ≡ length es → Goes es i old now → run es 0 old ≡ record { course = now; bad = None }
whole es i old now e g = ap (λ (xs : List Event). run xs 0 old) (sym (ap (λ (n : ℕ). take n es) e ∙ take-length es)) ∙ g.so_far

-- one more event, as the loop's code has it
pub goes_further : (es : List Event) (i : ℕ) (d : Event) (old now : Course) (entry : Entry) (world : World) (trail : List Entry) → i < length es → Goes es i old now → Happened now.world (get_or es i d) (Some entry) world → trail ≡ now.trail ++ entry ∷ []
    → Goes es (i + 1) old (record { specs = now.specs; trail = trail; world = world })
goes_further es i d old now entry world trail lt g h same =
    subst (λ (t : List Entry). Goes es (i + 1) old (record { specs = now.specs; trail = t; world = world })) (sym same)
    (goes_on es i (get_or es i d) old now (record { entry = entry; world = world }) lt (same_event es i d (get_or es i d) lt) g h)

-- a run without a bad event adds one entry for each event
pub run_entries : (es : List Event) (place : ℕ) (c v : Course) → run es place c ≡ ended v → length v.trail ≡ length c.trail + length es
run_entries [] place c v h = ap (λ (r : Ran). length r.course.trail) (sym h) ∙ sym (add-zero (length c.trail))
run_entries (e ∷ es) place c v h = step (happens c.world e) h (λ d r. run_entries es (place + 1) (going_on c d) v r)
  where
    step : (o : Option Transition) → next es place c o ≡ ended v
        → ((d : Transition) → run es (place + 1) (going_on c d) ≡ ended v → length v.trail ≡ length (c.trail ++ d.entry ∷ []) + length es) → length v.trail ≡ length c.trail + suc (length es)
    step None r f = absurd (cc (ap (λ (y : Ran). y.bad) r))
    step (Some d) r f = f d r ∙ one_more (length (c.trail ++ d.entry ∷ [])) (length c.trail) (length es) (length-append c.trail (d.entry ∷ []))
      where
        one_more : (n m k : ℕ) → n ≡ m + 1 → n + k ≡ m + suc k
        one_more n m k e = omega arith
