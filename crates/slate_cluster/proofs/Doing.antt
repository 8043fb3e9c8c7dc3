-- One more event of a cluster's run: what was done is noted.
use Rattle.std.proofs.Common.{◌≡◌, ℕ, ◌+◌, ◌-◌, ◌<◌, List, [], ◌∷◌, ◌++◌, length, get_or, take, drop, Some, None, Result, Ok, Err, IfOk, refl, sym, ap, ◌∙◌, arith, append_assoc, length-drop}
use Rattle.std.proofs.lemmas.List.{take_more, append-nil, length-append}
use Rattle.std.proofs.Math.Seq.{take-length}
use Rattle.slate_script_events.specs.declared.event.Event.{Event}
use Rattle.slate_script_events.specs.declared.entry.Entry.{Entry}
use Rattle.slate_cluster_protocol.specs.World.{World, happens}
use Rattle.slate_cluster_protocol.specs.Pasts.{Past, course_of}
use Rattle.slate_cluster_protocol.specs.Runs.{run}
use Rattle.slate_cluster_parties.specs.Events.{Happened}
use Rattle.slate_cluster.proofs.Events.{Goes, goes_from, goes_further, goes_wrong, run_entries, whole}
use Rattle.slate_cluster.specs.Ran.{Extends, HasRun}
use Rattle.slate_cluster.specs.declared.cluster.Report.{Report}
use Rattle.slate_cluster.specs.declared.cluster.ClusterError.{ClusterError}

-- what the loop keeps: the run goes on from here, and the events so far are noted
pub record Doing (es : List Event) (i : ℕ) (old now : Past) : Type 0 where
  pub goes : Goes es i (course_of old) (course_of now)
  pub noted : now.events ≡ old.events ++ take i es

pub doing_from : (es : List Event) (old : Past) → Doing es 0 old old
doing_from es old = record { goes = goes_from es (course_of old); noted = sym (append-nil old.events) }

-- one more event is noted
one_more : (es : List Event) (i : ℕ) (d : Event) (old now events : List Event) → i < length es → now ≡ old ++ take i es → events ≡ now ++ get_or es i d ∷ [] → events ≡ old ++ take (i + 1) es
one_more es i d old now events lt noted more =
    let e = get_or es i d in
    more
    ∙ (ap (λ (xs : List Event). xs ++ e ∷ []) noted
    ∙ (append_assoc old (take i es) (e ∷ [])
    ∙ ap (λ (xs : List Event). old ++ xs) (sym (take_more es i d lt))))

-- one more event, as the loop's code has it
pub doing_further : (es : List Event) (i : ℕ) (d : Event) (old now : Past) (entry : Entry) (world : World) (events : List Event) (trail : List Entry) → i < length es → Doing es i old now → Happened now.world (get_or es i d) (Some entry) world
    → events ≡ now.events ++ get_or es i d ∷ [] → trail ≡ now.trail ++ entry ∷ []
    → Doing es (i + 1) old (record { specs = now.specs; events = events; trail = trail; world = world })
doing_further es i d old now entry world events trail lt g h more same = record {
  goes = goes_further es i d (course_of old) (course_of now) entry world trail lt g.goes h same;
  noted = one_more es i d old.events now.events events lt g.noted more;
}

-- a bad event ends the run
pub doing_wrong : (es : List Event) (i : ℕ) (d : Event) (old now : Past) → i < length es → Doing es i old now → happens now.world (get_or es i d) ≡ None → run es 0 (course_of old) ≡ record { course = course_of now; bad = Some i }
doing_wrong es i d old now lt g h = goes_wrong es i d (course_of old) (course_of now) lt g.goes h

-- what was done so far
pub done_so_far : (es : List Event) (i : ℕ) (old now : Past) → Doing es i old now → run (take i es) 0 (course_of old) ≡ record { course = course_of now; bad = None }
done_so_far es i old now g = g.goes.so_far

pub noted_so_far : (es : List Event) (i : ℕ) (old now : Past) → Doing es i old now → now.events ≡ old.events ++ take i es
noted_so_far es i old now g = g.noted

-- all events were done
pub all_done : (es : List Event) (i : ℕ) (old now : Past) → i ≡ length es → Doing es i old now → run es 0 (course_of old) ≡ record { course = course_of now; bad = None }
all_done es i old now e g = whole es i (course_of old) (course_of now) e g.goes

-- and noted
pub all_noted : (es : List Event) (i : ℕ) (old now : Past) → i ≡ length es → Doing es i old now → now.events ≡ old.events ++ es
all_noted es i old now e g = g.noted ∙ ap (λ (xs : List Event). old.events ++ xs) (ap (λ (n : ℕ). take n es) e ∙ take-length es)

drop_front : (xs ys : List Entry) → drop (length xs) (xs ++ ys) ≡ ys
drop_front [] ys = refl
drop_front (x ∷ xs) ys = drop_front xs ys

tail_slice : (p : ℕ) (xs : List Entry) → take (length xs - p) (drop p xs) ≡ drop p xs
tail_slice p xs = ap (λ n. take n (drop p xs)) (sym (length-drop p xs)) ∙ take-length (drop p xs)

-- a trail with entries at its end has them from the former length on
pub added_entries : (old now : List Entry) → Extends old now → (entries : List Entry) → entries ≡ take (length now - length old) (drop (length old) now) → now ≡ old ++ entries
added_entries old now g entries h =
    let t : drop (length old) now ≡ g.0 = ap (drop (length old)) g.1 ∙ drop_front old g.0 in
    g.1 ∙ ap (λ (xs : List Entry). old ++ xs) (sym (h ∙ (tail_slice (length old) now ∙ t)))

-- the entries of the events so far were added
pub extended : (es : List Event) (i : ℕ) (old now : Past) → Doing es i old now → Extends old.trail now.trail
extended es i old now g = (g.goes.added, g.goes.grown)

-- the entries of a whole run are one for each event
pub one_each : (old new : Past) (es : List Event) (r : Result Report ClusterError) → HasRun old es r new → IfOk r (λ report. length report.entries.items ≡ length es)
one_each old new es (Ok report) h =
    counted (length report.entries.items) (length es) (length old.trail) (length new.trail) (run_entries es 0 (course_of old) (course_of new) h.0) (ap length h.1 ∙ length-append old.trail report.entries.items)
  where
    counted : (n k m all : ℕ) → all ≡ m + k → all ≡ m + n → n ≡ k
    counted n k m all told added = omega arith
one_each old new es (Err e) h = tt
