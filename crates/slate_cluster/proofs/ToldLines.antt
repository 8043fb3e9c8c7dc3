-- A run that is told as it goes: its text has a line for each entry that the run's trail has.
use Rattle.std.proofs.Common.{◌≡◌, ℕ, suc, ◌+◌, ◌<◌, List, [], ◌∷◌, ◌++◌, length, get_or, Option, Some, None, refl, sym, ap, ◌∙◌, subst, append_assoc, arith}
use Rattle.std.proofs.lemmas.List.{append-nil, length-append}
use Rattle.std.proofs.Math.Nat.{add-zero}
use Rattle.slate_script_events.specs.declared.db_spec.DbSpec.{DbSpec}
use Rattle.slate_script_events.specs.declared.entry.Entry.{Entry}
use Rattle.slate_script_events.specs.declared.event.Event.{Event}
use Rattle.slate_script_lines.specs.Lines.{entry_text, entries_text, end_line}
use Rattle.slate_cluster_parties.specs.Events.{Happened}
use Rattle.slate_cluster_protocol.specs.Reports.{state_text, report_text}
use Rattle.slate_cluster_protocol.specs.Runs.{Course, Ran, run}
use Rattle.slate_cluster_protocol.specs.World.{World}
use Rattle.slate_cluster.proofs.Events.{Goes, goes_from, goes_further, goes_wrong, whole}
use Rattle.slate_cluster.specs.Told.{from_state, Tells}

-- the course after some events, with its trail
abbrev at : List DbSpec → List Entry → World → Course
at specs trail w = record { specs = specs; trail = trail; world = w }

-- what the loop keeps: the run goes on from here, and the text has the lines of the trail that led here
pub record Telling (es : List Event) (i : ℕ) (specs : List DbSpec) (old now : World) (before text : List ℕ) : Type 0 where
  pub trail : List Entry
  pub goes : Goes es i (from_state specs old) (at specs trail now)
  pub count : length trail ≡ i
  pub lines : text ≡ before ++ entries_text 0 trail

pub tells_from : (es : List Event) (specs : List DbSpec) (old : World) (before : List ℕ) → Telling es 0 specs old old before before
tells_from es specs old before = record { trail = []; goes = goes_from es (from_state specs old); count = refl; lines = sym (append-nil before) }

-- the line of one more entry
one_line : (place : ℕ) (entries : List Entry) (e : Entry) → entries_text place (entries ++ e ∷ []) ≡ entries_text place entries ++ entry_text (place + length entries) e
one_line place [] e = append-nil (entry_text place e) ∙ ap (λ n. entry_text n e) (sym (add-zero place))
one_line place (x ∷ entries) e =
    ap (λ t. entry_text place x ++ t) (one_line (place + 1) entries e ∙ ap (λ n. entries_text (place + 1) entries ++ entry_text n e) (moved place (length entries)))
    ∙ sym (append_assoc (entry_text place x) (entries_text (place + 1) entries) (entry_text (place + suc (length entries)) e))
  where
    moved : (n m : ℕ) → (n + 1) + m ≡ n + suc m
    moved n m = omega arith

-- counted from nothing
from_zero : (n i : ℕ) → n ≡ i → i ≡ 0 + n
from_zero n i h = omega (arith, h)

-- one more event, and its line
pub tells_further : (es : List Event) (i : ℕ) (d : Event) (specs : List DbSpec) (old now world : World) (before text told : List ℕ) (entry : Entry)
    → i < length es → Telling es i specs old now before text → Happened now (get_or es i d) (Some entry) world → told ≡ text ++ entry_text i entry
    → Telling es (i + 1) specs old world before told
tells_further es i d specs old now world before text told entry lt t h line = record {
  trail = t.trail ++ entry ∷ [];
  goes = goes_further es i d (from_state specs old) (at specs t.trail now) entry world (t.trail ++ entry ∷ []) lt t.goes h refl;
  count = length-append t.trail (entry ∷ []) ∙ ap (λ n. n + 1) t.count;
  lines = line ∙ (ap (λ x. x ++ entry_text i entry) t.lines ∙ (append_assoc before (entries_text 0 t.trail) (entry_text i entry)
      ∙ ap (λ x. before ++ x) (ap (λ n. entries_text 0 t.trail ++ entry_text n entry) (from_zero (length t.trail) i t.count) ∙ sym (one_line 0 t.trail entry))));
}

-- all events were done
pub tells_whole : (es : List Event) (i : ℕ) (specs : List DbSpec) (old now : World) (before text : List ℕ) → i ≡ length es → Telling es i specs old now before text
    → Tells (run es 0 (from_state specs old)) None now before text
tells_whole es i specs old now before text e t =
    let done : run es 0 (from_state specs old) ≡ record { course = at specs t.trail now; bad = None } = whole es i (from_state specs old) (at specs t.trail now) e t.goes in
    subst (λ (r : Ran). Tells r None now before text) (sym done) (record { world = refl; bad = refl; lines = t.lines })

-- the next event is bad
pub tells_bad : (es : List Event) (i : ℕ) (d : Event) (specs : List DbSpec) (old now world : World) (before text : List ℕ)
    → i < length es → Telling es i specs old now before text → Happened now (get_or es i d) None world
    → Tells (run es 0 (from_state specs old)) (Some i) world before text
tells_bad es i d specs old now world before text lt t h =
    subst (λ (r : Ran). Tells r (Some i) world before text) (sym (goes_wrong es i d (from_state specs old) (at specs t.trail now) lt t.goes h.0))
    (record { world = sym h.1; bad = refl; lines = t.lines })

-- with what stands below its lines it is the report
pub told_whole : (ran : Ran) (bad : Option ℕ) (now : World) (before text : List ℕ) → before ≡ [] → Tells ran bad now before text → text ++ state_text now ++ end_line bad ≡ report_text ran
unfolding report_text
told_whole ran bad now before text empty t =
    ap (λ x. x ++ state_text now ++ end_line bad) (t.lines ∙ ap (λ b. b ++ entries_text 0 ran.course.trail) empty)
    ∙ (ap (λ (w : World). entries_text 0 ran.course.trail ++ state_text w ++ end_line bad) (sym t.world)
    ∙ ap (λ b. entries_text 0 ran.course.trail ++ state_text ran.course.world ++ end_line b) (sym t.bad))
