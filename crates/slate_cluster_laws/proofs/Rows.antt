-- The standing in which a party is, is the fold of its call along its answers, so the trail is the one that the rows give.
use Rattle.std.proofs.Common.{◌≡◌, ◌≢◌, ℕ, ℤ, ◌+◌, ◌==◌, Bool, true, false, List, [], ◌∷◌, ◌++◌, Option, Some, None, refl, sym, ap, ◌∙◌, subst, append_assoc, arith}
use Rattle.std.proofs.lemmas.Bool.Decides.{nat_tests}
use Rattle.std.proofs.lemmas.List.{append-nil}
use Rattle.std.specs.Prelude.{if◌then◌else◌}
use Rattle.std.specs.Ordering.{nat_cmp}
use Rattle.slate_store.specs.Store.{Store, effect}
use Rattle.slate_store.specs.declared.mark.Mark.{Mark}
use Rattle.slate_script_events.specs.declared.call.Call.{Call}
use Rattle.slate_script_events.specs.declared.entry.Entry.{Entry}
use Rattle.slate_script_events.specs.declared.entry.Entry.TheVariants.{Called, Started, Stopped, Idle}
use Rattle.slate_script_events.specs.declared.reply.Reply.{Reply}
use Rattle.slate_script_events.specs.declared.event.Event.{Event}
use Rattle.slate_script_events.specs.declared.event.Event.TheVariants.{Open, Start, Step, Stop}
use Rattle.slate_script_events.specs.declared.party_kind.PartyKind.{PartyKind}
use Rattle.slate_cluster_protocol.specs.Alone.{all_told}
use Rattle.slate_cluster_protocol.specs.ByRows.{Doing, Rests, Answers, Stays, Told, AllTold, reply_in, asked_entry, step_entry, start_entry, stop_entry, entry_by, told_call, told_answer, facts_then, told_after, party_in, all_told_after, entry_store, trail_by}
use Rattle.slate_cluster_protocol.specs.Calls.{Next, Go, Finish}
use Rattle.slate_cluster_protocol.specs.Rows.{Answered, Row, Asks, Standing, begin, moved, answered, after_answers, stands_after, row_of, row}
use Rattle.slate_cluster_protocol.specs.Runs.{Course, Ran, going_on, run}
use Rattle.slate_cluster_protocol.specs.Works.{asks}
use Rattle.slate_cluster_protocol.specs.World.{World, Transition, party_of, with_party, tally_of, noted, first_facts, newcomer, settled, reply_of, stepped, step_state, start_state, halted, stop_state, carrying, may_start, open_at, start_at, step_at, stop_at, happens}
use Rattle.slate_cluster_protocol.specs.declared.party.Facts.{Facts}
use Rattle.slate_cluster_protocol.specs.declared.party.Party.{Party}
use Rattle.slate_cluster_protocol.specs.declared.party.State.{State}
use Rattle.slate_cluster_protocol.specs.declared.party.State.TheVariants.{Resting, Busy, Halted}
use Rattle.slate_cluster_protocol.specs.declared.party.Task.{Task}
use Rattle.slate_cluster_protocol.specs.declared.tally.Tally.{Tally}
use Rattle.slate_cluster_laws.proofs.Maps.{number_order, set_here, set_else, insert_here, insert_else}

-- one answer more
pub more_answers : (call : Call) (from : Standing) (answers : List Answered) (a : Answered)
    → after_answers call from (answers ++ a ∷ []) ≡ answered call (after_answers call from answers).facts (after_answers call from answers).next a
more_answers call from [] a = refl
more_answers call from (b ∷ answers) a = more_answers call (answered call from.facts from.next b) answers a

-- the reply of a row is that of the call
pub row_reply : (next : Next) → reply_in (row_of next) ≡ reply_of next
row_reply (Go at) = refl
row_reply (Finish reply) = refl

-- ---- what the trail says of a party is where it stands

-- with the facts that the trail tells: a call under way stands after its answers where its party is, and a party at rest, or one that was
-- stopped, has these facts
abbrev pub CallIs : Facts → Doing → Facts → State → Type 0
CallIs known Rests facts Resting = known ≡ facts
CallIs known (Answers under answers) facts (Busy task) = (under ≡ task.call) × (stands_after known task.call answers ≡ record { facts = facts; next = Go task.work })
CallIs known Stays facts Halted = known ≡ facts
CallIs known Rests facts (Busy task) = ⊥
CallIs known Rests facts Halted = ⊥
CallIs known (Answers under answers) facts Resting = ⊥
CallIs known (Answers under answers) facts Halted = ⊥
CallIs known Stays facts Resting = ⊥
CallIs known Stays facts (Busy task) = ⊥

-- so the facts that are told are those of the party
pub facts_match : (known : Facts) (doing : Doing) (facts : Facts) (state : State) → CallIs known doing facts state → facts_then known doing ≡ facts
facts_match known Rests facts Resting m = m
facts_match known (Answers under answers) facts (Busy task) m = ap (λ (call : Call). (stands_after known call answers).facts) m.0 ∙ ap (λ (st : Standing). st.facts) m.1
facts_match known Stays facts Halted m = m
facts_match known Rests facts (Busy task) m = absurd m
facts_match known Rests facts Halted m = absurd m
facts_match known (Answers under answers) facts Resting m = absurd m
facts_match known (Answers under answers) facts Halted m = absurd m
facts_match known Stays facts Resting m = absurd m
facts_match known Stays facts (Busy task) m = absurd m

abbrev pub Matches : Option Told → Option Party → Type 0
Matches None None = Unit {0}
Matches (Some s) (Some p) = CallIs s.facts s.doing p.facts p.state
Matches None (Some p) = ⊥
Matches (Some s) None = ⊥

abbrev pub AllMatch : AllTold → World → Type 0
AllMatch all w = (n : ℕ) → Matches (all n) (party_of n w.parties)

-- after a reply, or none
settled_matches : (known : Facts) (call : Call) (answers : List Answered) (facts : Facts) (next : Next) → stands_after known call answers ≡ record { facts = facts; next = next }
    → Matches (Some (told_call known call answers (reply_of next))) (Some (settled call (record { facts = facts; next = next })))
settled_matches known call answers facts (Go at) h = (refl, h)
settled_matches known call answers facts (Finish reply) h = ap (λ (s : Standing). s.facts) h

-- what an event brings: the entry of the row, and the store that the entry leaves
pub record Brought (e : Event) (told : Option Told) (w : World) (d : Transition) : Type 0 where
  pub entry : d.entry ≡ entry_by e told w.store
  pub store : d.world.store ≡ entry_store d.entry w.store
  pub own : Matches (told_after e d.entry told) (party_of (party_in e) d.world.parties)
  pub others : (k : ℕ) → k ≢ party_in e → party_of k d.world.parties ≡ party_of k w.parties

module _ (n : ℕ) (w : World) (p : Party) (at : party_of n w.parties ≡ Some p) (s : Told) where
  here : (q : Party) → party_of n (with_party n q w.parties) ≡ Some q
  here q = set_here nat_cmp number_order n q p w.parties at

  away : (q : Party) (k : ℕ) → k ≢ n → party_of k (with_party n q w.parties) ≡ party_of k w.parties
  away q k ne = set_else nat_cmp number_order n k q w.parties ne

  -- a party that goes on as it was
  as_it_was : (event : Event) → party_in event ≡ n → entry_by event (Some s) w.store ≡ Idle n → told_after event (Idle n) (Some s) ≡ Some s → CallIs s.facts s.doing p.facts p.state → Brought event (Some s) w (noted n w)
  as_it_was event own idle stays m = record {
    entry = sym idle;
    store = refl;
    own = subst (λ (o : Option Told). Matches o (party_of (party_in event) w.parties)) (sym stays) (subst (λ (k : ℕ). Matches (Some s) (party_of k w.parties)) (sym own) (subst (Matches (Some s)) (sym at) m));
    others = λ k ne. refl;
  }

  -- a party that has no call starts one
  start_free : (call : Call) (doing : Doing) → s.doing ≡ doing → CallIs s.facts doing p.facts Resting → Brought (Start n call) (Some s) w (start_state (carrying n call w) n p.facts Resting call)
  start_free call (Answers under answers) is m = absurd m
  start_free call Stays is m = absurd m
  start_free call Rests is m =
      let standing = begin p.facts call in
      record {
        entry = ap (λ (r : Option Reply). Started n r) (sym (row_reply standing.next) ∙ sym (ap (λ (f : Facts). reply_in (row f call [])) m)) ∙ sym (ap (λ (x : Doing). start_entry n call s.facts x) is);
        store = refl;
        own = subst (Matches (Some (told_call s.facts call [] (reply_of standing.next)))) (sym (here (settled call standing)))
            (settled_matches s.facts call [] standing.facts standing.next (ap (λ (f : Facts). begin f call) m));
        others = λ k ne. away (settled call standing) k ne;
      }

  -- the state in which ids were carried has the same parties and the same store
  carried_brings : (call : Call) → Brought (Start n call) (Some s) w (noted n w) → Brought (Start n call) (Some s) w (noted n (carrying n call w))
  carried_brings call b = record { entry = b.entry; store = b.store; own = b.own; others = b.others }

  start_idle : (call : Call) (doing : Doing) → s.doing ≡ doing → start_entry n call s.facts doing ≡ Idle n → CallIs s.facts s.doing p.facts p.state → Brought (Start n call) (Some s) w (noted n (carrying n call w))
  start_idle call doing is idle m = carried_brings call (as_it_was (Start n call) refl (ap (λ (x : Doing). start_entry n call s.facts x) is ∙ idle) refl m)

  start_busy : (call : Call) (state : State) → p.state ≡ state → (doing : Doing) → s.doing ≡ doing → CallIs s.facts doing p.facts state → CallIs s.facts s.doing p.facts p.state → Brought (Start n call) (Some s) w (start_state (carrying n call w) n p.facts state call)
  start_busy call Resting st doing is m k = start_free call doing is m
  start_busy call (Busy task) st Rests is m k = absurd m
  start_busy call (Busy task) st Stays is m k = absurd m
  start_busy call (Busy task) st (Answers c answers) is m k = start_idle call (Answers c answers) is refl k
  start_busy call Halted st Rests is m k = absurd m
  start_busy call Halted st (Answers c answers) is m k = absurd m
  start_busy call Halted st Stays is m k = start_idle call Stays is refl k

  start_brings : (call : Call) (state : State) → p.state ≡ state → CallIs s.facts s.doing p.facts state → Brought (Start n call) (Some s) w (start_state (carrying n call w) n p.facts state call)
  start_brings call state st m = start_busy call state st s.doing refl m (subst (CallIs s.facts s.doing p.facts) (sym st) m)

  -- a party that is stopped
  stop_now : (doing : Doing) → s.doing ≡ doing → stop_entry n doing ≡ Stopped n → CallIs s.facts s.doing p.facts p.state → Brought (Stop n) (Some s) w (record { entry = Stopped n; world = record w { parties = with_party n (halted p.facts) w.parties } })
  stop_now doing is stops k = record {
    entry = sym (ap (λ (x : Doing). stop_entry n x) is ∙ stops);
    store = refl;
    own = subst (Matches (Some (record { facts = facts_then s.facts s.doing; doing = Stays }))) (sym (here (halted p.facts))) (facts_match s.facts s.doing p.facts p.state k);
    others = λ k ne. away (halted p.facts) k ne;
  }

  stop_brings : (state : State) → p.state ≡ state → (doing : Doing) → s.doing ≡ doing → CallIs s.facts doing p.facts state → CallIs s.facts s.doing p.facts p.state → Brought (Stop n) (Some s) w (stop_state w n p.facts state)
  stop_brings Resting st Rests is m k = stop_now Rests is refl k
  stop_brings Resting st (Answers c answers) is m k = absurd m
  stop_brings Resting st Stays is m k = absurd m
  stop_brings (Busy task) st (Answers c answers) is m k = stop_now (Answers c answers) is refl k
  stop_brings (Busy task) st Rests is m k = absurd m
  stop_brings (Busy task) st Stays is m k = absurd m
  stop_brings Halted st Stays is m k = as_it_was (Stop n) refl (ap (λ (x : Doing). stop_entry n x) is) refl k
  stop_brings Halted st Rests is m k = absurd m
  stop_brings Halted st (Answers c answers) is m k = absurd m

  -- a step of a party with a call
  step_on : (moment : ℤ) (mark : Mark) (task : Task) (answers : List Answered) → s.doing ≡ Answers task.call answers → stands_after s.facts task.call answers ≡ record { facts = p.facts; next = Go task.work }
      → Brought (Step n moment mark) (Some s) w (stepped w n p.facts task moment mark)
  step_on moment mark task answers is h =
      let answer = (effect mark (asks task.work) moment w.store).answer in
      let standing = moved p.facts task.call task.work moment answer in
      let more : stands_after s.facts task.call (answers ++ (answer, moment) ∷ []) ≡ standing =
      more_answers task.call (begin s.facts task.call) answers (answer, moment) ∙ ap (λ (x : Standing). answered task.call x.facts x.next (answer, moment)) h in
      let asked : row s.facts task.call answers ≡ Asks (asks task.work) = ap (λ (x : Standing). row_of x.next) h in
      let reply : reply_in (row s.facts task.call (answers ++ (answer, moment) ∷ [])) ≡ reply_of standing.next = ap (λ (x : Standing). reply_in (row_of x.next)) more ∙ row_reply standing.next in
      record {
        entry = sym (ap (λ (x : Doing). step_entry n moment mark w.store s.facts x) is
            ∙ (ap (λ (r : Row). asked_entry n moment mark w.store s.facts task.call answers r) asked ∙ ap (λ (r : Option Reply). Called n (asks task.work) moment mark answer r) reply));
        store = refl;
        own = subst (Matches (Some (told_answer s.facts s.doing (answer, moment) (reply_of standing.next)))) (sym (here (settled task.call standing)))
            (subst (λ (x : Doing). Matches (Some (told_answer s.facts x (answer, moment) (reply_of standing.next))) (Some (settled task.call standing))) (sym is)
            (settled_matches s.facts task.call (answers ++ (answer, moment) ∷ []) standing.facts standing.next more));
        others = λ k ne. away (settled task.call standing) k ne;
      }

  step_idle : (moment : ℤ) (mark : Mark) (doing : Doing) → s.doing ≡ doing → step_entry n moment mark w.store s.facts doing ≡ Idle n → CallIs s.facts s.doing p.facts p.state → Brought (Step n moment mark) (Some s) w (noted n w)
  step_idle moment mark doing is idle m = as_it_was (Step n moment mark) refl (ap (λ (x : Doing). step_entry n moment mark w.store s.facts x) is ∙ idle) refl m

  step_busy : (moment : ℤ) (mark : Mark) (state : State) → p.state ≡ state → (doing : Doing) → s.doing ≡ doing → CallIs s.facts doing p.facts state → CallIs s.facts s.doing p.facts p.state → Brought (Step n moment mark) (Some s) w (step_state w n p.facts state moment mark)
  step_busy moment mark Resting st Rests is m k = step_idle moment mark Rests is refl k
  step_busy moment mark Resting st (Answers c answers) is m k = absurd m
  step_busy moment mark Resting st Stays is m k = absurd m
  step_busy moment mark Halted st Stays is m k = step_idle moment mark Stays is refl k
  step_busy moment mark Halted st Rests is m k = absurd m
  step_busy moment mark Halted st (Answers c answers) is m k = absurd m
  step_busy moment mark (Busy task) st Rests is m k = absurd m
  step_busy moment mark (Busy task) st Stays is m k = absurd m
  step_busy moment mark (Busy task) st (Answers c answers) is m k =
      let at_call : s.doing ≡ Answers task.call answers = is ∙ ap (λ (x : Call). Answers x answers) m.0 in
      step_on moment mark task answers at_call m.1

  step_brings : (moment : ℤ) (mark : Mark) (state : State) → p.state ≡ state → CallIs s.facts s.doing p.facts state → Brought (Step n moment mark) (Some s) w (step_state w n p.facts state moment mark)
  step_brings moment mark state st m = step_busy moment mark state st s.doing refl m (subst (CallIs s.facts s.doing p.facts) (sym st) m)

open_brings : (n : ℕ) (kind : PartyKind) (db : List ℕ) (w : World) (told : Option Told) (o : Option Party) (t : Option Tally) (d : Transition) → party_of n w.parties ≡ o → Matches told o → open_at w n kind db o t ≡ Some d → Brought (Open n kind db) told w d
open_brings n kind db w told (Some p) t d at m h = absurd cc
open_brings n kind db w told None None d at m h = absurd cc
open_brings n kind db w told None (Some t) d at m h = subst (λ (o : Option Transition). elim o as (λ _. Type 0) [ None ↦ Unit {0} | Some d ↦ Brought (Open n kind db) told w d ]) h (record {
  entry = refl;
  store = refl;
  own = subst (Matches (Some (record { facts = first_facts n kind db; doing = Rests }))) (sym (insert_here nat_cmp number_order n (newcomer n kind db) w.parties)) refl;
  others = λ k ne. insert_else nat_cmp number_order n k (newcomer n kind db) w.parties ne;
})

start_event : (n : ℕ) (call : Call) (w : World) (told : Option Told) (o : Option Party) (d : Transition) → party_of n w.parties ≡ o → Matches told o → start_at w n call o ≡ Some d → Brought (Start n call) told w d
start_event n call w told None d at m h = absurd cc
start_event n call w None (Some p) d at m h = absurd m
start_event n call w (Some s) (Some p) d at m h = test (may_start w call p) h
  where
    test : (b : Bool) → (if b then Some (start_state (carrying n call w) n p.facts p.state call) else None) ≡ Some d → Brought (Start n call) (Some s) w d
    test true h = let same : start_state (carrying n call w) n p.facts p.state call ≡ d = cc in subst (Brought (Start n call) (Some s) w) same (start_brings n w p at s call p.state refl m)
    test false h = absurd cc

step_event : (n : ℕ) (moment : ℤ) (mark : Mark) (w : World) (told : Option Told) (o : Option Party) (d : Transition) → party_of n w.parties ≡ o → Matches told o → step_at w n moment mark o ≡ Some d → Brought (Step n moment mark) told w d
step_event n moment mark w told None d at m h = absurd cc
step_event n moment mark w None (Some p) d at m h = absurd m
step_event n moment mark w (Some s) (Some p) d at m h =
    let same : step_state w n p.facts p.state moment mark ≡ d = cc in
    subst (Brought (Step n moment mark) (Some s) w) same (step_brings n w p at s moment mark p.state refl m)

stop_event : (n : ℕ) (w : World) (told : Option Told) (o : Option Party) (d : Transition) → party_of n w.parties ≡ o → Matches told o → stop_at w n o ≡ Some d → Brought (Stop n) told w d
stop_event n w told None d at m h = absurd cc
stop_event n w None (Some p) d at m h = absurd m
stop_event n w (Some s) (Some p) d at m h =
    let same : stop_state w n p.facts p.state ≡ d = cc in
    subst (Brought (Stop n) (Some s) w) same (stop_brings n w p at s p.state refl s.doing refl m m)

pub event_brings : (e : Event) (all : AllTold) (w : World) (d : Transition) → AllMatch all w → happens w e ≡ Some d → Brought e (all (party_in e)) w d
event_brings (Open n kind db) all w d m h = open_brings n kind db w (all n) (party_of n w.parties) (tally_of db w.tallies) d refl (m n) h
event_brings (Start n call) all w d m h = start_event n call w (all n) (party_of n w.parties) d refl (m n) h
event_brings (Step n moment mark) all w d m h = step_event n moment mark w (all n) (party_of n w.parties) d refl (m n) h
event_brings (Stop n) all w d m h = stop_event n w (all n) (party_of n w.parties) d refl (m n) h

pub same_number : (a b : ℕ) → (a == b) ≡ true → a ≡ b
same_number a b h = grind (arith, nat_tests)

other_number : (a b : ℕ) → (a == b) ≡ false → a ≢ b
other_number a b h = grind (arith, nat_tests)

-- each party matches after the event
pub all_after : (e : Event) (all : AllTold) (w : World) (d : Transition) → AllMatch all w → Brought e (all (party_in e)) w d → AllMatch (all_told_after e d.entry all) d.world
all_after e all w d m b k = test (k == party_in e) refl
  where
    test : (t : Bool) → (k == party_in e) ≡ t → Matches (if t then told_after e d.entry (all k) else all k) (party_of k d.world.parties)
    test true is =
        let same = same_number k (party_in e) is in
        subst (λ j. Matches (told_after e d.entry (all j)) (party_of j d.world.parties)) (sym same) b.own
    test false is = subst (Matches (all k)) (sym (b.others k (other_number k (party_in e) is))) (m k)

abbrev pub ended : Course → Ran
ended c = record { course = c; bad = None }

-- the entries of a run without a bad event are those that the rows give
pub rows_run : (es : List Event) (place : ℕ) (c v : Course) (all : AllTold) → AllMatch all c.world → run es place c ≡ ended v → v.trail ≡ c.trail ++ trail_by es all c.world.store
rows_run [] place c v all m h = sym (ap (λ (r : Ran). r.course.trail) h) ∙ sym (append-nil c.trail)
rows_run (e ∷ es) place c v all m h = went (happens c.world e) refl h (λ d b k. rows_run es (place + 1) (going_on c d) v (all_told_after e d.entry all) (all_after e all c.world d m b) k)
  where
    went : (o : Option Transition) → happens c.world e ≡ o → (elim o as (λ _. Ran) [ None ↦ record { course = c; bad = Some place } | Some done ↦ run es (place + 1) (going_on c done) ]) ≡ ended v
        → ((d : Transition) → Brought e (all (party_in e)) c.world d → run es (place + 1) (going_on c d) ≡ ended v → v.trail ≡ (c.trail ++ d.entry ∷ []) ++ trail_by es (all_told_after e d.entry all) d.world.store)
        → v.trail ≡ c.trail ++ trail_by (e ∷ es) all c.world.store
    went None is h f = absurd (cc (ap (λ (r : Ran). r.bad) h))
    went (Some d) is h f =
        let b = event_brings e all c.world d m is in
        f d b h
        ∙ (append_assoc c.trail (d.entry ∷ []) (trail_by es (all_told_after e d.entry all) d.world.store)
        ∙ (ap (λ (s : Store). c.trail ++ d.entry ∷ trail_by es (all_told_after e d.entry all) s) b.store
        ∙ ap (λ (y : Entry). c.trail ++ y ∷ trail_by es (all_told_after e y all) (entry_store y c.world.store)) b.entry))

-- what is said of the parties after events is where they stand
pub told_run : (es : List Event) (place : ℕ) (c v : Course) (all : AllTold) → AllMatch all c.world → run es place c ≡ ended v → AllMatch (all_told es all c.world.store) v.world
told_run [] place c v all m h = subst (λ (x : Course). AllMatch all x.world) (ap (λ (r : Ran). r.course) h) m
told_run (e ∷ es) place c v all m h =
    went (happens c.world e) refl h (λ d b k. told_run es (place + 1) (going_on c d) v (all_told_after e d.entry all) (all_after e all c.world d m b) k)
  where
    went : (o : Option Transition) → happens c.world e ≡ o → (elim o as (λ _. Ran) [ None ↦ record { course = c; bad = Some place } | Some done ↦ run es (place + 1) (going_on c done) ]) ≡ ended v
        → ((d : Transition) → Brought e (all (party_in e)) c.world d → run es (place + 1) (going_on c d) ≡ ended v → AllMatch (all_told es (all_told_after e d.entry all) d.world.store) v.world)
        → AllMatch (all_told (e ∷ es) all c.world.store) v.world
    went None is h f = absurd (cc (ap (λ (r : Ran). r.bad) h))
    went (Some d) is h f =
        let b = event_brings e all c.world d m is in
        subst (λ (y : Entry). AllMatch (all_told es (all_told_after e y all) (entry_store y c.world.store)) v.world) b.entry
        (subst (λ (s : Store). AllMatch (all_told es (all_told_after e d.entry all) s) v.world) b.store (f d b h))
