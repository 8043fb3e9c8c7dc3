-- What is known of each party is what its events and their entries tell: at each moment of a run.
use Rattle.std.proofs.Common.{◌≡◌, ◌≢◌, ℕ, ℤ, ◌+◌, ◌==◌, Bool, true, false, List, [], ◌∷◌, ◌++◌, Option, Some, None, is_some, ◌⊎◌, ⊎_elim, refl, sym, ap, ◌∙◌, subst, arith}
use Rattle.std.proofs.lemmas.Bool.{and_parts}
use Rattle.std.proofs.lemmas.Bool.Decides.{nat_tests}
use Rattle.std.proofs.lemmas.List.Folds.{list_any-append}
use Rattle.std.specs.Prelude.{not, ◌||◌, ◌&&◌, if◌then◌else◌}
use Rattle.std.specs.Option.{option_or}
use Rattle.std.specs.Ordering.{nat_cmp}
use Rattle.std.specs.BTreeMap.{insert_entry}
use Rattle.slate_model_tables.specs.declared.ss_table_info.SsTableInfo.{SsTableInfo}
use Rattle.slate_store.specs.Store.{Store, effect}
use Rattle.slate_store.specs.declared.mark.Mark.{Mark}
use Rattle.slate_script_events.specs.declared.call.Call.{Call}
use Rattle.slate_script_events.specs.declared.db_spec.DbSpec.{DbSpec}
use Rattle.slate_script_events.specs.declared.entry.Entry.{Entry}
use Rattle.slate_script_events.specs.declared.entry.Entry.TheVariants.{Opened, Started, Called, Stopped, Idle}
use Rattle.slate_script_events.specs.declared.event.Event.{Event}
use Rattle.slate_script_events.specs.declared.event.Event.TheVariants.{Open, Start, Step, Stop}
use Rattle.slate_script_events.specs.declared.party_kind.PartyKind.{PartyKind}
use Rattle.slate_script_events.specs.declared.party_kind.PartyKind.TheVariants.{Writer, Compactor as CompactorKind, Worker, Holder, Collector}
use Rattle.slate_cluster_protocol.specs.Alone.{all_told}
use Rattle.slate_cluster_protocol.specs.ByRows.{Doing, Rests, Answers, Stays, Told, AllTold, nobody, entry_by, party_in, all_told_after, entry_store, trail_by}
use Rattle.slate_cluster_protocol.specs.Calls.{has_call, Next, Go, Finish}
use Rattle.slate_cluster_protocol.specs.Holding.{Fits}
use Rattle.slate_cluster_protocol.specs.Ids.{is_stale}
use Rattle.slate_cluster_protocol.specs.Known.{epoch_in, epoch_of, has_upload, is_done, known_of, last_epoch, open_epoch, party_told, replied, state_told, table_put, told_by, uploads, was_uploaded, IsAsTold}
use Rattle.slate_cluster_protocol.specs.Lawful.{IsAccepted, AreGood, course_after}
use Rattle.slate_cluster_protocol.specs.Logs.{Chains, chains_after, opening_chains}
use Rattle.slate_cluster_protocol.specs.Rows.{Standing, begin, moved, stands_after}
use Rattle.slate_cluster_protocol.specs.Runs.{Course, Ran, going_on, opening, run}
use Rattle.slate_cluster_protocol.specs.Specs.{opening_world}
use Rattle.slate_cluster_protocol.specs.Uploaded.{info_of}
use Rattle.slate_cluster_protocol.specs.Works.{asks}
use Rattle.slate_cluster_protocol.specs.World.{World, Transition, party_of, with_party, tally_of, newcomer, settled, reply_of, state_after, stepped, step_state, start_state, halted, stop_state, carrying, may_start, open_at, start_at, step_at, stop_at, happens}
use Rattle.slate_cluster_protocol.specs.declared.party.Facts.{Facts}
use Rattle.slate_cluster_protocol.specs.declared.party.Party.{Party}
use Rattle.slate_cluster_protocol.specs.declared.party.State.{State}
use Rattle.slate_cluster_protocol.specs.declared.party.State.TheVariants.{Resting, Busy, Halted}
use Rattle.slate_cluster_protocol.specs.declared.party.Task.{Task}
use Rattle.slate_cluster_protocol.specs.declared.tally.Tally.{Tally}
use Rattle.slate_cluster_laws.proofs.AfterEvents.{none_come}
use Rattle.slate_cluster_laws.proofs.FactsKept.{moved_same}
use Rattle.slate_cluster_chain_laws.proofs.Links.{same_or_not}
use Rattle.slate_cluster_laws.proofs.Maps.{number_order, set_here, set_else, insert_here, insert_else}
use Rattle.slate_cluster_laws.proofs.Opening.{opening_inv}
use Rattle.slate_cluster_laws.proofs.Pools.{or_false}
use Rattle.slate_cluster_laws.proofs.Removals.{good_run}
use Rattle.slate_cluster_laws.proofs.Rows.{CallIs, Matches, ended, facts_match, rows_run, told_run}
use Rattle.slate_cluster_laws.proofs.Runs.{Inv, StateKnows, event_inv}
use Rattle.slate_cluster_known_laws.proofs.StepsTold.{MayDo, MayGo, begin_tells, moved_tells}

-- ---- its facts and its call

-- what is said of each party is the fold of its events and entries
said_by : (es : List Event) (all : AllTold) (s : Store) (n : ℕ) → told_by n es (trail_by es all s) (all n) ≡ all_told es all s n
said_by [] all s n = refl
said_by (e ∷ es) all s n =
    let x = entry_by e (all (party_in e)) s in
    said_by es (all_told_after e x all) (entry_store x s) n

-- what a party does that stands where it is said is what is said
state_match : (known : Facts) (doing : Doing) (facts : Facts) (state : State) → CallIs known doing facts state → state_told known doing ≡ state
state_match known Rests facts Resting m = refl
state_match known (Answers under answers) facts (Busy task) m = ap (λ (call : Call). state_after call (stands_after known call answers).next) m.0 ∙ ap (λ (st : Standing). state_after task.call st.next) m.1
state_match known Stays facts Halted m = refl
state_match known Rests facts (Busy task) m = absurd m
state_match known Rests facts Halted m = absurd m
state_match known (Answers under answers) facts Resting m = absurd m
state_match known (Answers under answers) facts Halted m = absurd m
state_match known Stays facts Resting m = absurd m
state_match known Stays facts (Busy task) m = absurd m

party_said : (o : Option Told) (p : Option Party) → Matches o p → p ≡ party_told o
party_said None None m = refl
party_said (Some s) (Some p) m =
    let state = state_told s.facts s.doing in
    sym (ap (λ (f : Facts). Some (record { facts = f; state = state })) (facts_match s.facts s.doing p.facts p.state m)
    ∙ ap (λ (x : State). Some (record { facts = p.facts; state = x })) (state_match s.facts s.doing p.facts p.state m))
party_said None (Some p) m = absurd m
party_said (Some s) None m = absurd m

parties_are : (specs : List DbSpec) (events : List Event) → AreGood specs events → (n : ℕ)
    → party_of n (course_after specs events).world.parties ≡ party_told (told_by n events (course_after specs events).trail None)
parties_are specs events good n =
    let v = course_after specs events in
    let s = (opening_world specs).store in
    let h = good_run specs events good in
    let match = told_run events 0 (opening specs) v nobody (none_come specs) h n in
    let trail = rows_run events 0 (opening specs) v nobody (none_come specs) h in
    party_said (all_told events nobody s n) (party_of n v.world.parties) match
    ∙ ap party_told (sym (ap (λ (xs : List Entry). told_by n events xs None) trail ∙ said_by events nobody s n))

-- ---- one entry more

or_none : (o : Option ℕ) → o ≡ option_or o None
or_none None = refl
or_none (Some e) = refl

or_or : (a b c : Option ℕ) → option_or (option_or a b) c ≡ option_or a (option_or b c)
or_or None b c = refl
or_or (Some e) b c = refl

one_epoch : (n : ℕ) (trail : List Entry) (x : Entry) → last_epoch n (trail ++ x ∷ []) ≡ option_or (epoch_in (replied n x)) (last_epoch n trail)
one_epoch n [] x = or_none (epoch_in (replied n x))
one_epoch n (y ∷ trail) x =
    ap (λ (o : Option ℕ). option_or o (epoch_in (replied n y))) (one_epoch n trail x)
    ∙ or_or (epoch_in (replied n x)) (last_epoch n trail) (epoch_in (replied n y))

one_upload : (n : ℕ) (table : ℕ × ℕ) (trail : List Entry) (x : Entry) → was_uploaded n table (trail ++ x ∷ []) ≡ (was_uploaded n table trail || uploads n table x)
one_upload n table trail x = list_any-append (uploads n table) trail (x ∷ []) ∙ ap (λ (b : Bool). was_uploaded n table trail || b) (or_false (uploads n table x))

-- ---- what is kept

-- a party in a call has it, and an open of a compactor is a compactor's
abbrev MayBe : PartyKind → State → Type 0
MayBe kind Resting = Unit {0}
MayBe kind Halted = Unit {0}
MayBe kind (Busy task) = (has_call kind task.call ≡ true) × MayDo kind task.work

abbrev MayParty : Option Party → Type 0
MayParty None = Unit {0}
MayParty (Some p) = MayBe p.facts.kind p.state

-- epoch and uploads of a party are those that the trail tells
record TellsOf (n : ℕ) (trail : List Entry) (o : Option Party) : Type 0 where
  epoch : epoch_of (known_of o) ≡ last_epoch n trail
  uploaded : (table : ℕ × ℕ) → has_upload table (known_of o) ≡ was_uploaded n table trail
  may : MayParty o

abbrev AllTell : List Entry → World → Type 0
AllTell trail w = (n : ℕ) → TellsOf n trail (party_of n w.parties)

-- an entry that tells so much more of the party
more_told : (n : ℕ) (trail : List Entry) (x : Entry) (old new : Option Party) → TellsOf n trail old
    → epoch_of (known_of new) ≡ option_or (epoch_in (replied n x)) (epoch_of (known_of old))
    → ((table : ℕ × ℕ) → has_upload table (known_of new) ≡ (has_upload table (known_of old) || uploads n table x))
    → MayParty new → TellsOf n (trail ++ x ∷ []) new
more_told n trail x old new t epoch uploaded may = record {
  epoch = epoch ∙ (ap (λ (o : Option ℕ). option_or (epoch_in (replied n x)) o) t.epoch ∙ sym (one_epoch n trail x));
  uploaded = λ table. uploaded table ∙ (ap (λ (b : Bool). b || uploads n table x) (t.uploaded table) ∙ sym (one_upload n table trail x));
  may = may;
}

-- an entry that tells nothing of it
abbrev IsSilent : ℕ → Entry → Type 0
IsSilent n x = (epoch_in (replied n x) ≡ None) × ((table : ℕ × ℕ) → uploads n table x ≡ false)

not_told : (n : ℕ) (trail : List Entry) (x : Entry) (old new : Option Party) → TellsOf n trail old → IsSilent n x → epoch_of (known_of new) ≡ epoch_of (known_of old)
    → ((table : ℕ × ℕ) → has_upload table (known_of new) ≡ has_upload table (known_of old)) → MayParty new → TellsOf n (trail ++ x ∷ []) new
not_told n trail x old new t silent epoch uploaded may =
    more_told n trail x old new t (epoch ∙ sym (ap (λ (o : Option ℕ). option_or o (epoch_of (known_of old))) silent.0))
    (λ table. uploaded table ∙ sym (ap (λ (b : Bool). has_upload table (known_of old) || b) (silent.1 table) ∙ or_false (has_upload table (known_of old)))) may

-- the party of an entry
abbrev IsOf : ℕ → Entry → Type 0
IsOf n (Started k reply) = k ≡ n
IsOf n (Called k asked moment mark answer reply) = k ≡ n
IsOf n _ = Unit {0}

differ : (n k : ℕ) → n ≢ k → (n == k) ≡ false
differ n k ne = grind (arith, nat_tests)

itself : (n : ℕ) → (n == n) ≡ true
itself n = grind (arith, nat_tests)

-- it tells nothing of the others
others_silent : (n k : ℕ) (x : Entry) → IsOf n x → k ≢ n → IsSilent k x
others_silent n k (Started j reply) is ne = (ap (λ (b : Bool). epoch_in (if b then reply else None)) (differ k j (λ (same : k ≡ j). ne (same ∙ is))), λ table. refl)
others_silent n k (Called j asked moment mark answer reply) is ne =
    let away = differ k j (λ (same : k ≡ j). ne (same ∙ is)) in
    (ap (λ (b : Bool). epoch_in (if b then reply else None)) away, λ table. ap (λ (b : Bool). b && is_done table (table_put asked) reply) away)
others_silent n k _ is ne = (refl, λ table. refl)

-- ---- an event

-- of its own party it tells what it brings, and the others stay
record Brings (n : ℕ) (trail : List Entry) (w : World) (d : Transition) : Type 0 where
  of : IsOf n d.entry
  own : TellsOf n (trail ++ d.entry ∷ []) (party_of n d.world.parties)
  others : (k : ℕ) → k ≢ n → party_of k d.world.parties ≡ party_of k w.parties

all_tell : (n : ℕ) (trail : List Entry) (w : World) (d : Transition) → AllTell trail w → Brings n trail w d → AllTell (trail ++ d.entry ∷ []) d.world
all_tell n trail w d t b k =
    ⊎_elim
    (λ (e : k ≡ n). subst (λ (j : ℕ). TellsOf j (trail ++ d.entry ∷ []) (party_of j d.world.parties)) (sym e) b.own)
    (λ (ne : k ≢ n).
    subst (TellsOf k (trail ++ d.entry ∷ [])) (sym (b.others k ne))
    (not_told k trail d.entry (party_of k w.parties) (party_of k w.parties) (t k) (others_silent n k d.entry b.of ne) refl (λ table. refl) (t k).may))
    (same_or_not k n)

settled_may : (call : Call) (standing : Standing) (kind : PartyKind) → standing.facts.kind ≡ kind → has_call kind call ≡ true → MayGo kind standing.next → MayParty (Some (settled call standing))
settled_may call standing kind is has may = by_next standing.next (subst (λ (k : PartyKind). MayGo k standing.next) (sym is) may)
  where
    by_next : (next : Next) → MayGo standing.facts.kind next → MayParty (Some (settled call (record { facts = standing.facts; next = next })))
    by_next (Go work) m = (subst (λ (k : PartyKind). has_call k call ≡ true) (sym is) has, m)
    by_next (Finish reply) m = tt

module _ (n : ℕ) (trail : List Entry) (w : World) (p : Party) (at : party_of n w.parties ≡ Some p) (t : TellsOf n trail (Some p)) where
  -- the party is another one then
  becomes : (x : Entry) (w' : World) (q : Party) → IsOf n x → w'.parties ≡ with_party n q w.parties
      → TellsOf n (trail ++ x ∷ []) (Some q) → Brings n trail w (record { entry = x; world = w' })
  becomes x w' q of is tells = record {
    of = of;
    own = subst (TellsOf n (trail ++ x ∷ [])) (sym (ap (party_of n) is ∙ set_here nat_cmp number_order n q p w.parties at)) tells;
    others = λ k ne. ap (party_of k) is ∙ set_else nat_cmp number_order n k q w.parties ne;
  }

  -- it was noted idle
  idle : (w' : World) → w'.parties ≡ w.parties → Brings n trail w (record { entry = Idle n; world = w' })
  idle w' is = record {
    of = tt;
    own = subst (TellsOf n (trail ++ Idle n ∷ [])) (sym (ap (party_of n) is ∙ at)) (not_told n trail (Idle n) (Some p) (Some p) t (refl, λ table. refl) refl (λ table. refl) t.may);
    others = λ k ne. ap (party_of k) is;
  }

  -- it starts a call
  starts : (call : Call) → has_call p.facts.kind call ≡ true → (state : State) → Brings n trail w (start_state (carrying n call w) n p.facts state call)
  starts call may (Busy task) = idle (carrying n call w) refl
  starts call may Halted = idle (carrying n call w) refl
  starts call may Resting =
      let standing = begin p.facts call in
      let b = begin_tells p.facts call may in
      let x = Started n (reply_of standing.next) in
      becomes x (record (carrying n call w) { parties = with_party n (settled call standing) w.parties }) (settled call standing) refl refl
      (not_told n trail x (Some p) (Some (settled call standing)) t
      (ap (λ (c : Bool). epoch_in (if c then reply_of standing.next else None)) (itself n) ∙ b.silent, λ table. refl)
      b.epoch (λ table. ap (λ (us : List ((ℕ × ℕ) × SsTableInfo)). is_some (info_of table us)) b.uploads) (settled_may call standing p.facts.kind b.kind may b.may))

  -- it makes a step of its call
  steps : (moment : ℤ) (mark : Mark) (state : State) → MayBe p.facts.kind state → ((task : Task) → state ≡ Busy task → Fits p.facts task.call task.work) → Brings n trail w (step_state w n p.facts state moment mark)
  steps moment mark Resting may fits = idle w refl
  steps moment mark Halted may fits = idle w refl
  steps moment mark (Busy task) may fits =
      let asked = asks task.work in
      let outcome = effect mark asked moment w.store in
      let standing = moved p.facts task.call task.work moment outcome.answer in
      let b = moved_tells p.facts task.call may.0 task.work (fits task refl) may.1 moment outcome.answer in
      let d = stepped w n p.facts task moment mark in
      becomes d.entry d.world (settled task.call standing) refl refl
      (more_told n trail d.entry (Some p) (Some (settled task.call standing)) t
      (b.epoch ∙ sym (ap (λ (c : Bool). option_or (epoch_in (if c then reply_of standing.next else None)) (epoch_of (Some p.facts))) (itself n)))
      (λ table. b.uploads table ∙ sym (ap (λ (c : Bool). has_upload table (Some p.facts) || (c && is_done table (table_put asked) (reply_of standing.next))) (itself n)))
      (settled_may task.call standing p.facts.kind (moved_same p.facts task.call task.work moment outcome.answer).kind may.0 b.may))

  -- it is stopped
  ceases : (state : State) → Brings n trail w (stop_state w n p.facts state)
  ceases Halted = idle w refl
  ceases Resting = stopped
    where
      stopped : Brings n trail w (record { entry = Stopped n; world = record w { parties = with_party n (halted p.facts) w.parties } })
      stopped = becomes (Stopped n) (record w { parties = with_party n (halted p.facts) w.parties }) (halted p.facts) tt refl (not_told n trail (Stopped n) (Some p) (Some (halted p.facts)) t (refl, λ table. refl) refl (λ table. refl) tt)
  ceases (Busy task) = stopped
    where
      stopped : Brings n trail w (record { entry = Stopped n; world = record w { parties = with_party n (halted p.facts) w.parties } })
      stopped = becomes (Stopped n) (record w { parties = with_party n (halted p.facts) w.parties }) (halted p.facts) tt refl (not_told n trail (Stopped n) (Some p) (Some (halted p.facts)) t (refl, λ table. refl) refl (λ table. refl) tt)

no_epoch : (kind : PartyKind) → open_epoch kind None None ≡ None
no_epoch CompactorKind = refl
no_epoch Writer = refl
no_epoch Worker = refl
no_epoch Holder = refl
no_epoch Collector = refl

opens : (n : ℕ) (kind : PartyKind) (db : List ℕ) (trail : List Entry) (w : World) → party_of n w.parties ≡ None → TellsOf n trail None
    → Brings n trail w (record { entry = Opened n; world = record w { parties = insert_entry nat_cmp w.parties n (newcomer n kind db) } })
opens n kind db trail w at t = record {
  of = tt;
  own = subst (TellsOf n (trail ++ Opened n ∷ [])) (sym (insert_here nat_cmp number_order n (newcomer n kind db) w.parties))
      (not_told n trail (Opened n) None (Some (newcomer n kind db)) t (refl, λ table. refl) (no_epoch kind) (λ table. refl) tt);
  others = λ k ne. insert_else nat_cmp number_order n k (newcomer n kind db) w.parties ne;
}

event_tells : (trail : List Entry) (w : World) (chains : Chains) (e : Event) (d : Transition) → happens w e ≡ Some d → Inv w chains → AllTell trail w → Brings (party_in e) trail w d
event_tells trail w chains (Open n kind db) d h i t = opened (party_of n w.parties) (tally_of db w.tallies) refl h
  where
    opened : (o : Option Party) (tally : Option Tally) → party_of n w.parties ≡ o → open_at w n kind db o tally ≡ Some d → Brings n trail w d
    opened None (Some tally) at h =
        let same : record { entry = Opened n; world = record w { parties = insert_entry nat_cmp w.parties n (newcomer n kind db) } } ≡ d = cc in
        subst (Brings n trail w) same (opens n kind db trail w at (subst (TellsOf n trail) at (t n)))
    opened None None at h = absurd cc
    opened (Some p) tally at h = absurd cc
event_tells trail w chains (Start n call) d h i t = started (party_of n w.parties) refl h
  where
    test : (p : Party) (b : Bool) → may_start w call p ≡ b → party_of n w.parties ≡ Some p → (if b then Some (start_state (carrying n call w) n p.facts p.state call) else None) ≡ Some d → Brings n trail w d
    test p true may at h =
        let same : start_state (carrying n call w) n p.facts p.state call ≡ d = cc in
        subst (Brings n trail w) same (starts n trail w p at (subst (TellsOf n trail) at (t n)) call (and_parts (has_call p.facts.kind call) (not (is_stale w.carried call)) may).0 p.state)
    test p false may at h = absurd cc

    started : (o : Option Party) → party_of n w.parties ≡ o → start_at w n call o ≡ Some d → Brings n trail w d
    started None at h = absurd cc
    started (Some p) at h = test p (may_start w call p) refl at h
event_tells trail w chains (Step n moment mark) d h i t = went (party_of n w.parties) refl h
  where
    went : (o : Option Party) → party_of n w.parties ≡ o → step_at w n moment mark o ≡ Some d → Brings n trail w d
    went None at h = absurd cc
    went (Some p) at h =
        let same : step_state w n p.facts p.state moment mark ≡ d = cc in
        let own = subst (TellsOf n trail) at (t n) in
        subst (Brings n trail w) same
        (steps n trail w p at own moment mark p.state own.may (λ task is. (subst (StateKnows w.store chains n p.facts) is (i.parties n p at).knows).fits))
event_tells trail w chains (Stop n) d h i t = went (party_of n w.parties) refl h
  where
    went : (o : Option Party) → party_of n w.parties ≡ o → stop_at w n o ≡ Some d → Brings n trail w d
    went None at h = absurd cc
    went (Some p) at h =
        let same : stop_state w n p.facts p.state ≡ d = cc in
        subst (Brings n trail w) same (ceases n trail w p at (subst (TellsOf n trail) at (t n)) p.state)

-- ---- a run

run_tells : (es : List Event) (place : ℕ) (c v : Course) (chains : Chains) → Inv c.world chains → AllTell c.trail c.world → run es place c ≡ ended v → AllTell v.trail v.world
run_tells [] place c v chains i t h = subst (λ (x : Course). AllTell x.trail x.world) (ap (λ (r : Ran). r.course) h) t
run_tells (e ∷ es) place c v chains i t h =
    went (happens c.world e) refl h
    (λ d is k. run_tells es (place + 1) (going_on c d) v (chains_after c.world e chains) (event_inv c.world chains e d is i) (all_tell (party_in e) c.trail c.world d t (event_tells c.trail c.world chains e d is i t)) k)
  where
    went : (o : Option Transition) → happens c.world e ≡ o → (elim o as (λ _. Ran) [ None ↦ record { course = c; bad = Some place } | Some done ↦ run es (place + 1) (going_on c done) ]) ≡ ended v
        → ((d : Transition) → happens c.world e ≡ Some d → run es (place + 1) (going_on c d) ≡ ended v → AllTell v.trail v.world) → AllTell v.trail v.world
    went None is h f = absurd (cc (ap (λ (r : Ran). r.bad) h))
    went (Some d) is h f = f d is h

none_tell : (specs : List DbSpec) → AllTell [] (opening_world specs)
none_tell specs n = record { epoch = refl; uploaded = λ table. refl; may = tt }

-- what is known of each party
pub known_as_told : (specs : List DbSpec) (events : List Event) → IsAccepted specs → AreGood specs events → (n : ℕ)
    → IsAsTold n events (course_after specs events).trail (party_of n (course_after specs events).world.parties)
known_as_told specs events accepted good n =
    let t = run_tells events 0 (opening specs) (course_after specs events) (opening_chains specs) (opening_inv specs accepted) (none_tell specs) (good_run specs events good) n in
    record { said = parties_are specs events good n; epoch = t.epoch; uploads = t.uploaded }
