-- What holds at each moment of a run: by what each event does to the whole, to its own party and to the others.
use Rattle.std.proofs.Common.{◌≡◌, ◌≢◌, ℕ, ℤ, ◌+◌, Bool, true, false, List, [], ◌∷◌, ◌++◌, Option, Some, None, ⊎_elim, refl, sym, ap, ◌∙◌, subst, append_assoc}
use Rattle.std.proofs.lemmas.List.{append-nil}
use Rattle.std.specs.Prelude.{if◌then◌else◌}
use Rattle.std.specs.BTreeMap.{insert_entry}
use Rattle.std.specs.Ordering.{nat_cmp}
use Rattle.slate_ids.specs.Ids.{is_db_path}
use Rattle.slate_ids.specs.declared.object_path.ObjectPath.{ObjectPath}
use Rattle.slate_store.specs.Store.{Store, effect}
use Rattle.slate_store.specs.declared.mark.Mark.{Mark}
use Rattle.slate_script_events.specs.declared.call.Call.{Call}
use Rattle.slate_script_events.specs.declared.db_spec.DbSpec.{DbSpec}
use Rattle.slate_script_events.specs.declared.entry.Entry.{Entry}
use Rattle.slate_script_events.specs.declared.event.Event.{Event}
use Rattle.slate_script_events.specs.declared.event.Event.TheVariants.{Open, Start, Step, Stop}
use Rattle.slate_script_events.specs.declared.party_kind.PartyKind.{PartyKind}
use Rattle.slate_txn_log.specs.declared.log_kind.LogKind.{LogKind}
use Rattle.slate_cluster_protocol.specs.ByRows.{AllTold, all_told_after, entry_store, nobody, party_in}
use Rattle.slate_cluster_protocol.specs.Lawful.{IsAccepted, AreGood, chains_at_end, course_after, gone_after, world_at_end}
use Rattle.slate_cluster_protocol.specs.Logs.{Chains, chains_after, chains_at, chains_of, chains_state, chains_stepped, opening_chains, phrase_of, world_after}
use Rattle.slate_cluster_protocol.specs.Rows.{Standing, begin, moved}
use Rattle.slate_cluster_protocol.specs.Runs.{Course, Ran, going_on, opening, run}
use Rattle.slate_cluster_protocol.specs.Safe.{gone, removed_by}
use Rattle.slate_cluster_protocol.specs.Specs.{opening_world}
use Rattle.slate_cluster_protocol.specs.Works.{asks}
use Rattle.slate_cluster_protocol.specs.World.{World, Transition, HasDb, party_of, with_party, tally_of, newcomer, settled, stepped, step_state, start_state, halted, stop_state, carrying, may_start, open_at, start_at, step_at, stop_at, happens}
use Rattle.slate_cluster_protocol.specs.declared.party.Facts.{Facts}
use Rattle.slate_cluster_protocol.specs.declared.party.Party.{Party}
use Rattle.slate_cluster_protocol.specs.declared.party.State.{State}
use Rattle.slate_cluster_protocol.specs.declared.party.State.TheVariants.{Resting, Busy, Halted}
use Rattle.slate_cluster_protocol.specs.declared.party.Task.{Task}
use Rattle.slate_cluster_protocol.specs.declared.tally.Tally.{Tally}
use Rattle.slate_cluster_chain_laws.proofs.Links.{same_or_not}
use Rattle.slate_cluster_laws.proofs.Calls.{Reaches, WorkKnows}
use Rattle.slate_cluster_laws.proofs.Maps.{number_order, insert_here, insert_else}
use Rattle.slate_cluster_laws.proofs.Opening.{opening_inv}
use Rattle.slate_cluster_laws.proofs.Removals.{good_run}
use Rattle.slate_cluster_laws.proofs.Rows.{AllMatch, ended, event_brings, all_after}
use Rattle.slate_cluster_laws.proofs.Runs.{Inv, LogAfter, after, event_inv, log_after, others_stay, party_in_place, reaches}
use Rattle.slate_cluster_laws.proofs.Safety.{EventAfter, event_after}
use Rattle.slate_cluster_laws.proofs.Steps.{PhraseBrings, author_in}

-- ---- moments

-- a moment of a run: the state, the chains, and what was removed up to it
pub record Moment : Type 0 where
  pub world : World
  pub chains : Chains
  pub removed : List ObjectPath

-- the moment after an event, by the chains after it and by what it did
abbrev pub moment_with : Moment → Chains → Transition → Moment
moment_with m chains d = record { world = d.world; chains = chains; removed = m.removed ++ removed_by d.entry m.world.store }

abbrev pub moment_after : Moment → Event → Transition → Moment
moment_after m e d = moment_with m (chains_after m.world e m.chains) d

-- the moment after events, up to the first bad one
abbrev pub moment_of : List Event → Moment → Moment
moment_of [] m = m
moment_of (e ∷ es) m = elim (happens m.world e) [ None ↦ m | Some d ↦ moment_of es (moment_after m e d) ]

-- as a run of these databases begins
abbrev pub opening_moment : List DbSpec → Moment
opening_moment specs = record { world = opening_world specs; chains = opening_chains specs; removed = [] }

-- a moment with other parties
abbrev pub with_parties : List (ℕ × Party) → Moment → Moment
with_parties parties m = record { world = record m.world { parties = parties }; chains = m.chains; removed = m.removed }

-- a moment in which the ids of a start were carried
abbrev pub with_ids : ℕ → Call → Moment → Moment
with_ids n call m = record { world = carrying n call m.world; chains = m.chains; removed = m.removed }

-- the moment after the one store call of a step
abbrev pub moment_stepped : Moment → ℕ → Facts → Task → ℤ → Mark → Moment
moment_stepped m n facts task moment mark = moment_with m (chains_stepped m.world n task moment mark m.chains) (stepped m.world n facts task moment mark)

-- ---- what an event does

-- a party with these facts, in a call
abbrev pub in_call : Facts → Task → Party
in_call facts task = record { facts = facts; state = Busy task }

-- a party with these facts and without a call
abbrev pub at_rest : Facts → Party
at_rest facts = record { facts = facts; state = Resting }

-- how the call of a party stands after its step
abbrev pub standing_after : World → Facts → Task → ℤ → Mark → Standing
standing_after w facts task moment mark = moved facts task.call task.work moment (effect mark (asks task.work) moment w.store).answer

-- what an event does: the party of its number as it is after it, and the moment after it; no other party changes
pub data Does (m : Moment) : Event → Party → Moment → Type 0 where
  -- a party comes
  Comes : (n : ℕ) (kind : PartyKind) (db : List ℕ) (tally : Tally) → party_of n m.world.parties ≡ None → tally_of db m.world.tallies ≡ Some tally
      → Does m (Open n kind db) (newcomer n kind db) (with_parties (insert_entry nat_cmp m.world.parties n (newcomer n kind db)) m)
  -- a party without a call starts one
  Starts : (n : ℕ) (call : Call) (facts : Facts) → party_of n m.world.parties ≡ Some (at_rest facts) → may_start m.world call (at_rest facts) ≡ true
      → Does m (Start n call) (settled call (begin facts call)) (with_parties (with_party n (settled call (begin facts call)) m.world.parties) (with_ids n call m))
  -- a start of a party in a call, or of one that was stopped, carries its ids alone
  Carries : (n : ℕ) (call : Call) (p : Party) → party_of n m.world.parties ≡ Some p → may_start m.world call p ≡ true → Does m (Start n call) p (with_ids n call m)
  -- a party in a call makes its one store call
  Steps : (n : ℕ) (moment : ℤ) (mark : Mark) (facts : Facts) (task : Task) → party_of n m.world.parties ≡ Some (in_call facts task)
      → Does m (Step n moment mark) (settled task.call (standing_after m.world facts task moment mark)) (moment_stepped m n facts task moment mark)
  -- a party is stopped
  Stops : (n : ℕ) (p : Party) → party_of n m.world.parties ≡ Some p → Does m (Stop n) (halted p.facts) (with_parties (with_party n (halted p.facts) m.world.parties) m)
  -- nothing changes
  Idles : (e : Event) (p : Party) → party_of (party_in e) m.world.parties ≡ Some p → Does m e p m

-- the party of the event is there after it
pub its_party : (m : Moment) (e : Event) (q : Party) (m' : Moment) → Does m e q m' → party_of (party_in e) m'.world.parties ≡ Some q
its_party m e q m' (Comes n kind db tally none found) = insert_here nat_cmp number_order n (newcomer n kind db) m.world.parties
its_party m e q m' (Starts n call facts at may) = party_in_place n (at_rest facts) (settled call (begin facts call)) m.world.parties at
its_party m e q m' (Carries n call p at may) = at
its_party m e q m' (Steps n moment mark facts task at) = party_in_place n (in_call facts task) (settled task.call (standing_after m.world facts task moment mark)) m.world.parties at
its_party m e q m' (Stops n p at) = party_in_place n p (halted p.facts) m.world.parties at
its_party m e q m' (Idles _ p at) = at

-- and the others are as they were
pub other_parties : (m : Moment) (e : Event) (q : Party) (m' : Moment) → Does m e q m' → (k : ℕ) → k ≢ party_in e → party_of k m'.world.parties ≡ party_of k m.world.parties
other_parties m e q m' (Comes n kind db tally none found) k ne = insert_else nat_cmp number_order n k (newcomer n kind db) m.world.parties ne
other_parties m e q m' (Starts n call facts at may) k ne = others_stay n k (settled call (begin facts call)) m.world.parties ne
other_parties m e q m' (Carries n call p at may) k ne = refl
other_parties m e q m' (Steps n moment mark facts task at) k ne = others_stay n k (settled task.call (standing_after m.world facts task moment mark)) m.world.parties ne
other_parties m e q m' (Stops n p at) k ne = others_stay n k (halted p.facts) m.world.parties ne
other_parties m e q m' (Idles _ p at) k ne = refl

-- what an event that isn't bad does
pub record Done (m : Moment) (e : Event) (m' : Moment) : Type 0 where
  pub party : Party
  pub does : Does m e party m'

module _ (m : Moment) where
  -- an event that removes nothing
  removes_none : (e : Event) (w : World) (chains : Chains) → Done m e (record { world = w; chains = chains; removed = m.removed }) → Done m e (record { world = w; chains = chains; removed = m.removed ++ [] })
  removes_none e w chains h = subst (λ (ps : List ObjectPath). Done m e (record { world = w; chains = chains; removed = ps })) (sym (append-nil m.removed)) h

  idles : (e : Event) (p : Party) → party_of (party_in e) m.world.parties ≡ Some p → Done m e (record { world = m.world; chains = m.chains; removed = m.removed ++ [] })
  idles e p at = removes_none e m.world m.chains (record { party = p; does = Idles e p at })

  step_does : (n : ℕ) (moment : ℤ) (mark : Mark) (facts : Facts) (state : State) → party_of n m.world.parties ≡ Some (record { facts = facts; state = state })
      → Done m (Step n moment mark) (moment_with m (chains_state m.world n state moment mark m.chains) (step_state m.world n facts state moment mark))
  step_does n moment mark facts Resting at = idles (Step n moment mark) _ at
  step_does n moment mark facts Halted at = idles (Step n moment mark) _ at
  step_does n moment mark facts (Busy task) at = record { party = settled task.call (standing_after m.world facts task moment mark); does = Steps n moment mark facts task at }

  carries : (n : ℕ) (call : Call) (p : Party) → party_of n m.world.parties ≡ Some p → may_start m.world call p ≡ true → Done m (Start n call) (record { world = carrying n call m.world; chains = m.chains; removed = m.removed ++ [] })
  carries n call p at may = removes_none (Start n call) (carrying n call m.world) m.chains (record { party = p; does = Carries n call p at may })

  start_does : (n : ℕ) (call : Call) (facts : Facts) (state : State) → party_of n m.world.parties ≡ Some (record { facts = facts; state = state }) → may_start m.world call (record { facts = facts; state = state }) ≡ true
      → Done m (Start n call) (moment_with m m.chains (start_state (carrying n call m.world) n facts state call))
  start_does n call facts Resting at may =
      removes_none (Start n call) (start_state (carrying n call m.world) n facts Resting call).world m.chains (record { party = settled call (begin facts call); does = Starts n call facts at may })
  start_does n call facts (Busy task) at may = carries n call _ at may
  start_does n call facts Halted at may = carries n call _ at may

  stops : (n : ℕ) (facts : Facts) (state : State) → party_of n m.world.parties ≡ Some (record { facts = facts; state = state })
      → Done m (Stop n) (record { world = record m.world { parties = with_party n (halted facts) m.world.parties }; chains = m.chains; removed = m.removed ++ [] })
  stops n facts state at = removes_none (Stop n) (record m.world { parties = with_party n (halted facts) m.world.parties }) m.chains (record { party = halted facts; does = Stops n (record { facts = facts; state = state }) at })

  stop_does : (n : ℕ) (facts : Facts) (state : State) → party_of n m.world.parties ≡ Some (record { facts = facts; state = state }) → Done m (Stop n) (moment_with m m.chains (stop_state m.world n facts state))
  stop_does n facts Halted at = idles (Stop n) _ at
  stop_does n facts Resting at = stops n facts Resting at
  stop_does n facts (Busy task) at = stops n facts (Busy task) at

  pub does : (e : Event) (d : Transition) → happens m.world e ≡ Some d → Done m e (moment_after m e d)
  does (Open n kind db) d is = opened (party_of n m.world.parties) (tally_of db m.world.tallies) refl refl is
    where
      opened : (o : Option Party) (t : Option Tally) → party_of n m.world.parties ≡ o → tally_of db m.world.tallies ≡ t → open_at m.world n kind db o t ≡ Some d → Done m (Open n kind db) (moment_with m m.chains d)
      opened None (Some t) none found is =
          subst (λ (o : Option Transition). elim o as (λ _. Type 0) [ None ↦ Unit {0} | Some r ↦ Done m (Open n kind db) (moment_with m m.chains r) ]) is
          (removes_none (Open n kind db) (record m.world { parties = insert_entry nat_cmp m.world.parties n (newcomer n kind db) }) m.chains (record { party = newcomer n kind db; does = Comes n kind db t none found }))
      opened None None none found is = absurd cc
      opened (Some p) t none found is = absurd cc
  does (Start n call) d is = started (party_of n m.world.parties) refl is
    where
      test : (p : Party) (b : Bool) → may_start m.world call p ≡ b → party_of n m.world.parties ≡ Some p → (if b then Some (start_state (carrying n call m.world) n p.facts p.state call) else None) ≡ Some d
          → Done m (Start n call) (moment_with m m.chains d)
      test p true may at is =
          let same : start_state (carrying n call m.world) n p.facts p.state call ≡ d = cc in
          subst (λ (r : Transition). Done m (Start n call) (moment_with m m.chains r)) same (start_does n call p.facts p.state at may)
      test p false may at is = absurd cc

      started : (o : Option Party) → party_of n m.world.parties ≡ o → start_at m.world n call o ≡ Some d → Done m (Start n call) (moment_with m m.chains d)
      started None at is = absurd cc
      started (Some p) at is = test p (may_start m.world call p) refl at is
  does (Step n moment mark) d is = went (party_of n m.world.parties) refl is
    where
      went : (o : Option Party) → party_of n m.world.parties ≡ o → step_at m.world n moment mark o ≡ Some d → Done m (Step n moment mark) (moment_with m (chains_at m.world n o moment mark m.chains) d)
      went None at is = absurd cc
      went (Some p) at is =
          let same : step_state m.world n p.facts p.state moment mark ≡ d = cc in
          subst (λ (r : Transition). Done m (Step n moment mark) (moment_with m (chains_state m.world n p.state moment mark m.chains) r)) same (step_does n moment mark p.facts p.state at)
  does (Stop n) d is = went (party_of n m.world.parties) refl is
    where
      went : (o : Option Party) → party_of n m.world.parties ≡ o → stop_at m.world n o ≡ Some d → Done m (Stop n) (moment_with m m.chains d)
      went None at is = absurd cc
      went (Some p) at is =
          let same : stop_state m.world n p.facts p.state ≡ d = cc in
          subst (λ (r : Transition). Done m (Stop n) (moment_with m m.chains r)) same (stop_does n p.facts p.state at)

-- ---- what a step brings

-- what the party knew of its work, what the answer brings, how the call goes on, and what the step leaves of each log
pub record StepBrings (m : Moment) (n : ℕ) (facts : Facts) (task : Task) (moment : ℤ) (mark : Mark) : Type 0 where
  pub has : HasDb m.world facts.db
  pub knows : WorkKnows m.world.store m.chains n facts task.call task.work
  pub brings : PhraseBrings (effect mark (asks task.work) moment m.world.store).store (chains_stepped m.world n task moment mark m.chains) n (phrase_of task.work) moment (effect mark (asks task.work) moment m.world.store).answer
  pub reaches : Reaches (effect mark (asks task.work) moment m.world.store).store (chains_stepped m.world n task moment mark m.chains) n facts task.call (standing_after m.world facts task moment mark)
  pub log : (k : LogKind) (d : List ℕ) → is_db_path d ≡ true
      → LogAfter k m.world.store (m.chains k d) (effect mark (asks task.work) moment m.world.store).store (chains_stepped m.world n task moment mark m.chains k d) d (author_in n (phrase_of task.work))

pub step_brings : (m : Moment) (n : ℕ) (facts : Facts) (task : Task) (moment : ℤ) (mark : Mark) → Inv m.world m.chains → party_of n m.world.parties ≡ Some (in_call facts task) → StepBrings m n facts task moment mark
step_brings m n facts task moment mark i at =
    let own = i.parties n (in_call facts task) at in
    record {
      has = own.has;
      knows = own.knows;
      brings = (after m.world m.chains i n (in_call facts task) at task own.knows moment mark).brings;
      reaches = reaches m.world m.chains i n (in_call facts task) at task own.knows moment mark;
      log = λ k d h. log_after m.world m.chains i n (in_call facts task) at task own.knows moment mark k d h;
    }

-- ---- the induction

-- of a moment: a sentence on the whole, and one on each party
pub record All (Whole : Moment → Type 0) (Of : Moment → ℕ → Party → Type 0) (m : Moment) : Type 0 where
  pub whole : Whole m
  pub each : (n : ℕ) (p : Party) → party_of n m.world.parties ≡ Some p → Of m n p

-- what is known of two moments, one event apart
pub record Turn (m : Moment) (e : Event) (m' : Moment) : Type 0 where
  pub inv : Inv m.world m.chains
  pub inv_after : Inv m'.world m'.chains
  pub grows : EventAfter m.world m.chains m'.world m'.chains
  pub done : Transition
  pub is : happens m.world e ≡ Some done
  pub to : m' ≡ moment_after m e done

-- one event keeps both sentences: the one on the whole, that on its own party as it is after it, and that on each other one
pub record Kept (Whole : Moment → Type 0) (Of : Moment → ℕ → Party → Type 0) : Type 0 where
  pub whole : (m : Moment) (e : Event) (q : Party) (m' : Moment) → Does m e q m' → Turn m e m' → All Whole Of m → Whole m'
  pub own : (m : Moment) (e : Event) (q : Party) (m' : Moment) → Does m e q m' → Turn m e m' → All Whole Of m → Whole m' → Of m' (party_in e) q
  pub others : (m : Moment) (e : Event) (q : Party) (m' : Moment) → Does m e q m' → Turn m e m' → All Whole Of m → Whole m'
      → (k : ℕ) → k ≢ party_in e → (p : Party) → party_of k m.world.parties ≡ Some p → Of m k p → Of m' k p

module _ (Whole : Moment → Type 0) (Of : Moment → ℕ → Party → Type 0) (kept : Kept Whole Of) where
  -- after one event
  all_turn : (m : Moment) (e : Event) (q : Party) (m' : Moment) → Does m e q m' → Turn m e m' → All Whole Of m → All Whole Of m'
  all_turn m e q m' d t h = record { whole = whole'; each = λ k p at. each k p at }
    where
      whole' : Whole m'
      whole' = kept.whole m e q m' d t h

      each : (k : ℕ) (p : Party) → party_of k m'.world.parties ≡ Some p → Of m' k p
      each k p at =
          ⊎_elim
          (λ (same : k ≡ party_in e).
          let found : party_of (party_in e) m'.world.parties ≡ Some p = subst (λ j. party_of j m'.world.parties ≡ Some p) same at in
          let is : q ≡ p = cc (its_party m e q m' d, found) in
          subst (λ (j : ℕ). Of m' j p) (sym same) (subst (λ (r : Party). Of m' (party_in e) r) is (kept.own m e q m' d t h whole')))
          (λ (ne : k ≢ party_in e).
          let was : party_of k m.world.parties ≡ Some p = sym (other_parties m e q m' d k ne) ∙ at in
          kept.others m e q m' d t h whole' k ne p was (h.each k p was))
          (same_or_not k (party_in e))

  all_after_event : (m : Moment) (e : Event) (d : Transition) → happens m.world e ≡ Some d → Inv m.world m.chains → All Whole Of m → All Whole Of (moment_after m e d)
  all_after_event m e d is i h =
      let made = does m e d is in
      all_turn m e made.party (moment_after m e d) made.does
      (record { inv = i; inv_after = event_inv m.world m.chains e d is i; grows = event_after m.world m.chains e d i is; done = d; is = is; to = refl }) h

  -- after events, up to the first bad one
  pub along : (es : List Event) (m : Moment) → Inv m.world m.chains → All Whole Of m → All Whole Of (moment_of es m)
  along [] m i h = h
  along (e ∷ es) m i h = went (happens m.world e) refl (λ d is. along es (moment_after m e d) (event_inv m.world m.chains e d is i) (all_after_event m e d is i h))
    where
      went : (o : Option Transition) → happens m.world e ≡ o → ((d : Transition) → happens m.world e ≡ Some d → All Whole Of (moment_of es (moment_after m e d)))
          → All Whole Of (elim o as (λ _. Moment) [ None ↦ m | Some d ↦ moment_of es (moment_after m e d) ])
      went None is f = h
      went (Some d) is f = f d is

  -- as a run begins, no party has come
  opens : (specs : List DbSpec) → Whole (opening_moment specs) → All Whole Of (opening_moment specs)
  opens specs h = record { whole = h; each = λ n p at. absurd (cc (at)) }

  -- after any events on accepted databases
  pub along_run : (specs : List DbSpec) (events : List Event) → IsAccepted specs → Whole (opening_moment specs) → All Whole Of (moment_of events (opening_moment specs))
  along_run specs events accepted h = along events (opening_moment specs) (opening_inv specs accepted) (opens specs h)

-- ---- the moments of a run

-- a moment to which events lead from a first one, of which none is bad
pub data LeadsTo (first : Moment) : Moment → Type 0 where
  Begins : LeadsTo first first
  Goes : (m : Moment) (e : Event) (d : Transition) → LeadsTo first m → happens m.world e ≡ Some d → LeadsTo first (moment_after m e d)

pub inv_there : (first m : Moment) → Inv first.world first.chains → LeadsTo first m → Inv m.world m.chains
inv_there first m i Begins = i
inv_there first m i (Goes before e d to is) = event_inv before.world before.chains e d is (inv_there first before i to)

-- what each event keeps holds there
pub all_there : (Whole : Moment → Type 0) (Of : Moment → ℕ → Party → Type 0) → Kept Whole Of → (first m : Moment) → Inv first.world first.chains → All Whole Of first → LeadsTo first m → All Whole Of m
all_there Whole Of kept first m i h Begins = h
all_there Whole Of kept first m i h (Goes before e d to is) = all_after_event Whole Of kept before e d is (inv_there first before i to) (all_there Whole Of kept first before i h to)

-- so it does at each moment of a run on accepted databases
pub all_in_run : (Whole : Moment → Type 0) (Of : Moment → ℕ → Party → Type 0) → Kept Whole Of → (specs : List DbSpec) → IsAccepted specs → Whole (opening_moment specs) → (m : Moment) → LeadsTo (opening_moment specs) m → All Whole Of m
all_in_run Whole Of kept specs accepted h m to = all_there Whole Of kept (opening_moment specs) m (opening_inv specs accepted) (opens Whole Of kept specs h) to

-- ---- the moment at the end

pub its_world : (es : List Event) (m : Moment) → (moment_of es m).world ≡ world_after es m.world
its_world [] m = refl
its_world (e ∷ es) m = went (happens m.world e) (λ d. its_world es (moment_after m e d))
  where
    went : (o : Option Transition) → ((d : Transition) → (moment_of es (moment_after m e d)).world ≡ world_after es d.world)
        → (elim o as (λ _. Moment) [ None ↦ m | Some d ↦ moment_of es (moment_after m e d) ]).world ≡ elim o as (λ _. World) [ None ↦ m.world | Some d ↦ world_after es d.world ]
    went None f = refl
    went (Some d) f = f d

pub its_chains : (es : List Event) (m : Moment) → (moment_of es m).chains ≡ chains_of es m.world m.chains
its_chains [] m = refl
its_chains (e ∷ es) m = went (happens m.world e) (λ d. its_chains es (moment_after m e d))
  where
    went : (o : Option Transition) → ((d : Transition) → (moment_of es (moment_after m e d)).chains ≡ chains_of es d.world (chains_after m.world e m.chains))
        → (elim o as (λ _. Moment) [ None ↦ m | Some d ↦ moment_of es (moment_after m e d) ]).chains ≡ elim o as (λ _. Chains) [ None ↦ m.chains | Some d ↦ chains_of es d.world (chains_after m.world e m.chains) ]
    went None f = refl
    went (Some d) f = f d

-- the moment of a course, with its chains and what was removed before
abbrev moment_at : Course → Chains → List ObjectPath → Moment
moment_at c chains removed = record { world = c.world; chains = chains; removed = removed }

-- what the entries of a run removed, beside what was removed before
record RunRemoved (c v : Course) (before now : List ObjectPath) : Type 0 where
  pub entries : List Entry
  pub trail : v.trail ≡ c.trail ++ entries
  pub removed : now ≡ before ++ gone entries c.world.store

-- one entry more in front
more_removed : (c v : Course) (d : Transition) (before now : List ObjectPath) → d.world.store ≡ entry_store d.entry c.world.store → RunRemoved (going_on c d) v (before ++ removed_by d.entry c.world.store) now → RunRemoved c v before now
more_removed c v d before now e r = record {
  entries = d.entry ∷ r.entries;
  trail = r.trail ∙ append_assoc c.trail (d.entry ∷ []) r.entries;
  removed = r.removed
      ∙ (append_assoc before (removed_by d.entry c.world.store) (gone r.entries d.world.store) ∙ ap (λ (s : Store). before ++ (removed_by d.entry c.world.store ++ gone r.entries s)) e);
}

run_removed : (es : List Event) (place : ℕ) (c v : Course) (all : AllTold) (chains : Chains) (before : List ObjectPath) → AllMatch all c.world → run es place c ≡ ended v
    → RunRemoved c v before (moment_of es (moment_at c chains before)).removed
run_removed [] place c v all chains before match h = record {
  entries = [];
  trail = ap (λ (r : Ran). r.course.trail) (sym h) ∙ sym (append-nil c.trail);
  removed = sym (append-nil before);
}
run_removed (e ∷ es) place c v all chains before match h =
    went (happens c.world e) refl h
    (λ d k is.
    run_removed es (place + 1) (going_on c d) v (all_told_after e d.entry all) (chains_after c.world e chains) (before ++ removed_by d.entry c.world.store)
    (all_after e all c.world d match (event_brings e all c.world d match is)) k)
  where
    went : (o : Option Transition) → happens c.world e ≡ o → (elim o as (λ _. Ran) [ None ↦ record { course = c; bad = Some place } | Some done ↦ run es (place + 1) (going_on c done) ]) ≡ ended v
        → ((d : Transition) → run es (place + 1) (going_on c d) ≡ ended v → happens c.world e ≡ Some d → RunRemoved (going_on c d) v (before ++ removed_by d.entry c.world.store) (moment_of es (moment_after (moment_at c chains before) e d)).removed)
        → RunRemoved c v before (elim o as (λ _. Moment) [ None ↦ moment_at c chains before | Some d ↦ moment_of es (moment_after (moment_at c chains before) e d) ]).removed
    went None is h f = absurd (cc (ap (λ (r : Ran). r.bad) h))
    went (Some d) is h f = more_removed c v d before (moment_of es (moment_after (moment_at c chains before) e d)).removed (event_brings e all c.world d match is).store (f d h is)

-- what was removed up to the end of a run, of whose events none is bad
pub its_removed : (specs : List DbSpec) (events : List Event) → AreGood specs events → (moment_of events (opening_moment specs)).removed ≡ gone_after specs events
its_removed specs events good =
    let r = run_removed events 0 (opening specs) (course_after specs events) nobody (opening_chains specs) [] (λ n. tt) (good_run specs events good) in
    r.removed ∙ ap (λ (xs : List Entry). gone xs (opening_world specs).store) (sym r.trail)

-- the moment at the end of such a run
abbrev pub end_moment : List DbSpec → List Event → Moment
end_moment specs events = record { world = world_at_end specs events; chains = chains_at_end specs events; removed = gone_after specs events }

same_moment : (m : Moment) (w : World) (chains : Chains) (removed : List ObjectPath) → m.world ≡ w → m.chains ≡ chains → m.removed ≡ removed → m ≡ record { world = w; chains = chains; removed = removed }
same_moment m w chains removed a b c =
    ap (λ (x : World). record { world = x; chains = m.chains; removed = m.removed }) a
    ∙ (ap (λ (x : Chains). record { world = w; chains = x; removed = m.removed }) b ∙ ap (λ (x : List ObjectPath). record { world = w; chains = chains; removed = x }) c)

pub ends_so : (specs : List DbSpec) (events : List Event) → AreGood specs events → moment_of events (opening_moment specs) ≡ end_moment specs events
ends_so specs events good =
    let m = opening_moment specs in
    same_moment (moment_of events m) (world_at_end specs events) (chains_at_end specs events) (gone_after specs events) (its_world events m) (its_chains events m) (its_removed specs events good)

-- so what each event keeps holds there
pub along_good : (Whole : Moment → Type 0) (Of : Moment → ℕ → Party → Type 0) → Kept Whole Of → (specs : List DbSpec) (events : List Event) → IsAccepted specs → AreGood specs events → Whole (opening_moment specs)
    → All Whole Of (end_moment specs events)
along_good Whole Of kept specs events accepted good h = subst (All Whole Of) (ends_so specs events good) (along_run Whole Of kept specs events accepted h)
