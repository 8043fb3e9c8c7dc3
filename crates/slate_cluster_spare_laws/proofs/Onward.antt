-- What steps keep of the chains, each event keeps, and so do events of which none is bad.
use Rattle.std.proofs.Common.{◌≡◌, ℕ, ℤ, ◌+◌, List, [], ◌∷◌, ◌++◌, Option, Some, None, refl, sym, ap, subst, append_assoc}
use Rattle.std.proofs.lemmas.List.{append-nil}
use Rattle.slate_script_events.specs.declared.db_spec.DbSpec.{DbSpec}
use Rattle.slate_script_events.specs.declared.event.Event.{Event}
use Rattle.slate_script_events.specs.declared.event.Event.TheVariants.{Open, Start, Step, Stop}
use Rattle.slate_store.specs.declared.mark.Mark.{Mark}
use Rattle.slate_cluster_protocol.specs.Lawful.{AreGood, IsAccepted, chains_at_end, course_after, world_at_end}
use Rattle.slate_cluster_protocol.specs.Logs.{Author, Chains, chains_after, chains_at, chains_of, chains_state, opening_chains, phrase_of, world_after}
use Rattle.slate_cluster_protocol.specs.Runs.{Course, Ran, going_on, opening, run}
use Rattle.slate_cluster_protocol.specs.World.{Transition, World, happens, party_of}
use Rattle.slate_cluster_protocol.specs.declared.party.Facts.{Facts}
use Rattle.slate_cluster_protocol.specs.declared.party.Party.{Party}
use Rattle.slate_cluster_protocol.specs.declared.party.State.{State}
use Rattle.slate_cluster_protocol.specs.declared.party.State.TheVariants.{Resting, Busy, Halted}
use Rattle.slate_cluster_laws.proofs.AfterEvents.{after_inv}
use Rattle.slate_cluster_laws.proofs.Along.{in_call}
use Rattle.slate_cluster_laws.proofs.GoingOn.{run_split}
use Rattle.slate_cluster_laws.proofs.OpenedEpochs.{epochs_of_run}
use Rattle.slate_cluster_laws.proofs.Removals.{good_run}
use Rattle.slate_cluster_laws.proofs.Rows.{ended}
use Rattle.slate_cluster_laws.proofs.Steps.{author_in}
use Rattle.slate_cluster_compactor_laws.proofs.Laws.{pending_of_run}
use Rattle.slate_cluster_spare_laws.proofs.Made.{Leaves, leaves}

-- the chains after one event more
chains_more : (es : List Event) (e : Event) (place : ℕ) (c v : Course) (chains : Chains) → run (es ++ e ∷ []) place c ≡ ended v
    → chains_of (es ++ e ∷ []) c.world chains ≡ chains_after (world_after es c.world) e (chains_of es c.world chains)
chains_more [] e place c v chains is = went (happens c.world e) refl is
  where
    went : (o : Option Transition) → happens c.world e ≡ o → (elim o as (λ _. Ran) [ None ↦ record { course = c; bad = Some place } | Some done ↦ run [] (place + 1) (going_on c done) ]) ≡ ended v
        → (elim o as (λ _. Chains) [ None ↦ chains | Some done ↦ chains_after c.world e chains ]) ≡ chains_after c.world e chains
    went None at is = absurd (cc (ap (λ (r : Ran). r.bad) is))
    went (Some d) at is = refl
chains_more (x ∷ es) e place c v chains is = went (happens c.world x) refl is (λ d k. chains_more es e (place + 1) (going_on c d) v (chains_after c.world x chains) k)
  where
    went : (o : Option Transition) → happens c.world x ≡ o → (elim o as (λ _. Ran) [ None ↦ record { course = c; bad = Some place } | Some done ↦ run (es ++ e ∷ []) (place + 1) (going_on c done) ]) ≡ ended v
        → ((d : Transition) → run (es ++ e ∷ []) (place + 1) (going_on c d) ≡ ended v → chains_of (es ++ e ∷ []) d.world (chains_after c.world x chains) ≡ chains_after (world_after es d.world) e (chains_of es d.world (chains_after c.world x chains)))
        → (elim o as (λ _. Chains) [ None ↦ chains | Some done ↦ chains_of (es ++ e ∷ []) done.world (chains_after c.world x chains) ])
        ≡ chains_after (elim o as (λ _. World) [ None ↦ c.world | Some done ↦ world_after es done.world ]) e (elim o as (λ _. Chains) [ None ↦ chains | Some done ↦ chains_of es done.world (chains_after c.world x chains) ])
    went None at is f = absurd (cc (ap (λ (r : Ran). r.bad) is))
    went (Some d) at is f = f d is

module _ (specs : List DbSpec) (accepted : IsAccepted specs) (Q : Chains → Type 0) (step : (chains chains' : Chains) (db : List ℕ) (author : Author) → Leaves chains chains' db author → Q chains → Q chains') where
  module _ (events : List Event) (h : Q (chains_at_end specs events)) where
    abbrev w : World
    w = world_at_end specs events

    abbrev chains : Chains
    chains = chains_at_end specs events

    state_keeps : (n : ℕ) (moment : ℤ) (mark : Mark) (facts : Facts) (state : State) → party_of n w.parties ≡ Some (record { facts = facts; state = state }) → Q (chains_state w n state moment mark chains)
    state_keeps n moment mark facts Resting at = h
    state_keeps n moment mark facts Halted at = h
    state_keeps n moment mark facts (Busy task) at =
        step chains (chains_state w n (Busy task) moment mark chains) facts.db (author_in n (phrase_of task.work))
        (leaves (record { world = w; chains = chains; removed = [] }) n moment mark facts task (after_inv specs events accepted) at
        (pending_of_run specs events accepted n (in_call facts task) at) (epochs_of_run specs events n (in_call facts task) accepted at)) h

    pub event_keeps : (event : Event) → Q (chains_after w event chains)
    event_keeps (Open n kind d) = h
    event_keeps (Start n call) = h
    event_keeps (Stop n) = h
    event_keeps (Step n moment mark) = went (party_of n w.parties) refl
      where
        went : (o : Option Party) → party_of n w.parties ≡ o → Q (chains_at w n o moment mark chains)
        went None at = h
        went (Some p) at = state_keeps n moment mark p.facts p.state at

  pub run_keeps : (back front : List Event) → AreGood specs (front ++ back) → Q (chains_at_end specs front) → Q (chains_at_end specs (front ++ back))
  run_keeps [] front good h = subst (λ (es : List Event). Q (chains_at_end specs es)) (sym (append-nil front)) h
  run_keeps (e ∷ back) front good h =
      let es : List Event = front ++ e ∷ [] in
      let same : es ++ back ≡ front ++ e ∷ back = append_assoc front (e ∷ []) back in
      let all : AreGood specs (es ++ back) = subst (AreGood specs) (sym same) good in
      let first = (run_split es back 0 (opening specs) (course_after specs (es ++ back)) (good_run specs (es ++ back) all)).first in
      let more = chains_more front e 0 (opening specs) (run es 0 (opening specs)).course (opening_chains specs) first in
      subst (λ (xs : List Event). Q (chains_at_end specs xs)) same (run_keeps back es all (subst Q (sym more) (event_keeps front h e)))
