-- At the end of a run: what is said of compactors, by what holds at each moment.
use Rattle.std.proofs.Common.{◌≡◌, ℕ, ◌<◌, List, [], ◌∷◌, Option, Some, None, sym, subst}
use Rattle.slate_txn_log.specs.declared.log_kind.LogKind.TheVariants as logs
use Rattle.slate_model_records.specs.Records.{Record}
use Rattle.slate_script_events.specs.declared.db_spec.DbSpec.{DbSpec}
use Rattle.slate_script_events.specs.declared.event.Event.{Event}
use Rattle.slate_state_calls.specs.declared.compactor.Compactor.{Compactor}
use Rattle.slate_state_calls.specs.declared.open_phase.OpenPhase.{OpenPhase}
use Rattle.slate_state_calls.specs.declared.open_phase.OpenPhase.TheVariants as opening
use Rattle.slate_state_record_updates.specs.RecordEpochs.{record_epoch}
use Rattle.slate_store.specs.Store.{Store}
use Rattle.slate_cluster_protocol.specs.Holding.{AtMostTop, EpochsStand, open_in, open_of, raised_at}
use Rattle.slate_cluster_protocol.specs.Lawful.{IsAccepted, chains_at_end, world_at_end}
use Rattle.slate_cluster_protocol.specs.Logs.{Chain, Chains}
use Rattle.slate_cluster_protocol.specs.Works.{db_of}
use Rattle.slate_cluster_protocol.specs.World.{HasDb, World, party_of}
use Rattle.slate_cluster_protocol.specs.declared.party.Party.{Party}
use Rattle.slate_cluster_protocol.specs.declared.party.State.{State}
use Rattle.slate_cluster_protocol.specs.declared.party.State.TheVariants.{Resting, Busy, Halted}
use Rattle.slate_cluster_protocol.specs.declared.work.Work.{Work}
use Rattle.slate_cluster_protocol.specs.declared.work.Work.TheVariants as works
use Rattle.slate_cluster_chain_laws.specs.Locals.{IsHeldIn}
use Rattle.slate_cluster_chain_laws.specs.Raises.{HasRaised}
use Rattle.slate_cluster_chain_laws.proofs.Raises.{raised_once}
use Rattle.slate_cluster_laws.proofs.AfterEvents.{after_inv}
use Rattle.slate_cluster_laws.proofs.Along.{its_chains, its_world, moment_of, opening_moment}
use Rattle.slate_cluster_laws.proofs.OpenedEpochs.{epochs_of_run}
use Rattle.slate_cluster_laws.proofs.Runs.{StateKnows}
use Rattle.slate_cluster_compactor_laws.specs.Fences.{OwnEpochs, PutByRaisers}
use Rattle.slate_cluster_compactor_laws.specs.Growing.{TrimmedByHolders}
use Rattle.slate_cluster_compactor_laws.specs.Pending.{HoldsPending, OfTop}
use Rattle.slate_cluster_compactor_laws.proofs.EachMoment.{all_of_run}
use Rattle.slate_cluster_compactor_laws.proofs.Greatest.{OnTop}
use Rattle.slate_cluster_compactor_laws.proofs.Held.{CompactorHas, InState, IsAbove, OfCompactor, OpenHas, PartyHas, UnderWay}

-- ---- of a party

module _ (s : Store) (chains : Chains) (n : ℕ) where
  -- what an open has raised
  open_raised : (db : List ℕ) (o : Option Compactor) (phase : OpenPhase) (e : ℕ) → OpenHas s chains n db o phase → raised_at phase ≡ Some e → HasRaised (chains logs.Manifest db) n e × IsAbove o e
  open_raised db o (opening.Raising p) e h is = absurd (cc is)
  open_raised db o (opening.OnRecord step m p) e h is = let same : m.1.compactor_epoch ≡ e = cc is in (subst (HasRaised (chains logs.Manifest db) n) same h.raised, subst (IsAbove o) same h.above)
  open_raised db o opening.Over e h is = absurd (cc is)

  work_raised : (o : Option Compactor) (work : Work) (e : ℕ) → UnderWay s chains n o work → open_of raised_at work ≡ Some e → HasRaised (chains logs.Manifest (db_of work)) n e × IsAbove o e
  work_raised o (works.Opening db phase) e h is = open_raised db o phase e h is
  work_raised o _ e h is = absurd (cc is)

  module _ (p : Party) (knows : StateKnows s chains n p.facts p.state) (h : PartyHas s chains n p) where
    state_raised : (state : State) → StateKnows s chains n p.facts state → InState s chains n p.facts.compactor state → (e : ℕ) → open_in raised_at state ≡ Some e → HasRaised (chains logs.Manifest p.facts.db) n e × IsAbove p.facts.compactor e
    state_raised Resting k i e is = absurd (cc is)
    state_raised Halted k i e is = absurd (cc is)
    state_raised (Busy task) k i e is = let r = work_raised p.facts.compactor task.work e i is in (subst (λ d. HasRaised (chains logs.Manifest d) n e) k.own r.0, r.1)

    of_its : (o : Option Compactor) (c : Compactor) → o ≡ Some c → OfCompactor chains n p.facts.db o → CompactorHas chains n p.facts.db c
    of_its None c is of = absurd (cc is)
    of_its (Some d) c is of = let same : d ≡ c = cc is in subst (CompactorHas chains n p.facts.db) same of

    above_its : (o : Option Compactor) (c : Compactor) (e : ℕ) → o ≡ Some c → IsAbove o e → c.epoch < e
    above_its None c e is above = absurd (cc is)
    above_its (Some d) c e is above = let same : d ≡ c = cc is in subst (λ (x : Compactor). x.epoch < e) same above

    pub its : (c : Compactor) → p.facts.compactor ≡ Some c → CompactorHas chains n p.facts.db c
    its c is = of_its p.facts.compactor c is h.compactor

    pub own_epochs : OwnEpochs chains n p
    own_epochs = record {
      raised = λ e is. (state_raised p.state knows h.call e is).0;
      opened = λ c is. (its c is).raised;
      again = λ c e is at. above_its p.facts.compactor c e is (state_raised p.state knows h.call e at).1;
    }

    -- the greatest record is there
    there : (P : Record → Type 0) (e : ℕ) (c : Chain logs.Compactions) → AtMostTop record_epoch e c → OnTop P c → OfTop P c
    there P e [] most has = absurd most
    there P e (l ∷ c) most has = has

    pub holds_pending : EpochsStand chains p → HoldsPending chains p
    holds_pending stand = record {
      held = λ c is top. there (λ r. IsHeldIn r c.local) c.epoch (chains logs.Compactions p.facts.db) (stand.opened c is).1 ((its c is).held top);
      outputs = λ c is. (its c is).outputs;
    }

-- ---- at the end of a run

module _ (specs : List DbSpec) (events : List Event) (accepted : IsAccepted specs) where
  abbrev w : World
  w = world_at_end specs events

  abbrev chains : Chains
  chains = chains_at_end specs events

  its_party : (n : ℕ) (p : Party) → party_of n w.parties ≡ Some p → PartyHas w.store chains n p
  its_party n p at =
      let m = moment_of events (opening_moment specs) in
      let world : m.world ≡ w = its_world events (opening_moment specs) in
      let of = (all_of_run specs events accepted).each n p (subst (λ (v : World). party_of n v.parties ≡ Some p) (sym world) at) in
      subst (λ (x : Chains). PartyHas w.store x n p) (its_chains events (opening_moment specs)) (subst (λ (v : World). PartyHas v.store m.chains n p) world of)

  its_knows : (n : ℕ) (p : Party) → party_of n w.parties ≡ Some p → StateKnows w.store chains n p.facts p.state
  its_knows n p at = ((after_inv specs events accepted).parties n p at).knows

  pub fences_of_run : (n : ℕ) (p : Party) → party_of n w.parties ≡ Some p → OwnEpochs chains n p
  fences_of_run n p at = own_epochs w.store chains n p (its_knows n p at) (its_party n p at)

  pub pending_of_run : (n : ℕ) (p : Party) → party_of n w.parties ≡ Some p → HoldsPending chains p
  pending_of_run n p at = holds_pending w.store chains n p (its_knows n p at) (its_party n p at) (epochs_of_run specs events n p accepted at)

  pub once_of_run : (db : List ℕ) (n m e : ℕ) → HasDb w db → (one : HasRaised (chains logs.Manifest db) n e) (other : HasRaised (chains logs.Manifest db) m e) → (one.number ≡ other.number) × (n ≡ m)
  once_of_run db n m e has one other = let i = after_inv specs events accepted in raised_once (chains logs.Manifest db) (i.logs logs.Manifest db (i.named db has)).chain n m e one other

  pub apart_of_run : (n m : ℕ) (p q : Party) (c d : Compactor) → party_of n w.parties ≡ Some p → party_of m w.parties ≡ Some q → p.facts.db ≡ q.facts.db → p.facts.compactor ≡ Some c → q.facts.compactor ≡ Some d → c.epoch ≡ d.epoch → n ≡ m
  apart_of_run n m p q c d at_n at_m same has_c has_d epoch =
      let one = (fences_of_run n p at_n).opened c has_c in
      let other = subst (λ (e : ℕ). HasRaised (chains logs.Manifest q.facts.db) m e) (sym epoch) ((fences_of_run m q at_m).opened d has_d) in
      (once_of_run p.facts.db n m c.epoch ((after_inv specs events accepted).parties n p at_n).has one (subst (λ x. HasRaised (chains logs.Manifest x) m c.epoch) (sym same) other)).1

  pub raisers_of_run : (db : List ℕ) → HasDb w db → PutByRaisers (chains logs.Manifest db) (chains logs.Compactions db)
  raisers_of_run db has =
      let m = moment_of events (opening_moment specs) in
      let whole = (all_of_run specs events accepted).whole in
      subst (λ (x : Chains). PutByRaisers (x logs.Manifest db) (x logs.Compactions db)) (its_chains events (opening_moment specs))
      (whole.raisers db (subst (λ (v : World). HasDb v db) (sym (its_world events (opening_moment specs))) has))

  pub holders_of_run : (db : List ℕ) → HasDb w db → TrimmedByHolders (chains logs.Compactions db)
  holders_of_run db has =
      let whole = (all_of_run specs events accepted).whole in
      subst (λ (x : Chains). TrimmedByHolders (x logs.Compactions db)) (its_chains events (opening_moment specs)) (whole.holders db (subst (λ (v : World). HasDb v db) (sym (its_world events (opening_moment specs))) has))
