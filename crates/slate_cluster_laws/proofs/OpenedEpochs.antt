-- The epochs that a compactor has raised, and with which it is open, are at most those of the greatest versions of its database: at each moment of a run.
use Rattle.std.proofs.Common.{◌≡◌, ℕ, ◌≤◌, List, [], ◌∷◌, Option, Some, None, subst}
use Rattle.slate_state_calls.specs.declared.compactor.Compactor.{Compactor}
use Rattle.slate_state_calls.specs.declared.open_phase.OpenPhase.{OpenPhase}
use Rattle.slate_state_calls.specs.declared.open_phase.OpenPhase.TheVariants as opening
use Rattle.slate_state_calls.specs.declared.open_phase.OpenStep.TheVariants.{Give, Begin, GiveFirst, Reset}
use Rattle.slate_script_events.specs.declared.db_spec.DbSpec.{DbSpec}
use Rattle.slate_script_events.specs.declared.event.Event.{Event}
use Rattle.slate_txn_log.specs.declared.log_kind.LogKind.TheVariants as logs
use Rattle.slate_state_record_updates.specs.RecordEpochs.{record_epoch}
use Rattle.slate_state_updates.specs.Writers.{epoch_of}
use Rattle.slate_state_updates.specs.declared.epochs.ManifestEpochs.TheVariants as epochs
use Rattle.slate_cluster_protocol.specs.Chains.{Link, Log, link_at, IsChain}
use Rattle.slate_cluster_protocol.specs.Holding.{AtMostTop, EpochsStand, given_at, open_in, open_of, raised_at}
use Rattle.slate_cluster_protocol.specs.Lawful.{IsAccepted, chains_at_end}
use Rattle.slate_cluster_protocol.specs.Logs.{Author, Chains, manifests, records, world_after}
use Rattle.slate_cluster_protocol.specs.Specs.{opening_world}
use Rattle.slate_cluster_protocol.specs.Works.{db_of}
use Rattle.slate_cluster_protocol.specs.World.{World, party_of}
use Rattle.slate_cluster_protocol.specs.declared.party.Party.{Party}
use Rattle.slate_cluster_protocol.specs.declared.party.State.{State}
use Rattle.slate_cluster_protocol.specs.declared.party.State.TheVariants.{Resting, Busy, Halted}
use Rattle.slate_cluster_protocol.specs.declared.work.Work.{Work}
use Rattle.slate_cluster_protocol.specs.declared.work.Work.TheVariants as works
use Rattle.slate_cluster_laws.proofs.AfterEvents.{after_inv}
use Rattle.slate_cluster_laws.proofs.Calls.{Holds, WorkHolds}
use Rattle.slate_cluster_chain_laws.proofs.Epochs.{compactor_rises, record_rises}
use Rattle.slate_cluster_laws.proofs.Opens.{Given, HasEpoch, OpenKnows, Raised}
use Rattle.slate_cluster_laws.proofs.Runs.{Inv, StateKnows}

-- an epoch that a committed version has is at most that of the greatest one
module _ {V : Type 0} (log : Log V Author) (epoch : V → ℕ) (rise : (n : ℕ) (u l : Link V Author) (c : List (Link V Author)) → IsChain log (l ∷ c) → link_at n (l ∷ c) ≡ Some u → epoch u.value ≤ epoch l.value) where
  at_most_top : (e : ℕ) (c : List (Link V Author)) → IsChain log c → HasEpoch epoch e c → AtMostTop epoch e c
  at_most_top e [] chain h = absurd (cc h.committed.at)
  at_most_top e (l ∷ c) chain h = subst (λ (x : ℕ). x ≤ epoch l.value) h.same (subst (λ (v : V). epoch v ≤ epoch l.value) h.committed.value (rise h.number h.committed.link l c chain h.committed.at))

module _ (w : World) (chains : Chains) (i : Inv w chains) (n : ℕ) (p : Party) (at : party_of n w.parties ≡ Some p) where
  raised_top : (e : ℕ) → Raised chains p.facts.db e → AtMostTop (epoch_of epochs.Compactor) e (chains logs.Manifest p.facts.db)
  raised_top e h = at_most_top manifests (epoch_of epochs.Compactor) compactor_rises e (chains logs.Manifest p.facts.db) (i.logs logs.Manifest p.facts.db (i.named p.facts.db (i.parties n p at).has)).chain h

  given_top : (e : ℕ) → Given chains p.facts.db e → AtMostTop record_epoch e (chains logs.Compactions p.facts.db)
  given_top e h = at_most_top records record_epoch record_rises e (chains logs.Compactions p.facts.db) (i.logs logs.Compactions p.facts.db (i.named p.facts.db (i.parties n p at).has)).chain h

  -- an open under way
  raised_of : (db : List ℕ) (phase : OpenPhase) (e : ℕ) → OpenKnows chains db phase → raised_at phase ≡ Some e → Raised chains db e
  raised_of db (opening.Raising q) e h is = absurd (cc is)
  raised_of db (opening.OnRecord step m q) e h is = let same : m.1.compactor_epoch ≡ e = cc is in subst (Raised chains db) same h.0
  raised_of db opening.Over e h is = absurd (cc is)

  given_of : (db : List ℕ) (phase : OpenPhase) (e : ℕ) → OpenKnows chains db phase → given_at phase ≡ Some e → Given chains db e
  given_of db (opening.Raising q) e h is = absurd (cc is)
  given_of db (opening.OnRecord Reset m q) e h is = let same : m.1.compactor_epoch ≡ e = cc is in subst (Given chains db) same h.1
  given_of db (opening.OnRecord Give m q) e h is = absurd (cc is)
  given_of db (opening.OnRecord Begin m q) e h is = absurd (cc is)
  given_of db (opening.OnRecord GiveFirst m q) e h is = absurd (cc is)
  given_of db opening.Over e h is = absurd (cc is)

  raised_work : (work : Work) (e : ℕ) → WorkHolds chains work → open_of raised_at work ≡ Some e → Raised chains (db_of work) e
  raised_work (works.Opening db phase) e h is = raised_of db phase e h is
  raised_work _ e h is = absurd (cc is)

  given_work : (work : Work) (e : ℕ) → WorkHolds chains work → open_of given_at work ≡ Some e → Given chains (db_of work) e
  given_work (works.Opening db phase) e h is = given_of db phase e h is
  given_work _ e h is = absurd (cc is)

  raised_in : (state : State) (e : ℕ) → StateKnows w.store chains n p.facts state → open_in raised_at state ≡ Some e → Raised chains p.facts.db e
  raised_in Resting e k is = absurd (cc is)
  raised_in Halted e k is = absurd (cc is)
  raised_in (Busy task) e k is = subst (λ d. Raised chains d e) k.own (raised_work task.work e k.holds is)

  given_in : (state : State) (e : ℕ) → StateKnows w.store chains n p.facts state → open_in given_at state ≡ Some e → Given chains p.facts.db e
  given_in Resting e k is = absurd (cc is)
  given_in Halted e k is = absurd (cc is)
  given_in (Busy task) e k is = subst (λ d. Given chains d e) k.own (given_work task.work e k.holds is)

  -- a compactor that is open
  opened_top : (o : Option Compactor) (c : Compactor) → Holds chains p.facts.db o → o ≡ Some c → AtMostTop (epoch_of epochs.Compactor) c.epoch (chains logs.Manifest p.facts.db) × AtMostTop record_epoch c.epoch (chains logs.Compactions p.facts.db)
  opened_top None c h is = absurd (cc is)
  opened_top (Some own) c h is =
      let same : own ≡ c = cc is in
      let held = subst (λ (x : Compactor). Holds chains p.facts.db (Some x)) same h in
      (raised_top c.epoch held.0, given_top c.epoch held.1)

  pub epochs_stand : EpochsStand chains p
  epochs_stand =
      let own = i.parties n p at in
      record {
        raised = λ e is. raised_top e (raised_in p.state e own.knows is);
        given = λ e is. given_top e (given_in p.state e own.knows is);
        opened = λ c is. opened_top p.facts.compactor c own.holds is;
      }

pub epochs_of_run : (specs : List DbSpec) (events : List Event) (n : ℕ) (p : Party) → IsAccepted specs → party_of n (world_after events (opening_world specs)).parties ≡ Some p → EpochsStand (chains_at_end specs events) p
epochs_of_run specs events n p accepted at = epochs_stand (world_after events (opening_world specs)) (chains_at_end specs events) (after_inv specs events accepted) n p at
