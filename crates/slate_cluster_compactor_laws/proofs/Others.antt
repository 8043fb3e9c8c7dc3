-- What an event of another party leaves of what holds of a party that compacts.
use Rattle.std.proofs.Common.{◌≡◌, ◌≢◌, ℕ, List, ◌∷◌, Option, Some, None, refl, sym, ap, ◌∙◌, subst}
use Rattle.slate_store.specs.Store.{Store}
use Rattle.slate_txn_changes.specs.declared.log_work.LogWork.{LogWork}
use Rattle.slate_txn_log.specs.declared.log_kind.LogKind.{LogKind}
use Rattle.slate_txn_log.specs.declared.log_kind.LogKind.TheVariants as logs
use Rattle.slate_model.specs.declared.manifest.Manifest.{Manifest}
use Rattle.slate_model_records.specs.Records.{Record}
use Rattle.slate_script_events.specs.declared.event.Event.{Event}
use Rattle.slate_state_calls.specs.Commits.{RecordChanging}
use Rattle.slate_state_calls.specs.declared.compactor.Compactor.{Compactor}
use Rattle.slate_state_calls.specs.declared.open_phase.OpenPhase.{OpenPhase}
use Rattle.slate_state_calls.specs.declared.open_phase.OpenPhase.TheVariants as opening
use Rattle.slate_state_calls.specs.declared.open_phase.OpenStep.{OpenStep}
use Rattle.slate_state_calls.specs.declared.open_phase.OpenStep.TheVariants.{Give, Begin, GiveFirst, Reset}
use Rattle.slate_state_calls.specs.declared.state_phase.ManifestStep.{ManifestStep}
use Rattle.slate_state_calls.specs.declared.state_phase.ManifestStep.TheVariants.{Follow, Keep, Merge}
use Rattle.slate_state_calls.specs.declared.state_phase.StatePhase.{StatePhase}
use Rattle.slate_state_calls.specs.declared.state_phase.StatePhase.TheVariants as compacting
use Rattle.slate_state_compactor.specs.declared.local_state.LocalState.{LocalState}
use Rattle.slate_state_record_updates.specs.RecordEpochs.{record_epoch}
use Rattle.slate_cluster_protocol.specs.ByRows.{party_in}
use Rattle.slate_cluster_protocol.specs.Chains.{Link, link_at, IsChain, Changed}
use Rattle.slate_cluster_protocol.specs.Holding.{AtMostTop}
use Rattle.slate_cluster_protocol.specs.Logs.{Author, Chain, Chains, log_of}
use Rattle.slate_cluster_protocol.specs.Works.{db_of}
use Rattle.slate_cluster_protocol.specs.World.{HasDb}
use Rattle.slate_cluster_protocol.specs.declared.party.Facts.{Facts}
use Rattle.slate_cluster_protocol.specs.declared.party.State.{State}
use Rattle.slate_cluster_protocol.specs.declared.party.State.TheVariants.{Resting, Busy, Halted}
use Rattle.slate_cluster_protocol.specs.declared.work.Work.{Work}
use Rattle.slate_cluster_protocol.specs.declared.work.Work.TheVariants as works
use Rattle.slate_cluster_chain_laws.specs.Locals.{CompactedStay, IsHeldIn}
use Rattle.slate_cluster_chain_laws.specs.Raises.{HasRaised}
use Rattle.slate_cluster_chain_laws.proofs.Links.{link_here}
use Rattle.slate_cluster_chain_laws.proofs.Locals.{stay_on}
use Rattle.slate_cluster_laws.proofs.Along.{Moment, Turn}
use Rattle.slate_cluster_laws.proofs.Calls.{Holds, WorkHolds}
use Rattle.slate_cluster_laws.proofs.Changes.{By, event_changes}
use Rattle.slate_cluster_laws.proofs.Facts.{Grows}
use Rattle.slate_cluster_laws.proofs.Opens.{Given, OpenKnows}
use Rattle.slate_cluster_laws.proofs.Runs.{StateKnows}
use Rattle.slate_cluster_compactor_laws.specs.Fences.{PutByRaisers}
use Rattle.slate_cluster_compactor_laws.specs.Pending.{IsTopEpoch}
use Rattle.slate_cluster_compactor_laws.proofs.Greatest.{IsQuiet, OnTop, compacted_next, else_quiet, epoch_back, given_most, held_next, quiet_gentle, raised_kept, raised_most, recent_next, top_next}
use Rattle.slate_cluster_compactor_laws.proofs.Held.{Any, FollowHas, InState, IsLater, OfCompactor, OpenHas, PartyHas, PhaseHas, Recent, StateHas, StepHas, UnderWay, work_on}
use Rattle.slate_cluster_compactor_laws.proofs.Works.{WorkHas}

-- what an event leaves of the chains of a database
pub record Turned (A : Author → Type 0) (s : Store) (chains : Chains) (s' : Store) (chains' : Chains) (db : List ℕ) : Type 0 where
  pub chain : (k : LogKind) → IsChain (log_of k) (chains k db)
  pub chain_after : (k : LogKind) → IsChain (log_of k) (chains' k db)
  pub grows : (k : LogKind) → Grows (log_of k) db s (chains k db) s' (chains' k db)
  pub changed : (k : LogKind) → Changed A (chains k db) (chains' k db)

pub turned : (m : Moment) (e : Event) (m' : Moment) → Turn m e m' → (db : List ℕ) → HasDb m.world db → Turned (By (party_in e)) m.world.store m.chains m'.world.store m'.chains db
turned m e m' t db has = record {
  chain = λ k. (t.inv.logs k db (t.inv.named db has)).chain;
  chain_after = λ k. (t.inv_after.logs k db (t.inv.named db has)).chain;
  grows = λ k. t.grows.grows k db has;
  changed = λ k. subst (λ (x : Moment). Changed (By (party_in e)) (m.chains k db) (x.chains k db)) (sym t.to) (event_changes m.world m.chains e t.inv k db (t.inv.named db has));
}

-- ---- an epoch that a party has raised, and has given to the record

module _ (s : Store) (chains : Chains) (s' : Store) (chains' : Chains) (x n : ℕ) (ne : n ≢ x) where
  module _ (db : List ℕ) (t : Turned (By x) s chains s' chains' db) (raisers : PutByRaisers (chains' logs.Manifest db) (chains' logs.Compactions db)) where
    kept_raised : (e : ℕ) → HasRaised (chains logs.Manifest db) n e → HasRaised (chains' logs.Manifest db) n e
    kept_raised e h = raised_kept (chains logs.Manifest db) (chains' logs.Manifest db) (t.grows logs.Manifest).kept n e h

    module _ (e : ℕ) (mine : HasRaised (chains logs.Manifest db) n e) (given : Given chains db e) where
      back : IsTopEpoch e (chains' logs.Manifest db) → IsTopEpoch e (chains logs.Manifest db)
      back top =
          epoch_back (chains logs.Manifest db) (chains' logs.Manifest db) (t.chain_after logs.Manifest) (t.grows logs.Manifest).kept e
          (raised_most (chains logs.Manifest db) (t.chain logs.Manifest) n e mine) top

      most : AtMostTop record_epoch e (chains logs.Compactions db)
      most = given_most (chains logs.Compactions db) (t.chain logs.Compactions) e given

      quiet : IsTopEpoch e (chains' logs.Manifest db) → (old new : Link Record Author) (rest : Chain logs.Compactions) (author : Author) → chains logs.Compactions db ≡ old ∷ rest
          → chains' logs.Compactions db ≡ new ∷ chains logs.Compactions db → new.by ≡ Some author → By x author → IsQuiet author.puts old.value
      quiet top old new rest author first grown by is =
          else_quiet (chains' logs.Manifest db) (t.chain_after logs.Manifest) n e (kept_raised e mine) top author (λ same. ne (sym same ∙ is))
          (λ y put_with. raisers new.number new author y (ap (λ (d : Chain logs.Compactions). link_at new.number d) grown ∙ link_here new.number new (chains logs.Compactions db) refl) by put_with)
          old.value (subst (λ (d : Chain logs.Compactions). AtMostTop record_epoch e d) first most)

      recent_on : (j : ℕ) → Recent chains db e j → Recent chains' db e j
      recent_on j h = λ top.
          recent_next (By x) (chains logs.Compactions db) (chains' logs.Compactions db) (t.chain_after logs.Compactions) (t.changed logs.Compactions) (quiet top) e most j (h (back top))

      stay_top : (r : Record) → (IsTopEpoch e (chains logs.Manifest db) → OnTop (CompactedStay r) (chains logs.Compactions db)) → IsTopEpoch e (chains' logs.Manifest db) → OnTop (CompactedStay r) (chains' logs.Compactions db)
      stay_top r h top =
          top_next (CompactedStay r) (By x) (chains logs.Compactions db) (chains' logs.Compactions db) (t.chain_after logs.Compactions) (t.changed logs.Compactions)
          (λ old new rest author first grown by is keeps stay. stay_on r old.value new.value stay (compacted_next author.puts old.value new.value keeps (quiet top old new rest author first grown by is).ends))
          e most (h (back top))

      held_top : (local : LocalState) → (IsTopEpoch e (chains logs.Manifest db) → OnTop (λ r. IsHeldIn r local) (chains logs.Compactions db)) → IsTopEpoch e (chains' logs.Manifest db) → OnTop (λ r. IsHeldIn r local) (chains' logs.Compactions db)
      held_top local h top =
          top_next (λ r. IsHeldIn r local) (By x) (chains logs.Compactions db) (chains' logs.Compactions db) (t.chain_after logs.Compactions) (t.changed logs.Compactions)
          (λ old new rest author first grown by is keeps held. held_next local author.puts old.value new.value keeps (quiet_gentle local author.puts old.value (quiet top old new rest author first grown by is)) held)
          e most (h (back top))

      -- what is known of the record that is read or put
      work_kept : (work : LogWork Record) → WorkHas logs.Compactions db s (Recent chains db e) (Recent chains db e) work → WorkHas logs.Compactions db s' (Recent chains' db e) (Recent chains' db e) work
      work_kept work h = work_on logs.Compactions db s (chains logs.Compactions db) s' (chains' logs.Compactions db) (t.grows logs.Compactions) (Recent chains db e) (Recent chains' db e) (Recent chains db e) (Recent chains' db e) recent_on recent_on work h

    -- ---- a compactor

    compactor_kept : (o : Option Compactor) → Holds chains db o → OfCompactor chains n db o → OfCompactor chains' n db o
    compactor_kept None holds h = tt
    compactor_kept (Some c) holds h = record { raised = kept_raised c.epoch h.raised; held = held_top c.epoch h.raised holds.1 c.local h.held; outputs = h.outputs }

    -- ---- an open

    later_kept : (o : Option Compactor) (j : ℕ) → IsLater (chains logs.Manifest db) o j → IsLater (chains' logs.Manifest db) o j
    later_kept o j h = record { link = h.link; at = (t.grows logs.Manifest).kept j h.link h.at; above = h.above }

    step_kept : (step : OpenStep) (e : ℕ) (work : LogWork Record) → HasRaised (chains logs.Manifest db) n e → (step ≡ Reset → Given chains db e) → StepHas s chains db step e work → StepHas s' chains' db step e work
    step_kept Give e work mine given h = tt
    step_kept Begin e work mine given h = tt
    step_kept GiveFirst e work mine given h = tt
    step_kept Reset e work mine given h = work_kept e mine (given refl) work h

    given_at_reset : (step : OpenStep) (m : ℕ × Manifest) (p : RecordChanging) → OpenKnows chains db (opening.OnRecord step m p) → step ≡ Reset → Given chains db m.1.compactor_epoch
    given_at_reset Reset m p knows is = knows.1
    given_at_reset Give m p knows is = absurd (cc is)
    given_at_reset Begin m p knows is = absurd (cc is)
    given_at_reset GiveFirst m p knows is = absurd (cc is)

    open_kept : (o : Option Compactor) (phase : OpenPhase) → OpenKnows chains db phase → OpenHas s chains n db o phase → OpenHas s' chains' n db o phase
    open_kept o (opening.Raising p) knows h =
        work_on logs.Manifest db s (chains logs.Manifest db) s' (chains' logs.Manifest db) (t.grows logs.Manifest) Any Any (IsLater (chains logs.Manifest db) o) (IsLater (chains' logs.Manifest db) o) (λ j a. a) (later_kept o) p.work h
    open_kept o (opening.OnRecord step m p) knows h = record {
      raised = kept_raised m.1.compactor_epoch h.raised;
      above = h.above;
      reads = step_kept step m.1.compactor_epoch p.work h.raised (given_at_reset step m p knows) h.reads;
    }
    open_kept o opening.Over knows h = tt

    -- ---- a call on the state

    follow_kept : (step : ManifestStep) (c : Compactor) → HasRaised (chains logs.Manifest db) n c.epoch → Given chains db c.epoch → FollowHas chains db step c → FollowHas chains' db step c
    follow_kept Follow c mine given h = record { stays = stay_top c.epoch mine given c.compactions h.stays; outputs = h.outputs }
    follow_kept (Keep write) c mine given h = tt
    follow_kept (Merge write) c mine given h = tt

    phase_kept : (phase : StatePhase) (c : Compactor) → HasRaised (chains logs.Manifest db) n c.epoch → Given chains db c.epoch → PhaseHas s chains db phase c → PhaseHas s' chains' db phase c
    phase_kept (compacting.OnRecord step p) c mine given h = work_kept c.epoch mine given p.work h
    phase_kept (compacting.OnManifest step p) c mine given h = follow_kept step c mine given h
    phase_kept compacting.Over c mine given h = tt

    state_kept : (phase : StatePhase) (o : Option Compactor) → Holds chains db o → OfCompactor chains n db o → StateHas s chains db phase o → StateHas s' chains' db phase o
    state_kept phase None holds of h = tt
    state_kept phase (Some c) holds of h = phase_kept phase c of.raised holds.1 h

  -- ---- a party at its database

  module _ (facts : Facts) (t : Turned (By x) s chains s' chains' facts.db) (raisers : PutByRaisers (chains' logs.Manifest facts.db) (chains' logs.Compactions facts.db)) (holds : Holds chains facts.db facts.compactor)
      (of : OfCompactor chains n facts.db facts.compactor) where
    work_kept_at : (work : Work) → db_of work ≡ facts.db → WorkHolds chains work → UnderWay s chains n facts.compactor work → UnderWay s' chains' n facts.compactor work
    work_kept_at (works.Opening db phase) own knows h =
        open_kept db (subst (Turned (By x) s chains s' chains') (sym own) t) (subst (λ d. PutByRaisers (chains' logs.Manifest d) (chains' logs.Compactions d)) (sym own) raisers) facts.compactor phase knows h
    work_kept_at (works.Compacting db phase) own knows h =
        state_kept db (subst (Turned (By x) s chains s' chains') (sym own) t) (subst (λ d. PutByRaisers (chains' logs.Manifest d) (chains' logs.Compactions d)) (sym own) raisers) phase facts.compactor
        (subst (λ d. Holds chains d facts.compactor) (sym own) holds) (subst (λ d. OfCompactor chains n d facts.compactor) (sym own) of) h
    work_kept_at _ own knows h = tt

    call_kept : (state : State) → StateKnows s chains n facts state → InState s chains n facts.compactor state → InState s' chains' n facts.compactor state
    call_kept Resting knows h = tt
    call_kept Halted knows h = tt
    call_kept (Busy task) knows h = work_kept_at task.work knows.own knows.holds h

    pub party_kept : (state : State) → StateKnows s chains n facts state → InState s chains n facts.compactor state → PartyHas s' chains' n (record { facts = facts; state = state })
    party_kept state knows h = record { compactor = compactor_kept facts.db t raisers facts.compactor holds of; call = call_kept state knows h }
