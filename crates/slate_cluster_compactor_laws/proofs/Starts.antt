-- A call that a party starts: what holds of it is what held, also after the end of a compaction.
use Rattle.std.proofs.Common.{◌≡◌, ℕ, true, false, Option, Some, None, Result, Ok, Err, refl, sym, subst}
use Rattle.slate_ids.specs.declared.error.SlateDBError.{SlateDBError}
use Rattle.slate_store.specs.Store.{Store}
use Rattle.slate_txn_log.specs.declared.log_kind.LogKind.TheVariants as logs
use Rattle.slate_model_records.specs.Records.{Record}
use Rattle.slate_script_events.specs.declared.call.Call.{Call}
use Rattle.slate_script_events.specs.declared.call.Call.TheVariants.{Upload as UploadCall, OpenCompactor, Refresh, Schedule, Finish as FinishCall, Fail, WriteManifest, WriteRecord, WriteState, Claim, Report, Pass}
use Rattle.slate_state_calls.specs.Compactors.{with_local}
use Rattle.slate_state_calls.specs.declared.compactor.Compactor.{Compactor}
use Rattle.slate_state_calls.specs.declared.state_start.StateStart.{StateStart}
use Rattle.slate_state_calls.specs.declared.state_start.StateStart.TheVariants as starts
use Rattle.slate_state_compactor.specs.Local.{failed, finished}
use Rattle.slate_state_compactor.specs.declared.local_state.LocalState.{LocalState}
use Rattle.slate_cluster_protocol.specs.Calls.{end_of, facts_at_start, local_in, made_or_none, refusal_at_start, state_phase, with_held}
use Rattle.slate_cluster_protocol.specs.Logs.{Chains}
use Rattle.slate_cluster_protocol.specs.Rows.{begin, begin_unless, first_next}
use Rattle.slate_cluster_protocol.specs.World.{settled}
use Rattle.slate_cluster_protocol.specs.declared.party.Facts.{Facts}
use Rattle.slate_cluster_chain_laws.specs.Locals.{IsHeldIn, ObeyOutputs}
use Rattle.slate_cluster_chain_laws.proofs.Locals.{failed_held, failed_obey, finished_held, finished_obey}
use Rattle.slate_cluster_compactor_laws.proofs.Held.{CompactorHas, OfCompactor, PartyHas, StateHas}
use Rattle.slate_cluster_compactor_laws.proofs.OwnParty.{NextHas, settled_has}
use Rattle.slate_cluster_compactor_laws.proofs.StateSteps.{one_on_top}

module _ (s : Store) (chains : Chains) (n : ℕ) (facts : Facts) (of : OfCompactor chains n facts.db facts.compactor) where
  -- ---- the end of a compaction

  module _ (end : LocalState → Result LocalState SlateDBError) (holds : (top : Record) (local new : LocalState) → end local ≡ Ok new → IsHeldIn top local → IsHeldIn top new)
      (obeys : (local new : LocalState) → end local ≡ Ok new → ObeyOutputs local.compactions.entries → ObeyOutputs new.compactions.entries) where
    ended : (c : Compactor) (new : LocalState) → end c.local ≡ Ok new → CompactorHas chains n facts.db c → CompactorHas chains n facts.db (with_local new c)
    ended c new is h = record {
      raised = h.raised;
      held = λ top. one_on_top (λ r. IsHeldIn r c.local) (λ r. IsHeldIn r new) (λ r held. holds r c.local new is held) (chains logs.Compactions facts.db) (h.held top);
      outputs = obeys c.local new is h.outputs;
    }

    -- by what it makes of the one that is held
    ended_by : (o : Option Compactor) → facts.compactor ≡ o → OfCompactor chains n facts.db o → OfCompactor chains n (with_held (end_of end o) facts).db (with_held (end_of end o) facts).compactor
    ended_by None is h = of
    ended_by (Some c) is h = by (end c.local) refl
      where
        by : (r : Result LocalState SlateDBError) → end c.local ≡ r → OfCompactor chains n (with_held (made_or_none r) facts).db (with_held (made_or_none r) facts).compactor
        by (Err e) made = of
        by (Ok new) made = subst (λ (x : Option Compactor). OfCompactor chains n facts.db (local_in new x)) (sym is) (ended c new made h)

  starts_of : (call : Call) → OfCompactor chains n (facts_at_start facts call).db (facts_at_start facts call).compactor
  starts_of (FinishCall id) = ended_by (finished id) (λ top local new is h. finished_held id top local new is h) (λ local new is h. finished_obey id local new is h) facts.compactor refl of
  starts_of (Fail id) = ended_by (failed id) (λ top local new is h. failed_held id top local new is h) (λ local new is h. failed_obey id local new is h) facts.compactor refl of
  starts_of _ = of

  -- ---- its first work

  phase_starts : (start : StateStart) (o : Option Compactor) → StateHas s chains facts.db (state_phase start o) o
  phase_starts start None = tt
  phase_starts starts.Refresh (Some c) = tt
  phase_starts (starts.Schedule id) (Some c) = tt
  phase_starts (starts.WriteTrees write) (Some c) = tt
  phase_starts starts.WriteRecord (Some c) = tt

  first_has : (call : Call) → NextHas s chains n (facts_at_start facts call).compactor (first_next facts call)
  first_has (UploadCall table first last) = tt
  first_has (Pass pass min_age dry_run filter) = tt
  first_has OpenCompactor = tt
  first_has Refresh = phase_starts starts.Refresh facts.compactor
  first_has (Schedule id) = phase_starts (starts.Schedule id) facts.compactor
  first_has (WriteManifest checkpoint) = phase_starts (starts.WriteTrees (record { checkpoint = checkpoint; whole = false })) facts.compactor
  first_has WriteRecord = phase_starts starts.WriteRecord facts.compactor
  first_has (WriteState checkpoint) = phase_starts (starts.WriteTrees (record { checkpoint = checkpoint; whole = true })) facts.compactor
  first_has (FinishCall id) = tt
  first_has (Fail id) = tt
  first_has (Claim id) = tt
  first_has (Report id tables) = tt
  first_has _ = tt

  unless_has : (o : Option SlateDBError) (call : Call) → NextHas s chains n (facts_at_start facts call).compactor (begin_unless o facts call)
  unless_has (Some e) call = tt
  unless_has None call = first_has call

  pub started_has : (call : Call) → PartyHas s chains n (settled call (begin facts call))
  started_has call = settled_has s chains n call (facts_at_start facts call) (begin_unless (refusal_at_start facts call) facts call) (record { compactor = starts_of call; next = unless_has (refusal_at_start facts call) call })
