-- A compactor's plain calls over a store that serves them.
use Rattle.std.proofs.Common.{◌≡◌, ◌<◌, ℕ, ℤ, true, false, List, Result, Ok, Err, inl, inr, refl}
use Rattle.slate_ids.specs.Ids.{is_db_path}
use Rattle.slate_ids.specs.declared.error.SlateDBError.{SlateDBError}
use Rattle.slate_state_calls.specs.Opening.{OpenGoes, open_asks, open_lists_again, open_start, raises}
use Rattle.slate_state_calls.specs.StateSteps.{StateAt, StateGoes, at_manifests, start_phase, state_goes}
use Rattle.slate_state_calls.specs.declared.compactor.Compactor.{Compactor}
use Rattle.slate_state_calls.specs.declared.open_phase.OpenPhase.{OpenPhase}
use Rattle.slate_state_calls.specs.declared.state_start.StateStart.{StateStart}
use Rattle.slate_state_compactor_complete.proofs.OpenSteps.{OpenAt, OpenTo, open_steps}
use Rattle.slate_state_compactor_complete.proofs.StateSteps.{CallAt, CallTo, begins_at, call_steps}
use Rattle.slate_state_compactor_complete.specs.Calls.{CallEnds, Causes, OpenEnds}
use Rattle.slate_state_compactor_complete.specs.Refusals.{CallRefused, OpenRefused}
use Rattle.slate_state_writer.specs.PlainOpening as opening
use Rattle.slate_state_writer.specs.PlainOpening.{Opens, writer_goes}
use Rattle.slate_state_writer.specs.StateCalls as states
use Rattle.slate_state_writer.specs.StateCalls.{StateCalled, asks_at}
use Rattle.slate_state_writer.specs.Writer.{Writer, held_by}
use Rattle.slate_store.specs.Machines.{Stay, End}
use Rattle.slate_store.specs.Store.{Store}
use Rattle.slate_store.specs.StoreCalls.{Told}
use Rattle.slate_txn_changes_laws.proofs.Served.{LeadsOn, turns_served}
use Rattle.slate_txn_changes_laws.specs.BothLogs.{AreReady}
use Rattle.slate_txn_changes_laws.specs.Works.{IsInside}
use Rattle.slate_txn_laws.specs.Replies.{goes_as}
use Rattle.slate_txn_laws.specs.Serving.{Serves}

module _ (db : List ℕ) (named : is_db_path db ≡ true) (moment : ℤ) where
  -- why, by what a refusal is caused
  abbrev So : {X : Type 0} → (Store → SlateDBError → Type 0) → Store → Result X SlateDBError → Type 0
  So Why t r = IsInside r × AreReady db t × Causes Why t r

  opens_to : (p : OpenPhase) (t : Store) (g : OpenGoes) → OpenTo db named moment (raises p) t g
      → LeadsOn (open_asks db) (writer_goes db moment) open_lists_again opening.begins_again moment (OpenAt db named moment) (So {X = Writer} (OpenRefused db moment)) p t (goes_as (held_by db) g)
  opens_to p t (Stay q) h = h
  opens_to p t (End q (Ok c)) h = (tt, (tt, h.1, tt))
  opens_to p t (End q (Err e)) h = (h.0, h)

  pub open_ends : (tries : ℕ) (old new : Told) (s : Store) (result : Result Writer SlateDBError) → Opens db moment tries old new result → 0 < tries → Serves old new s → AreReady db s → OpenEnds db moment new result
  open_ends tries old new s result (inl ran) some serves ready =
      let end = turns_served (open_asks db) (writer_goes db moment) open_lists_again opening.begins_again moment (OpenAt db named moment) (So {X = Writer} (OpenRefused db moment))
      (λ t p h. opens_to p _ _ (open_steps db named moment t p h)) tries old new s open_start false ran.0 result ran.1 some serves ((record { own = ready.manifests; aside = ready.records }, tt), refl) in
      inl (record { left = end.left; contents = end.contents; causes = end.ends.2; inside = end.ends.0; ready = end.ends.1 })
  open_ends tries old new s result (inr held) some serves ready = inr held.0

  calls_to : (start : StateStart) (epoch : ℕ) (at : StateAt) (t : Store) (g : StateGoes) → CallTo db named moment start epoch (at_manifests at.0) t g
      → LeadsOn (asks_at db) (state_goes moment) states.lists_again (states.begins_again start) moment (CallAt db named moment start epoch) (So {X = Unit {0}} (CallRefused db moment start epoch)) at t g
  calls_to start epoch at t (Stay q) h = h
  calls_to start epoch at t (End q r) h = (h.0, h)

  pub call_ends : (start : StateStart) (tries : ℕ) (old new : Told) (s : Store) (from to : Compactor) (result : Result (Unit {0}) SlateDBError) → StateCalled db start moment tries old new from to result → 0 < tries → Serves old new s → AreReady db s
      → CallEnds db moment start from.epoch new result
  call_ends start tries old new s from to result (inl ran) some serves ready =
      let end = turns_served (asks_at db) (state_goes moment) states.lists_again (states.begins_again start) moment (CallAt db named moment start from.epoch) (So {X = Unit {0}} (CallRefused db moment start from.epoch))
      (λ t at h. calls_to start from.epoch at _ _ (call_steps db named moment start from.epoch t at h)) tries old new s (start_phase start from, from) false ((ran.0, to), ran.1) result ran.2 some serves (begins_at db named moment s ready start from) in
      inl (record { left = end.left; contents = end.contents; causes = end.ends.2; inside = end.ends.0; ready = end.ends.1 })
  call_ends start tries old new s from to result (inr held) some serves ready = inr held.0
