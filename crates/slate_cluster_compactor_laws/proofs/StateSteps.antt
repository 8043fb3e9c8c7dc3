-- A step of a compactor's call on its state: what it holds then is still in the greatest record.
use Rattle.std.proofs.Common.{◌≡◌, ℕ, ℤ, Bool, true, false, List, [], ◌∷◌, Option, Some, None, Result, Ok, Err, refl}
use Rattle.slate_ids.specs.Ids.{is_db_path}
use Rattle.slate_ids.specs.declared.error.SlateDBError.{SlateDBError}
use Rattle.slate_store.specs.Machines.{Stay, End}
use Rattle.slate_store.specs.Store.{Store, effect}
use Rattle.slate_store.specs.declared.mark.Mark.{Mark}
use Rattle.slate_txn_changes.specs.LogWorks.{WorkGoes, work_asks, work_goes}
use Rattle.slate_txn_changes.specs.declared.log_work.LogEnd.{LogEnd}
use Rattle.slate_txn_changes.specs.declared.log_work.LogEnd.TheVariants.{Absent, Unchanged, Committed}
use Rattle.slate_txn_log.specs.Fence.{fence, unless}
use Rattle.slate_txn_log.specs.declared.log_kind.LogKind.{LogKind}
use Rattle.slate_txn_log.specs.declared.log_kind.LogKind.TheVariants as logs
use Rattle.slate_layout_encodable.specs.Normal.{normal_manifest}
use Rattle.slate_layout_manifests.specs.Decoding.{decoded_manifest}
use Rattle.slate_layout_records.specs.RecordBytes.{decoded_record}
use Rattle.slate_model.specs.declared.manifest.Manifest.{Manifest}
use Rattle.slate_model_records.specs.Records.{Record}
use Rattle.slate_state_calls.specs.Commits.{ManifestChanging, RecordChanging, manifest_in, manifest_put, manifest_put_of, merge_of, put_of, record_in, record_put, statuses_of}
use Rattle.slate_state_calls.specs.Compactors.{with_local, with_manifest, with_record}
use Rattle.slate_state_calls.specs.StateSteps.{StateGoes, follows, manifest_next, merge_by, merges, next_after, on_manifest, on_record, onward, or_missing, record_next, records, refresh_of, refreshes, state_asks, state_goes}
use Rattle.slate_state_calls.specs.declared.compactor.Compactor.{Compactor}
use Rattle.slate_state_calls.specs.declared.state_phase.ManifestStep.{ManifestStep}
use Rattle.slate_state_calls.specs.declared.state_phase.ManifestStep.TheVariants.{Follow, Keep, Merge}
use Rattle.slate_state_calls.specs.declared.state_phase.RecordStep.{RecordStep}
use Rattle.slate_state_calls.specs.declared.state_phase.RecordStep.TheVariants as steps
use Rattle.slate_state_calls.specs.declared.state_phase.StatePhase.{StatePhase}
use Rattle.slate_state_calls.specs.declared.state_phase.StatePhase.TheVariants as compacting
use Rattle.slate_state_calls.specs.declared.state_start.TreesWrite.{TreesWrite}
use Rattle.slate_state_compactor.specs.Local.{manifest_committed, record_committed, refreshed, scheduled}
use Rattle.slate_state_compactor.specs.declared.local_state.LocalState.{LocalState}
use Rattle.slate_cluster_protocol.specs.Chains.{Link, link_at}
use Rattle.slate_cluster_protocol.specs.Logs.{Author, Chain, Chains, log_of, put_by, state_phrase}
use Rattle.slate_cluster_chain_laws.specs.Locals.{CompactedStay, IsHeldIn, ObeyOutputs}
use Rattle.slate_cluster_chain_laws.specs.Raises.{HasRaised}
use Rattle.slate_cluster_chain_laws.proofs.Locals.{manifest_committed_held, record_committed_held, refreshed_held, refreshed_obey, scheduled_held, scheduled_obey}
use Rattle.slate_cluster_laws.proofs.Facts.{IsSound}
use Rattle.slate_cluster_laws.proofs.Opens.{Given}
use Rattle.slate_cluster_laws.proofs.Steps.{PhraseBrings, PhraseKnows, author_in}
use Rattle.slate_cluster_laws.proofs.Stores.{IsTidy}
use Rattle.slate_cluster_compactor_laws.proofs.Greatest.{IsQuiet, OnTop}
use Rattle.slate_cluster_compactor_laws.proofs.Held.{CompactorHas, FollowHas, HasFollowed, PhaseHas, Recent}
use Rattle.slate_cluster_compactor_laws.proofs.Others.{Turned}
use Rattle.slate_cluster_compactor_laws.proofs.OwnChains.{EndsWith, OnEnd, RecordGoes, begun_has, on_end, own_stays, record_has}

-- of the greatest record both are so, and with them a third
both_on_top : (P Q R : Record → Type 0) → ((r : Record) → P r → Q r → R r) → (c : Chain logs.Compactions) → OnTop P c → OnTop Q c → OnTop R c
both_on_top P Q R f [] p q = tt
both_on_top P Q R f (l ∷ c) p q = f l.value p q

pub one_on_top : (P R : Record → Type 0) → ((r : Record) → P r → R r) → (c : Chain logs.Compactions) → OnTop P c → OnTop R c
one_on_top P R f [] p = tt
one_on_top P R f (l ∷ c) p = f l.value p

unless_ok : {X : Type 0} (o : Option SlateDBError) (r : Result X SlateDBError) (x : X) → unless o r ≡ Ok x → r ≡ Ok x
unless_ok None r x h = h
unless_ok (Some e) r x h = absurd (cc h)

module _ (db : List ℕ) (named : is_db_path db ≡ true) (s : Store) (tidy : IsTidy s.objects) (chains : Chains) (s' : Store) (chains' : Chains) (n : ℕ) (author : Author)
    (sound : (k : LogKind) → IsSound (log_of k) db s (chains k db)) (t : Turned (λ (a : Author). a ≡ author) s chains s' chains' db)
    (obey : (j : ℕ) (l : Link Record Author) → link_at j (chains' logs.Compactions db) ≡ Some l → ObeyOutputs l.value.entries) (mark : Mark) (moment : ℤ)
    (c : Compactor) (mine : HasRaised (chains logs.Manifest db) n c.epoch) (given : Given chains db c.epoch) (after : CompactorHas chains' n db c) where
  abbrev top : Chain logs.Compactions
  top = chains' logs.Compactions db

  abbrev pub StateTo : StateGoes → Type 0
  StateTo (Stay at) = CompactorHas chains' n db at.1 × PhaseHas s' chains' db at.0 at.1
  StateTo (End at r) = CompactorHas chains' n db at.1

  -- what is held beside the local state is other
  with_record_has : (v : ℕ × Record) → CompactorHas chains' n db (with_record v c)
  with_record_has v = record { raised = after.raised; held = after.held; outputs = after.outputs }

  with_manifest_has : (v : ℕ × Manifest) → CompactorHas chains' n db (with_manifest v c)
  with_manifest_has v = record { raised = after.raised; held = after.held; outputs = after.outputs }

  -- ---- of the record

  module _ (p : RecordChanging) where
    abbrev Ends : ℕ × Record → Type 0
    Ends v = EndsWith db named s tidy chains s' chains' n author sound t p c.epoch mine obey v

    follow_to : (v : ℕ × Record) → Ends v → (o : Option SlateDBError) → StateTo (follows c v o)
    follow_to v h (Some e) = after
    follow_to v h None = (with_record_has v, record { stays = h.stays; outputs = h.outputs })

    fetch_to : (write : Option TreesWrite) (v : ℕ × Record) (r : Result RecordChanging SlateDBError) → put_of (statuses_of c.epoch c.local) moment v ≡ r → StateTo (records write c r)
    fetch_to write v (Ok q) is = (after, begun_has db s' (Recent chains' db c.epoch) (Recent chains' db c.epoch) n (statuses_of c.epoch c.local) moment v q is)
    fetch_to write v (Err e) is = after

    record_next_to : (step : RecordStep) (v : ℕ × Record) → Ends v → StateTo (record_next step moment c v)
    record_next_to steps.Follow v h = follow_to v h (fence c.epoch v.1.compactor_epoch)
    record_next_to steps.Schedule v h = record {
      raised = after.raised;
      held = λ is. both_on_top (CompactedStay v.1) (λ r. IsHeldIn r c.local) (λ r. IsHeldIn r (scheduled v.1 c.local)) (λ r stay held. scheduled_held v.1 r c.local stay held) top (h.stays is) (after.held is);
      outputs = scheduled_obey v.1 c.local h.outputs;
    }
    record_next_to (steps.Fetch write) v h = fetch_to write v (put_of (statuses_of c.epoch c.local) moment v) refl
    record_next_to (steps.Record write) v h = record {
      raised = after.raised;
      held = λ is. both_on_top (CompactedStay v.1) (λ r. IsHeldIn r c.local) (λ r. IsHeldIn r (record_committed v.1 c.local)) (λ r stay held. record_committed_held v.1 r c.local stay held) top (h.stays is) (after.held is);
      outputs = h.outputs;
    }

    or_missing_to : (step : RecordStep) (v : Option (ℕ × Record)) → OnEnd db named s tidy chains s' chains' n author sound t p c.epoch mine obey v → StateTo (or_missing c (record_next step moment c) v)
    or_missing_to step None h = after
    or_missing_to step (Some v) h = record_next_to step v h

    on_record_to : (step : RecordStep) (g : WorkGoes Record) → RecordGoes db named s tidy chains s' chains' n author sound t p c.epoch mine g → StateTo (on_record step moment c p g)
    on_record_to step (Stay work) h = (after, h)
    on_record_to step (End work (Ok end)) h = or_missing_to step (record_in end) (on_end db named s tidy chains s' chains' n author sound t p c.epoch mine obey work end h)
    on_record_to step (End work (Err e)) h = after

  -- ---- of the manifest

  module _ (p : ManifestChanging) where
    refresh_to : HasFollowed chains' db c → (v : ℕ × Manifest) (r : Result LocalState SlateDBError) → refresh_of c v.1 ≡ r → StateTo (refreshes c v r)
    refresh_to h v (Ok local) is =
        let made = unless_ok (fence c.epoch v.1.compactor_epoch) (refreshed c.compactions v.1.core c.local) local is in
        record {
          raised = after.raised;
          held = λ at. both_on_top (CompactedStay c.compactions) (λ r. IsHeldIn r c.local) (λ r. IsHeldIn r local) (λ r stay held. refreshed_held c.compactions r v.1.core c.local local made stay held) top (h.stays at) (after.held at);
          outputs = refreshed_obey c.compactions v.1.core c.local local made h.outputs;
        }
    refresh_to h v (Err e) is = after

    merge_to : (write : TreesWrite) (v : ℕ × Manifest) (r : Result ManifestChanging SlateDBError) → StateTo (merges write (with_manifest v c) r)
    merge_to write v (Ok q) = (with_manifest_has v, tt)
    merge_to write v (Err e) = with_manifest_has v

    -- what is pending is nothing then
    merged_has : (v : ℕ × Manifest) → CompactorHas chains' n db (with_local (manifest_committed v.1.core c.local) (with_manifest v c))
    merged_has v = record {
      raised = after.raised;
      held = λ at. one_on_top (λ r. IsHeldIn r c.local) (λ r. IsHeldIn r (manifest_committed v.1.core c.local)) (λ r held. manifest_committed_held v.1.core r c.local held) top (after.held at);
      outputs = after.outputs;
    }

    next_to : (v : ℕ × Manifest) (write : TreesWrite) (b : Bool) → StateTo (onward (with_local (manifest_committed v.1.core c.local) (with_manifest v c)) (next_after b write))
    next_to v write true = (merged_has v, tt)
    next_to v write false = merged_has v

    follows_to : HasFollowed chains' db c → (v : Option (ℕ × Manifest)) → StateTo (or_missing c (λ v. refreshes c v (refresh_of c v.1)) v)
    follows_to h None = after
    follows_to h (Some v) = refresh_to h v (refresh_of c v.1) refl

    keeps_to : (write : TreesWrite) (v : Option (ℕ × Manifest)) → StateTo (or_missing c (merge_by write moment c) v)
    keeps_to write None = after
    keeps_to write (Some v) = merge_to write v (manifest_put_of (merge_of c.epoch c.local) moment v)

    manifest_next_to : (step : ManifestStep) → FollowHas chains' db step c → (end : LogEnd Manifest) → StateTo (manifest_next step moment c end)
    manifest_next_to Follow h end = follows_to h (manifest_in end)
    manifest_next_to (Keep write) h end = keeps_to write (manifest_in end)
    manifest_next_to (Merge write) h Absent = after
    manifest_next_to (Merge write) h (Unchanged k m) = after
    manifest_next_to (Merge write) h (Committed k m) = next_to (k, normal_manifest m) write write.whole

    on_manifest_to : (step : ManifestStep) → FollowHas chains' db step c → (g : WorkGoes Manifest) → StateTo (on_manifest step moment c p g)
    on_manifest_to step h (Stay work) = (after, h)
    on_manifest_to step h (End work (Ok end)) = manifest_next_to step h end
    on_manifest_to step h (End work (Err e)) = after

  -- what a refresh has read stays so
  followed_after : (step : ManifestStep) → ((old : Record) → IsQuiet author.puts old) → FollowHas chains db step c → FollowHas chains' db step c
  followed_after Follow quiet h = record { stays = own_stays db named s tidy chains s' chains' n author sound t c.epoch mine given c.compactions quiet h.stays; outputs = h.outputs }
  followed_after (Keep write) quiet h = tt
  followed_after (Merge write) quiet h = tt

  -- ---- of both

  -- a step on the manifest puts nothing to the record
  abbrev pub IsCalm : StatePhase → Type 0
  IsCalm (compacting.OnManifest step p) = (old : Record) → IsQuiet author.puts old
  IsCalm _ = Unit {0}

  pub state_to : (phase : StatePhase) → IsCalm phase → author ≡ author_in n (state_phrase db phase) → ((k : LogKind) → put_by n (state_phrase db phase) ≡ None → chains' k db ≡ chains k db) → PhraseKnows s chains n (state_phrase db phase)
      → PhaseHas s chains db phase c → PhraseBrings s' chains' n (state_phrase db phase) moment (effect mark (state_asks db phase) moment s).answer → StateTo (state_goes moment (phase, c) (effect mark (state_asks db phase) moment s).answer)
  state_to (compacting.OnRecord step p) calm is still knows h brings =
      on_record_to p step (work_goes logs.Compactions decoded_record (record_put p.change) moment p.work (effect mark (work_asks db logs.Compactions p.work) moment s).answer)
      (record_has db named s tidy chains s' chains' n author sound t p c.epoch mine is (still logs.Compactions) mark moment knows h brings)
  state_to (compacting.OnManifest step p) calm is still knows h brings =
      on_manifest_to p step (followed_after step calm h) (work_goes logs.Manifest decoded_manifest (manifest_put p.change) moment p.work (effect mark (work_asks db logs.Manifest p.work) moment s).answer)
  state_to compacting.Over calm is still knows h brings = after
