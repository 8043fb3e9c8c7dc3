-- Who puts what its right may bring: a compactor whose call merges its local trees, and nobody else.
use Rattle.std.proofs.Common.{◌≡◌, ℕ, true, List, Option, Some, None, refl, sym, subst}
use Rattle.slate_ids.specs.declared.gc_message.GcMessage.{GcMessage}
use Rattle.slate_gc_passes.specs.declared.gc_phase.GcPhase.{GcPhase}
use Rattle.slate_gc_passes.specs.declared.gc_phase.GcPhase.TheVariants.{Removing, Collecting}
use Rattle.slate_gc_passes.specs.declared.pass_phase.PassPhase.{PassPhase}
use Rattle.slate_gc_passes.specs.declared.pass_phase.PassPhase.TheVariants as passing
use Rattle.slate_model_tables.specs.declared.ss_table_id.SsTableId.TheVariants.{Compacted}
use Rattle.slate_script_events.specs.declared.call.Call.{Call}
use Rattle.slate_script_events.specs.declared.call.Call.TheVariants.{OpenWriter, Flush, WriteCheckpoint, ReplaceCheckpoint, RefreshCheckpoint, DeleteCheckpoint}
use Rattle.slate_state_calls.specs.Commits.{ManifestChanging, RecordChanging, merge_of}
use Rattle.slate_state_calls.specs.declared.compactor.Compactor.{Compactor}
use Rattle.slate_state_calls.specs.declared.open_phase.OpenPhase.{OpenPhase}
use Rattle.slate_state_calls.specs.declared.open_phase.OpenPhase.TheVariants as opening
use Rattle.slate_state_calls.specs.declared.state_phase.ManifestStep.{ManifestStep}
use Rattle.slate_state_calls.specs.declared.state_phase.ManifestStep.TheVariants.{Follow, Keep, Merge}
use Rattle.slate_state_calls.specs.declared.state_phase.StatePhase.{StatePhase}
use Rattle.slate_state_calls.specs.declared.state_phase.StatePhase.TheVariants as compacting
use Rattle.slate_state_record_updates.specs.declared.record_change.RecordChange.{RecordChange}
use Rattle.slate_state_updates.specs.ManifestChanges.{right_of}
use Rattle.slate_state_updates.specs.RunTables.{outputs_of}
use Rattle.slate_state_updates.specs.TableSets.{is_among}
use Rattle.slate_state_updates.specs.declared.manifest_change.ManifestChange.{ManifestChange}
use Rattle.slate_state_updates.specs.declared.manifest_change.ManifestChange.TheVariants.{DropExpired, RaiseCompactor}
use Rattle.slate_txn_changes.specs.Changes.{right_by}
use Rattle.slate_txn_changes.specs.declared.log_work.LogWork.{LogWork}
use Rattle.slate_txn_changes.specs.declared.log_work.LogWork.TheVariants.{Reading, Committing}
use Rattle.slate_txn_log.specs.declared.log_kind.LogKind.{LogKind}
use Rattle.slate_txn_log.specs.declared.log_kind.LogKind.TheVariants as logs
use Rattle.slate_cluster_protocol.specs.Calls.{change_of}
use Rattle.slate_cluster_protocol.specs.Holding.{Fits, FitsOpen, FitsState, change_at}
use Rattle.slate_cluster_protocol.specs.Logs.{Held, Puts, OfManifest, change_by, change_phrase, collect_phrase, manifest_puts, open_phrase, pass_phrase, phrase_of, record_puts, state_phrase}
use Rattle.slate_cluster_protocol.specs.declared.party.Facts.{Facts}
use Rattle.slate_cluster_protocol.specs.declared.work.Work.{Work}
use Rattle.slate_cluster_protocol.specs.declared.work.Work.TheVariants as works
use Rattle.slate_cluster_laws.proofs.Steps.{author_in}

-- what is put is the merge of the compactor that the party holds
pub record IsMerge (facts : Facts) (puts : Puts) : Type 0 where
  pub compactor : Compactor
  pub holds : facts.compactor ≡ Some compactor
  pub is : puts ≡ OfManifest (merge_of compactor.epoch compactor.local)

module _ (facts : Facts) where
  -- whatever it may bring by its right, it is such a merge
  abbrev pub MayBring : Puts → Type 0
  MayBring puts = (id : ℕ × ℕ) → is_among (outputs_of (right_by right_of (change_by puts))) (Compacted id) ≡ true → IsMerge facts puts

  merge_brings : (c : Compactor) → facts.compactor ≡ Some c → MayBring (OfManifest (merge_of c.epoch c.local))
  merge_brings c holds = λ id among. record { compactor = c; holds = holds; is = refl }

  record_brings : (o : Option RecordChange) → MayBring (record_puts o)
  record_brings None = λ id among. absurd (cc among)
  record_brings (Some change) = λ id among. absurd (cc among)

  module _ (n : ℕ) where
    change_brings : (k : LogKind) (db : List ℕ) (puts : Puts) (work : LogWork (Held k)) → MayBring puts → MayBring (author_in n (change_phrase k db puts work)).puts
    change_brings k db puts (Reading phase) h = λ id among. absurd (cc among)
    change_brings k db puts (Committing made phase) h = h

    at_manifest : (db : List ℕ) (p : ManifestChanging) (o : Option ManifestChange) → p.change ≡ o → MayBring (manifest_puts o) → MayBring (author_in n (change_phrase logs.Manifest db (manifest_puts p.change) p.work)).puts
    at_manifest db p o is h = change_brings logs.Manifest db (manifest_puts p.change) p.work (subst (λ (x : Option ManifestChange). MayBring (manifest_puts x)) (sym is) h)

    at_record : (db : List ℕ) (p : RecordChanging) → MayBring (author_in n (change_phrase logs.Compactions db (record_puts p.change) p.work)).puts
    at_record db p = change_brings logs.Compactions db (record_puts p.change) p.work (record_brings p.change)

    collect_brings : (db : List ℕ) (pass : GcMessage) (phase : PassPhase) → MayBring (author_in n (collect_phrase db pass phase)).puts
    collect_brings db pass passing.Over = λ id among. absurd (cc among)
    collect_brings db pass _ = λ id among. absurd (cc among)

    pass_brings : (db : List ℕ) (pass : GcMessage) (phase : GcPhase) → MayBring (author_in n (pass_phrase db pass phase)).puts
    pass_brings db pass (Removing work) = change_brings logs.Manifest db (OfManifest DropExpired) work (λ id among. absurd (cc among))
    pass_brings db pass (Collecting at phase) = collect_brings db pass phase

    opening_brings : (db : List ℕ) (phase : OpenPhase) → FitsOpen phase → MayBring (author_in n (open_phrase db phase)).puts
    opening_brings db (opening.Raising p) fits = at_manifest db p (Some RaiseCompactor) fits (λ id among. absurd (cc among))
    opening_brings db (opening.OnRecord step m p) fits = at_record db p
    opening_brings db opening.Over fits = absurd fits

    step_brings : (step : ManifestStep) (c : Compactor) → facts.compactor ≡ Some c → MayBring (manifest_puts (change_at step c))
    step_brings Follow c h = λ id among. absurd (cc among)
    step_brings (Keep write) c h = λ id among. absurd (cc among)
    step_brings (Merge write) c h = merge_brings c h

    state_brings : (call : Call) (db : List ℕ) (phase : StatePhase) (o : Option Compactor) → facts.compactor ≡ o → FitsState call phase o → MayBring (author_in n (state_phrase db phase)).puts
    state_brings call db (compacting.OnRecord step p) (Some c) h fits = at_record db p
    state_brings call db (compacting.OnRecord step p) None h fits = absurd fits
    state_brings call db (compacting.OnManifest step p) (Some c) h fits = at_manifest db p (change_at step c) fits.1 (step_brings step c h)
    state_brings call db (compacting.OnManifest step p) None h fits = absurd fits
    state_brings call db compacting.Over (Some c) h fits = absurd fits
    state_brings call db compacting.Over None h fits = absurd fits

    call_brings : (call : Call) → MayBring (manifest_puts (change_of facts call))
    call_brings OpenWriter = λ id among. absurd (cc among)
    call_brings (Flush tables replay_after next_wal seq tick) = λ id among. absurd (cc among)
    call_brings (WriteCheckpoint id lifetime source name) = λ table among. absurd (cc among)
    call_brings (ReplaceCheckpoint old id lifetime source name) = λ table among. absurd (cc among)
    call_brings (RefreshCheckpoint id lifetime) = λ table among. absurd (cc among)
    call_brings (DeleteCheckpoint id) = λ table among. absurd (cc among)
    call_brings _ = λ id among. absurd (cc among)

    pub may_bring : (call : Call) (work : Work) → Fits facts call work → MayBring (author_in n (phrase_of work)).puts
    may_bring call (works.Manifests db p) fits = at_manifest db p (change_of facts call) fits (call_brings call)
    may_bring call (works.Records db p) fits = at_record db p
    may_bring call (works.PutTable db upload bytes) fits = λ id among. absurd (cc among)
    may_bring call (works.Pass db settings filter phase) fits = pass_brings db settings.pass phase
    may_bring call (works.Opening db phase) fits = opening_brings db phase fits
    may_bring call (works.Compacting db phase) fits = state_brings call db phase facts.compactor refl fits
