-- What a step leaves of the chains of its database; the tables that a merge brings are from the least compaction of the greatest record on.
use Rattle.std.proofs.Common.{◌≡◌, ◌≢◌, ℕ, ℤ, ◌≤◌, true, List, [], ◌∷◌, map, Some, None, sym, subst, arith}
use Rattle.slate_model.specs.declared.manifest.Manifest.{Manifest}
use Rattle.slate_model_tables.specs.declared.ss_table_id.SsTableId.TheVariants.{Compacted}
use Rattle.slate_state_compactor.specs.Local.{pending_outputs}
use Rattle.slate_state_compactor.specs.declared.local_state.LocalState.{LocalState}
use Rattle.slate_state_calls.specs.declared.compactor.Compactor.{Compactor}
use Rattle.slate_state_updates.specs.ManifestChanges.{fence_of, right_of}
use Rattle.slate_state_updates.specs.RunTables.{outputs_of}
use Rattle.slate_state_updates.specs.TableSets.{is_among}
use Rattle.slate_state_updates.specs.Writers.{epoch_of}
use Rattle.slate_state_updates.specs.declared.epochs.ManifestEpochs.TheVariants as epochs
use Rattle.slate_store.specs.declared.mark.Mark.{Mark}
use Rattle.slate_txn_changes.specs.Changes.{fence_by, right_by}
use Rattle.slate_txn_log.specs.declared.log_kind.LogKind.{LogKind}
use Rattle.slate_txn_log.specs.declared.log_kind.LogKind.TheVariants as logs
use Rattle.slate_cluster_protocol.specs.Chains.{Changed, IsChain, Link}
use Rattle.slate_cluster_protocol.specs.Holding.{AtMostTop, EpochsStand}
use Rattle.slate_cluster_protocol.specs.Logs.{Author, Chain, Chains, Puts, change_by, manifests, phrase_of, records}
use Rattle.slate_cluster_protocol.specs.World.{party_of}
use Rattle.slate_cluster_protocol.specs.declared.party.Facts.{Facts}
use Rattle.slate_cluster_protocol.specs.declared.party.Task.{Task}
use Rattle.slate_cluster_chain_laws.proofs.Epochs.{passes}
use Rattle.slate_cluster_chain_laws.specs.Locals.{IsHeldIn, ObeyOutputs}
use Rattle.slate_cluster_laws.proofs.Along.{Moment, StepBrings, in_call, moment_stepped, step_brings}
use Rattle.slate_cluster_laws.proofs.Runs.{Inv}
use Rattle.slate_cluster_laws.proofs.Steps.{author_in}
use Rattle.slate_cluster_compactor_laws.specs.Pending.{HoldsPending, IsTopEpoch, OfTop}
use Rattle.slate_cluster_protocol.specs.Spares.{least_top}
use Rattle.slate_cluster_table_laws.proofs.Merging.{may_bring}
use Rattle.slate_cluster_table_laws.proofs.Moments.{away}
use Rattle.slate_cluster_spare_laws.proofs.Pending.{pending_late}

-- what a step, by an author, leaves of the chains: those of other databases stay, each of its own stays or gets one version on top, and a table that the
-- author's right may bring to a manifest is from the least compaction of the greatest record on
pub record Leaves (chains chains' : Chains) (db : List ℕ) (author : Author) : Type 0 where
  pub before : IsChain manifests (chains logs.Manifest db)
  pub manifest_chain : IsChain manifests (chains' logs.Manifest db)
  pub manifest_changed : Changed (λ (a : Author). a ≡ author) (chains logs.Manifest db) (chains' logs.Manifest db)
  pub record_chain : IsChain records (chains' logs.Compactions db)
  pub record_changed : Changed (λ (a : Author). a ≡ author) (chains logs.Compactions db) (chains' logs.Compactions db)
  pub away : (k : LogKind) (d : List ℕ) → d ≢ db → chains' k d ≡ chains k d
  pub made : (id : ℕ × ℕ) (old : Link Manifest Author) (rest : Chain logs.Manifest) → chains logs.Manifest db ≡ old ∷ rest → manifests.fence author old.value ≡ None
      → is_among (outputs_of (manifests.right author)) (Compacted id) ≡ true → least_top (chains logs.Compactions db) ≤ id.0

-- what is pending of a compactor is from the least on
from_top : (local : LocalState) → ObeyOutputs local.compactions.entries → (id : ℕ × ℕ) → is_among (map (λ i. Compacted i) (pending_outputs local)) (Compacted id) ≡ true → (c : Chain logs.Compactions) → OfTop (λ r. IsHeldIn r local) c → least_top c ≤ id.0
from_top local obey id among [] held = absurd held
from_top local obey id among (l ∷ c) held = pending_late l.value local held obey id among

one_epoch : (a b : ℕ) → a ≤ b → b ≤ a → a ≡ b
one_epoch a b le ge = omega (arith, le, ge)

top_epoch : (e : ℕ) (old : Link Manifest Author) (rest c : Chain logs.Manifest) → c ≡ old ∷ rest → old.value.compactor_epoch ≤ e → AtMostTop (epoch_of epochs.Compactor) e c → IsTopEpoch e c
top_epoch e old rest c is low most =
    let high : e ≤ old.value.compactor_epoch = subst (AtMostTop (epoch_of epochs.Compactor) e) is most in
    subst (IsTopEpoch e) (sym is) (one_epoch old.value.compactor_epoch e low high)

module _ (m : Moment) (n : ℕ) (moment : ℤ) (mark : Mark) (facts : Facts) (task : Task) (i : Inv m.world m.chains) (at : party_of n m.world.parties ≡ Some (in_call facts task))
    (pending : HoldsPending m.chains (in_call facts task)) (stand : EpochsStand m.chains (in_call facts task)) where
  abbrev next : Moment
  next = moment_stepped m n facts task moment mark

  abbrev author : Author
  author = author_in n (phrase_of task.work)

  brought : StepBrings m n facts task moment mark
  brought = step_brings m n facts task moment mark i at

  -- a table that a merge brings is from the least compaction on
  made : (id : ℕ × ℕ) (old : Link Manifest Author) (rest : Chain logs.Manifest) → m.chains logs.Manifest facts.db ≡ old ∷ rest → manifests.fence author old.value ≡ None
      → is_among (outputs_of (manifests.right author)) (Compacted id) ≡ true → least_top (m.chains logs.Compactions facts.db) ≤ id.0
  made id old rest is passed among =
      let merge = may_bring facts n task.call task.work brought.knows.fits id among in
      let c = merge.compactor in
      let fenced = subst (λ (p : Puts). fence_by fence_of (change_by p) old.value ≡ None) merge.is passed in
      let low = passes c.epoch old.value.compactor_epoch fenced in
      let top = top_epoch c.epoch old rest (m.chains logs.Manifest facts.db) is low (stand.opened c merge.holds).0 in
      from_top c.local (pending.outputs c merge.holds) id (subst (λ (p : Puts). is_among (outputs_of (right_by right_of (change_by p))) (Compacted id) ≡ true) merge.is among)
      (m.chains logs.Compactions facts.db) (pending.held c merge.holds top)

  pub leaves : Leaves m.chains next.chains facts.db author
  leaves =
      let named = i.named facts.db brought.has in
      let log = brought.log logs.Manifest facts.db named in
      let record_log = brought.log logs.Compactions facts.db named in
      record {
        before = (i.logs logs.Manifest facts.db named).chain;
        manifest_chain = log.sound.chain;
        manifest_changed = log.changed;
        record_chain = record_log.sound.chain;
        record_changed = record_log.changed;
        away = away m n moment mark facts task i at;
        made = made;
      }
