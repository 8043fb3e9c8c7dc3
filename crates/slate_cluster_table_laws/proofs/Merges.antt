-- What the author of a step may bring by its right: a compactor's merge the outputs that are pending, which it holds; any other nothing.
use Rattle.std.proofs.Common.{◌≡◌, ℕ, ◌++◌, Bool, true, false, List, [], ◌∷◌, map, ⊎_elim, sym, subst}
use Rattle.std.specs.Prelude.{if◌then◌else◌}
use Rattle.slate_model.specs.Externals.{same_table}
use Rattle.slate_model_records.specs.Retaining.{has_id}
use Rattle.slate_model_records.specs.declared.compaction.Compaction.{Compaction}
use Rattle.slate_model_tables.specs.declared.ss_table_handle.SsTableHandle.{SsTableHandle}
use Rattle.slate_model_tables.specs.declared.ss_table_id.SsTableId.{SsTableId}
use Rattle.slate_model_tables.specs.declared.ss_table_id.SsTableId.TheVariants.{Wal, Compacted}
use Rattle.slate_script_events.specs.declared.call.Call.{Call}
use Rattle.slate_state_calls.specs.Commits.{merge_of}
use Rattle.slate_state_calls.specs.declared.compactor.Compactor.{Compactor}
use Rattle.slate_state_compactor.specs.Local.{compacted_ids, outputs_among, pending_outputs, with_compacted}
use Rattle.slate_state_updates.specs.ManifestChanges.{right_of}
use Rattle.slate_state_updates.specs.RunTables.{outputs_of}
use Rattle.slate_state_updates.specs.TableSets.{is_among}
use Rattle.slate_txn_changes.specs.Changes.{right_by}
use Rattle.slate_cluster_protocol.specs.Holding.{Fits}
use Rattle.slate_cluster_protocol.specs.Logs.{Puts, OfManifest, change_by, phrase_of}
use Rattle.slate_cluster_protocol.specs.declared.party.Facts.{Facts}
use Rattle.slate_cluster_protocol.specs.declared.work.Work.{Work}
use Rattle.slate_cluster_chain_laws.proofs.TableSteps.{either, same_tables}
use Rattle.slate_cluster_laws.proofs.Steps.{author_in}
use Rattle.slate_cluster_table_laws.specs.Presence.{EachOutput, EachTable, IfTable}
use Rattle.slate_cluster_table_laws.proofs.HeldOutputs.{HeldHas}
use Rattle.slate_cluster_table_laws.proofs.Merging.{may_bring as brings_merge}

module _ (P : ℕ × ℕ → Type 0) where
  -- ---- ids of tables

  abbrev EachId : List (ℕ × ℕ) → Type 0
  EachId [] = Unit {0}
  EachId (id ∷ ids) = P id × EachId ids

  both_ids : (xs ys : List (ℕ × ℕ)) → EachId xs → EachId ys → EachId (xs ++ ys)
  both_ids [] ys h k = k
  both_ids (x ∷ xs) ys h k = (h.0, both_ids xs ys h.1 k)

  table_ids : (table : SsTableId) (ids : List (ℕ × ℕ)) → IfTable P table → EachId ids → EachId (with_compacted table ids)
  table_ids (Wal number) ids h k = k
  table_ids (Compacted id) ids h k = (h, k)

  handle_ids : (ssts : List SsTableHandle) → EachTable P ssts → EachId (compacted_ids ssts)
  handle_ids [] h = tt
  handle_ids (sst ∷ ssts) h = table_ids sst.id (compacted_ids ssts) h.0 (handle_ids ssts h.1)

  output_ids : (pending : List (ℕ × ℕ)) (entries : List Compaction) → EachOutput P entries → EachId (outputs_among pending entries)
  output_ids pending [] h = tt
  output_ids pending (c ∷ entries) h = by (has_id pending c.id) (output_ids pending entries h.1)
    where
      by : (b : Bool) → EachId (outputs_among pending entries) → EachId (if b then compacted_ids c.output_ssts ++ outputs_among pending entries else outputs_among pending entries)
      by true rest = both_ids (compacted_ids c.output_ssts) (outputs_among pending entries) (handle_ids c.output_ssts h.0) rest
      by false rest = rest

  id_among : (ids : List (ℕ × ℕ)) → EachId ids → (id : ℕ × ℕ) → is_among (map (λ i. Compacted i) ids) (Compacted id) ≡ true → P id
  id_among [] h id among = absurd (cc among)
  id_among (x ∷ ids) h id among =
      let rest : List SsTableId = map (λ i. Compacted i) ids in
      ⊎_elim
      (λ (e : same_table (Compacted id) (Compacted x) ≡ true). let same : id ≡ x = cc (same_tables (Compacted id) (Compacted x) e) in subst P (sym same) h.0)
      (λ (e : is_among rest (Compacted id) ≡ true). id_among ids h.1 id e)
      (either (same_table (Compacted id) (Compacted x)) (is_among rest (Compacted id)) among)

  -- ---- what is put

  -- what holds of each table that what is put may bring by its right
  abbrev pub MayBring : Puts → Type 0
  MayBring puts = (id : ℕ × ℕ) → is_among (outputs_of (right_by right_of (change_by puts))) (Compacted id) ≡ true → P id

  merge_brings : (c : Compactor) → EachOutput P c.local.compactions.entries → MayBring (OfManifest (merge_of c.epoch c.local))
  merge_brings c h = λ id among. id_among (pending_outputs c.local) (output_ids c.local.pending c.local.compactions.entries h) id among

  -- of what the author of a step puts
  pub may_bring : (n : ℕ) (facts : Facts) → HeldHas P facts.compactor → (call : Call) (work : Work) → Fits facts call work → MayBring (author_in n (phrase_of work)).puts
  may_bring n facts h call work fits = λ id among.
      let merge = brings_merge facts n call work fits id among in
      let held = subst (HeldHas P) merge.holds h in
      merge_brings merge.compactor held.local id (subst (λ (puts : Puts). is_among (outputs_of (right_by right_of (change_by puts))) (Compacted id) ≡ true) merge.is among)
