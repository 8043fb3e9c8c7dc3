-- The rules look at nothing that a record's bytes drop but outputs that are let go: what is read back of a record that they let pass passes too.
use Rattle.std.proofs.Common.{◌≡◌, ℕ, suc, Bool, true, false, List, [], ◌∷◌, length, map, Option, Some, None, refl, ap, ◌∙◌}
use Rattle.std.specs.Prelude.{is_none, not, ◌&&◌, ◌||◌, ◌==◌, if◌then◌else◌}
use Rattle.std.specs.List.{list_any}
use Rattle.std.specs.Option.{option_or}
use Rattle.slate_ids.specs.Ulids.{same_id}
use Rattle.slate_ids.specs.declared.error.SlateDBError.{SlateDBError}
use Rattle.slate_ids.specs.declared.error.UpdateRule.TheVariants.{U1, U8, U9}
use Rattle.slate_txn_log.specs.declared.right.Right.{Right}
use Rattle.slate_model_tables.specs.declared.ss_table_handle.SsTableHandle.{SsTableHandle}
use Rattle.slate_model_records.specs.Records.{Record, entry_of}
use Rattle.slate_model_records.specs.declared.compaction.Compaction.{Compaction}
use Rattle.slate_layout_records.specs.RecordNormal.{normal_compaction, normal_record}
use Rattle.slate_layout_records.specs.RecordBytes.{has_outputs}
use Rattle.slate_state_record_updates.specs.RecordRules.{first_refusal, rule_refusal, epoch_falls, entry_refusal, table_refusal, outputs_refusal, is_emptied, is_lost, may_remove, clocks_refusal, removal_refusal, record_refusal_of}

-- ---- a refusal, or else another

-- none of two
pub neither : (a b : Option SlateDBError) → option_or a b ≡ None → (a ≡ None) × (b ≡ None)
neither None b h = (refl, h)
neither (Some e) b h = absurd cc

pub both_none : (a b : Option SlateDBError) → a ≡ None → b ≡ None → option_or a b ≡ None
both_none None b ha hb = hb
both_none (Some e) b ha hb = absurd cc

-- ---- what depends on ids alone

entries_same : (old new : List Compaction) → first_refusal (entry_refusal old) (map normal_compaction new) ≡ first_refusal (entry_refusal old) new
entries_same old [] = refl
entries_same old (c ∷ new) = ap (option_or (entry_refusal old c)) (entries_same old new)

length_same : (new : List Compaction) → length (map normal_compaction new) ≡ length new
length_same [] = refl
length_same (c ∷ new) = ap (λ n. suc n) (length_same new)

found_same : (id : ℕ × ℕ) (new : List Compaction) → is_none (entry_of id (map normal_compaction new)) ≡ is_none (entry_of id new)
found_same id [] = refl
found_same id (c ∷ new) = test (same_id c.id id) (found_same id new)
  where
    test : (b : Bool) → is_none (entry_of id (map normal_compaction new)) ≡ is_none (entry_of id new)
        → is_none (let o : Option Compaction = if b then Some (normal_compaction c) else entry_of id (map normal_compaction new) in o) ≡ is_none (let o : Option Compaction = if b then Some c else entry_of id new in o)
    test true rest = refl
    test false rest = rest

lost_same : (right : Right) (old new : List Compaction) → list_any (is_lost right (map normal_compaction new)) old ≡ list_any (is_lost right new) old
lost_same right [] new = refl
lost_same right (c ∷ old) new =
    ap (λ (b : Bool). (b && not (may_remove right c.id)) || list_any (is_lost right (map normal_compaction new)) old) (found_same c.id new)
    ∙ ap (λ (b : Bool). is_lost right new c || b) (lost_same right old new)

-- ---- outputs

-- fewer outputs are refused no more
kept_pass : (ms : ℕ) (b : Bool) (outputs : List SsTableHandle) → first_refusal (λ sst. table_refusal ms sst.id) outputs ≡ None → first_refusal (λ sst. table_refusal ms sst.id) (let l : List SsTableHandle = if b then outputs else [] in l) ≡ None
kept_pass ms true outputs h = h
kept_pass ms false outputs h = refl

outputs_pass : (new : List Compaction) → first_refusal outputs_refusal new ≡ None → first_refusal outputs_refusal (map normal_compaction new) ≡ None
outputs_pass [] h = refl
outputs_pass (c ∷ new) h =
    let parts = neither (outputs_refusal c) (first_refusal outputs_refusal new) h in
    both_none (outputs_refusal (normal_compaction c)) (first_refusal outputs_refusal (map normal_compaction new)) (kept_pass c.id.0 (has_outputs c.status) c.output_ssts parts.0) (outputs_pass new parts.1)

-- ---- all rules

pub record_normal_passes : (n : ℕ) (old new : Record) (right : Right) → record_refusal_of n old new right ≡ None → record_refusal_of n old (normal_record new) right ≡ None
record_normal_passes n old new right h =
    let epochs = neither (rule_refusal (epoch_falls old new) U1) (option_or (clocks_refusal old.entries new.entries) (removal_refusal right old.entries new.entries)) h in
    let clocks = neither (clocks_refusal old.entries new.entries) (removal_refusal right old.entries new.entries) epochs.1 in
    let ids = neither (first_refusal (entry_refusal old.entries) new.entries) (first_refusal outputs_refusal new.entries) clocks.0 in
    let removals = neither (rule_refusal (is_emptied old.entries new.entries) U8) (rule_refusal (list_any (is_lost right new.entries) old.entries) U9) clocks.1 in
    both_none _ _ epochs.0
    (both_none _ _
    (both_none _ _ (entries_same old.entries new.entries ∙ ids.0) (outputs_pass new.entries ids.1))
    (both_none _ _
    (ap (λ (k : ℕ). rule_refusal (not (length old.entries == 0) && (k == 0)) U8) (length_same new.entries) ∙ removals.0)
    (ap (λ (b : Bool). rule_refusal b U9) (lost_same right old.entries new.entries) ∙ removals.1)))
