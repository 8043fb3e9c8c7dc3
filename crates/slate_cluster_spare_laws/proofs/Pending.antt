-- The outputs that a compactor has pending lie at or above the least compaction of a record in which what is pending has an entry.
use Rattle.std.proofs.Common.{◌≡◌, ◌⊎◌, ℕ, pos, ◌≤◌, ◌++◌, Bool, nat_lt, true, false, List, [], ◌∷◌, map, Option, Some, None, is_some, ⊎_elim, refl, sym, subst, arith}
use Rattle.std.proofs.lemmas.Bool.Decides.{nat_tests}
use Rattle.std.specs.Option.{option_or}
use Rattle.std.specs.Prelude.{if◌then◌else◌, min}
use Rattle.slate_ids.specs.Ulids.{same_id}
use Rattle.slate_ids.specs.declared.error.SlateDBError.{SlateDBError}
use Rattle.slate_ids.specs.declared.error.SlateDBError.TheVariants.{InvalidClockTick}
use Rattle.slate_model.specs.Externals.{same_table}
use Rattle.slate_model_records.specs.Records.{Record, entry_of}
use Rattle.slate_model_records.specs.Retaining.{has_id}
use Rattle.slate_model_records.specs.declared.compaction.Compaction.{Compaction}
use Rattle.slate_model_tables.specs.declared.ss_table_handle.SsTableHandle.{SsTableHandle}
use Rattle.slate_model_tables.specs.declared.ss_table_id.SsTableId.{SsTableId}
use Rattle.slate_model_tables.specs.declared.ss_table_id.SsTableId.TheVariants.{Wal, Compacted}
use Rattle.slate_state_compactor.specs.Local.{compacted_ids, outputs_among, pending_outputs, with_compacted}
use Rattle.slate_state_compactor.specs.declared.local_state.LocalState.{LocalState}
use Rattle.slate_state_record_updates.specs.RecordRules.{clock_refusal, first_refusal, least_ms, least_with, outputs_refusal, table_refusal}
use Rattle.slate_state_updates.specs.TableSets.{is_among}
use Rattle.slate_cluster_chain_laws.proofs.TableSteps.{either, same_tables}
use Rattle.slate_cluster_chain_laws.specs.Locals.{IsHeldIn, ObeyOutputs}

-- ---- the least of a record

pub least_first : (ms : ℕ) (entries : List Compaction) → least_with ms entries ≤ ms
least_first ms [] = omega arith
least_first ms (c ∷ entries) = let rest = least_first ms entries in omega (arith, rest)

ids_same : (a b : ℕ × ℕ) → same_id a b ≡ true → a.0 ≡ b.0
ids_same a b h = grind (arith, nat_tests)

least_found : (ms : ℕ) (id : ℕ × ℕ) (entries : List Compaction) → is_some (entry_of id entries) ≡ true → least_with ms entries ≤ id.0
least_found ms id [] h = absurd cc
least_found ms id (c ∷ entries) h = by (same_id c.id id) refl h (λ k. least_found ms id entries k)
  where
    by : (b : Bool) → same_id c.id id ≡ b → is_some (if b then Some c else entry_of id entries) ≡ true → (is_some (entry_of id entries) ≡ true → least_with ms entries ≤ id.0) → min c.id.0 (least_with ms entries) ≤ id.0
    by true is k rest = let e = ids_same c.id id is in omega (arith, e)
    by false is k rest = let le = rest k in omega (arith, le)

-- the compaction of an id that has an entry lies at or above the least
pub least_below : (id : ℕ × ℕ) (entries : List Compaction) → is_some (entry_of id entries) ≡ true → least_ms entries ≤ id.0
least_below id [] h = absurd cc
least_below id (c ∷ entries) h = by (same_id c.id id) refl h
  where
    by : (b : Bool) → same_id c.id id ≡ b → is_some (if b then Some c else entry_of id entries) ≡ true → least_with c.id.0 entries ≤ id.0
    by true is k = let e = ids_same c.id id is in let le = least_first c.id.0 entries in omega (arith, e, le)
    by false is k = least_found c.id.0 id entries k

-- ---- outputs

pub neither : (a b : Option SlateDBError) → option_or a b ≡ None → (a ≡ None) × (b ≡ None)
neither None b h = (refl, h)
neither (Some e) b h = absurd (cc h)

pub at_or_above : (last next : ℕ) → clock_refusal last next ≡ None → last ≤ next
at_or_above last next h = by (nat_lt next last) refl h
  where
    by : (b : Bool) → nat_lt next last ≡ b → (let o : Option SlateDBError = if b then Some (InvalidClockTick (pos last) (pos next)) else None in o) ≡ None → last ≤ next
    by true is k = absurd (cc k)
    by false is k = grind (arith, nat_tests)

module _ (ms : ℕ) where
  -- each of these ids is from then on
  abbrev AllFrom : List (ℕ × ℕ) → Type 0
  AllFrom [] = Unit {0}
  AllFrom (id ∷ ids) = (ms ≤ id.0) × AllFrom ids

  both_from : (xs ys : List (ℕ × ℕ)) → AllFrom xs → AllFrom ys → AllFrom (xs ++ ys)
  both_from [] ys h k = k
  both_from (x ∷ xs) ys h k = (h.0, both_from xs ys h.1 k)

  table_from : (low : ℕ) → ms ≤ low → (table : SsTableId) (ids : List (ℕ × ℕ)) → table_refusal low table ≡ None → AllFrom ids → AllFrom (with_compacted table ids)
  table_from low le (Wal number) ids h k = k
  table_from low le (Compacted id) ids h k = (let up = at_or_above low id.0 h in omega (arith, le, up), k)

  handles_from : (low : ℕ) → ms ≤ low → (ssts : List SsTableHandle) → first_refusal (λ sst. table_refusal low sst.id) ssts ≡ None → AllFrom (compacted_ids ssts)
  handles_from low le [] h = tt
  handles_from low le (sst ∷ ssts) h =
      let parts = neither (table_refusal low sst.id) (first_refusal (λ x. table_refusal low x.id) ssts) h in
      table_from low le sst.id (compacted_ids ssts) parts.0 (handles_from low le ssts parts.1)

  outputs_from : (pending : List (ℕ × ℕ)) → ((id : ℕ × ℕ) → has_id pending id ≡ true → ms ≤ id.0) → (entries : List Compaction) → first_refusal outputs_refusal entries ≡ None → AllFrom (outputs_among pending entries)
  outputs_from pending late [] h = tt
  outputs_from pending late (c ∷ entries) h = by (has_id pending c.id) refl (outputs_from pending late entries parts.1)
    where
      parts : (outputs_refusal c ≡ None) × (first_refusal outputs_refusal entries ≡ None)
      parts = neither (outputs_refusal c) (first_refusal outputs_refusal entries) h

      by : (b : Bool) → has_id pending c.id ≡ b → AllFrom (outputs_among pending entries) → AllFrom (if b then compacted_ids c.output_ssts ++ outputs_among pending entries else outputs_among pending entries)
      by true is rest = both_from (compacted_ids c.output_ssts) (outputs_among pending entries) (handles_from c.id.0 (late c.id is) c.output_ssts parts.0) rest
      by false is rest = rest

  one_from : (ids : List (ℕ × ℕ)) → AllFrom ids → (id : ℕ × ℕ) → is_among (map (λ i. Compacted i) ids) (Compacted id) ≡ true → ms ≤ id.0
  one_from [] h id among = absurd (cc among)
  one_from (x ∷ ids) h id among =
      let rest : List SsTableId = map (λ i. Compacted i) ids in
      ⊎_elim
      (λ (e : same_table (Compacted id) (Compacted x) ≡ true). let same : id ≡ x = cc (same_tables (Compacted id) (Compacted x) e) in subst (λ (i : ℕ × ℕ). ms ≤ i.0) (sym same) h.0)
      (λ (e : is_among rest (Compacted id) ≡ true). one_from ids h.1 id e)
      (either (same_table (Compacted id) (Compacted x)) (is_among rest (Compacted id)) among)

-- what a compactor has pending is from the least compaction of the record on
pub pending_late : (r : Record) (local : LocalState) → IsHeldIn r local → ObeyOutputs local.compactions.entries → (id : ℕ × ℕ) → is_among (map (λ i. Compacted i) (pending_outputs local)) (Compacted id) ≡ true → least_ms r.entries ≤ id.0
pending_late r local held obey id among =
    one_from (least_ms r.entries) (pending_outputs local)
    (outputs_from (least_ms r.entries) local.pending (λ c pending. least_below c r.entries (held.pending c pending)) local.compactions.entries obey) id among
