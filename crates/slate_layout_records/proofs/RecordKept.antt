-- The normal form of a record has the same bytes.
use Rattle.std.specs.Prelude.{◌≡◌, ℕ, ◌&&◌, ◌++◌, not, Bool, true, false, List, [], ◌∷◌, map, length, Option, Some, None, Ok, if◌then◌else◌, refl}
use Rattle.std.specs.List.{list_all, flat_map}
use Rattle.std.specs.Option.{option_map}
use Rattle.std.proofs.Common.{ap, sym, ◌∙◌}
use Rattle.std.proofs.lemmas.Bool.{and_parts, and_from}
use Rattle.std.proofs.lemmas.List.{length-map}
use Rattle.slate_ids.specs.declared.error.FieldName.TheVariants.{WalId, NoKeys, Length}
use Rattle.slate_model_tables.specs.declared.ss_table_handle.SsTableHandle.{SsTableHandle}
use Rattle.slate_model_tables.specs.Tables.{is_compacted}
use Rattle.slate_model_records.specs.declared.source_id.SourceId.{SourceId}
use Rattle.slate_model_records.specs.declared.compaction_spec.CompactionSpec.{CompactionSpec}
use Rattle.slate_model_records.specs.declared.compaction_spec.CompactionSpec.TheVariants.{Tiered, DrainSegment}
use Rattle.slate_model_records.specs.declared.compaction_context.CompactionContext.{CompactionContext}
use Rattle.slate_model_records.specs.declared.compaction.Compaction.{Compaction}
use Rattle.slate_model_records.specs.Records.{Record}
use Rattle.slate_layout_parts.specs.InfoCodec.{unless_field}
use Rattle.slate_layout_parts.specs.Lengths.{few}
use Rattle.slate_layout_parts.specs.Typed.{none_or}
use Rattle.slate_layout_parts.specs.Bytes.{u32_bytes, u64_bytes}
use Rattle.slate_layout_parts.specs.RecordParts.{views_in, runs_in}
use Rattle.slate_layout_parts.specs.laws.Compacting.{views_back, runs_back}
use Rattle.slate_layout_records.specs.RecordBytes.{has_outputs, raw_bytes, raw_of}
use Rattle.slate_layout_records.specs.RecordNormal.{normal_sources, normal_spec, normal_context, normal_compaction, normal_record}
use Rattle.slate_layout_records.specs.RecordFields.{of_context, of_outputs, has_entries, has_ranges, has_keys_of, short_handle, short_spec, short_worker, short_context, short_compaction, record_field, record_bytes, encoded_record}
use Rattle.slate_layout_records.proofs.RecordFitting.{normal_raw, bytes_kept, kept_pass, kept_few, kept_twice}
use Rattle.slate_layout_records.proofs.RecordTrip.{IsWhole, is_whole, bytes_of}

-- ---- fields of a compaction

context_told : (test : CompactionContext → Bool) → ((c : CompactionContext) → test (normal_context c) ≡ test c) → (o : Option CompactionContext) → none_or test (option_map normal_context o) ≡ none_or test o
context_told test kept None = refl
context_told test kept (Some c) = kept c

outputs_pass : (test : SsTableHandle → Bool) (c : Compaction) → of_outputs test c ≡ true → of_outputs test (normal_compaction c) ≡ true
outputs_pass test c h =
    let p = and_parts (list_all test c.output_ssts) (none_or (of_context test) c.ctx) h in
    and_from _ _ (kept_pass (has_outputs c.status) test c.output_ssts p.0) (context_told (of_context test) (λ x. refl) c.ctx ∙ p.1)

keys_pass : (c : Compaction) → has_keys_of c ≡ true → has_keys_of (normal_compaction c) ≡ true
keys_pass c h =
    let p = and_parts (of_outputs has_entries c) (none_or has_ranges c.ctx) h in
    and_from _ _ (outputs_pass has_entries c p.0) (context_told has_ranges (λ x. refl) c.ctx ∙ p.1)

-- lengths of a scope
abbrev short_scope : ℕ → ℕ → ℕ → Bool
short_scope segment views runs = few segment && (few views && few runs)

lengths : (segment : List ℕ) (sources : List SourceId) → short_scope (length segment) (length (views_in (normal_sources sources))) (length (runs_in (normal_sources sources))) ≡ short_scope (length segment) (length (views_in sources)) (length (runs_in sources))
lengths segment sources =
    ap (λ (l : List (ℕ × ℕ)). short_scope (length segment) (length l) (length (runs_in (normal_sources sources)))) (views_back (views_in sources) (runs_in sources))
    ∙ ap (λ (l : List ℕ). short_scope (length segment) (length (views_in sources)) (length l)) (runs_back (views_in sources) (runs_in sources))

spec_told : (s : CompactionSpec) → short_spec (normal_spec s) ≡ short_spec s
spec_told (Tiered segment sources destination) = lengths segment sources
spec_told (DrainSegment segment sources) = lengths segment sources

short_pass : (c : Compaction) → short_compaction c ≡ true → short_compaction (normal_compaction c) ≡ true
short_pass c h =
    let s0 = and_parts (short_spec c.spec) _ h in
    let s1 = and_parts (none_or short_worker c.worker) _ s0.1 in
    let s2 = and_parts (few (length c.output_ssts) && list_all short_handle c.output_ssts) (none_or short_context c.ctx) s1.1 in
    let s3 = and_parts (few (length c.output_ssts)) (list_all short_handle c.output_ssts) s2.0 in
    and_from _ _ (spec_told c.spec ∙ s0.0) (and_from _ _ s1.0 (and_from _ _ (and_from _ _ (kept_few (has_outputs c.status) c.output_ssts s3.0) (kept_pass (has_outputs c.status) short_handle c.output_ssts s3.1)) (context_told short_context (λ x. refl) c.ctx ∙ s2.1)))

-- ---- fields of a record

all_pass : (test : Compaction → Bool) → ((c : Compaction) → test c ≡ true → test (normal_compaction c) ≡ true) → (cs : List Compaction) → list_all test cs ≡ true → list_all test (map normal_compaction cs) ≡ true
all_pass test pass [] h = refl
all_pass test pass (c ∷ cs) h = let p = and_parts (test c) (list_all test cs) h in and_from _ _ (pass c p.0) (all_pass test pass cs p.1)

pub none_missing : (a b c : Bool) → a ≡ true → b ≡ true → c ≡ true → (if not a then Some WalId else if not b then Some NoKeys else if not c then Some Length else None) ≡ None
none_missing true true true h g f = refl
none_missing true true false h g f = absurd cc
none_missing true false c h g f = absurd cc
none_missing false b c h g f = absurd cc

field_none : (r : Record) → IsWhole r → record_field (normal_record r) ≡ None
field_none r w =
    none_missing _ _ _
    (all_pass (of_outputs (λ h. is_compacted h.id)) (outputs_pass (λ h. is_compacted h.id)) r.entries w.compacted)
    (all_pass has_keys_of keys_pass r.entries w.keys)
    (and_from _ _ (ap few (length-map r.entries normal_compaction) ∙ w.few_entries) (all_pass short_compaction short_pass r.entries w.short))

-- ---- bytes

-- the parts of a normal form are those of its own
raw_kept : (c : Compaction) → raw_of (normal_compaction c) ≡ normal_raw c
raw_kept c = ap (λ (l : List SsTableHandle). (c.id, (normal_spec c.spec, (c.status, (c.worker, (l, option_map normal_context c.ctx)))))) (kept_twice (has_outputs c.status) c.output_ssts)

raws_told : (cs : List Compaction) → flat_map raw_bytes (map raw_of (map normal_compaction cs)) ≡ flat_map raw_bytes (map raw_of cs)
raws_told [] = refl
raws_told (c ∷ cs) =
    ap (λ (l : List ℕ). l ++ flat_map raw_bytes (map raw_of (map normal_compaction cs))) (ap raw_bytes (raw_kept c) ∙ bytes_kept c)
    ∙ ap (λ (l : List ℕ). raw_bytes (raw_of c) ++ l) (raws_told cs)

count_told : (cs : List Compaction) → length (map raw_of (map normal_compaction cs)) ≡ length (map raw_of cs)
count_told cs = length-map (map normal_compaction cs) raw_of ∙ length-map cs normal_compaction ∙ sym (length-map cs raw_of)

bytes_told : (r : Record) → record_bytes (normal_record r) ≡ record_bytes r
bytes_told r =
    ap (λ n. 0 ∷ 2 ∷ (u64_bytes r.compactor_epoch ++ (u32_bytes n ++ flat_map raw_bytes (map raw_of (map normal_compaction r.entries))))) (count_told r.entries)
    ∙ ap (λ (l : List ℕ). 0 ∷ 2 ∷ (u64_bytes r.compactor_epoch ++ (u32_bytes (length (map raw_of r.entries)) ++ l))) (raws_told r.entries)

-- the normal form of a record that has bytes has the same ones
pub record_same : (r : Record) (bytes : List ℕ) → encoded_record r ≡ Ok bytes → encoded_record (normal_record r) ≡ Ok bytes
record_same r bytes h =
    let e = bytes_of (record_field r) (record_bytes r) bytes h in
    ap (λ f. unless_field f (record_bytes (normal_record r))) (field_none r (is_whole r e.0))
    ∙ ap (λ (l : List ℕ). Ok l) (bytes_told r ∙ e.1)
