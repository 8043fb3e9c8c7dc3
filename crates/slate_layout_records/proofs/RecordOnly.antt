-- What version 2 reads was written so, but for outputs that aren't kept.
use Rattle.std.specs.Prelude.{◌≡◌, ℕ, ◌<◌, ◌^◌, ◌&&◌, Bool, true, false, List, [], ◌∷◌, map, length, Option, Some, None, Ok, if◌then◌else◌, refl}
use Rattle.std.specs.List.{list_all}
use Rattle.std.proofs.Common.{ap, sym, ◌∙◌, subst}
use Rattle.std.proofs.lemmas.Bool.{and_from}
use Rattle.std.proofs.lemmas.List.{length-map}
use Rattle.slate_ids.specs.declared.error.SlateDBError.TheVariants.{Corrupt}
use Rattle.slate_ids.specs.declared.error.FormatName.TheVariants as format
use Rattle.slate_model_tables.specs.declared.ss_table_handle.SsTableHandle.{SsTableHandle}
use Rattle.slate_model_tables.specs.Tables.{is_compacted}
use Rattle.slate_model_records.specs.declared.compaction_spec.CompactionSpec.{CompactionSpec}
use Rattle.slate_model_records.specs.declared.compaction_spec.CompactionSpec.TheVariants.{Tiered, DrainSegment}
use Rattle.slate_model_records.specs.declared.worker_spec.WorkerSpec.{WorkerSpec}
use Rattle.slate_model_records.specs.declared.subcompaction.Subcompaction.{Subcompaction}
use Rattle.slate_model_records.specs.declared.compaction_context.CompactionContext.{CompactionContext}
use Rattle.slate_model_records.specs.declared.compaction.Compaction.{Compaction}
use Rattle.slate_model_records.specs.Records.{Record}
use Rattle.slate_layout_parts.specs.Reading.{whole}
use Rattle.slate_layout_parts.specs.Reads.{AreBytes, OptionFits, EachFits, ListFits}
use Rattle.slate_layout_parts.specs.InfoParts.{HandleFits}
use Rattle.slate_layout_parts.specs.InfoCodec.{unless_field}
use Rattle.slate_layout_parts.specs.Lengths.{few}
use Rattle.slate_layout_parts.specs.Typed.{none_or}
use Rattle.slate_layout_parts.specs.RecordParts.{views_in, runs_in, SpecFits, WorkerFits, PartFits, ContextFits}
use Rattle.slate_layout_parts.specs.laws.Parts.{AreBytes-rest, steps}
use Rattle.slate_layout_parts.proofs.InfoTrip.{ok_only, whole_only, all_of}
use Rattle.slate_layout_parts.proofs.Told.{all_told, option_told, is_few, range_short, range_proper, is_table}
use Rattle.slate_layout_records.specs.RecordBytes.{has_outputs, Raw, compaction_of, raws_ascend, record_of, entries_bytes, entries_in, second_record, record_after_version, decoded_record}
use Rattle.slate_layout_records.specs.RecordFields.{of_context, of_outputs, has_entries, has_ranges, has_keys_of, short_handle, short_spec, short_worker, short_part, short_context, short_compaction, record_field, record_bytes, encoded_record}
use Rattle.slate_layout_records.specs.RecordWritten.{IsWrittenAs, OnlyWritten}
use Rattle.slate_layout_records.proofs.RecordFitting.{RawFits, kept_pass, kept_few}
use Rattle.slate_layout_records.proofs.RecordTrip.{EntriesFit, entries_reads, version_of}
use Rattle.slate_layout_records.proofs.RecordKept.{none_missing}

-- ---- what a worker goes on with

module _ (test : SsTableHandle → Bool) (tell : (h : SsTableHandle) → HandleFits h → test h ≡ true) where
  part_passes : (s : Subcompaction) → PartFits s → list_all test s.output_ssts ≡ true
  part_passes s fits = all_told HandleFits test tell s.output_ssts fits.fits.1.each

  context_passes : (c : CompactionContext) → ContextFits c → of_context test c ≡ true
  context_passes c fits = all_told PartFits (λ s. list_all test s.output_ssts) part_passes c.subcompactions fits.fits.0.each

  -- all outputs that are kept, and all that the parts wrote
  outputs_pass : (raw : Raw) → RawFits raw → of_outputs test (compaction_of raw) ≡ true
  outputs_pass raw fits =
      and_from _ _
      (kept_pass (has_outputs raw.1.1.0) test raw.1.1.1.1.0 (all_told HandleFits test tell raw.1.1.1.1.0 fits.1.1.1.1.0.each))
      (option_told ContextFits (of_context test) context_passes raw.1.1.1.1.1 fits.1.1.1.1.1)

ranges_pass : (c : CompactionContext) → ContextFits c → has_ranges c ≡ true
ranges_pass c fits = all_told PartFits _ (λ s f. range_proper s.range f.fits.0) c.subcompactions fits.fits.0.each

-- ---- lengths

part_short : (s : Subcompaction) → PartFits s → short_part s ≡ true
part_short s fits =
    and_from _ _ (range_short s.range fits.fits.0) (and_from _ _ (is_few (length s.output_ssts) fits.fits.1.few) (all_told HandleFits short_handle (λ h f. (is_table h f).short) s.output_ssts fits.fits.1.each))

context_short : (c : CompactionContext) → ContextFits c → short_context c ≡ true
context_short c fits = and_from _ _ (is_few (length c.subcompactions) fits.fits.0.few) (all_told PartFits short_part part_short c.subcompactions fits.fits.0.each)

worker_short : (w : WorkerSpec) → WorkerFits w → short_worker w ≡ true
worker_short w fits = is_few (length w.worker_id) fits.fits.0.fits

spec_short : (s : CompactionSpec) → SpecFits s → short_spec s ≡ true
spec_short (Tiered segment sources destination) fits =
    and_from _ _ (is_few (length segment) fits.fits.0.0) (and_from _ _ (is_few (length (views_in sources)) fits.fits.0.1.0.few) (is_few (length (runs_in sources)) fits.fits.0.1.1.few))
spec_short (DrainSegment segment sources) fits =
    and_from _ _ (is_few (length segment) fits.fits.0) (and_from _ _ (is_few (length (views_in sources)) fits.fits.1.0.few) (is_few (length (runs_in sources)) fits.fits.1.1.few))

-- ---- compactions

keys_pass : (raw : Raw) → RawFits raw → has_keys_of (compaction_of raw) ≡ true
keys_pass raw fits =
    and_from _ _ (outputs_pass has_entries (λ h f. (is_table h f).entries) raw fits) (option_told ContextFits has_ranges ranges_pass raw.1.1.1.1.1 fits.1.1.1.1.1)

compaction_short : (raw : Raw) → RawFits raw → short_compaction (compaction_of raw) ≡ true
compaction_short raw fits =
    let outputs = fits.1.1.1.1.0 in
    and_from _ _ (spec_short raw.1.0 fits.1.0) (and_from _ _ (option_told WorkerFits short_worker worker_short raw.1.1.1.0 fits.1.1.1.0) (and_from _ _
    (and_from _ _
    (kept_few (has_outputs raw.1.1.0) raw.1.1.1.1.0 (is_few (length raw.1.1.1.1.0) outputs.few))
    (kept_pass (has_outputs raw.1.1.0) short_handle raw.1.1.1.1.0 (all_told HandleFits short_handle (λ h f. (is_table h f).short) raw.1.1.1.1.0 outputs.each)))
    (option_told ContextFits short_context context_short raw.1.1.1.1.1 fits.1.1.1.1.1)))

made_pass : (test : Compaction → Bool) → ((raw : Raw) → RawFits raw → test (compaction_of raw) ≡ true) → (raws : List Raw) → EachFits RawFits raws → list_all test (map compaction_of raws) ≡ true
made_pass test tell [] fits = refl
made_pass test tell (raw ∷ raws) fits = and_from _ _ (tell raw fits.0) (made_pass test tell raws fits.1)

-- ---- records

-- the record of an epoch and parts
abbrev made_record : ℕ × List Raw → Record
made_record p = record { compactor_epoch = p.0; entries = map compaction_of p.1 }

field_missing : (p : ℕ × List Raw) → EntriesFit p → record_field (made_record p) ≡ None
unfolding EntriesFit
field_missing p fits =
    none_missing _ _ _
    (made_pass (of_outputs (λ h. is_compacted h.id)) (λ raw f. outputs_pass (λ h. is_compacted h.id) (λ h g. (is_table h g).compacted) raw f) p.1 fits.1.each)
    (made_pass has_keys_of keys_pass p.1 fits.1.each)
    (and_from _ _ (ap few (length-map p.1 compaction_of) ∙ is_few (length p.1) fits.1.few) (made_pass short_compaction compaction_short p.1 fits.1.each))

written_as : (p : ℕ × List Raw) (rest : List ℕ) → EntriesFit p → entries_bytes p ≡ rest → IsWrittenAs (made_record p) (0 ∷ 2 ∷ rest)
written_as p rest fits is = record {
  raws = p.1;
  are_entries = refl;
  is = ap (λ (l : List ℕ). 0 ∷ 2 ∷ l) is;
  has_bytes = ap (λ f. unless_field f (record_bytes (made_record p))) (field_missing p fits);
}

made_by : (b : Bool) (p : ℕ × List Raw) (r : Record) → (if b then Some (made_record p) else None) ≡ Some r → made_record p ≡ r
made_by true p r e = cc
made_by false p r e = absurd cc

-- what version 2 reads was written so
pub only_second_record : (rest : List ℕ) (r : Record) → AreBytes rest → second_record rest ≡ Some r → IsWrittenAs r (0 ∷ 2 ∷ rest)
only_second_record rest r small e =
    let s = steps (whole (entries_in rest)) record_of r e in
    let one = entries_reads.only rest s.value [] small (whole_only (entries_in rest) s.value s.at_first) in
    let made = made_by (raws_ascend s.value.1) s.value r s.at_next in
    subst (λ (t : Record). IsWrittenAs t (0 ∷ 2 ∷ rest)) made (written_as s.value rest one.fits (all_of (entries_bytes s.value) rest one.front_is))

decoded_by : (rest : List ℕ) (r : Record) → decoded_record (0 ∷ 2 ∷ rest) ≡ Ok r → second_record rest ≡ Some r
decoded_by rest r e = ok_only (second_record rest) (Corrupt format.Compactions) r (sym (ap record_after_version (version_of rest)) ∙ e)

pub only_written : (bytes : List ℕ) (r : Record) → AreBytes bytes → decoded_record bytes ≡ Ok r → OnlyWritten bytes r
only_written bytes r small e rest is =
    let all : AreBytes (0 ∷ 2 ∷ rest) = subst (λ (l : List ℕ). AreBytes l) is small in
    let left = AreBytes-rest 2 rest (AreBytes-rest 0 (2 ∷ rest) all) in
    subst (λ (l : List ℕ). IsWrittenAs r l) (sym is) (only_second_record rest r left (decoded_by rest r (subst (λ (l : List ℕ). decoded_record l ≡ Ok r) is e)))
