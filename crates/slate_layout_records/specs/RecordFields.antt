-- What of a record has no bytes, and which records are of their type.
use Rattle.std.specs.Prelude.{ℕ, ◌&&◌, not, Bool, List, ◌∷◌, length, map, Option, Some, None, Result, if◌then◌else◌}
use Rattle.std.specs.List.{list_all}
use Rattle.slate_ids.specs.KeyRange.{is_proper}
use Rattle.slate_ids.specs.declared.error.SlateDBError.{SlateDBError}
use Rattle.slate_ids.specs.declared.error.FieldName.{FieldName}
use Rattle.slate_ids.specs.declared.error.FieldName.TheVariants.{WalId, NoKeys, Length}
use Rattle.slate_model_tables.specs.declared.ss_table_handle.SsTableHandle.{SsTableHandle}
use Rattle.slate_model_tables.specs.Tables.{is_compacted}
use Rattle.slate_model_records.specs.declared.compaction_spec.CompactionSpec.{CompactionSpec}
use Rattle.slate_model_records.specs.declared.worker_spec.WorkerSpec.{WorkerSpec}
use Rattle.slate_model_records.specs.declared.subcompaction.Subcompaction.{Subcompaction}
use Rattle.slate_model_records.specs.declared.compaction_context.CompactionContext.{CompactionContext}
use Rattle.slate_model_records.specs.declared.compaction.Compaction.{Compaction}
use Rattle.slate_model_records.specs.Compactions.{segment_of, sources_of}
use Rattle.slate_model_records.specs.Records.{Record, are_ascending}
use Rattle.slate_layout_parts.specs.Bytes.{is_u64}
use Rattle.slate_layout_parts.specs.InfoParts.{are_entries}
use Rattle.slate_layout_parts.specs.InfoCodec.{is_short, unless_field}
use Rattle.slate_layout_parts.specs.Lengths.{few, short_bound}
use Rattle.slate_layout_parts.specs.Typed.{none_or, is_handle}
use Rattle.slate_ids.specs.Ulids.{is_id}
use Rattle.slate_layout_parts.specs.RecordParts.{views_in, runs_in}
use Rattle.slate_layout_records.specs.RecordBytes.{raw_of, kept_of, entries_bytes}
use Rattle.slate_layout_parts.specs.TypedCompactions.{is_context, is_spec, is_worker}

-- ---- tests of all outputs

-- whether a test passes of all tables that the parts of a context wrote
abbrev pub of_context : (SsTableHandle → Bool) → CompactionContext → Bool
of_context test c = list_all (λ s. list_all test s.output_ssts) c.subcompactions

-- whether a test passes of all outputs of a compaction, also of those that aren't kept
abbrev pub of_outputs : (SsTableHandle → Bool) → Compaction → Bool
of_outputs test c = list_all test c.output_ssts && none_or (of_context test) c.ctx

-- ---- fields

abbrev pub has_entries : SsTableHandle → Bool
has_entries h = are_entries h.info.first_entry h.info.last_entry

-- whether the ranges of the parts of a context are proper
abbrev pub has_ranges : CompactionContext → Bool
has_ranges c = list_all (λ s. is_proper s.range) c.subcompactions

-- whether what is known of a compaction's outputs has bytes, and its ranges do
abbrev pub has_keys_of : Compaction → Bool
has_keys_of c = of_outputs has_entries c && none_or has_ranges c.ctx

abbrev pub short_handle : SsTableHandle → Bool
short_handle h = is_short h.info.first_entry && is_short h.info.last_entry

abbrev pub short_spec : CompactionSpec → Bool
short_spec s = few (length (segment_of s)) && (few (length (views_in (sources_of s))) && few (length (runs_in (sources_of s))))

abbrev pub short_worker : WorkerSpec → Bool
short_worker w = few (length w.worker_id)

abbrev pub short_part : Subcompaction → Bool
short_part s = (short_bound s.range.start && short_bound s.range.end) && (few (length s.output_ssts) && list_all short_handle s.output_ssts)

abbrev pub short_context : CompactionContext → Bool
short_context c = few (length c.subcompactions) && list_all short_part c.subcompactions

-- whether all lengths of a compaction have 32 bits
abbrev pub short_compaction : Compaction → Bool
short_compaction c = short_spec c.spec && (none_or short_worker c.worker && ((few (length c.output_ssts) && list_all short_handle c.output_ssts) && none_or short_context c.ctx))

-- the first field of a record that has no bytes
abbrev pub record_field : Record → Option FieldName
record_field r = if not (list_all (of_outputs (λ h. is_compacted h.id)) r.entries) then Some WalId
    else if not (list_all has_keys_of r.entries) then Some NoKeys
    else if not (few (length r.entries) && list_all short_compaction r.entries) then Some Length else None

-- ---- the bytes

abbrev pub record_bytes : Record → List ℕ
record_bytes r = 0 ∷ 2 ∷ entries_bytes (r.compactor_epoch, map raw_of r.entries)

-- the bytes of a record, or the first field that has none
abbrev pub encoded_record : Record → Result (List ℕ) SlateDBError
encoded_record r = unless_field (record_field r) (record_bytes r)

-- ---- records of their types

-- a compaction whose kept outputs are of their type
abbrev pub is_compaction : Compaction → Bool
is_compaction c = is_id c.id && (is_spec c.spec && (none_or is_worker c.worker && (list_all is_handle (kept_of c) && none_or is_context c.ctx)))

-- a record of its type
abbrev pub is_record : Record → Bool
is_record r = is_u64 r.compactor_epoch && (list_all is_compaction r.entries && are_ascending r.entries)
