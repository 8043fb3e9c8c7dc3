-- The bytes of records: versions 2 and 1.
use Rattle.std.specs.Prelude.{ℕ, ◌==◌, ◌&&◌, nat_le, Bool, true, false, List, [], ◌∷◌, map, Option, Some, None, Result, Err, ok_or, if◌then◌else◌}
use Rattle.slate_ids.specs.declared.error.SlateDBError.{SlateDBError}
use Rattle.slate_ids.specs.declared.error.SlateDBError.TheVariants.{Corrupt, InvalidCompaction, InvalidVersion}
use Rattle.slate_ids.specs.declared.error.FormatName.TheVariants as format
use Rattle.slate_model_tables.specs.declared.ss_table_handle.SsTableHandle.{SsTableHandle}
use Rattle.slate_model_records.specs.declared.compaction_spec.CompactionSpec.{CompactionSpec}
use Rattle.slate_model_records.specs.declared.compaction_spec.CompactionSpec.TheVariants.{Tiered}
use Rattle.slate_model_records.specs.declared.compaction_status.CompactionStatus.{CompactionStatus}
use Rattle.slate_model_records.specs.declared.compaction_status.CompactionStatus.TheVariants.{Submitted, Scheduled, Running, Compacted, Completed, Failed}
use Rattle.slate_model_records.specs.declared.worker_spec.WorkerSpec.{WorkerSpec}
use Rattle.slate_model_records.specs.declared.compaction_context.CompactionContext.{CompactionContext}
use Rattle.slate_model_records.specs.declared.compaction.Compaction.{Compaction}
use Rattle.slate_model_records.specs.Records.{Record}
use Rattle.slate_ids.specs.Ulids.{id_lt}
use Rattle.slate_layout_parts.specs.Bytes.{byte_bytes, u64_bytes, option_bytes, list_bytes, pair_bytes}
use Rattle.slate_layout_parts.specs.Reading.{◌>>=◌, u16_in, u64_in, option_in, list_in, pair_in, whole}
use Rattle.slate_layout_parts.specs.Texts.{id_bytes, id_in}
use Rattle.slate_layout_parts.specs.InfoParts.{tag_in, handle_bytes, handle_in}
use Rattle.slate_layout_parts.specs.RecordParts.{Scope, sources_of, scope_in, status_of, status_number, spec_bytes, spec_in, worker_bytes, worker_in, context_bytes, context_in}

-- ---- compactions

-- whether a compaction of this status has outputs; those of others are let go
abbrev pub has_outputs : CompactionStatus → Bool
has_outputs Submitted = false
has_outputs Scheduled = false
has_outputs Running = false
has_outputs Compacted = true
has_outputs Completed = true
has_outputs Failed = true

-- the outputs that are kept
abbrev pub kept_outputs : CompactionStatus → List SsTableHandle → List SsTableHandle
kept_outputs status outputs = if has_outputs status then outputs else []

-- status, worker, outputs, and what a worker goes on with
abbrev pub Progress : Type 0
Progress = CompactionStatus × (Option WorkerSpec × (List SsTableHandle × Option CompactionContext))

abbrev pub progress_in : List ℕ → Option (Progress × List ℕ)
progress_in = pair_in (tag_in status_of) (pair_in (option_in worker_in) (pair_in (list_in handle_in 8) (option_in context_in)))

abbrev pub progress_bytes : Progress → List ℕ
progress_bytes = pair_bytes (λ s. byte_bytes (status_number s)) (pair_bytes (option_bytes worker_bytes) (pair_bytes (list_bytes handle_bytes) (option_bytes context_bytes)))

-- id, what is to be done, and how far it is
abbrev pub Raw : Type 0
Raw = (ℕ × ℕ) × (CompactionSpec × Progress)

abbrev pub raw_in : List ℕ → Option (Raw × List ℕ)
raw_in = pair_in id_in (pair_in spec_in progress_in)

abbrev pub raw_bytes : Raw → List ℕ
raw_bytes = pair_bytes id_bytes (pair_bytes spec_bytes progress_bytes)

-- the compaction of these parts: only some statuses keep outputs
abbrev pub compaction_of : Raw → Compaction
compaction_of (id, (spec, (status, (worker, (outputs, context))))) = record {
  id = id;
  spec = spec;
  status = status;
  worker = worker;
  output_ssts = kept_outputs status outputs;
  ctx = context;
}

abbrev pub raw_of : Compaction → Raw
raw_of c = (c.id, (c.spec, (c.status, (c.worker, (kept_outputs c.status c.output_ssts, c.ctx)))))

-- the outputs of a compaction that are kept
abbrev pub kept_of : Compaction → List SsTableHandle
kept_of c = kept_outputs c.status c.output_ssts

abbrev pub compaction_bytes : Compaction → List ℕ
compaction_bytes c = raw_bytes (raw_of c)

-- ---- records

-- whether an id stands before the first of these
abbrev pub leads : ℕ × ℕ → List Raw → Bool
leads id [] = true
leads id (r ∷ raws) = id_lt id r.0

-- whether the ids ascend strictly
abbrev pub raws_ascend : List Raw → Bool
raws_ascend [] = true
raws_ascend (r ∷ raws) = leads r.0 raws && raws_ascend raws

-- the record of an epoch and its compactions, where their ids ascend strictly
abbrev pub record_of : ℕ × List Raw → Option Record
record_of p = if raws_ascend p.1 then Some (record { compactor_epoch = p.0; entries = map compaction_of p.1 }) else None

-- the bytes of a record after those of its version
abbrev pub entries_bytes : ℕ × List Raw → List ℕ
entries_bytes = pair_bytes u64_bytes (list_bytes raw_bytes)

-- the epoch and the compactions' parts of a record
abbrev pub entries_of : Record → ℕ × List Raw
entries_of r = (r.compactor_epoch, map raw_of r.entries)

abbrev pub entries_in : List ℕ → Option ((ℕ × List Raw) × List ℕ)
entries_in = pair_in u64_in (list_in raw_in 8)

abbrev pub second_record : List ℕ → Option Record
second_record bytes = whole (entries_in bytes) >>= record_of

-- ---- version 1

-- a compaction of version 1: id, scope, and how far it is
abbrev pub Old : Type 0
Old = (ℕ × ℕ) × (Scope × Progress)

abbrev pub old_in : List ℕ → Option (Old × List ℕ)
old_in = pair_in id_in (pair_in scope_in progress_in)

-- the least of a number and others
abbrev pub least_from : ℕ → List ℕ → ℕ
least_from n [] = n
least_from n (m ∷ more) = least_from (if nat_le n m then n else m) more

-- the least of these numbers; 0 where there is none
abbrev pub least_or_zero : List ℕ → ℕ
least_or_zero [] = 0
least_or_zero (n ∷ more) = least_from n more

-- each is a merge, into the least of its runs
abbrev pub spec_of : Scope → CompactionSpec
spec_of s = Tiered s.0 (sources_of s.1) (least_or_zero s.1.1)

abbrev pub raw_of_old : Old → Raw
raw_of_old o = (o.0, (spec_of o.1.0, o.1.1))

abbrev pub old_record_of : ℕ × List Old → Option Record
old_record_of p = record_of (p.0, map raw_of_old p.1)

abbrev pub first_record : List ℕ → Option Record
first_record bytes = whole (pair_in u64_in (list_in old_in 8) bytes) >>= old_record_of

-- ---- what bytes stand for

-- a record that was read; all other bytes are Corrupt
abbrev pub record_or_corrupt : Option Record → Result Record SlateDBError
record_or_corrupt r = ok_or r (Corrupt format.Compactions)

abbrev pub record_by_version : ℕ → List ℕ → Result Record SlateDBError
record_by_version version bytes = if version == 1 then record_or_corrupt (first_record bytes)
    else if version == 2 then record_or_corrupt (second_record bytes) else Err (InvalidVersion format.Compactions version)

abbrev pub record_after_version : Option (ℕ × List ℕ) → Result Record SlateDBError
record_after_version None = Err InvalidCompaction
record_after_version (Some p) = record_by_version p.0 p.1

-- the record of bytes, or why they stand for none
abbrev pub decoded_record : List ℕ → Result Record SlateDBError
decoded_record bytes = record_after_version (u16_in bytes)
