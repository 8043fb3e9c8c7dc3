-- What is read back of a record.
use Rattle.std.specs.Prelude.{List, map, Some, unwrap_or}
use Rattle.std.specs.Option.{option_map}
use Rattle.slate_model_records.specs.declared.source_id.SourceId.{SourceId}
use Rattle.slate_model_records.specs.declared.compaction_spec.CompactionSpec.{CompactionSpec}
use Rattle.slate_model_records.specs.declared.compaction_spec.CompactionSpec.TheVariants.{Tiered, DrainSegment}
use Rattle.slate_model_records.specs.declared.compaction_context.CompactionContext.{CompactionContext}
use Rattle.slate_model_records.specs.declared.compaction.Compaction.{Compaction}
use Rattle.slate_model_records.specs.Records.{Record}
use Rattle.slate_layout_parts.specs.RecordParts.{views_in, runs_in, sources_of}
use Rattle.slate_layout_records.specs.RecordBytes.{kept_outputs}

-- views first, then runs
abbrev pub normal_sources : List SourceId → List SourceId
normal_sources sources = sources_of (views_in sources, runs_in sources)

abbrev pub normal_spec : CompactionSpec → CompactionSpec
normal_spec (Tiered segment sources destination) = Tiered segment (normal_sources sources) destination
normal_spec (DrainSegment segment sources) = DrainSegment segment (normal_sources sources)

-- a retention that isn't known is 0
abbrev pub normal_context : CompactionContext → CompactionContext
normal_context c = record c { retention_min_seq = Some (unwrap_or c.retention_min_seq 0) }

-- only some statuses keep outputs
abbrev pub normal_compaction : Compaction → Compaction
normal_compaction c = record c { spec = normal_spec c.spec; output_ssts = kept_outputs c.status c.output_ssts; ctx = option_map normal_context c.ctx }

-- the normal form of a record
abbrev pub normal_record : Record → Record
normal_record r = record r { entries = map normal_compaction r.entries }
