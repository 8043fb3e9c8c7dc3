-- What a compaction is to do and what its worker has done, of their types.
use Rattle.std.specs.Prelude.{◌&&◌, Bool, List, unwrap_or}
use Rattle.std.specs.List.{list_all}
use Rattle.std.specs.Str.{is_utf8}
use Rattle.slate_model_records.specs.declared.source_id.SourceId.{SourceId}
use Rattle.slate_model_records.specs.declared.compaction_spec.CompactionSpec.{CompactionSpec}
use Rattle.slate_model_records.specs.declared.compaction_spec.CompactionSpec.TheVariants.{Tiered, DrainSegment}
use Rattle.slate_model_records.specs.declared.worker_spec.WorkerSpec.{WorkerSpec}
use Rattle.slate_model_records.specs.declared.subcompaction.Subcompaction.{Subcompaction}
use Rattle.slate_model_records.specs.declared.compaction_context.CompactionContext.{CompactionContext}
use Rattle.slate_layout_parts.specs.Bytes.{is_u64}
use Rattle.slate_layout_parts.specs.Typed.{is_u32, is_handle}
use Rattle.slate_ids.specs.Ulids.{is_id}
use Rattle.slate_layout_parts.specs.RecordParts.{views_in, runs_in}

-- the ids and numbers of sources
abbrev pub is_scope : List SourceId → Bool
is_scope sources = list_all is_id (views_in sources) && list_all is_u32 (runs_in sources)

abbrev pub is_spec : CompactionSpec → Bool
is_spec (Tiered segment sources destination) = is_scope sources && is_u32 destination
is_spec (DrainSegment segment sources) = is_scope sources

abbrev pub is_worker : WorkerSpec → Bool
is_worker w = is_utf8 w.worker_id && is_u64 w.last_heartbeat_ms

abbrev pub is_part : Subcompaction → Bool
is_part s = list_all is_handle s.output_ssts

abbrev pub is_context : CompactionContext → Bool
is_context c = list_all is_part c.subcompactions && is_u64 (unwrap_or c.retention_min_seq 0)
