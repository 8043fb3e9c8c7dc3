-- What a compaction reads, and whether it is over.
use Rattle.std.specs.Prelude.{ℕ, Bool, true, false, List}
use Rattle.slate_model_records.specs.declared.source_id.SourceId.{SourceId}
use Rattle.slate_model_records.specs.declared.compaction_spec.CompactionSpec.{CompactionSpec}
use Rattle.slate_model_records.specs.declared.compaction_spec.CompactionSpec.TheVariants.{Tiered, DrainSegment}
use Rattle.slate_model_records.specs.declared.compaction_status.CompactionStatus.{CompactionStatus}
use Rattle.slate_model_records.specs.declared.compaction_status.CompactionStatus.TheVariants.{Submitted, Scheduled, Running, Compacted, Completed, Failed}

-- the prefix of the segment that a compaction is in
abbrev pub segment_of : CompactionSpec → List ℕ
segment_of (Tiered segment sources destination) = segment
segment_of (DrainSegment segment sources) = segment

-- what a compaction reads, or lets go
abbrev pub sources_of : CompactionSpec → List SourceId
sources_of (Tiered segment sources destination) = sources
sources_of (DrainSegment segment sources) = sources

-- whether a compaction is over
abbrev pub is_terminal : CompactionStatus → Bool
is_terminal Submitted = false
is_terminal Scheduled = false
is_terminal Running = false
is_terminal Compacted = false
is_terminal Completed = true
is_terminal Failed = true
