-- Whether a record is its own normal form: what is read back of its bytes.
use Rattle.std.specs.Prelude.{◌==◌, ◌&&◌, ◌||◌, Bool, true, false, List, [], ◌∷◌, length, Option, Some, None, is_some}
use Rattle.std.specs.List.{list_all}
use Rattle.slate_model_records.specs.Compactions.{sources_of}
use Rattle.slate_model_records.specs.Records.{Record}
use Rattle.slate_model_records.specs.declared.compaction.Compaction.{Compaction}
use Rattle.slate_model_records.specs.declared.compaction_context.CompactionContext.{CompactionContext}
use Rattle.slate_model_records.specs.declared.source_id.SourceId.{SourceId}
use Rattle.slate_model_records.specs.declared.source_id.SourceId.TheVariants.{SstView, SortedRun}
use Rattle.slate_layout_records.specs.RecordBytes.{has_outputs}

-- whether a source is a run
abbrev pub is_run : SourceId → Bool
is_run (SstView id) = false
is_run (SortedRun n) = true

-- whether views come first, and then runs
abbrev pub are_views_first : List SourceId → Bool
are_views_first [] = true
are_views_first (SstView id ∷ sources) = are_views_first sources
are_views_first (SortedRun n ∷ sources) = list_all is_run sources

-- whether the retention is known, where there is something to go on with
abbrev pub is_normal_context : Option CompactionContext → Bool
is_normal_context None = true
is_normal_context (Some context) = is_some context.retention_min_seq

-- whether a compaction's sources are in order, its context is normal, and its outputs are kept at its status
abbrev pub is_normal_compaction : Compaction → Bool
is_normal_compaction c = are_views_first (sources_of c.spec) && ((has_outputs c.status || length c.output_ssts == 0) && is_normal_context c.ctx)

-- whether a record is its own normal form
abbrev pub is_normal_record : Record → Bool
is_normal_record r = list_all is_normal_compaction r.entries
