use Rattle.std.proofs.Common.{◌≡◌, ◌++◌, drop, map}
use Rattle.slate_model_records.specs.declared.source_id.SourceId.TheVariants.{SortedRun}
use Rattle.slate_layout_parts.specs.RecordParts.{runs_in}
use Rattle.slate_layout_records.proofs.record_normal.add_runs.Given as goal

abbrev pub invariant-loop-source : goal.invariant-loop-source
invariant-loop-source l = l.made ++ map SortedRun (runs_in (drop l.source-index l.sources)) ≡ l.fn.made ++ map SortedRun (runs_in l.sources)
