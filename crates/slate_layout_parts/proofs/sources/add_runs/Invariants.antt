use Rattle.std.proofs.Common.{◌≡◌, ◌++◌, drop, map}
use Rattle.slate_model_records.specs.declared.source_id.SourceId.TheVariants.{SortedRun}
use Rattle.slate_layout_parts.proofs.sources.add_runs.Given as goal

abbrev pub invariant-loop-run : goal.invariant-loop-run
invariant-loop-run l = l.sources ++ map SortedRun (drop l.run-index l.runs) ≡ l.fn.sources ++ map SortedRun l.runs
