use Rattle.std.proofs.Common.{◌≡◌, ◌++◌, map, take}
use Rattle.slate_model_records.specs.declared.source_id.SourceId.TheVariants.{SortedRun}
use Rattle.slate_script_databases.proofs.opening_record.push_runs.Given as goal

-- the runs so far are there
abbrev pub invariant-loop-run : goal.invariant-loop-run
invariant-loop-run l = l.sources ≡ l.fn.sources ++ map SortedRun (take l.run-index l.runs)
