use Rattle.std.proofs.Common.{◌≡◌, take}
use Rattle.slate_model_tables.specs.SortedRuns.{run_size}
use Rattle.slate_model_tables.proofs.sorted_run.SortedRun.estimate_size.Given as goal

-- the size of the views so far
abbrev pub invariant-loop-view : goal.invariant-loop-view
invariant-loop-view l = l.size ≡ run_size (take l.view-index l.view-items)
