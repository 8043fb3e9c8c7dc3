use Rattle.std.proofs.Common.{◌≡◌, ◌++◌, map, drop}
use Rattle.std.specs.List.{filter}
use Rattle.slate_script_databases.specs.Databases.{is_run_of, run_of}
use Rattle.slate_script_databases.proofs.trees.runs_in.Given as goal

-- the runs of the items that are left come after those so far
abbrev pub invariant-loop-item : goal.invariant-loop-item
invariant-loop-item l = l.runs ++ map run_of (filter (is_run_of l.prefix) (drop l.item-index l.items)) ≡ map run_of (filter (is_run_of l.prefix) l.items)
