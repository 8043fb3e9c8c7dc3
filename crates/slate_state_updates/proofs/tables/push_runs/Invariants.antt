use Rattle.std.proofs.Common.{◌≡◌, ◌++◌, drop}
use Rattle.slate_model.specs.Trees.{tables_of_views, views_of_runs}
use Rattle.slate_state_updates.proofs.tables.push_runs.Given as goal

-- the tables so far and those of the runs that are left
abbrev pub invariant-loop-run : goal.invariant-loop-run
invariant-loop-run l = l.ids ++ tables_of_views (views_of_runs (drop l.run-index l.tree.compacted)) ≡ l.fn.ids ++ tables_of_views (views_of_runs l.tree.compacted)
