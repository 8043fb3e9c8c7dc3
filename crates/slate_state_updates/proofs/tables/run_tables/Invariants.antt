use Rattle.std.proofs.Common.{◌≡◌, ◌++◌}
use Rattle.std.specs.List.{flat_map}
use Rattle.slate_model.specs.Trees.{tables_of_views, views_of_runs}
use Rattle.slate_state_updates.specs.RunTables.{run_tables}
use Rattle.slate_state_updates.proofs.tables.run_tables.Given as goal

-- the tables so far and those of the trees that are left
abbrev pub invariant-loop-tree : goal.invariant-loop-tree
invariant-loop-tree l = l.ids ++ flat_map (λ tree. tables_of_views (views_of_runs tree.compacted)) l.tree-iterator ≡ run_tables l.core
