use Rattle.std.proofs.Common.{◌≡◌, ◌++◌}
use Rattle.slate_model.specs.Trees.{tables_of, tables_of_views}
use Rattle.slate_state_updates.proofs.tables.all_tables.Given as goal

-- the tables so far and those of the views that are left
abbrev pub invariant-loop-view : goal.invariant-loop-view
invariant-loop-view l = l.ids ++ tables_of_views l.view-iterator ≡ tables_of l.core
