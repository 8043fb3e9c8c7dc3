use Rattle.std.proofs.Common.{◌≡◌, ◌++◌, drop}
use Rattle.slate_model.specs.Trees.{tables_of_views}
use Rattle.slate_state_updates.proofs.tables.push_tables.Given as goal

-- the tables so far and those of the views that are left
abbrev pub invariant-loop-view : goal.invariant-loop-view
invariant-loop-view l = l.ids ++ tables_of_views (drop l.view-index l.views) ≡ l.fn.ids ++ tables_of_views l.views
