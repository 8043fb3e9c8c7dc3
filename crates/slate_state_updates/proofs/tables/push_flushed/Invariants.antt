use Rattle.std.proofs.Common.{◌≡◌, ◌++◌}
use Rattle.std.specs.VecDeque.Iter.{deque_iter_rest}
use Rattle.slate_model.specs.Trees.{tables_of_views}
use Rattle.slate_state_updates.proofs.tables.push_flushed.Given as goal

-- the tables so far and those of the views that are left
abbrev pub invariant-loop-view : goal.invariant-loop-view
invariant-loop-view l = l.ids ++ tables_of_views (deque_iter_rest l.view-iterator) ≡ l.fn.ids ++ tables_of_views l.tree.l0
