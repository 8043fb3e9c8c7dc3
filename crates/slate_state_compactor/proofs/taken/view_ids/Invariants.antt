use Rattle.std.proofs.Common.{◌≡◌, ◌++◌}
use Rattle.std.specs.VecDeque.Iter.{deque_iter_rest}
use Rattle.slate_state_compactor.specs.Sources.{view_ids}
use Rattle.slate_state_compactor.proofs.taken.view_ids.Given as goal

-- the ids so far and those that are left
abbrev pub invariant-loop-view : goal.invariant-loop-view
invariant-loop-view l = l.ids ++ view_ids (deque_iter_rest l.view-iterator) ≡ view_ids l.views.items
