use Rattle.std.proofs.Common.{◌≡◌, ◌++◌}
use Rattle.std.specs.BTreeSet.{contains}
use Rattle.std.specs.VecDeque.Iter.{deque_iter_rest}
use Rattle.slate_state_compactor.specs.Finishing.{views_left}
use Rattle.slate_state_compactor.proofs.finishing.views_left.Given as goal
use Rattle.slate_ids.specs.Ulids.{id_cmp}

-- the views so far and those that are left
abbrev pub invariant-loop-view : goal.invariant-loop-view
invariant-loop-view l = l.left ++ views_left (contains id_cmp l.taken) (deque_iter_rest l.view-iterator) ≡ views_left (contains id_cmp l.taken) l.views.items
