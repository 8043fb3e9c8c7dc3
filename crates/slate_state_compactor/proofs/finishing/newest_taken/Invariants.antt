use Rattle.std.proofs.Common.{◌≡◌}
use Rattle.std.specs.BTreeSet.{contains}
use Rattle.std.specs.VecDeque.Iter.{deque_iter_rest}
use Rattle.slate_state_compactor.specs.Finishing.{newest_taken}
use Rattle.slate_state_compactor.proofs.finishing.newest_taken.Given as goal
use Rattle.slate_ids.specs.Ulids.{id_cmp}

-- none is taken so far
abbrev pub invariant-loop-view : goal.invariant-loop-view
invariant-loop-view l = newest_taken (contains id_cmp l.taken) (deque_iter_rest l.view-iterator) ≡ newest_taken (contains id_cmp l.taken) l.views.items
