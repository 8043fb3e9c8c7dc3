use Rattle.std.proofs.Common.{◌≡◌, false}
use Rattle.std.specs.BTreeSet.{contains}
use Rattle.std.specs.VecDeque.Iter.{deque_iter_rest}
use Rattle.slate_state_compactor.specs.Sources.{takes_on}
use Rattle.slate_state_compactor.proofs.finishing.is_suffix.Given as goal
use Rattle.slate_ids.specs.Ulids.{id_cmp}

-- the views that are left decide
abbrev pub invariant-loop-view : goal.invariant-loop-view
invariant-loop-view l = takes_on l.begun (contains id_cmp l.taken) (deque_iter_rest l.view-iterator) ≡ takes_on false (contains id_cmp l.taken) l.views.items
