use Rattle.std.proofs.Common.{◌≡◌, ◌++◌}
use Rattle.std.specs.VecDeque.Iter.{deque_iter_rest}
use Rattle.slate_state_merges.specs.Merging as merging
use Rattle.slate_state_merges.proofs.tree_merge.front.Given as goal

-- the views so far, with the front of those that are left, are the front
abbrev pub invariant-loop-view : goal.invariant-loop-view
invariant-loop-view l = l.kept ++ merging.front l.compactor (deque_iter_rest l.view-iterator) ≡ merging.front l.compactor l.views
