use Rattle.std.proofs.Common.{◌≡◌, ◌++◌, map}
use Rattle.std.specs.VecDeque.Iter.{deque_iter_rest}
use Rattle.slate_cluster_opening.proofs.ids.view_ids.Given as goal

-- the ids so far and the views that are left
abbrev pub invariant-loop-view : goal.invariant-loop-view
invariant-loop-view l = l.ids.items ++ map (λ v. v.id) (deque_iter_rest l.view-iterator) ≡ map (λ v. v.id) l.views.items
