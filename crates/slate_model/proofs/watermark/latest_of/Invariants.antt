use Rattle.std.proofs.Common.{◌≡◌}
use Rattle.std.specs.VecDeque.Iter.{deque_iter_rest}
use Rattle.slate_model.specs.Watermark.{later, latest, timed_ids}
use Rattle.slate_model.proofs.watermark.latest_of.Given as goal

-- the best so far and the best of those that are left
abbrev pub invariant-loop-view : goal.invariant-loop-view
invariant-loop-view l = later l.best (latest (timed_ids (deque_iter_rest l.view-iterator))) ≡ latest (timed_ids l.views.items)
