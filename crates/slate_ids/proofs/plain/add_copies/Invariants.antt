use Rattle.std.proofs.Common.{◌≡◌, ◌++◌, length}
use Rattle.slate_ids.proofs.plain.add_copies.Given as goal

-- the values so far are copied, and the others are left
abbrev pub invariant-loop-item : goal.invariant-loop-item
invariant-loop-item g l = l.copied.items ++ g.W.Walk.left l.walk ≡ l.fn.copied.items ++ g.W.Walk.left l.fn.walk

abbrev pub decreases-loop-item : goal.decreases-loop-item
decreases-loop-item g l = length (g.W.Walk.left l.walk)
