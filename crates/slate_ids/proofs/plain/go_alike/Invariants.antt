use Rattle.std.proofs.Common.{◌≡◌, ◌↔◌, length}
use Rattle.slate_ids.proofs.plain.go_alike.Given as goal

-- those that are left decide
abbrev pub invariant-loop-item : goal.invariant-loop-item
invariant-loop-item g l = (g.W.Walk.left l.walk ≡ g.W.Walk.left l.others) ↔ (g.W.Walk.left l.fn.walk ≡ g.W.Walk.left l.fn.others)

abbrev pub decreases-loop-item : goal.decreases-loop-item
decreases-loop-item g l = length (g.W.Walk.left l.walk)
