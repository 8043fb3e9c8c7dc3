use Rattle.std.proofs.Common.{drop}
use Rattle.slate_gc_picks.proofs.Sets.{ObjectsLeft}
use Rattle.slate_gc_picks.proofs.retaining.set_of.Given as goal

-- the set has the objects so far, and the others are left
abbrev pub invariant-loop-object : goal.invariant-loop-object
invariant-loop-object l = ObjectsLeft l.set (drop l.object-index l.objects) l.objects
