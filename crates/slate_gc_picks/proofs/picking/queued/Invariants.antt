use Rattle.std.proofs.Common.{◌≡◌, ◌++◌}
use Rattle.std.specs.Vec.Iter.{into_iter_items}
use Rattle.slate_gc_picks.proofs.picking.queued.Given as goal

-- the objects so far, and those that are left
abbrev pub invariant-loop-object : goal.invariant-loop-object
invariant-loop-object l = l.queue ++ into_iter_items l.object-iterator ≡ l.fn.objects.items
