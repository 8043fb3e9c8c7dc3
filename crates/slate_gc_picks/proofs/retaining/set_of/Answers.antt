use Rattle.std.proofs.Common.{rules}
use Rattle.slate_gc_picks.proofs.Sets.{one_object}
use Rattle.slate_gc_picks.proofs.retaining.set_of.Goals as goal

pub loop-object-preserved : goal.loop-object-preserved
loop-object-preserved c =
    one_object c.loop-object.set c.insert.new.self c.args.objects.now c.args.objects.now c.loop-object.object-index c.object-item.result c.loop-object-test.true c.object-item.is (search rules) c.loop-object.invariant
