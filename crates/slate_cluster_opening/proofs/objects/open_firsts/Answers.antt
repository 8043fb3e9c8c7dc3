use Rattle.std.proofs.Common.{rules, ◌≡◌, true}
use Rattle.slate_cluster_opening.proofs.Openings.{one_more_first}
use Rattle.slate_cluster_opening.proofs.objects.open_firsts.Goals as goal

pub loop-spec-preserved : goal.loop-spec-preserved
loop-spec-preserved c =
    let added : c.in_ok-add_first.field-0 ≡ true = search rules in
    one_more_first c.args.specs.now c.loop-spec.spec-index c.spec-item.result c.loop-spec.firsts.entries c.add_first.new.firsts.entries _ c.in_ok-add_first.field-0 c.loop-spec-test.true c.spec-item.is added c.in_ok-add_first.ensures c.loop-spec.invariant
