use Rattle.std.specs.Prelude.{◌≡◌, false}
use Rattle.std.proofs.Common.{rules}
use Rattle.slate_ids.specs.Keys.{begins_with}
use Rattle.slate_model.proofs.Apart.{carried}
use Rattle.slate_model.proofs.segment.Segment.are_apart.Goals as goal

pub loop-segment-preserved : goal.loop-segment-preserved
loop-segment-preserved c =
    let apart : begins_with c.loop-segment.last.now.prefix c.segment-item.result.prefix ≡ false = search rules in
    carried _ c.loop-segment.last.now c.segment-item.result c.loop-segment.segment-index c.in-Some.others.now c.loop-segment-test.true c.segment-item.is apart c.loop-segment.invariant
