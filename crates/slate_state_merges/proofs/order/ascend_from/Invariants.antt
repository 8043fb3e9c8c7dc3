use Rattle.std.proofs.Common.{◌≡◌, drop}
use Rattle.slate_model.specs.Segments.{ascend_from}
use Rattle.slate_state_merges.proofs.order.ascend_from.Given as goal

abbrev pub invariant-loop-segment : goal.invariant-loop-segment
invariant-loop-segment l = ascend_from l.last (drop l.segment-index l.segments) ≡ ascend_from l.prefix l.segments
