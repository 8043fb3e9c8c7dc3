use Rattle.std.proofs.Common.{◌≡◌, drop}
use Rattle.slate_model.specs.Segments.{ascend_from, are_ascending}
use Rattle.slate_model.proofs.segment.Segment.are_ascending.Given as goal

-- the segments that are left decide, from the last prefix
abbrev pub invariant-loop-segment : goal.invariant-loop-segment
invariant-loop-segment l = ascend_from l.last (drop l.segment-index l.segments) ≡ are_ascending l.segments
