use Rattle.std.proofs.Common.{◌≡◌, map, take}
use Rattle.slate_layout_encodable.specs.Normal.{normal_segment}
use Rattle.slate_layout_encodable.proofs.normal.normal_segments.Given as goal

-- the normal forms so far
abbrev pub invariant-loop-segment : goal.invariant-loop-segment
invariant-loop-segment l = l.made.items ≡ map normal_segment (take l.segment-index l.segments)
