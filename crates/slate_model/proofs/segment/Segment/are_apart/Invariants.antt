use Rattle.std.proofs.Common.{◌≡◌, drop, ◌∷◌, true}
use Rattle.slate_model.specs.Segments.{ascend_from}
use Rattle.slate_model.specs.Selection.{are_apart}
use Rattle.slate_model.proofs.segment.Segment.are_apart.Given as goal

-- the last segment and those that are left decide
abbrev pub invariant-loop-segment : goal.invariant-loop-segment
invariant-loop-segment l = (are_apart (l.last ∷ drop l.segment-index l.others) ≡ are_apart l.segments) × (ascend_from l.last.prefix (drop l.segment-index l.others) ≡ true)
