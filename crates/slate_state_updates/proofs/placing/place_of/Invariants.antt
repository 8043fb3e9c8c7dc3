use Rattle.std.proofs.Common.{◌≡◌, ◌+◌, drop}
use Rattle.slate_model.specs.Segments.{place_of}
use Rattle.slate_state_updates.proofs.placing.place_of.Given as goal

-- the segments so far stand before the prefix
abbrev pub invariant-loop-segment : goal.invariant-loop-segment
invariant-loop-segment l = (l.place ≡ l.segment-index) × (l.place + place_of l.prefix (drop l.segment-index l.segments) ≡ place_of l.prefix l.segments)
