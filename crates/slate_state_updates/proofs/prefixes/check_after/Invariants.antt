use Rattle.std.proofs.Common.{◌≡◌, drop}
use Rattle.slate_state_updates.specs.Prefixes.{nested_after}
use Rattle.slate_state_updates.proofs.prefixes.check_after.Given as goal

-- the last segment and those that are left decide
abbrev pub invariant-loop-segment : goal.invariant-loop-segment
invariant-loop-segment l = nested_after l.last (drop l.segment-index l.others) ≡ nested_after l.first l.others
