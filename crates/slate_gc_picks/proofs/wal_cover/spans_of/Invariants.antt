use Rattle.std.proofs.Common.{drop}
use Rattle.slate_gc_picks.proofs.WalCovered.{RangesLeft}
use Rattle.slate_gc_picks.proofs.wal_cover.spans_of.Given as goal

-- the spans so far, and the ranges that are left
abbrev pub invariant-loop-range : goal.invariant-loop-range
invariant-loop-range l = RangesLeft l.spans.items (drop l.range-index l.ranges) l.ranges
