use Rattle.std.proofs.Common.{◌≡◌, ◌++◌}
use Rattle.slate_gc_picks.specs.WalRanges.{wal_ranges}
use Rattle.slate_gc_picks.proofs.wal_ranges.referenced_wal_ranges.Given as goal

-- the ranges so far, and those of the versions that are left
abbrev pub invariant-loop-number : goal.invariant-loop-number
invariant-loop-number l = l.found.items ++ wal_ranges l.latest l.number-iterator ≡ wal_ranges l.latest l.active.entries
