use Rattle.std.proofs.Common.{◌≡◌, ◌++◌, drop}
use Rattle.slate_gc_picks.specs.WalFiles.{collected}
use Rattle.slate_gc_picks.proofs.wal_gc.WalGcMode.collected.Given as goal

-- what was kept so far, and what follows
abbrev pub invariant-loop-object : goal.invariant-loop-object
invariant-loop-object l = l.found ++ collected l.fn.self l.ranges (drop l.object-index l.listed) l.min_age l.fn.now ≡ collected l.fn.self l.ranges l.listed l.min_age l.fn.now
