use Rattle.std.proofs.Common.{◌≡◌, ◌++◌, drop}
use Rattle.slate_gc_picks.specs.TablePicks.{unused_tables}
use Rattle.slate_gc_picks.proofs.tables.unused_tables.Given as goal

-- what was kept so far, and what follows
abbrev pub invariant-loop-object : goal.invariant-loop-object
invariant-loop-object l =
    l.objects ++ unused_tables l.min_age l.fn.now l.least l.watermark l.versions.entries (drop l.object-index l.found) ≡ unused_tables l.min_age l.fn.now l.least l.watermark l.versions.entries l.found
