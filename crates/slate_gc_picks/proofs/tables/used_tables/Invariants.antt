use Rattle.slate_gc_picks.proofs.Sets.{IsSetThen}
use Rattle.slate_gc_picks.specs.TablePicks.{used_tables}
use Rattle.slate_gc_picks.proofs.tables.used_tables.Given as goal

-- the set has the tables of the versions so far; those of the others are left
abbrev pub invariant-loop-manifest : goal.invariant-loop-manifest
invariant-loop-manifest l = IsSetThen l.used (used_tables l.manifest-iterator) (used_tables l.versions.entries)
