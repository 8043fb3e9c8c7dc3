use Rattle.std.proofs.Common.{◌≡◌, ◌++◌, drop}
use Rattle.slate_gc_picks.specs.Ages.{aged}
use Rattle.slate_gc_picks.proofs.ages.aged.Given as goal

-- what was kept so far, and what follows
abbrev pub invariant-loop-object : goal.invariant-loop-object
invariant-loop-object l = l.listed ++ aged l.min_age l.now (drop l.object-index l.found) ≡ aged l.min_age l.now l.found
