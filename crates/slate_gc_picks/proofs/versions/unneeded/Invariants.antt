use Rattle.std.proofs.Common.{◌≡◌, ◌++◌, drop}
use Rattle.slate_gc_picks.specs.VersionPicks.{unneeded}
use Rattle.slate_gc_picks.proofs.versions.unneeded.Given as goal

-- what was kept so far, and what follows
abbrev pub invariant-loop-object : goal.invariant-loop-object
invariant-loop-object l =
    l.objects ++ unneeded l.log l.greatest l.checkpoints (drop l.object-index l.found) ≡ unneeded l.log l.greatest l.checkpoints l.found
