use Rattle.std.proofs.Common.{◌≡◌, ◌++◌, drop}
use Rattle.slate_gc_picks.specs.Filter.{retained}
use Rattle.slate_gc_picks.proofs.retaining.retained.Given as goal

-- what was kept so far, and what follows
abbrev pub invariant-loop-object : goal.invariant-loop-object
invariant-loop-object l = l.objects ++ retained l.returned (drop l.object-index l.candidates) ≡ retained l.returned l.candidates
