use Rattle.std.proofs.Common.{◌≡◌, ◌++◌, drop, filter}
use Rattle.slate_script_events.specs.WrittenFilters.{lies_at}
use Rattle.slate_script_events.proofs.filter_word.those_at.Given as goal

-- what was kept so far, and what follows
abbrev pub invariant-loop-object : goal.invariant-loop-object
invariant-loop-object l = l.kept ++ filter (lies_at l.paths) (drop l.object-index l.candidates) ≡ filter (lies_at l.paths) l.candidates
