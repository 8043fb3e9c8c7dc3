use Rattle.std.proofs.Common.{◌≡◌, ◌++◌, drop}
use Rattle.std.specs.BTreeSet.{contains}
use Rattle.std.specs.Ordering.{nat_cmp}
use Rattle.slate_state_compactor.specs.Finishing.{runs_left}
use Rattle.slate_state_compactor.proofs.finishing.runs_left.Given as goal

-- the runs so far and those that are left
abbrev pub invariant-loop-run : goal.invariant-loop-run
invariant-loop-run l = l.left.items ++ runs_left (contains nat_cmp l.taken) (drop l.run-index l.runs) ≡ runs_left (contains nat_cmp l.taken) l.runs
