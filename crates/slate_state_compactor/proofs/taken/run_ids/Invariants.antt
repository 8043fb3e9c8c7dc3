use Rattle.std.proofs.Common.{◌≡◌, ◌++◌, drop}
use Rattle.slate_state_compactor.specs.Sources.{run_ids}
use Rattle.slate_state_compactor.proofs.taken.run_ids.Given as goal

-- the numbers so far and those that are left
abbrev pub invariant-loop-run : goal.invariant-loop-run
invariant-loop-run l = l.numbers ++ run_ids (drop l.run-index l.runs) ≡ run_ids l.runs
