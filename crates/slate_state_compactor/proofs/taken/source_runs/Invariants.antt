use Rattle.std.proofs.Common.{◌≡◌, ◌++◌, drop}
use Rattle.slate_state_compactor.specs.Sources.{source_runs}
use Rattle.slate_state_compactor.proofs.taken.source_runs.Given as goal

-- the runs so far and those that are left
abbrev pub invariant-loop-source : goal.invariant-loop-source
invariant-loop-source l = l.numbers ++ source_runs (drop l.source-index l.sources) ≡ source_runs l.sources
