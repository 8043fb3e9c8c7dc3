use Rattle.std.proofs.Common.{◌≡◌, drop}
use Rattle.std.specs.Prelude.{◌==◌}
use Rattle.std.specs.List.{list_any}
use Rattle.slate_state_compactor.proofs.finishing.has_run.Given as goal

-- none of the runs so far has it
abbrev pub invariant-loop-run : goal.invariant-loop-run
invariant-loop-run l = list_any (λ r. r.id == l.n) (drop l.run-index l.runs) ≡ list_any (λ r. r.id == l.n) l.runs
