use Rattle.std.proofs.Common.{◌≡◌, ◌∷◌, drop}
use Rattle.slate_cluster_protocol.specs.Specs.{runs_fall}
use Rattle.slate_cluster_opening.proofs.ids.do_runs_fall.Given as goal

-- the last run and those that are left decide
abbrev pub invariant-loop-run : goal.invariant-loop-run
invariant-loop-run l = runs_fall (l.last ∷ drop l.run-index l.others) ≡ runs_fall l.runs
