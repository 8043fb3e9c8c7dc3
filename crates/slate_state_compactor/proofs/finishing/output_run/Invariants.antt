use Rattle.std.proofs.Common.{◌≡◌, ◌++◌, drop, map}
use Rattle.slate_state_compactor.specs.Finishing.{output_view}
use Rattle.slate_state_compactor.proofs.finishing.output_run.Given as goal

-- the views so far and those that are left
abbrev pub invariant-loop-output : goal.invariant-loop-output
invariant-loop-output l = l.views.items ++ map output_view (drop l.output-index l.outputs) ≡ map output_view l.outputs
