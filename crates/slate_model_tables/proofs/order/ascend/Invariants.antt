use Rattle.std.proofs.Common.{◌≡◌, drop}
use Rattle.slate_model_tables.specs.SortedRuns.{ascend}
use Rattle.slate_model_tables.proofs.order.ascend.Given as goal

-- the views ascend exactly where those from here on do
abbrev pub invariant-loop-i : goal.invariant-loop-i
invariant-loop-i l = ascend l.views ≡ ascend (drop l.i l.views)
