use Rattle.std.proofs.Common.{◌≡◌, true, take}
use Rattle.slate_model_tables.specs.SortedRuns.{all_show}
use Rattle.slate_model_tables.proofs.order.all_show_keys.Given as goal

-- the views so far show a key each
abbrev pub invariant-loop-i : goal.invariant-loop-i
invariant-loop-i l = all_show (take l.i l.l0.items) ≡ true
