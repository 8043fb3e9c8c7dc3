use Rattle.std.proofs.Common.{◌≡◌}
use Rattle.std.specs.List.{list_any}
use Rattle.slate_model.specs.Externals.{is_of, is_used}
use Rattle.slate_model.proofs.pruned_entries.is_used.Given as goal

-- the views that are left decide
abbrev pub invariant-loop-view : goal.invariant-loop-view
invariant-loop-view l = list_any (is_of l.id) l.view-iterator ≡ is_used l.core l.id
