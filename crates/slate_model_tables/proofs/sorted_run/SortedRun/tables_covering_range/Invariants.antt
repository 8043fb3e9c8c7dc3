use Rattle.std.proofs.Common.{◌≡◌, map, take}
use Rattle.slate_model_tables.proofs.sorted_run.SortedRun.tables_covering_range.Given as goal

-- the views so far
abbrev pub invariant-loop-view : goal.invariant-loop-view
invariant-loop-view l = map (λ v. v.now) l.found.items ≡ take l.view-index l.view-items
