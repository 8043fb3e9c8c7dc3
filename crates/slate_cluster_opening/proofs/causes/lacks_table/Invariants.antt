use Rattle.std.proofs.Common.{◌≡◌}
use Rattle.std.specs.List.{list_any}
use Rattle.slate_model.specs.Trees.{tables_of_views}
use Rattle.slate_cluster_protocol.specs.Specs.{is_absent, lacks_table}
use Rattle.slate_cluster_opening.proofs.causes.lacks_table.Given as goal

-- the views that are left decide
abbrev pub invariant-loop-view : goal.invariant-loop-view
invariant-loop-view l = list_any (is_absent l.objects.entries l.spec) (tables_of_views l.view-iterator) ≡ lacks_table l.objects.entries l.spec
