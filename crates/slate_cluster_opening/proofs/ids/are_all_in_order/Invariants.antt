use Rattle.std.proofs.Common.{◌≡◌, drop}
use Rattle.std.specs.List.{list_all}
use Rattle.slate_cluster_protocol.specs.Specs.{are_trees_in_order}
use Rattle.slate_cluster_opening.proofs.ids.are_all_in_order.Given as goal

-- the databases that are left decide
abbrev pub invariant-loop-spec : goal.invariant-loop-spec
invariant-loop-spec l = list_all are_trees_in_order (drop l.spec-index l.specs) ≡ list_all are_trees_in_order l.specs
