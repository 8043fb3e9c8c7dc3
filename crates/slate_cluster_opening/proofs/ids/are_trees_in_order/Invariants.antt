use Rattle.std.proofs.Common.{◌≡◌}
use Rattle.std.specs.List.{list_all}
use Rattle.slate_cluster_protocol.specs.Specs.{is_tree_in_order, are_trees_in_order}
use Rattle.slate_cluster_opening.proofs.ids.are_trees_in_order.Given as goal

-- the trees that are left decide
abbrev pub invariant-loop-tree : goal.invariant-loop-tree
invariant-loop-tree l = list_all is_tree_in_order l.tree-iterator ≡ are_trees_in_order l.spec
