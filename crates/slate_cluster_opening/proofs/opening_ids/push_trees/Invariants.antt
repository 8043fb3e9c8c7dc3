use Rattle.std.proofs.Common.{◌≡◌, ◌++◌, map}
use Rattle.std.specs.List.{flat_map}
use Rattle.slate_model.specs.Trees.{trees_of}
use Rattle.slate_cluster_protocol.specs.Ids.{only_named}
use Rattle.slate_cluster_protocol.specs.Specs.{marker_ulids}
use Rattle.slate_cluster_opening.proofs.opening_ids.push_trees.Given as goal

-- the ids so far and the trees that are left
abbrev pub invariant-loop-tree : goal.invariant-loop-tree
invariant-loop-tree l = l.all.items ++ map only_named (flat_map marker_ulids l.tree-iterator) ≡ l.fn.all.items ++ map only_named (flat_map marker_ulids (trees_of l.spec.manifest.core))
