use Rattle.std.proofs.Common.{◌≡◌, ◌++◌, map}
use Rattle.std.specs.List.{flat_map}
use Rattle.slate_model.specs.Trees.{views_of}
use Rattle.slate_cluster_protocol.specs.Ids.{only_named}
use Rattle.slate_cluster_protocol.specs.Specs.{view_ulids}
use Rattle.slate_cluster_opening.proofs.opening_ids.push_views.Given as goal

-- the ids so far and the views that are left
abbrev pub invariant-loop-view : goal.invariant-loop-view
invariant-loop-view l = l.all.items ++ map only_named (flat_map view_ulids l.view-iterator) ≡ l.fn.all.items ++ map only_named (flat_map view_ulids (views_of l.spec.manifest.core))
