use Rattle.std.proofs.Common.{◌≡◌, ◌++◌, drop, map}
use Rattle.std.specs.List.{filter_map}
use Rattle.slate_cluster_protocol.specs.Ids.{only_named}
use Rattle.slate_cluster_protocol.specs.Specs.{view_of}
use Rattle.slate_cluster_opening.proofs.opening_ids.push_sources.Given as goal

-- the ids so far and the sources that are left
abbrev pub invariant-loop-source : goal.invariant-loop-source
invariant-loop-source l = l.all.items ++ map only_named (filter_map view_of (drop l.source-index l.sources)) ≡ l.fn.all.items ++ map only_named (filter_map view_of l.sources)
