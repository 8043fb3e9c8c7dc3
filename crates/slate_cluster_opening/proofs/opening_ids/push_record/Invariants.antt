use Rattle.std.proofs.Common.{◌≡◌, ◌++◌, map}
use Rattle.std.specs.List.{flat_map}
use Rattle.slate_cluster_protocol.specs.Ids.{only_named}
use Rattle.slate_cluster_protocol.specs.Specs.{compaction_ulids}
use Rattle.slate_cluster_opening.proofs.opening_ids.push_record.Given as goal

-- the ids so far and the compactions that are left
abbrev pub invariant-loop-compaction : goal.invariant-loop-compaction
invariant-loop-compaction l = l.all.items ++ map only_named (flat_map compaction_ulids l.compaction-iterator) ≡ l.fn.all.items ++ map only_named (flat_map compaction_ulids l.compactions.entries)
