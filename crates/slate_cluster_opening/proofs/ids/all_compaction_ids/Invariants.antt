use Rattle.std.proofs.Common.{◌≡◌, ◌++◌, drop}
use Rattle.std.specs.List.{flat_map}
use Rattle.slate_cluster_protocol.specs.Specs.{compaction_ids}
use Rattle.slate_cluster_opening.proofs.ids.all_compaction_ids.Given as goal

-- the ids so far and the databases that are left
abbrev pub invariant-loop-spec : goal.invariant-loop-spec
invariant-loop-spec l = l.ids.items ++ flat_map compaction_ids (drop l.spec-index l.specs) ≡ flat_map compaction_ids l.specs
