use Rattle.std.proofs.Common.{◌≡◌, ◌++◌, drop, map}
use Rattle.std.specs.List.{filter_map}
use Rattle.slate_cluster_protocol.specs.Ids.{only_named}
use Rattle.slate_cluster_protocol.specs.Specs.{ulid_of}
use Rattle.slate_cluster_opening.proofs.opening_ids.push_listed.Given as goal

-- the ids so far and those that are left
abbrev pub invariant-loop-id : goal.invariant-loop-id
invariant-loop-id l = l.all.items ++ map only_named (filter_map ulid_of (drop l.id-index l.entry.sst_ids)) ≡ l.fn.all.items ++ map only_named (filter_map ulid_of l.entry.sst_ids)
