use Rattle.std.proofs.Common.{◌≡◌, ◌++◌, drop, map}
use Rattle.slate_cluster_protocol.specs.Ids.{only_named}
use Rattle.slate_cluster_protocol.specs.Specs.{handle_ulids}
use Rattle.slate_cluster_opening.proofs.opening_ids.push_handles.Given as goal

-- the ids so far and the tables that are left
abbrev pub invariant-loop-sst : goal.invariant-loop-sst
invariant-loop-sst l = l.all.items ++ map only_named (handle_ulids (drop l.sst-index l.ssts)) ≡ l.fn.all.items ++ map only_named (handle_ulids l.ssts)
