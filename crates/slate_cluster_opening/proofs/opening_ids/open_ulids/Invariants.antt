use Rattle.std.proofs.Common.{◌≡◌, [], drop, map}
use Rattle.std.specs.List.{flat_map}
use Rattle.slate_ids.specs.Ulids.{id_cmp as ulid_cmp}
use Rattle.slate_cluster_protocol.specs.Ids.{only_named, with_ids}
use Rattle.slate_cluster_protocol.specs.Specs.{spec_ulids}
use Rattle.slate_cluster_opening.proofs.opening_ids.open_ulids.Given as goal

-- the ids so far and the databases that are left
abbrev pub invariant-loop-spec : goal.invariant-loop-spec
invariant-loop-spec l = with_ids ulid_cmp (map only_named (flat_map spec_ulids (drop l.spec-index l.specs))) l.pool.entries ≡ with_ids ulid_cmp (map only_named (flat_map spec_ulids l.specs)) []
