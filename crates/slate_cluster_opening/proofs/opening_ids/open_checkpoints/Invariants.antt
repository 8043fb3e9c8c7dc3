use Rattle.std.proofs.Common.{◌≡◌, [], drop}
use Rattle.slate_cluster_protocol.specs.Specs.{checkpoints_from}
use Rattle.slate_cluster_opening.proofs.opening_ids.open_checkpoints.Given as goal

-- the ids so far and the databases that are left
abbrev pub invariant-loop-spec : goal.invariant-loop-spec
invariant-loop-spec l = checkpoints_from l.pool.entries (drop l.spec-index l.specs) ≡ checkpoints_from [] l.specs
