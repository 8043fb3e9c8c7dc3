use Rattle.std.proofs.Common.{◌≡◌, drop}
use Rattle.slate_cluster_protocol.specs.Specs.{ids_from}
use Rattle.slate_cluster_opening.proofs.opening_ids.add_checkpoints.Given as goal

-- the ids so far and the checkpoints that are left
abbrev pub invariant-loop-checkpoint : goal.invariant-loop-checkpoint
invariant-loop-checkpoint l = ids_from l.pool.entries (drop l.checkpoint-index l.checkpoints) ≡ ids_from l.fn.pool.entries l.checkpoints
