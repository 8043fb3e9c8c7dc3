use Rattle.std.proofs.Common.{◌≡◌, ◌++◌, map, drop}
use Rattle.slate_state_updates.specs.Checkpoints.{expiring}
use Rattle.slate_state_updates.proofs.checkpoints.all_expiring.Given as goal

abbrev pub invariant-loop-checkpoint : goal.invariant-loop-checkpoint
invariant-loop-checkpoint l = l.kept ++ map (expiring l.id l.expire_time) (drop l.checkpoint-index l.checkpoints) ≡ map (expiring l.id l.expire_time) l.checkpoints
