use Rattle.std.proofs.Common.{◌≡◌, ◌++◌, drop}
use Rattle.slate_state_updates.specs.Checkpoints.{without_checkpoint}
use Rattle.slate_state_updates.proofs.checkpoints.without.Given as goal

abbrev pub invariant-loop-checkpoint : goal.invariant-loop-checkpoint
invariant-loop-checkpoint l = l.kept ++ without_checkpoint l.id (drop l.checkpoint-index l.checkpoints) ≡ without_checkpoint l.id l.checkpoints
