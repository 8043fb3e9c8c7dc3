use Rattle.std.proofs.Common.{◌≡◌, drop}
use Rattle.slate_state_updates.specs.Checkpoints.{checkpoint_at}
use Rattle.slate_state_updates.proofs.lookups.find_checkpoint.Given as goal

abbrev pub invariant-loop-checkpoint : goal.invariant-loop-checkpoint
invariant-loop-checkpoint l = checkpoint_at l.id (drop l.checkpoint-index l.checkpoints) ≡ checkpoint_at l.id l.checkpoints
