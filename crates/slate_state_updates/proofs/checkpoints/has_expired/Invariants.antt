use Rattle.std.proofs.Common.{◌≡◌, drop}
use Rattle.std.specs.List.{list_any}
use Rattle.slate_state_updates.specs.Checkpoints.{is_expired}
use Rattle.slate_state_updates.proofs.checkpoints.has_expired.Given as goal

abbrev pub invariant-loop-checkpoint : goal.invariant-loop-checkpoint
invariant-loop-checkpoint l = list_any (is_expired l.now) (drop l.checkpoint-index l.checkpoints) ≡ list_any (is_expired l.now) l.checkpoints
