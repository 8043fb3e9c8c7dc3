use Rattle.std.proofs.Common.{◌≡◌, ◌++◌, drop, filter}
use Rattle.std.specs.Prelude.{not}
use Rattle.slate_state_updates.specs.Checkpoints.{is_expired}
use Rattle.slate_state_updates.proofs.checkpoints.without_expired.Given as goal

abbrev pub invariant-loop-checkpoint : goal.invariant-loop-checkpoint
invariant-loop-checkpoint l = l.kept ++ filter (λ c. not (is_expired l.now c)) (drop l.checkpoint-index l.checkpoints) ≡ filter (λ c. not (is_expired l.now c)) l.checkpoints
