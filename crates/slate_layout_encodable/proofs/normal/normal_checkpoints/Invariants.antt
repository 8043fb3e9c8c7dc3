use Rattle.std.proofs.Common.{◌≡◌, map, take}
use Rattle.slate_layout_encodable.specs.Normal.{normal_checkpoint}
use Rattle.slate_layout_encodable.proofs.normal.normal_checkpoints.Given as goal

-- the normal forms so far
abbrev pub invariant-loop-checkpoint : goal.invariant-loop-checkpoint
invariant-loop-checkpoint l = l.made ≡ map normal_checkpoint (take l.checkpoint-index l.checkpoints)
