use Rattle.std.proofs.Common.{drop}
use Rattle.std.specs.BTreeSet.{contains}
use Rattle.std.specs.Ordering.{nat_cmp}
use Rattle.slate_state_updates.proofs.NamedVersions.{Left}
use Rattle.slate_state_updates.proofs.named.named_versions.Given as goal

-- the set has the versions of the checkpoints so far, and what is left names the others
abbrev pub invariant-loop-checkpoint : goal.invariant-loop-checkpoint
invariant-loop-checkpoint l = Left (contains nat_cmp l.named) (drop l.checkpoint-index l.checkpoints) l.checkpoints
