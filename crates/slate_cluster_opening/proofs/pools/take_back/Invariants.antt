use Rattle.std.proofs.Common.{◌≡◌, length}
use Rattle.slate_cluster_opening.specs.Pools.{without}
use Rattle.slate_cluster_opening.proofs.pools.take_back.Given as goal

-- what is left is still to be taken out
abbrev pub invariant-loop-id : goal.invariant-loop-id
invariant-loop-id g l = without g.K.Ord.cmp l.added.items l.pool.entries ≡ without g.K.Ord.cmp l.initial.added.items l.initial.pool.entries

-- each turn takes one out
abbrev pub decreases-loop-id : goal.decreases-loop-id
decreases-loop-id g l = length l.added.items
