use Rattle.std.proofs.Common.{◌++◌, drop}
use Rattle.slate_cluster_opening.proofs.Stale.{HaveSame}
use Rattle.slate_cluster_opening.proofs.pools.set_of.Given as goal

-- the ids so far and those that are left
abbrev pub invariant-loop-id : goal.invariant-loop-id
invariant-loop-id g l = HaveSame g.K.Ord.cmp (l.set.keys ++ drop l.id-index l.all) l.all
