use Rattle.std.proofs.Common.{◌≡◌, drop, map}
use Rattle.slate_cluster_protocol.specs.Ids.{with_ids}
use Rattle.slate_cluster_opening.specs.Pools.{unpinned, without}
use Rattle.slate_cluster_opening.proofs.pools.add_each.Given as goal

-- the ids so far and those that are left, and the pool before
abbrev pub invariant-loop-id : goal.invariant-loop-id
invariant-loop-id g l = record {
  ok : with_ids g.K.Ord.cmp (map (unpinned l.party) (drop l.id-index l.all)) l.pool.entries ≡ with_ids g.K.Ord.cmp (map (unpinned l.party) l.all) l.fn.pool.entries;
  back : without g.K.Ord.cmp l.added.items l.pool.entries ≡ without g.K.Ord.cmp l.fn.added.items l.fn.pool.entries;
}
