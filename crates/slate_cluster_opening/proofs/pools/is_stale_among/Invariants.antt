use Rattle.std.proofs.Common.{◌≡◌, drop}
use Rattle.slate_cluster_protocol.specs.Ids.{is_stale_among}
use Rattle.slate_cluster_opening.proofs.pools.is_stale_among.Given as goal

-- the ids that are left decide, beside those that were seen
abbrev pub invariant-loop-id : goal.invariant-loop-id
invariant-loop-id g l = is_stale_among g.K.Ord.cmp (drop l.id-index l.fresh) l.seen.keys l.pool.entries ≡ is_stale_among g.K.Ord.cmp l.fresh l.named l.pool.entries
