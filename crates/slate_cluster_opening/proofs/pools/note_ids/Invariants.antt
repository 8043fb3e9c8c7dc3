use Rattle.std.proofs.Common.{◌≡◌, drop}
use Rattle.slate_cluster_protocol.specs.Ids.{with_ids}
use Rattle.slate_cluster_opening.proofs.pools.note_ids.Given as goal

-- the ids so far and those that are left
abbrev pub invariant-loop-id : goal.invariant-loop-id
invariant-loop-id g l = with_ids g.K.Ord.cmp (drop l.id-index l.all) l.pool.entries ≡ with_ids g.K.Ord.cmp l.all l.fn.pool.entries
