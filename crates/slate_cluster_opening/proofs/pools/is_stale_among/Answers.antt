use Rattle.slate_cluster_opening.proofs.Stale.{same_named, stale_later}
use Rattle.slate_cluster_opening.proofs.pools.is_stale_among.Goals as goal

pub loop-id-init : goal.loop-id-init
loop-id-init g c = same_named g.K.Ord.cmp c.args.pool.now.entries c.args.fresh.now c.in_ok-seen.seen.keys c.args.named.now c.in_ok-seen.ensures

pub loop-id-preserved : goal.loop-id-preserved
loop-id-preserved g c =
    stale_later g.K.Ord.cmp c.args.pool.now.entries c.args.fresh.now c.loop-id.id-index c.id-item.result c.loop-id.seen.keys c.insert.new.self.keys _ _ c.loop-id-test.true c.id-item.is c.is_known.ensures c.if-is_known.false
    c.in_ok-insert.ensures.updates.0 c.loop-id.invariant
