use Rattle.std.proofs.Common.{rules, ◌≡◌}
use Rattle.slate_cluster_protocol.specs.Ids.{with_id}
use Rattle.slate_cluster_opening.proofs.Carrying.{one_id_more}
use Rattle.slate_cluster_opening.proofs.pools.note_ids.Goals as goal

pub loop-id-preserved : goal.loop-id-preserved
loop-id-preserved g c =
    let made : c.add_id.new.pool.entries ≡ with_id g.K.Ord.cmp c.id-item.result c.loop-id.pool.entries = search rules in
    one_id_more g.K.Ord.cmp c.args.all.now c.loop-id.id-index c.id-item.result _ _ _ c.loop-id-test.true c.id-item.is made c.loop-id.invariant
