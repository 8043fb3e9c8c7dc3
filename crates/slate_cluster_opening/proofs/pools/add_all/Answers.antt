use Rattle.std.proofs.Common.{map}
use Rattle.slate_cluster_protocol.specs.Ids.{brought_by, only_named}
use Rattle.slate_cluster_opening.proofs.Carrying.{others_after}
use Rattle.slate_cluster_opening.proofs.pools.add_all.Goals as goal

pub returns-clause-ok : goal.returns-clause-ok
returns-clause-ok g c =
    others_after g.K.Ord.cmp (map (brought_by c.args.number) c.args.fresh.now) (map only_named c.args.named.now) _ _ _ c.in_ok-add_each.ensures.ok c.in_ok-add_each-2.ensures.ok
