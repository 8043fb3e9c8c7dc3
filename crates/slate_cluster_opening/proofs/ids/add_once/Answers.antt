use Rattle.std.proofs.Common.{sym, ◌∙◌}
use Rattle.slate_cluster_opening.proofs.Seen.{left_fit, seen_twice, seen_once}
use Rattle.slate_cluster_opening.proofs.ids.add_once.Goals as goal

pub returns-then-contains-clause-seen : goal.returns-then-contains-clause-seen
returns-then-contains-clause-seen c =
    seen_twice c.loop-id.seen.keys c.args.ids.now c.loop-id.id-index c.id-item.result c.parts_of-parts.result _ c.loop-id-test.true c.id-item.is c.parts_of-parts.ensures.parts c.loop-id.invariant.0 (sym c.contains.ensures ∙ c.if-contains.true)

pub loop-id-preserved : goal.loop-id-preserved
loop-id-preserved c = (
  seen_once c.loop-id.seen.keys c.args.ids.now c.loop-id.id-index c.id-item.result c.parts_of-parts.result _ c.loop-id-test.true c.id-item.is c.parts_of-parts.ensures.parts c.loop-id.invariant.0 c.insert.new.self.keys
      (sym c.contains.ensures ∙ c.if-contains.false) c.in_ok-insert.ensures.keys,
  left_fit c.args.ids.now c.loop-id.id-index c.id-item.result _ c.loop-id-test.true c.id-item.is c.parts_of-parts.ensures.fits c.loop-id.invariant.1,
)
