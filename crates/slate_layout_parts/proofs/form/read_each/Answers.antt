use Rattle.std.proofs.Common.{◌≡◌, Some, ◌∙◌}
use Rattle.slate_layout_parts.proofs.Items.{read_more}
use Rattle.slate_layout_parts.proofs.form.read_each.Goals as goal

pub loop-preserved : goal.loop-preserved
loop-preserved g c =
    let read : (g.F.Form.in_front c.args.tables.now) c.loop.left ≡ Some (c.in-Ok-Some.item, c.in-Ok-Some.rest) = cc c.in-Ok-Some.ensures in
    rw c.in-Ok.ensures.ok (read_more (g.F.Form.in_front c.args.tables.now) c.loop.items c.in-Ok-Some.item c.loop.left c.in-Ok-Some.rest c.args.count c.loop.counter c.loop-test.true read ∙ c.loop.invariant)
