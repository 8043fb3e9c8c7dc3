use Rattle.std.proofs.Common.{◌≡◌, Some, None, sym, ◌∙◌}
use Rattle.slate_layout_manifests.specs.OldManifests.{old_run_in}
use Rattle.slate_layout_parts.proofs.Items.{read_more, read_stops}
use Rattle.slate_layout_decoding.proofs.first_version.read_run_items.Goals as goal

pub loop-preserved : goal.loop-preserved
loop-preserved c =
    let read : old_run_in c.loop.left ≡ Some (c.in-Some.item, c.in-Some.rest) = cc (c.in_ok-item.ensures, c.in-Some.is) in
    rw c.in_ok-push-in-Some.ensures.ok (read_more old_run_in c.loop.items c.in-Some.item c.loop.left c.in-Some.rest c.args.count c.loop.counter c.loop-test.true read ∙ c.loop.invariant)

pub returns-in-None : goal.returns-in-None
returns-in-None c =
    let none : old_run_in c.loop.left ≡ None = cc (c.in_ok-item.ensures, c.in-None.is) in
    sym (read_stops old_run_in c.loop.items c.loop.left c.args.count c.loop.counter c.loop-test.true none) ∙ c.loop.invariant
