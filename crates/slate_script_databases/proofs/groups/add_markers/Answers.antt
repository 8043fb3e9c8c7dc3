use Rattle.std.proofs.Common.{sym, ◌∙◌, ap, take_all}
use Rattle.std.specs.List.{filter}
use Rattle.slate_script_databases.specs.Databases.{is_marker_of}
use Rattle.slate_script_databases.specs.PrefixGroups.{group_at, with_markers}
use Rattle.slate_script_databases.proofs.Grouped.{next_marker, no_markers}
use Rattle.slate_script_databases.proofs.groups.add_markers.Goals as goal

pub loop-item-init : goal.loop-item-init
loop-item-init c q = sym (no_markers (group_at c.args.groups.now q))

pub loop-item-preserved : goal.loop-item-preserved
loop-item-preserved c q = next_marker q c.args.items.now c.loop-item.item-index c.item-item.result (group_at c.args.groups.now q) (group_at c.loop-item.groups q) _ c.loop-item-test.true c.item-item.is (c.loop-item.invariant q) (c.in_ok-add_marker.ensures q)

pub returns : goal.returns
returns c q = c.loop-item.invariant q ∙ ap (λ l. with_markers (group_at c.args.groups.now q) (filter (is_marker_of q) l)) (take_all c.loop-item.item-index c.args.items.now c.loop-item-test.false)
