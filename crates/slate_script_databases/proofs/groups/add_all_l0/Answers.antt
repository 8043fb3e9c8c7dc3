use Rattle.std.proofs.Common.{sym, ◌∙◌, ap, take_all}
use Rattle.std.specs.List.{filter}
use Rattle.slate_script_databases.specs.Databases.{is_l0_of}
use Rattle.slate_script_databases.specs.PrefixGroups.{group_at, with_l0}
use Rattle.slate_script_databases.proofs.Grouped.{next_l0, no_l0}
use Rattle.slate_script_databases.proofs.groups.add_all_l0.Goals as goal

pub loop-item-init : goal.loop-item-init
loop-item-init c q = sym (no_l0 (group_at c.args.groups.now q))

pub loop-item-preserved : goal.loop-item-preserved
loop-item-preserved c q = next_l0 q c.args.items.now c.loop-item.item-index c.item-item.result (group_at c.args.groups.now q) (group_at c.loop-item.groups q) _ c.loop-item-test.true c.item-item.is (c.loop-item.invariant q) (c.in_ok-add_l0.ensures q)

pub returns : goal.returns
returns c q = c.loop-item.invariant q ∙ ap (λ l. with_l0 (group_at c.args.groups.now q) (filter (is_l0_of q) l)) (take_all c.loop-item.item-index c.args.items.now c.loop-item-test.false)
