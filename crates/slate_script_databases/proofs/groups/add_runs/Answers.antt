use Rattle.std.proofs.Common.{sym, ◌∙◌, ap, take_all}
use Rattle.std.specs.List.{filter}
use Rattle.slate_script_databases.specs.Databases.{is_run_of}
use Rattle.slate_script_databases.specs.PrefixGroups.{group_at, with_runs}
use Rattle.slate_script_databases.proofs.Grouped.{next_run, no_runs}
use Rattle.slate_script_databases.proofs.groups.add_runs.Goals as goal

pub loop-item-init : goal.loop-item-init
loop-item-init c q = sym (no_runs (group_at c.args.groups.now q))

pub loop-item-preserved : goal.loop-item-preserved
loop-item-preserved c q = next_run q c.args.items.now c.loop-item.item-index c.item-item.result (group_at c.args.groups.now q) (group_at c.loop-item.groups q) _ c.loop-item-test.true c.item-item.is (c.loop-item.invariant q) (c.in_ok-add_run.ensures q)

pub returns : goal.returns
returns c q = c.loop-item.invariant q ∙ ap (λ l. with_runs (group_at c.args.groups.now q) (filter (is_run_of q) l)) (take_all c.loop-item.item-index c.args.items.now c.loop-item-test.false)
