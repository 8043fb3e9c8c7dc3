use Rattle.slate_state_updates.proofs.Freshening.{goes_on_at}
use Rattle.slate_state_updates.proofs.flush_batch.push_all.Goals as goal

pub loop-table-preserved : goal.loop-table-preserved
loop-table-preserved c =
    goes_on_at c.loop-table.set c.push_if_new.new.set c.loop-table.core c.push_if_new.new.core _ c.args.tables.now c.loop-table.table-index c.table-item.result c.loop-table-test.true c.table-item.is c.in_default.ensures.ok c.loop-table.invariant
