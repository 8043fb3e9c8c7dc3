use Rattle.slate_state_updates.specs.TableSets.{has_table}
use Rattle.slate_state_updates.proofs.TableSets.{one_more}
use Rattle.slate_state_updates.proofs.tables.set_of.Goals as goal

pub loop-id-preserved : goal.loop-id-preserved
loop-id-preserved c =
    one_more (has_table c.loop-id.set) (has_table c.insert.new.self) c.args.ids.now c.args.ids.now c.loop-id.id-index c.id-item.result c.loop-id-test.true c.id-item.is c.in_ok-insert.ensures.updates.0 c.loop-id.invariant
