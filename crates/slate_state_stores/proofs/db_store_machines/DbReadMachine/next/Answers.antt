use Rattle.std.proofs.Common.{sym, w64}
use Rattle.std.proofs.lemmas.Int.{to_z-of_z}
use Rattle.slate_txn_laws.specs.Replies.{present_at}
use Rattle.slate_txn_laws.proofs.Told.{present_at_faithful, steps_as}
use Rattle.slate_state_stores.proofs.db_store_machines.DbReadMachine.next.Goals as goal

pub returns-clause-steps : goal.returns-clause-steps
returns-clause-steps g c =
    let steps = steps_as (present_at g.L.DbLog.missing_at c.args.self.now.phase) (present_at_faithful g.L.DbLog.missing_at g.met.L.DbLog.missing_plain c.args.self.now.phase) _ _ _ c.args.moment _ _ _ _ (rw (to_z-of_z w64 c.args.moment c.ranges.moment) at c.next.ensures.steps) in
    rw (sym c.present_step.ensures) at (rw c.log.ensures at steps)
