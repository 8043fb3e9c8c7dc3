use Rattle.std.proofs.Common.{sym, w64}
use Rattle.std.proofs.lemmas.Int.{to_z-of_z}
use Rattle.slate_txn_laws.specs.Replies.{latest_or_none}
use Rattle.slate_txn_laws.proofs.Told.{latest_or_none_faithful, steps_as}
use Rattle.slate_state_stores.proofs.db_store_machines.DbTryLatestMachine.next.Goals as goal

pub returns-clause-steps : goal.returns-clause-steps
returns-clause-steps g c =
    let steps = steps_as (latest_or_none g.L.DbLog.version_of) (latest_or_none_faithful g.L.DbLog.version_of) _ _ _ c.args.moment _ _ _ _ (rw (to_z-of_z w64 c.args.moment c.ranges.moment) at c.next.ensures.steps) in
    rw (sym c.latest_or_none_step.ensures) at (rw c.log.ensures at steps)
