use Rattle.std.proofs.Common.{sym}
use Rattle.slate_txn_laws.specs.Replies.{latest}
use Rattle.slate_txn_laws.proofs.Told.{latest_faithful, read_as}
use Rattle.slate_state_stores.proofs.db_store.DbStore.read_latest.Goals as goal

pub returns-clause-read : goal.returns-clause-read
returns-clause-read g c =
    let read = read_as g.L.Codec.ObjectCodec.decoded (latest g.L.DbLog.version_of) (latest_faithful g.L.DbLog.version_of) _ c.args.tries _ _ _ c.read_latest.ensures.read in
    rw (sym c.latest_of.ensures) at (rw c.self.view_is at read)
