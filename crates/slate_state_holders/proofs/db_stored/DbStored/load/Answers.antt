use Rattle.std.proofs.Common.{sym}
use Rattle.slate_state_holders.specs.Holders.{LogOf}
use Rattle.slate_state_holders.proofs.db_stored.DbStored.load.Goals as goal

pub returns-clause-load : goal.returns-clause-load
returns-clause-load g c =
    let of : LogOf g.row.L-Value.Denot g.row.L-Codec.Denot g.row.L-Rules.Denot g.L.DbLog.its_kind c.args.db = record { log = c.log_of-log.result; rules = c.rules.result; at = c.log_of-log.ensures.db; of_kind = c.log_of-log.ensures.log } in
    (of, rw (sym c.hold.ensures) at c.load.ensures.load)
