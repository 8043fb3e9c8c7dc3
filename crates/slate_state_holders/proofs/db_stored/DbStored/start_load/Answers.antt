use Rattle.slate_state_holders.specs.Holders.{LogOf}
use Rattle.slate_state_holders.proofs.db_stored.DbStored.start_load.Goals as goal

pub returns : goal.returns
returns g c =
    let of : LogOf g.row.L-Value.Denot g.row.L-Codec.Denot g.row.L-Rules.Denot g.L.DbLog.its_kind c.args.db = record { log = c.log_of.result; rules = c.rules.result; at = c.log_of.ensures.db; of_kind = c.log_of.ensures.log } in
    (of, c.start_load.ensures)
