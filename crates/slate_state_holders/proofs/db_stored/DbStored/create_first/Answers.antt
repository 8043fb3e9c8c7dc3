use Rattle.std.proofs.Common.{sym, w64, ◌∙◌, refl}
use Rattle.std.proofs.lemmas.Int.{to_z-of_z}
use Rattle.slate_state_holders.specs.Holders.{LogOf}
use Rattle.slate_ids.specs.declared.error.SlateDBError.TheVariants.{StoreFault}
use Rattle.slate_txn_laws.proofs.PlainCommits.{apart, first_so}
use Rattle.slate_state_holders.proofs.FirstStand.{none_before, put_after, stands_after}
use Rattle.slate_state_holders.proofs.db_stored.DbStored.create_first.Goals as goal

pub returns-clause-create : goal.returns-clause-create
returns-clause-create g c =
    let of : LogOf g.row.L-Value.Denot g.row.L-Codec.Denot g.row.L-Rules.Denot g.L.DbLog.its_kind c.args.db = record { log = c.log_of-log.result; rules = c.rules.result; at = c.log_of-log.ensures.db; of_kind = c.log_of-log.ensures.log } in
    (of, rw (sym c.hold.ensures) at (rw (to_z-of_z w64 c.args.moment c.ranges.moment) at c.init.ensures.init))

pub returns-clause-fault : goal.returns-clause-fault
returns-clause-fault g c = λ same.
    let codec = c.log_of-log.result.codec in
    let encoded = g.L.Codec.ObjectCodec.encoded codec in
    c.init.ensures.fault (apart StoreFault _ refl (first_so encoded c.args.first (g.met.L.DbLog.plain.encodes codec c.args.first))) (sym c.hold.ensures ∙ same)

pub returns-clause-before : goal.returns-clause-before
returns-clause-before g c = none_before g.L.Codec.ObjectCodec.encoded c.log_of-log.result.codec c.args.first c.init.ensures.before

pub returns-clause-put : goal.returns-clause-put
returns-clause-put g c =
    let h = rw (to_z-of_z w64 c.args.moment c.ranges.moment) at c.init.ensures.put in
    let put = put_after g.L.Codec.ObjectCodec.encoded c.log_of-log.result g.L.DbLog.its_kind c.args.db c.args.first c.args.moment (g.S.ObjectStore.told c.args.store.now) (g.S.ObjectStore.told c.init.new.store) c.log_of-log.ensures.db c.log_of-log.ensures.log c.init.result h in
    rw (sym c.hold.ensures) at put

pub returns-clause-left : goal.returns-clause-left
returns-clause-left g c = rw (sym c.hold.ensures) at c.init.ensures.left

pub returns-clause-stands : goal.returns-clause-stands
returns-clause-stands g c =
    let h = rw (to_z-of_z w64 c.args.moment c.ranges.moment) at c.init.ensures.stands in
    let stands = stands_after g.L.Codec.ObjectCodec.encoded c.log_of-log.result g.L.DbLog.its_kind c.args.db c.args.first c.args.moment (g.S.ObjectStore.told c.args.store.now) (g.S.ObjectStore.told c.init.new.store) c.log_of-log.ensures.db c.log_of-log.ensures.log c.init.result h in
    rw (sym c.hold.ensures) at stands
