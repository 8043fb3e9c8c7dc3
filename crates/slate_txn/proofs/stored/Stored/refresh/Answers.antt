use Rattle.slate_txn.proofs.Refreshes.{refreshes, refresh_kept, refresh_fault, refresh_free}
use Rattle.slate_txn.proofs.stored.Stored.refresh.Goals as goal

pub returns-clause-refresh : goal.returns-clause-refresh
returns-clause-refresh g c =
    let old = g.S.ObjectStore.told c.args.store.now in
    let new = g.S.ObjectStore.told c.read_latest-reply.new.store in
    let inside = c.self.inside in
    refreshes g.C.ObjectCodec.decoded c.args.tries old new (record { sequenced = inside.sequenced; rules = inside.rules; id = inside.id; object = inside.object }) c.args.self.now c.hold.new.holder c.read_latest-reply.result c.hold.result
    c.self.view_is c.read_latest-reply.ensures.read c.hold.ensures.held c.hold.ensures.answers

pub returns-clause-kept : goal.returns-clause-kept
returns-clause-kept g c = refresh_kept c.args.self.now c.hold.new.holder c.read_latest-reply.result c.hold.result c.hold.ensures.held c.hold.ensures.answers

pub returns-clause-fault : goal.returns-clause-fault
returns-clause-fault g c =
    let old = g.S.ObjectStore.told c.args.store.now in
    let new = g.S.ObjectStore.told c.read_latest-reply.new.store in
    let inside = c.self.inside in
    refresh_fault g.C.ObjectCodec.decoded old new (record { sequenced = inside.sequenced; rules = inside.rules; id = inside.id; object = inside.object }) c.args.self.now c.read_latest-reply.result c.hold.result
    c.self.view_is c.read_latest-reply.ensures.fault c.hold.ensures.answers

pub returns-clause-unfenced : goal.returns-clause-unfenced
returns-clause-unfenced g c =
    let old = g.S.ObjectStore.told c.args.store.now in
    let new = g.S.ObjectStore.told c.read_latest-reply.new.store in
    let inside = c.self.inside in
    refresh_free g.C.ObjectCodec.decoded c.args.tries old new (record { sequenced = inside.sequenced; rules = inside.rules; id = inside.id; object = inside.object }) c.args.self.now c.read_latest-reply.result c.hold.result
    c.self.view_is c.read_latest-reply.ensures.read c.hold.ensures.answers
