use Rattle.std.proofs.Common.{w64}
use Rattle.std.proofs.lemmas.Int.{to_z-of_z}
use Rattle.slate_txn.proofs.Creates.{created_out, created_leaves}
use Rattle.slate_txn.proofs.Standing.{start_leaves}
use Rattle.slate_txn.proofs.Starts.{started_ran}
use Rattle.slate_txn.specs.Creating.{created, first_commit}
use Rattle.slate_txn.proofs.stored.Stored.init.Goals as goal

pub returns-clause-init : goal.returns-clause-init
returns-clause-init g c =
    let log = c.args.sequenced in
    let old = g.S.ObjectStore.told c.args.store.now in
    let new = g.S.ObjectStore.told c.run-reply.new.store in
    let start = first_commit (g.C.ObjectCodec.encoded log.codec) c.args.value in
    let reply = c.run-reply.result in
    let ran = rw (to_z-of_z w64 c.args.moment c.ranges.moment) at c.run-reply.ensures.run in
    started_ran log.db log.log (created log c.args.rules) c.args.moment old new c.in_ok-commit.commit start reply c.hold.result (created_out log c.args.rules reply) c.in_ok-commit.ensures.commit c.hold.ensures ran

pub returns-clause-put : goal.returns-clause-put
returns-clause-put g c =
    let log = c.args.sequenced in
    let old = g.S.ObjectStore.told c.args.store.now in
    let new = g.S.ObjectStore.told c.run-reply.new.store in
    let start = first_commit (g.C.ObjectCodec.encoded log.codec) c.args.value in
    let reply = c.run-reply.result in
    let ran = rw (to_z-of_z w64 c.args.moment c.ranges.moment) at c.run-reply.ensures.run in
    (start_leaves log.db log.log (created log c.args.rules) c.args.moment old new c.in_ok-commit.commit start reply c.hold.result (created_leaves log c.args.rules _ _ reply) c.in_ok-commit.ensures.commit c.in_ok-commit.ensures.putting c.hold.ensures ran).put

pub returns-clause-left : goal.returns-clause-left
returns-clause-left g c =
    let log = c.args.sequenced in
    let old = g.S.ObjectStore.told c.args.store.now in
    let new = g.S.ObjectStore.told c.run-reply.new.store in
    let start = first_commit (g.C.ObjectCodec.encoded log.codec) c.args.value in
    let reply = c.run-reply.result in
    let ran = rw (to_z-of_z w64 c.args.moment c.ranges.moment) at c.run-reply.ensures.run in
    (start_leaves log.db log.log (created log c.args.rules) c.args.moment old new c.in_ok-commit.commit start reply c.hold.result (created_leaves log c.args.rules _ _ reply) c.in_ok-commit.ensures.commit c.in_ok-commit.ensures.putting c.hold.ensures ran).left

pub returns-clause-stands : goal.returns-clause-stands
returns-clause-stands g c =
    let log = c.args.sequenced in
    let old = g.S.ObjectStore.told c.args.store.now in
    let new = g.S.ObjectStore.told c.run-reply.new.store in
    let start = first_commit (g.C.ObjectCodec.encoded log.codec) c.args.value in
    let reply = c.run-reply.result in
    let ran = rw (to_z-of_z w64 c.args.moment c.ranges.moment) at c.run-reply.ensures.run in
    (start_leaves log.db log.log (created log c.args.rules) c.args.moment old new c.in_ok-commit.commit start reply c.hold.result (created_leaves log c.args.rules _ _ reply) c.in_ok-commit.ensures.commit c.in_ok-commit.ensures.putting c.hold.ensures ran).either
