use Rattle.std.proofs.Common.{w64, subst}
use Rattle.std.proofs.lemmas.Int.{to_z-of_z}
use Rattle.slate_ids.specs.Answers.{OrMemory}
use Rattle.slate_txn_log.specs.Commit.{Committed, CommitBegan}
use Rattle.slate_txn.specs.Holder.{Holder}
use Rattle.slate_txn.proofs.Standing.{not_before, update_left}
use Rattle.slate_txn.proofs.Updates.{updated}
use Rattle.slate_txn.specs.Updating.{started}
use Rattle.slate_txn.proofs.stored.Stored.update.Goals as goal

pub returns-clause-update : goal.returns-clause-update
returns-clause-update g c =
    let old = g.S.ObjectStore.told c.args.store.now in
    let new = g.S.ObjectStore.told c.run-reply.new.store in
    let commit = c.in_ok-commit.commit in
    let reply = c.run-reply.result in
    let ran = rw (to_z-of_z w64 c.args.moment c.ranges.moment) at c.run-reply.ensures.run in
    let start = started g.R.Rules.refusal g.C.ObjectCodec.encoded c.args.self.now c.args.dirty c.args.right.now in
    updated c.args.self.now c.args.moment old new commit start reply c.hold.result c.in_ok-commit.ensures.commit c.hold.ensures.done
    (subst (λ (h : Holder _ _ _). OrMemory reply (CommitBegan h.sequenced.db h.sequenced.log c.args.moment old new commit) (Committed h.sequenced.db h.sequenced.log c.args.moment old new commit reply)) c.self.view_is ran)

pub returns-clause-before : goal.returns-clause-before
returns-clause-before g c = not_before c.in_ok-commit.commit (started g.R.Rules.refusal g.C.ObjectCodec.encoded c.args.self.now c.args.dirty c.args.right.now) _ c.in_ok-commit.ensures.commit

pub returns-clause-put : goal.returns-clause-put
returns-clause-put g c =
    let ran = rw (to_z-of_z w64 c.args.moment c.ranges.moment) at c.run-reply.ensures.run in
    let start = started g.R.Rules.refusal g.C.ObjectCodec.encoded c.args.self.now c.args.dirty c.args.right.now in
    (update_left _ c.args.self.now c.args.moment (g.S.ObjectStore.told c.args.store.now) (g.S.ObjectStore.told c.run-reply.new.store)
    c.in_ok-commit.commit start c.run-reply.result c.hold.result c.self.view_is c.in_ok-commit.ensures.commit c.in_ok-commit.ensures.putting c.hold.ensures.done ran).put

pub returns-clause-left : goal.returns-clause-left
returns-clause-left g c =
    let ran = rw (to_z-of_z w64 c.args.moment c.ranges.moment) at c.run-reply.ensures.run in
    let start = started g.R.Rules.refusal g.C.ObjectCodec.encoded c.args.self.now c.args.dirty c.args.right.now in
    (update_left _ c.args.self.now c.args.moment (g.S.ObjectStore.told c.args.store.now) (g.S.ObjectStore.told c.run-reply.new.store)
    c.in_ok-commit.commit start c.run-reply.result c.hold.result c.self.view_is c.in_ok-commit.ensures.commit c.in_ok-commit.ensures.putting c.hold.ensures.done ran).left

pub returns-clause-stands : goal.returns-clause-stands
returns-clause-stands g c =
    let ran = rw (to_z-of_z w64 c.args.moment c.ranges.moment) at c.run-reply.ensures.run in
    let start = started g.R.Rules.refusal g.C.ObjectCodec.encoded c.args.self.now c.args.dirty c.args.right.now in
    (update_left _ c.args.self.now c.args.moment (g.S.ObjectStore.told c.args.store.now) (g.S.ObjectStore.told c.run-reply.new.store)
    c.in_ok-commit.commit start c.run-reply.result c.hold.result c.self.view_is c.in_ok-commit.ensures.commit c.in_ok-commit.ensures.putting c.hold.ensures.done ran).either
