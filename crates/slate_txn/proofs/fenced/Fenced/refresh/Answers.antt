use Rattle.std.proofs.Common.{subst}
use Rattle.slate_txn_log.specs.Due.{NoFault}
use Rattle.slate_txn.proofs.FencedRefreshes.{after_fence, codec_within, fenced_fault, refreshed_within}
use Rattle.slate_txn.specs.Fencing.{FencedOnly, NoFence}
use Rattle.slate_txn.proofs.fenced.Fenced.refresh.Goals as goal

pub returns-clause-refresh : goal.returns-clause-refresh
returns-clause-refresh g c =
    let old = g.S.ObjectStore.told c.args.store.now in
    let new = g.S.ObjectStore.told c.refresh-reply.new.store in
    let inside = c.self.inside in
    refreshed_within g.C.ObjectCodec.decoded g.E.Epochs.epoch c.args.tries old new (record { holder = inside.stored; epochs = inside.epochs; epoch = inside.epoch }) c.args.self.now c.refresh-reply.new.self c.fence_held.result c.refresh-reply.result c.fence_after.result
    c.self.view_is c.refresh-reply.ensures.refresh c.fence_held.ensures c.fence_after.ensures

pub returns-clause-fault : goal.returns-clause-fault
returns-clause-fault g c = λ good.
    let old = g.S.ObjectStore.told c.args.store.now in
    let new = g.S.ObjectStore.told c.refresh-reply.new.store in
    let inside = c.self.inside in
    let here = codec_within (λ k. NoFault (g.C.ObjectCodec.decoded k)) (record { holder = inside.stored; epochs = inside.epochs; epoch = inside.epoch }) c.args.self.now c.self.view_is good in
    fenced_fault old new inside.epoch (g.E.Epochs.epoch inside.epochs c.refresh-reply.new.self.object) c.fence_held.result c.refresh-reply.result c.fence_after.result
    c.fence_held.ensures (c.refresh-reply.ensures.fault here) c.fence_after.ensures

pub returns-clause-fenced : goal.returns-clause-fenced
returns-clause-fenced g c = λ good.
    let inside = c.self.inside in
    let here = codec_within (λ k. NoFence (g.C.ObjectCodec.decoded k)) (record { holder = inside.stored; epochs = inside.epochs; epoch = inside.epoch }) c.args.self.now c.self.view_is good in
    subst (λ o. FencedOnly o c.fence_after.result) c.fence_held.ensures (after_fence c.fence_held.result c.refresh-reply.result c.fence_after.result (c.refresh-reply.ensures.unfenced here) c.fence_after.ensures)
