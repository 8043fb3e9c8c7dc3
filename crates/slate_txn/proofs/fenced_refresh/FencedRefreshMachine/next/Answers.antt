use Rattle.std.proofs.Common.{subst, w64, ap, ◌∙◌}
use Rattle.std.proofs.lemmas.Int.{to_z-of_z}
use Rattle.slate_txn_log.specs.Due.{NoFault}
use Rattle.slate_txn.proofs.FencedRefreshes.{after_fence_step, codec_within, fenced_step_fault, fenced_refresh_next}
use Rattle.slate_txn.specs.FencedRefreshing.{fence_after_step}
use Rattle.slate_txn.specs.Fencing.{FencedStep, NoFence}
use Rattle.slate_txn.proofs.fenced_refresh.FencedRefreshMachine.next.Goals as goal

pub returns-clause-steps : goal.returns-clause-steps
returns-clause-steps g c =
    let old = g.S.ObjectStore.told c.args.store.now in
    let new = g.S.ObjectStore.told c.next-step.new.store in
    let inside = c.holder.inside in
    let steps = rw (to_z-of_z w64 c.args.moment c.ranges.moment) at c.next-step.ensures.steps in
    fenced_refresh_next g.C.ObjectCodec.decoded g.E.Epochs.epoch old new c.args.moment (record { holder = inside.stored; epochs = inside.epochs; epoch = inside.epoch }) c.args.holder.now
    c.self.inside.refresh c.args.self.now c.next-step.new.self c.next-step.new.holder c.next-step.result c.fence_after_step.result
    c.holder.view_is c.self.view_is steps (c.fence_after_step.ensures ∙ ap (λ o. fence_after_step o c.next-step.result) c.fence_held.ensures)

pub returns-clause-fault : goal.returns-clause-fault
returns-clause-fault g c = λ good.
    let old = g.S.ObjectStore.told c.args.store.now in
    let new = g.S.ObjectStore.told c.next-step.new.store in
    let inside = c.holder.inside in
    let here = codec_within (λ k. NoFault (g.C.ObjectCodec.decoded k)) (record { holder = inside.stored; epochs = inside.epochs; epoch = inside.epoch }) c.args.holder.now c.holder.view_is good in
    fenced_step_fault old new inside.epoch (g.E.Epochs.epoch inside.epochs c.next-step.new.holder.object) c.fence_held.result c.next-step.result c.fence_after_step.result
    c.fence_held.ensures (c.next-step.ensures.fault here) c.fence_after_step.ensures

pub returns-clause-fenced : goal.returns-clause-fenced
returns-clause-fenced g c = λ good.
    let inside = c.holder.inside in
    let here = codec_within (λ k. NoFence (g.C.ObjectCodec.decoded k)) (record { holder = inside.stored; epochs = inside.epochs; epoch = inside.epoch }) c.args.holder.now c.holder.view_is good in
    subst (λ o. FencedStep o c.fence_after_step.result) c.fence_held.ensures (after_fence_step c.fence_held.result c.next-step.result c.fence_after_step.result (c.next-step.ensures.unfenced here) c.fence_after_step.ensures)
