use Rattle.std.proofs.Common.{w64}
use Rattle.std.proofs.lemmas.Int.{to_z-of_z}
use Rattle.slate_txn.proofs.Refreshes.{refresh_next, step_fault, next_free}
use Rattle.slate_txn.proofs.refresh.RefreshMachine.next.Goals as goal

pub returns-clause-steps : goal.returns-clause-steps
returns-clause-steps g c =
    let old = g.S.ObjectStore.told c.args.store.now in
    let new = g.S.ObjectStore.told c.next-step.new.store in
    let inside = c.holder.inside in
    let steps = rw (to_z-of_z w64 c.args.moment c.ranges.moment) at c.next-step.ensures.steps in
    refresh_next g.C.ObjectCodec.decoded old new c.args.moment (record { sequenced = inside.sequenced; rules = inside.rules; id = inside.id; object = inside.object }) c.args.holder.now c.hold_step.new.holder
    c.self.inside.read c.args.self.now c.next-step.new.self c.next-step.result c.hold_step.result
    c.holder.view_is c.self.view_is c.hold_step.ensures.held c.hold_step.ensures.step steps

pub returns-clause-fault : goal.returns-clause-fault
returns-clause-fault g c =
    let old = g.S.ObjectStore.told c.args.store.now in
    let new = g.S.ObjectStore.told c.next-step.new.store in
    let inside = c.holder.inside in
    step_fault g.C.ObjectCodec.decoded old new (record { sequenced = inside.sequenced; rules = inside.rules; id = inside.id; object = inside.object }) c.args.holder.now c.next-step.result c.hold_step.result
    c.holder.view_is c.next-step.ensures.fault c.hold_step.ensures.step

pub returns-clause-unfenced : goal.returns-clause-unfenced
returns-clause-unfenced g c =
    let old = g.S.ObjectStore.told c.args.store.now in
    let new = g.S.ObjectStore.told c.next-step.new.store in
    let inside = c.holder.inside in
    next_free g.C.ObjectCodec.decoded old new _ (record { sequenced = inside.sequenced; rules = inside.rules; id = inside.id; object = inside.object }) c.args.holder.now c.self.inside.read c.next-step.new.self c.next-step.result c.hold_step.result
    c.holder.view_is c.next-step.ensures.steps c.hold_step.ensures.step
