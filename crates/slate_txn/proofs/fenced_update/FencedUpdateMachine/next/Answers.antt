use Rattle.std.proofs.Common.{w64, subst, ap, ◌∙◌}
use Rattle.std.proofs.lemmas.Int.{to_z-of_z}
use Rattle.slate_txn.proofs.FencedUpdates.{fenced_next, update_step_free}
use Rattle.slate_txn.specs.Updating.{UpdateSteps, update_due}
use Rattle.slate_txn.proofs.fenced_update.FencedUpdateMachine.next.Goals as goal

pub returns-clause-steps : goal.returns-clause-steps
returns-clause-steps g c =
    let old = g.S.ObjectStore.told c.args.store.now in
    let new = g.S.ObjectStore.told c.next.new.store in
    let steps = subst (λ m. UpdateSteps old new m (c.self.inside.update, c.holder.inside.stored) (c.next.new.self, c.next.new.holder) c.next.result) (to_z-of_z w64 c.args.moment c.ranges.moment) c.next.ensures.steps in
    fenced_next old new c.args.moment (record { holder = c.holder.inside.stored; epochs = c.holder.inside.epochs; epoch = c.holder.inside.epoch }) c.args.holder.now c.self.inside.update c.args.self.now c.next.new.self c.next.new.holder c.next.result
    c.holder.view_is c.self.view_is steps

pub returns-clause-fenced : goal.returns-clause-fenced
returns-clause-fenced g c = λ due. update_step_free _ _ _ c.holder.inside.stored c.next.new.holder c.self.inside.update c.next.new.self c.next.result (ap update_due c.self.view_is ∙ due) c.next.ensures.steps
