use Rattle.std.proofs.Common.{subst, w64}
use Rattle.std.proofs.lemmas.Int.{to_z-of_z}
use Rattle.slate_store.specs.Machines.{Steps}
use Rattle.slate_txn_log.specs.CommitPhase.{commit_asks, commit_goes}
use Rattle.slate_txn.specs.Holder.{Holder}
use Rattle.slate_txn.proofs.Updates.{update_next}
use Rattle.slate_txn.proofs.update.UpdateMachine.next.Goals as goal

pub returns-in-Committing-clause-steps : goal.returns-in-Committing-clause-steps
returns-in-Committing-clause-steps g c =
    let old = g.S.ObjectStore.told c.args.store.now in
    let new = g.S.ObjectStore.told c.next-step.new.store in
    let steps = rw (to_z-of_z w64 c.args.moment c.ranges.moment) at c.next-step.ensures.steps in
    update_next old new c.args.moment c.args.self.now c.args.holder.now c.hold_step.new.holder c.in-Committing.commit c.next-step.new.self c.next-step.result c.hold_step.result
    c.in-Committing.is c.hold_step.ensures.held c.hold_step.ensures.step
    (subst (λ (h : Holder _ _ _). Steps old new (commit_asks h.sequenced.db h.sequenced.log c.in-Committing.commit) c.args.moment (commit_goes c.in-Committing.commit) c.in-Committing.commit c.next-step.new.self c.next-step.result) c.holder.view_is steps)
