use Rattle.std.proofs.Common.{◌≡◌, true, false, subst, sym, Err, w64}
use Rattle.slate_ids.specs.Answers.{is_memory}
use Rattle.std.proofs.lemmas.Int.{to_z-of_z}
use Rattle.slate_store.specs.Machines.{Steps}
use Rattle.slate_store.specs.declared.step.Step.TheVariants.{Done}
use Rattle.slate_txn_log.specs.CommitPhase.{commit_asks, commit_goes}
use Rattle.slate_txn.specs.Holder.{Holder}
use Rattle.slate_txn.specs.Initing.{InitSteps}
use Rattle.slate_txn.proofs.Inits.{init_ends}
use Rattle.slate_txn.specs.declared.init.InitMachine.{InitMachine}
use Rattle.slate_txn.specs.declared.init.InitMachine.TheVariants.{Over}
use Rattle.slate_txn.proofs.init.InitMachine.next.Goals as goal

pub returns-else-is_memory-clause-steps : goal.returns-else-is_memory-clause-steps
returns-else-is_memory-clause-steps g c =
    let old = g.S.ObjectStore.told c.args.store.now in
    let new = g.S.ObjectStore.told c.next-step.new.store in
    let stored = c.in-Committing.stored in
    let epochs = c.in-Committing.epochs in
    let from = c.in-Committing.commit in
    let to = c.next-step.new.self in
    let e = c.in-Done-Err.e in
    let other : is_memory e ≡ false = search in
    let stepped = rw c.in-Done-Err.field-0-is at (rw (to_z-of_z w64 c.args.moment c.ranges.moment) at c.in-Done-Err.ensures.steps) in
    let here = subst (λ (h : Holder _ _ _). Steps old new (commit_asks h.sequenced.db h.sequenced.log from) c.args.moment (commit_goes from) from to (Done (Err e))) c.stored.view_is stepped in
    subst (λ (m : InitMachine _ _ _ _). InitSteps g.E.Epochs.epoch old new c.args.moment c.args.self.now m (Done (Err e))) (sym c.replace.ensures.after)
    (subst (λ (m : InitMachine _ _ _ _). InitSteps g.E.Epochs.epoch old new c.args.moment m Over (Done (Err e))) c.in-Committing.ensures.value
    (init_ends g.E.Epochs.epoch old new c.args.moment from to stored epochs e other here))
