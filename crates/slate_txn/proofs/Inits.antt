-- A refusal of its commit ends the machine of a fence, unless memory ran out.
use Rattle.std.specs.Prelude.{◌≡◌, ℕ, ℤ, Err, true, false}
use Rattle.std.proofs.Common.{inl, inr, ap, sym, ◌∙◌}
use Rattle.slate_ids.specs.Answers.{is_memory}
use Rattle.slate_ids.specs.declared.error.SlateDBError.{SlateDBError}
use Rattle.slate_store.specs.StoreCalls.{Told}
use Rattle.slate_store.specs.Machines.{Steps}
use Rattle.slate_store.specs.declared.step.Step.TheVariants.{Done}
use Rattle.slate_txn_log.specs.CommitPhase.{commit_asks, commit_goes}
use Rattle.slate_txn.specs.Holder.{Holder}
use Rattle.slate_txn_log.specs.declared.commit_phase.CommitPhase.{CommitPhase}
use Rattle.slate_txn.specs.declared.init.InitMachine.{InitMachine}
use Rattle.slate_txn.specs.declared.init.InitMachine.TheVariants.{Committing, Over}
use Rattle.slate_txn.specs.Initing.{InitSteps, fenced_goes}

-- any other refusal ends it
pub init_ends : {T C R E : Type 0} (epoch : E → T → ℕ) (old new : Told) (moment : ℤ) (p q : CommitPhase T) (holder : Holder T C R) (epochs : E) (e : SlateDBError) → is_memory e ≡ false
    → Steps old new (commit_asks holder.sequenced.db holder.sequenced.log p) moment (commit_goes p) p q (Done (Err e))
    → InitSteps epoch old new moment (Committing p holder epochs) Over (Done (Err e))
init_ends epoch old new moment p q holder epochs e other (inl stepped) = inl (record { answer = stepped.answer; makes = stepped.makes; gives = ap (fenced_goes epoch holder epochs) stepped.gives })
init_ends epoch old new moment p q holder epochs e other (inr m) = absurd (let both : true ≡ false = sym m.0 ∙ other in cc)
