-- From a commit to an update.
use Rattle.std.specs.Prelude.{◌≡◌, ℕ, ℤ, true, false, Result, Ok, Err, refl}
use Rattle.std.proofs.Common.{inl, inr, sym, subst, ap}
use Rattle.slate_ids.specs.Answers.{Gives, OrMemory, ran_out}
use Rattle.slate_store.specs.declared.store_call.StoreCall.{StoreCall}
use Rattle.slate_ids.specs.declared.error.SlateDBError.{SlateDBError}
use Rattle.slate_store.specs.StoreCalls.{Told}
use Rattle.slate_store.specs.Machines.{Steps}
use Rattle.slate_store.specs.declared.step.Step.{Step}
use Rattle.slate_store.specs.declared.step.Step.TheVariants.{Again, Done}
use Rattle.slate_txn_log.specs.CommitPhase.{commit_asks, commit_goes}
use Rattle.slate_txn_log.specs.Commit.{Committed, CommitBegan}
use Rattle.slate_txn.proofs.Starts.{started_ran}
use Rattle.slate_txn.specs.Holder.{Holder}
use Rattle.slate_txn_log.specs.declared.commit_phase.CommitPhase.{CommitPhase}
use Rattle.slate_txn.specs.declared.update.UpdateMachine.{UpdateMachine}
use Rattle.slate_txn.specs.declared.update.UpdateMachine.TheVariants.{Committing}
use Rattle.slate_txn.specs.Updating.{done_of, Updated, UpdateBegan, UpdateState, held_goes, update_goes, UpdateSteps, done_step, held_by}

done_out : {T : Type 0} (reply : Result (ℕ × T) SlateDBError) → ran_out (done_of reply) ≡ ran_out reply
done_out (Ok version) = refl
done_out (Err e) = refl

-- a commit that ran is an update
pub updated : {T C R : Type 0} (holder : Holder T C R) (moment : ℤ) (old new : Told) (commit : CommitPhase T) (start : Result (CommitPhase T) SlateDBError) (reply : Result (ℕ × T) SlateDBError) (result : Result (Unit {0}) SlateDBError)
    → Gives (Ok commit) start → result ≡ done_of reply
    → OrMemory reply (CommitBegan holder.sequenced.db holder.sequenced.log moment old new commit) (Committed holder.sequenced.db holder.sequenced.log moment old new commit reply)
    → OrMemory result (UpdateBegan holder moment old new start) (Updated holder moment old new start result)
updated holder moment old new commit start reply result gives same ran = started_ran holder.sequenced.db holder.sequenced.log done_of moment old new commit start reply result (done_out reply) gives same ran

abbrev with_commit : {T C R : Type 0} → Holder T C R → CommitPhase T → UpdateState T C R
with_commit holder commit = (Committing commit, holder)

-- a step of the commit is one of the update
pub update_steps : {T C R : Type 0} (old new : Told) (call : StoreCall) (moment : ℤ) (holder : Holder T C R) (p q : CommitPhase T) (step : Step (ℕ × T)) → Steps old new call moment (commit_goes p) p q step
    → Steps old new call moment (update_goes p holder) (Committing p, holder) (Committing q, held_by holder step) (done_step step)
update_steps old new call moment holder p q Again stepped = record { answer = stepped.answer; makes = stepped.makes; gives = ap (held_goes holder) stepped.gives }
update_steps old new call moment holder p q (Done reply) (inl stepped) = inl (record { answer = stepped.answer; makes = stepped.makes; gives = ap (held_goes holder) stepped.gives })
update_steps old new call moment holder p q (Done (Ok version)) (inr m) = absurd (let out : false ≡ true = m.0 in cc)
update_steps old new call moment holder p q (Done (Err e)) (inr m) = inr (m.0, record { kept = ap (with_commit holder) m.1.kept; made = m.1.made })

-- and so next of an update that commits
pub update_next : {T C R : Type 0} (old new : Told) (moment : ℤ) (machine : UpdateMachine T) (holder held : Holder T C R) (p q : CommitPhase T) (step : Step (ℕ × T)) (result : Step (Unit {0}))
    → machine ≡ Committing p → held ≡ held_by holder step → result ≡ done_step step → Steps old new (commit_asks holder.sequenced.db holder.sequenced.log p) moment (commit_goes p) p q step
    → UpdateSteps old new moment (machine, holder) (Committing q, held) result
update_next old new moment machine holder held p q step result at after done steps =
    subst (λ (m : UpdateMachine _). UpdateSteps old new moment (m, holder) (Committing q, held) result) (sym at)
    (subst (λ (h : Holder _ _ _). UpdateSteps old new moment (Committing p, holder) (Committing q, h) result) (sym after)
    (subst (λ (r : Step (Unit {0})). UpdateSteps old new moment (Committing p, holder) (Committing q, held_by holder step) r) (sym done)
    (update_steps old new (commit_asks holder.sequenced.db holder.sequenced.log p) moment holder p q step steps)))
