-- From an update to one of a fenced holder.
use Rattle.std.proofs.Common.{◌≡◌, ◌≢◌, ℤ, ℕ, true, false, Result, Ok, Err, inl, inr, ap, sym, subst, ◌∙◌}
use Rattle.slate_ids.specs.Answers.{OrMemory, ran_out}
use Rattle.slate_ids.specs.declared.error.SlateDBError.{SlateDBError}
use Rattle.slate_ids.specs.declared.error.SlateDBError.TheVariants.{Fenced}
use Rattle.slate_store.specs.StoreCalls.{Told}
use Rattle.slate_store.specs.Machines.{Goes, Stay, End}
use Rattle.slate_store.specs.declared.step.Step.{Step}
use Rattle.slate_store.specs.declared.step.Step.TheVariants.{Again, Done}
use Rattle.slate_txn.proofs.Fences.{Free, ran_free, commit_free}
use Rattle.slate_txn_log.specs.CommitPhase.{commit_goes}
use Rattle.slate_txn_log.specs.Commit.{Committed}
use Rattle.slate_txn.specs.FencedHolder.{FencedHolder, state_within}
use Rattle.slate_txn.specs.FencedUpdating.{FencedUpdateSteps, goes_within}
use Rattle.slate_txn.specs.Fencing.{NotFenced, NotFencedStep}
use Rattle.slate_txn.specs.Holder.{Holder}
use Rattle.slate_txn.specs.Updating.{Updated, UpdateBegan, UpdateState, UpdateSteps, done_of, held_goes, update_due}
use Rattle.slate_txn_log.specs.declared.commit_phase.CommitPhase.{CommitPhase}
use Rattle.slate_txn.specs.declared.update.UpdateMachine.{UpdateMachine}
use Rattle.slate_txn.specs.declared.update.UpdateMachine.TheVariants.{Refused, Nothing, Committing}

done_free : {T : Type 0} (reply : Result (ℕ × T) SlateDBError) (result : Result (Unit {0}) SlateDBError) → NotFenced reply → done_of reply ≡ result → NotFenced result
done_free (Ok version) result free done = λ own read same. absurd (let both : Ok tt ≡ Err (Fenced own read) = done ∙ same in cc)
done_free (Err e) result free done = λ own read same.
    absurd (let both = done ∙ same in let is : e ≡ Fenced own read = cc in free own read (ap (λ (k : SlateDBError). Err k) is))

updated_free : {T C R : Type 0} (holder : Holder T C R) (moment : ℤ) (old new : Told) (start : Result (CommitPhase T) SlateDBError) (result : Result (Unit {0}) SlateDBError) → NotFenced start → Updated holder moment old new start result → NotFenced result
updated_free holder moment old new (Err e) result free ran = λ own read same.
    absurd (let both = sym ran.0 ∙ same in let is : e ≡ Fenced own read = cc in free own read (ap (λ (k : SlateDBError). Err k) is))
updated_free holder moment old new (Ok commit) result free ran =
    let committed : Committed holder.sequenced.db holder.sequenced.log moment old new commit ran.0 = ran.1 in
    done_free ran.0 result (ran_free (commit_free holder.sequenced.db holder.sequenced.log) committed.1) ran.2

-- an update doesn't answer Fenced, unless it is refused so before any call
pub update_free : {T C R : Type 0} (holder : Holder T C R) (moment : ℤ) (old new : Told) (start : Result (CommitPhase T) SlateDBError) (result : Result (Unit {0}) SlateDBError) → NotFenced start
    → OrMemory result (UpdateBegan holder moment old new start) (Updated holder moment old new start result) → NotFenced result
update_free holder moment old new start result free (inl ran) = updated_free holder moment old new start result free ran
update_free holder moment old new start result free (inr m) = λ own read same. absurd (let not : ran_out result ≡ false = ap ran_out same in let out : ran_out result ≡ true = m.0 in cc)

fenced_steps : {T C R E : Type 0} (old new : Told) (moment : ℤ) (fenced : FencedHolder T C R E) (machine to : UpdateMachine T) (held : Holder T C R) (step : Step (Unit {0}))
    → UpdateSteps old new moment (machine, fenced.holder) (to, held) step → FencedUpdateSteps old new moment (machine, fenced) (to, record fenced { holder = held }) step
fenced_steps old new moment fenced (Refused e) to held step steps = (steps.0, ap (state_within fenced) steps.1)
fenced_steps old new moment fenced Nothing to held step steps = (steps.0, steps.1, ap (state_within fenced) steps.2)
fenced_steps old new moment fenced (Committing commit) to held Again stepped = record { answer = stepped.answer; makes = stepped.makes; gives = ap (goes_within fenced) stepped.gives }
fenced_steps old new moment fenced (Committing commit) to held (Done r) (inl stepped) = inl (record { answer = stepped.answer; makes = stepped.makes; gives = ap (goes_within fenced) stepped.gives })
fenced_steps old new moment fenced (Committing commit) to held (Done r) (inr m) = inr (m.0, record { kept = ap (state_within fenced) m.1.kept; made = m.1.made })

-- a step of the update within is one of the fenced holder
pub fenced_next : {T C R E : Type 0} (old new : Told) (moment : ℤ) (inside fenced : FencedHolder T C R E) (update machine to : UpdateMachine T) (held : Holder T C R) (step : Step (Unit {0}))
    → inside ≡ fenced → update ≡ machine → UpdateSteps old new moment (update, inside.holder) (to, held) step → FencedUpdateSteps old new moment (machine, fenced) (to, record inside { holder = held }) step
fenced_next old new moment inside fenced update machine to held step same phase steps =
    subst (λ (f : FencedHolder _ _ _ _). FencedUpdateSteps old new moment (machine, f) (to, record inside { holder = held }) step) same
    (subst (λ (m : UpdateMachine _). FencedUpdateSteps old new moment (m, inside) (to, record inside { holder = held }) step) phase
    (fenced_steps old new moment inside update to held step steps))

held_free : {T C R : Type 0} (holder : Holder T C R) (out : Goes (CommitPhase T) (ℕ × T)) (state : UpdateState T C R) (own read : ℕ) → Free out → held_goes holder out ≢ End state (Err (Fenced own read))
held_free holder (Stay commit) state own read free = λ same. absurd cc
held_free holder (End commit (Ok version)) state own read free = λ same. absurd cc
held_free holder (End commit (Err e)) state own read free = λ same.
    let is : e ≡ Fenced own read = cc in absurd (free.ends own read commit (ap (λ (k : SlateDBError). End commit (Err k)) is))

-- a step of an update in which a call is due doesn't answer Fenced
pub update_step_free : {T C R : Type 0} (old new : Told) (moment : ℤ) (holder held : Holder T C R) (machine to : UpdateMachine T) (step : Step (Unit {0})) → update_due machine ≡ true → UpdateSteps old new moment (machine, holder) (to, held) step → NotFencedStep step
update_step_free old new moment holder held (Refused e) to step due steps = absurd cc
update_step_free old new moment holder held Nothing to step due steps = absurd cc
update_step_free old new moment holder held (Committing commit) to Again due stepped = λ own read same. absurd cc
update_step_free old new moment holder held (Committing commit) to (Done r) due (inl stepped) = λ own read same.
    let is : r ≡ Err (Fenced own read) = cc in
    let never = commit_free holder.sequenced.db holder.sequenced.log in
    held_free holder (commit_goes commit stepped.answer) (to, held) own read (never.free commit stepped.answer stepped.makes.kind) (stepped.gives ∙ ap (λ (k : Result _ SlateDBError). End (to, held) k) is)
update_step_free old new moment holder held (Committing commit) to (Done r) due (inr m) = λ own read same.
    absurd (let is : r ≡ Err (Fenced own read) = cc in let not : ran_out r ≡ false = ap ran_out is in let out : ran_out r ≡ true = m.0 in cc)
