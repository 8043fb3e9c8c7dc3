-- An update of the value held, and the commit of what a function makes of it.
use Rattle.std.specs.Prelude.{◌≡◌, ℕ, ℤ, ◌==◌, Bool, true, false, List, Option, Some, None, Result, Ok, Err, if◌then◌else◌}
use Rattle.slate_ids.specs.Answers.{OrMemory}
use Rattle.slate_ids.specs.declared.error.SlateDBError.{SlateDBError}
use Rattle.slate_ids.specs.declared.error.SlateDBError.TheVariants.{TransactionalObjectVersionExists}
use Rattle.slate_store.specs.StoreCalls.{Told}
use Rattle.slate_store.specs.Machines.{Goes, Stay, End, Steps, AnswersAtOnce}
use Rattle.slate_store.specs.declared.step.Step.{Step}
use Rattle.slate_store.specs.declared.step.Step.TheVariants.{Again, Done}
use Rattle.slate_store.specs.declared.store_answer.StoreAnswer.{StoreAnswer}
use Rattle.slate_txn_log.specs.CommitPhase.{prepared, commit_asks, commit_goes, commit_due}
use Rattle.slate_txn.specs.Holder.{Holder, at_version}
use Rattle.slate_txn.specs.Starts.{StartRan, StartBegan}
use Rattle.slate_txn_log.specs.declared.commit_phase.CommitPhase.{CommitPhase}
use Rattle.slate_txn_log.specs.declared.commit_phase.CommitPhase.TheVariants.{Over}
use Rattle.slate_txn.specs.declared.stored.DirtyObject.{DirtyObject}
use Rattle.slate_txn_log.specs.declared.right.Right.{Right}
use Rattle.slate_txn.specs.declared.update.UpdateMachine.{UpdateMachine}
use Rattle.slate_txn.specs.declared.update.UpdateMachine.TheVariants.{Refused, Nothing, Committing}

-- an update begins where the dirty value's number is the holder's: then it is the commit of that value
abbrev pub started : {T C R : Type 0} → (R → ℕ → T → T → Right → Option SlateDBError) → (C → T → Result (List ℕ) SlateDBError) → Holder T C R
    → DirtyObject T → Right → Result (CommitPhase T) SlateDBError
started refusal encoded holder dirty right =
    if dirty.id == holder.id then prepared (refusal holder.rules) (encoded holder.sequenced.codec) holder.id holder.object dirty.value right else Err (TransactionalObjectVersionExists dirty.id None)

-- the answer: the version was committed, or why not
abbrev pub done_of : {T : Type 0} → Result (ℕ × T) SlateDBError → Result (Unit {0}) SlateDBError
done_of (Ok version) = Ok tt
done_of (Err e) = Err e

-- after Ok the holder holds what was put, and else it is unchanged
abbrev pub held_of : {T C R : Type 0} → Holder T C R → Result (ℕ × T) SlateDBError → Holder T C R
held_of holder (Ok version) = at_version holder version.0 version.1
held_of holder (Err e) = holder

-- an update that is refused at once makes no call; else its commit ran
abbrev pub Updated : {T C R : Type 0} → Holder T C R → ℤ → Told → Told → Result (CommitPhase T) SlateDBError → Result (Unit {0}) SlateDBError → Type 0
Updated holder moment old new start result = StartRan holder.sequenced.db holder.sequenced.log done_of moment old new start result

-- memory ran out before the first call, or within the commit
abbrev pub UpdateBegan : {T C R : Type 0} → Holder T C R → ℤ → Told → Told → Result (CommitPhase T) SlateDBError → Type 0
UpdateBegan holder moment old new start = StartBegan holder.sequenced.db holder.sequenced.log moment old new start

-- a whole update of a holder
abbrev pub Updates : {T C R : Type 0} → (R → ℕ → T → T → Right → Option SlateDBError) → (C → T → Result (List ℕ) SlateDBError) → ℤ → Told → Told
    → Holder T C R → DirtyObject T → Right → Result (Unit {0}) SlateDBError → Type 0
Updates refusal encoded moment old new holder dirty right result =
    OrMemory result (UpdateBegan holder moment old new (started refusal encoded holder dirty right)) (Updated holder moment old new (started refusal encoded holder dirty right) result)

-- the machine of an update
abbrev pub update_of : {T : Type 0} → Result (CommitPhase T) SlateDBError → UpdateMachine T
update_of (Ok commit) = Committing commit
update_of (Err e) = Refused e

-- the machine of the commit of what a function makes of the value held, where it makes a value
abbrev pub maybe_of : {T : Type 0} → Result (Option (CommitPhase T)) SlateDBError → UpdateMachine T
maybe_of (Ok (Some commit)) = Committing commit
maybe_of (Ok None) = Nothing
maybe_of (Err e) = Refused e

-- whether a call is due
abbrev pub update_due : {T : Type 0} → UpdateMachine T → Bool
update_due (Refused e) = false
update_due Nothing = false
update_due (Committing commit) = commit_due commit

-- whether it has not ended
abbrev pub update_open : {T : Type 0} → UpdateMachine T → Bool
update_open (Refused e) = true
update_open Nothing = true
update_open (Committing commit) = commit_due commit

-- the machine and the holder
abbrev pub UpdateState : Type 0 → Type 0 → Type 0 → Type 0
UpdateState T C R = UpdateMachine T × Holder T C R

-- with its holder: where the commit ends, so does the update
abbrev pub held_goes : {T C R : Type 0} → Holder T C R → Goes (CommitPhase T) (ℕ × T) → Goes (UpdateState T C R) (Unit {0})
held_goes holder (Stay commit) = Stay (Committing commit, holder)
held_goes holder (End commit reply) = End (Committing commit, held_of holder reply) (done_of reply)

-- how an update goes on after its commit
abbrev pub update_goes : {T C R : Type 0} → CommitPhase T → Holder T C R → StoreAnswer → Goes (UpdateState T C R) (Unit {0})
update_goes commit holder answer = held_goes holder (commit_goes commit answer)

-- what next does: where nothing is committed it answers at once, and else the commit takes a step
abbrev pub UpdateSteps : {T C R : Type 0} → Told → Told → ℤ → UpdateState T C R → UpdateState T C R → Step (Unit {0}) → Type 0
UpdateSteps old new moment (Refused e, holder) to step = AnswersAtOnce old new e step × (to ≡ (Committing Over, holder))
UpdateSteps old new moment (Nothing, holder) to step = (new ≡ old) × (step ≡ Done (Ok tt)) × (to ≡ (Committing Over, holder))
UpdateSteps old new moment (Committing commit, holder) to step =
    Steps old new (commit_asks holder.sequenced.db holder.sequenced.log commit) moment (update_goes commit holder) (Committing commit, holder) to step

-- the answer of a step of the commit
abbrev pub done_step : {T : Type 0} → Step (ℕ × T) → Step (Unit {0})
done_step Again = Again
done_step (Done reply) = Done (done_of reply)

-- what is held after it
abbrev pub held_by : {T C R : Type 0} → Holder T C R → Step (ℕ × T) → Holder T C R
held_by holder Again = holder
held_by holder (Done reply) = held_of holder reply
