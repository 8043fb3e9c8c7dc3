-- An update of the version that a fenced holder holds.
use Rattle.std.specs.Prelude.{◌≡◌, ℕ, ℤ, Ok}
use Rattle.slate_store.specs.StoreCalls.{Told}
use Rattle.slate_store.specs.Machines.{Goes, Stay, End, Steps, AnswersAtOnce}
use Rattle.slate_store.specs.declared.step.Step.{Step}
use Rattle.slate_store.specs.declared.step.Step.TheVariants.{Done}
use Rattle.slate_store.specs.declared.store_answer.StoreAnswer.{StoreAnswer}
use Rattle.slate_txn_log.specs.CommitPhase.{commit_asks}
use Rattle.slate_txn_log.specs.declared.commit_phase.CommitPhase.{CommitPhase}
use Rattle.slate_txn_log.specs.declared.commit_phase.CommitPhase.TheVariants.{Over}
use Rattle.slate_txn_log.specs.Fence.{unless}
use Rattle.slate_txn.specs.Apply.{Ways, renews}
use Rattle.slate_txn.specs.FencedHolder.{FencedHolder, state_within}
use Rattle.slate_txn.specs.Fencing.{held_fence}
use Rattle.slate_txn.specs.Updating.{UpdateState, maybe_of, update_goes}
use Rattle.slate_txn.specs.declared.update.UpdateMachine.{UpdateMachine}
use Rattle.slate_txn.specs.declared.update.UpdateMachine.TheVariants.{Refused, Nothing, Committing}

-- the machine of the commit of what these ways make of the version that a fenced holder holds, unless that version refuses it
abbrev pub fenced_maybe : {T C R E : Type 0} → (E → T → ℕ) → Ways T C R → FencedHolder T C R E → UpdateMachine T
fenced_maybe epoch ways fenced = maybe_of (unless (held_fence epoch fenced) (renews ways fenced.holder fenced.holder.id fenced.holder.object))

-- the machine and the fenced holder
abbrev pub FencedUpdateState : Type 0 → Type 0 → Type 0 → Type 0 → Type 0
FencedUpdateState T C R E = UpdateMachine T × FencedHolder T C R E

-- and so how it goes on
abbrev pub goes_within : {T C R E : Type 0} → FencedHolder T C R E → Goes (UpdateState T C R) (Unit {0}) → Goes (FencedUpdateState T C R E) (Unit {0})
goes_within fenced (Stay state) = Stay (state_within fenced state)
goes_within fenced (End state reply) = End (state_within fenced state) reply

-- how it goes on after its commit: as the update of the holder within, and the own epoch stays
abbrev pub fenced_update_goes : {T C R E : Type 0} → CommitPhase T → FencedHolder T C R E → StoreAnswer → Goes (FencedUpdateState T C R E) (Unit {0})
fenced_update_goes commit fenced answer = goes_within fenced (update_goes commit fenced.holder answer)

-- what next does: where nothing is committed it answers at once, and else the commit takes a step
abbrev pub FencedUpdateSteps : {T C R E : Type 0} → Told → Told → ℤ → FencedUpdateState T C R E → FencedUpdateState T C R E → Step (Unit {0}) → Type 0
FencedUpdateSteps old new moment (Refused e, fenced) to step = AnswersAtOnce old new e step × (to ≡ (Committing Over, fenced))
FencedUpdateSteps old new moment (Nothing, fenced) to step = (new ≡ old) × (step ≡ Done (Ok tt)) × (to ≡ (Committing Over, fenced))
FencedUpdateSteps old new moment (Committing commit, fenced) to step =
    Steps old new (commit_asks fenced.holder.sequenced.db fenced.holder.sequenced.log commit) moment (fenced_update_goes commit fenced) (Committing commit, fenced) to step
