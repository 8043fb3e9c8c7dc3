-- The machine that makes a fenced holder in one try.
use Rattle.std.specs.Prelude.{◌≡◌, ℕ, ℤ, Bool, true, false, Option, Some, None, Result, Ok, Err}
use Rattle.slate_ids.specs.declared.error.SlateDBError.{SlateDBError}
use Rattle.slate_store.specs.StoreCalls.{Told}
use Rattle.slate_store.specs.Machines.{Goes, Stay, End, Steps, AnswersAtOnce}
use Rattle.slate_store.specs.declared.step.Step.{Step}
use Rattle.slate_store.specs.declared.step.Step.TheVariants.{Again, Done}
use Rattle.slate_store.specs.declared.store_answer.StoreAnswer.{StoreAnswer}
use Rattle.slate_txn_log.specs.CommitPhase.{commit_asks, commit_goes, commit_due, commit_version}
use Rattle.slate_txn.specs.FencedHolder.{FencedHolder, fenced_at}
use Rattle.slate_txn.specs.Holder.{Holder, at_version}
use Rattle.slate_txn_log.specs.declared.commit_phase.CommitPhase.{CommitPhase}
use Rattle.slate_txn.specs.declared.init.InitMachine.{InitMachine}
use Rattle.slate_txn.specs.declared.init.InitMachine.TheVariants.{Refused, Committing, Over}

-- the machine of the commit of a raise
abbrev pub init_of : {T C R E : Type 0} → Result (CommitPhase T) SlateDBError → Holder T C R → E → InitMachine T C R E
init_of (Ok commit) holder epochs = Committing commit holder epochs
init_of (Err e) holder epochs = Refused e

-- whether a call is due
abbrev pub init_due : {T C R E : Type 0} → InitMachine T C R E → Bool
init_due (Refused e) = false
init_due (Committing commit holder epochs) = commit_due commit
init_due Over = false

-- whether it has not ended
abbrev pub init_open : {T C R E : Type 0} → InitMachine T C R E → Bool
init_open (Refused e) = true
init_open (Committing commit holder epochs) = commit_due commit
init_open Over = false

-- after Ok the fenced holder holds what was put
abbrev pub fenced_reply : {T C R E : Type 0} → (E → T → ℕ) → Holder T C R → E → Result (ℕ × T) SlateDBError → Result (FencedHolder T C R E) SlateDBError
fenced_reply epoch holder epochs (Ok version) = Ok (fenced_at epoch (at_version holder version.0 version.1) epochs)
fenced_reply epoch holder epochs (Err e) = Err e

-- with its holder: where the commit ends, so does the raise
abbrev pub fenced_goes : {T C R E : Type 0} → (E → T → ℕ) → Holder T C R → E → Goes (CommitPhase T) (ℕ × T) → Goes (InitMachine T C R E) (FencedHolder T C R E)
fenced_goes epoch holder epochs (Stay commit) = Stay (Committing commit holder epochs)
fenced_goes epoch holder epochs (End commit reply) = End Over (fenced_reply epoch holder epochs reply)

-- how it goes on after its commit: a conflict ends it
abbrev pub init_goes : {T C R E : Type 0} → (E → T → ℕ) → CommitPhase T → Holder T C R → E → StoreAnswer → Goes (InitMachine T C R E) (FencedHolder T C R E)
init_goes epoch commit holder epochs answer = fenced_goes epoch holder epochs (commit_goes commit answer)

-- what next does: a refused raise answers at once, and else the commit takes a step
abbrev pub InitSteps : {T C R E : Type 0} → (E → T → ℕ) → Told → Told → ℤ → InitMachine T C R E → InitMachine T C R E → Step (FencedHolder T C R E) → Type 0
InitSteps epoch old new moment (Refused e) to step = AnswersAtOnce old new e step × (to ≡ Over)
InitSteps epoch old new moment (Committing commit holder epochs) to step =
    Steps old new (commit_asks holder.sequenced.db holder.sequenced.log commit) moment (init_goes epoch commit holder epochs) (Committing commit holder epochs) to step
InitSteps epoch old new moment Over to step = Unit {0}

-- the version that is to be put
abbrev pub init_version : {T C R E : Type 0} → InitMachine T C R E → Option (ℕ × T)
init_version (Refused e) = None
init_version (Committing commit holder epochs) = commit_version commit
init_version Over = None

-- the machine keeps to it, and the fenced holder holds it, with its epoch
abbrev pub InitKeeps : {T C R E : Type 0} → (E → T → ℕ) → InitMachine T C R E → InitMachine T C R E → Step (FencedHolder T C R E) → Type 0
InitKeeps epoch old new Again = init_version new ≡ init_version old
InitKeeps epoch old new (Done (Ok fenced)) = (init_version old ≡ Some (fenced.holder.id, fenced.holder.object)) × (fenced.epoch ≡ epoch fenced.epochs fenced.holder.object)
InitKeeps epoch old new (Done (Err e)) = Unit {0}
