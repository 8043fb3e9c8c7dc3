-- Creating a log: a holder is made by the commit of version 1.
use Rattle.std.specs.Prelude.{◌≡◌, ℕ, ℤ, Bool, true, false, List, Option, Some, None, Result, Ok, Err}
use Rattle.slate_ids.specs.declared.error.SlateDBError.{SlateDBError}
use Rattle.slate_store.specs.StoreCalls.{Told}
use Rattle.slate_store.specs.Machines.{Goes, Stay, End, Steps, AnswersAtOnce}
use Rattle.slate_store.specs.declared.step.Step.{Step}
use Rattle.slate_store.specs.declared.step.Step.TheVariants.{Again, Done}
use Rattle.slate_store.specs.declared.store_answer.StoreAnswer.{StoreAnswer}
use Rattle.slate_txn_log.specs.CommitPhase.{encoded_commit, commit_asks, commit_goes, commit_due, commit_version}
use Rattle.slate_txn_log.specs.declared.commit_phase.CommitPhase.{CommitPhase}
use Rattle.slate_txn_log.specs.declared.sequenced.Sequenced.{Sequenced}
use Rattle.slate_txn.specs.Holder.{Holder, holder_of}
use Rattle.slate_txn.specs.Starts.{Starts}
use Rattle.slate_txn.specs.declared.create.CreateMachine.{CreateMachine}
use Rattle.slate_txn.specs.declared.create.CreateMachine.TheVariants.{Refused, Committing, Over}

-- the put of a value as version 1, where it has bytes; no rule is asked, since there is no old value
abbrev pub first_commit : {T : Type 0} → (T → Result (List ℕ) SlateDBError) → T → Result (CommitPhase T) SlateDBError
first_commit encoded value = encoded_commit 1 value (encoded value)

-- the holder of what was put, or why it wasn't
abbrev pub created : {T C R : Type 0} → Sequenced T C → R → Result (ℕ × T) SlateDBError → Result (Holder T C R) SlateDBError
created sequenced rules (Ok version) = Ok (holder_of sequenced rules version)
created sequenced rules (Err e) = Err e

-- a whole creation: the commit of version 1
abbrev pub Creates : {T C R : Type 0} → (C → T → Result (List ℕ) SlateDBError) → ℤ → Told → Told → Sequenced T C → R → T → Result (Holder T C R) SlateDBError → Type 0
Creates encoded moment old new sequenced rules value result = Starts sequenced.db sequenced.log (created sequenced rules) moment old new (first_commit (encoded sequenced.codec) value) result

-- the machine of a creation
abbrev pub create_of : {T C R : Type 0} → Result (CommitPhase T) SlateDBError → Sequenced T C → R → CreateMachine T C R
create_of (Ok commit) sequenced rules = Committing commit sequenced rules
create_of (Err e) sequenced rules = Refused e

-- whether a call is due
abbrev pub create_due : {T C R : Type 0} → CreateMachine T C R → Bool
create_due (Refused e) = false
create_due (Committing commit sequenced rules) = commit_due commit
create_due Over = false

-- whether it has not ended
abbrev pub create_open : {T C R : Type 0} → CreateMachine T C R → Bool
create_open (Refused e) = true
create_open (Committing commit sequenced rules) = commit_due commit
create_open Over = false

-- with log and rules: where the commit ends, so does the creation
abbrev pub created_goes : {T C R : Type 0} → Sequenced T C → R → Goes (CommitPhase T) (ℕ × T) → Goes (CreateMachine T C R) (Holder T C R)
created_goes sequenced rules (Stay commit) = Stay (Committing commit sequenced rules)
created_goes sequenced rules (End commit reply) = End Over (created sequenced rules reply)

-- how a creation goes on after its commit
abbrev pub create_goes : {T C R : Type 0} → CommitPhase T → Sequenced T C → R → StoreAnswer → Goes (CreateMachine T C R) (Holder T C R)
create_goes commit sequenced rules answer = created_goes sequenced rules (commit_goes commit answer)

-- what next does: a refused creation answers at once, and else the commit takes a step
abbrev pub CreateSteps : {T C R : Type 0} → Told → Told → ℤ → CreateMachine T C R → CreateMachine T C R → Step (Holder T C R) → Type 0
CreateSteps old new moment (Refused e) to step = AnswersAtOnce old new e step × (to ≡ Over)
CreateSteps old new moment (Committing commit sequenced rules) to step =
    Steps old new (commit_asks sequenced.db sequenced.log commit) moment (create_goes commit sequenced rules) (Committing commit sequenced rules) to step
CreateSteps old new moment Over to step = Unit {0}

-- the version that is to be put
abbrev pub create_version : {T C R : Type 0} → CreateMachine T C R → Option (ℕ × T)
create_version (Refused e) = None
create_version (Committing commit sequenced rules) = commit_version commit
create_version Over = None

-- the machine keeps to it, and the holder holds it
abbrev pub CreateKeeps : {T C R : Type 0} → CreateMachine T C R → CreateMachine T C R → Step (Holder T C R) → Type 0
CreateKeeps old new Again = create_version new ≡ create_version old
CreateKeeps old new (Done (Ok holder)) = create_version old ≡ Some (holder.id, holder.object)
CreateKeeps old new (Done (Err e)) = Unit {0}
