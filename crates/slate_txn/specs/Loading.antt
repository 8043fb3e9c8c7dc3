-- Loading a holder of the latest version.
use Rattle.std.specs.Prelude.{◌≡◌, ℕ, ℤ, Bool, false, List, Option, Some, None, Result, Ok, Err}
use Rattle.slate_ids.specs.Answers.{OrMemory}
use Rattle.slate_ids.specs.declared.error.SlateDBError.{SlateDBError}
use Rattle.slate_ids.specs.declared.error.SlateDBError.TheVariants.{LatestTransactionalObjectVersionMissing}
use Rattle.slate_store.specs.StoreCalls.{Told}
use Rattle.slate_store.specs.Machines.{Goes, Stay, End, Steps}
use Rattle.slate_store.specs.declared.step.Step.{Step}
use Rattle.slate_store.specs.declared.step.Step.TheVariants.{Again, Done}
use Rattle.slate_store.specs.declared.store_answer.StoreAnswer.{StoreAnswer}
use Rattle.slate_txn.specs.Holder.{Holder, holder_of}
use Rattle.slate_txn_log.specs.ReadLatest.{Read, ReadBegan}
use Rattle.slate_txn_log.specs.ReadPhase.{read_asks, read_goes, read_due}
use Rattle.slate_txn.specs.declared.load.TryLoadMachine.{TryLoadMachine}
use Rattle.slate_txn.specs.declared.load.TryLoadMachine.TheVariants.{Reading, Over}
use Rattle.slate_txn_log.specs.declared.read_phase.ReadPhase.{ReadPhase}
use Rattle.slate_txn_log.specs.declared.sequenced.Sequenced.{Sequenced}

-- the holder of the version that was read, or none where the log has no version
abbrev pub try_loaded : {T C R : Type 0} → Sequenced T C → R → Result (Option (ℕ × T)) SlateDBError → Result (Option (Holder T C R)) SlateDBError
try_loaded sequenced rules (Ok (Some version)) = Ok (Some (holder_of sequenced rules version))
try_loaded sequenced rules (Ok None) = Ok None
try_loaded sequenced rules (Err e) = Err e

-- a load refuses none
abbrev pub found : {X : Type 0} → Result (Option X) SlateDBError → Result X SlateDBError
found (Ok (Some x)) = Ok x
found (Ok None) = Err LatestTransactionalObjectVersionMissing
found (Err e) = Err e

-- the holder of the version that was read; it is refused where there is none
abbrev pub loaded : {T C R : Type 0} → Sequenced T C → R → Result (Option (ℕ × T)) SlateDBError → Result (Holder T C R) SlateDBError
loaded sequenced rules reply = found (try_loaded sequenced rules reply)

-- a whole read of the latest version, and what is answered by what was read
abbrev pub LoadRan : {T C X : Type 0} → (C → List ℕ → Result T SlateDBError) → ℕ → Told → Told → Sequenced T C
    → (Result (Option (ℕ × T)) SlateDBError → Result X SlateDBError) → Result X SlateDBError → Type 0
LoadRan decoded tries old new sequenced answer result =
    OrMemory result (ReadBegan decoded sequenced tries old new) ((reply : Result (Option (ℕ × _)) SlateDBError) × Read decoded sequenced tries old new reply × (answer reply ≡ result))

-- whether a call is due
abbrev pub load_due : {T C R : Type 0} → TryLoadMachine T C R → Bool
load_due (Reading read sequenced rules) = read_due read
load_due Over = false

-- with log and rules: where the read ends, so does the load
abbrev pub loaded_goes : {T C R : Type 0} → Sequenced T C → R → Goes (ReadPhase T) (Option (ℕ × T)) → Goes (TryLoadMachine T C R) (Option (Holder T C R))
loaded_goes sequenced rules (Stay read) = Stay (Reading read sequenced rules)
loaded_goes sequenced rules (End read reply) = End Over (try_loaded sequenced rules reply)

-- how it goes on after its read
abbrev pub try_load_goes : {T C R : Type 0} → (C → List ℕ → Result T SlateDBError) → ReadPhase T → Sequenced T C → R → StoreAnswer → Goes (TryLoadMachine T C R) (Option (Holder T C R))
try_load_goes decoded read sequenced rules answer = loaded_goes sequenced rules (read_goes sequenced.log (decoded sequenced.codec) read answer)

-- what next does: the read takes a step
abbrev pub TryLoadSteps : {T C R : Type 0} → (C → List ℕ → Result T SlateDBError) → Told → Told → ℤ → TryLoadMachine T C R → TryLoadMachine T C R → Step (Option (Holder T C R)) → Type 0
TryLoadSteps decoded old new moment (Reading read sequenced rules) to step =
    Steps old new (read_asks sequenced.db sequenced.log read) moment (try_load_goes decoded read sequenced rules) (Reading read sequenced rules) to step
TryLoadSteps decoded old new moment Over to step = Unit {0}

-- a load goes on in the same way, and refuses none
abbrev pub found_goes : {P X : Type 0} → Goes P (Option X) → Goes P X
found_goes (Stay p) = Stay p
found_goes (End p reply) = End p (found reply)

-- how a load goes on after its read
abbrev pub load_goes : {T C R : Type 0} → (C → List ℕ → Result T SlateDBError) → ReadPhase T → Sequenced T C → R → StoreAnswer → Goes (TryLoadMachine T C R) (Holder T C R)
load_goes decoded read sequenced rules answer = found_goes (try_load_goes decoded read sequenced rules answer)

-- what next of a load does
abbrev pub LoadSteps : {T C R : Type 0} → (C → List ℕ → Result T SlateDBError) → Told → Told → ℤ → TryLoadMachine T C R → TryLoadMachine T C R → Step (Holder T C R) → Type 0
LoadSteps decoded old new moment (Reading read sequenced rules) to step =
    Steps old new (read_asks sequenced.db sequenced.log read) moment (load_goes decoded read sequenced rules) (Reading read sequenced rules) to step
LoadSteps decoded old new moment Over to step = Unit {0}

-- the answer of a step that may find none
abbrev pub found_step : {X : Type 0} → Step (Option X) → Step X
found_step Again = Again
found_step (Done reply) = Done (found reply)
