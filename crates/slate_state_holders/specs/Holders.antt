-- Holders of a log of a database: with which log, rules and bytes they, and the machines of their calls, begin.
use Rattle.std.specs.Prelude.{◌≡◌, ℕ, ℤ, List, Option, Result, IsErr}
use Rattle.slate_ids.specs.declared.error.SlateDBError.{SlateDBError}
use Rattle.slate_txn_log.specs.declared.log_kind.LogKind.{LogKind}
use Rattle.slate_txn_log.specs.declared.read_phase.ReadPhase.TheVariants.{Listing}
use Rattle.slate_txn_log.specs.declared.right.Right.{Right}
use Rattle.slate_txn_log.specs.declared.right.Right.TheVariants.{Plain}
use Rattle.slate_txn_log.specs.declared.sequenced.Sequenced.{Sequenced}
use Rattle.slate_store.specs.StoreCalls.{Told}
use Rattle.slate_txn.specs.Creating.{create_of, first_commit, Creates}
use Rattle.slate_txn.specs.Holder.{Holder}
use Rattle.slate_txn.specs.Initing.{init_of}
use Rattle.slate_txn.specs.Loading.{LoadRan, loaded, try_loaded}
use Rattle.slate_txn.specs.Raise.{epoch_commit, raised}
use Rattle.slate_txn.specs.Standing.{CommitStands}
use Rattle.slate_txn.specs.declared.create.CreateMachine.{CreateMachine}
use Rattle.slate_txn.specs.declared.init.InitMachine.{InitMachine}
use Rattle.slate_txn.specs.declared.load.TryLoadMachine.{TryLoadMachine}
use Rattle.slate_txn.specs.declared.load.TryLoadMachine.TheVariants.{Reading}

-- the log of this kind of a database, with its rules
pub record LogOf (T C R : Type 0) (kind : LogKind) (db : List ℕ) : Type 0 where
  pub log : Sequenced T C
  pub rules : R
  pub at : log.db ≡ db
  pub of_kind : log.log ≡ kind

-- ---- calls

-- the log was begun: this first value was committed as version 1, and is held
abbrev pub CreatesDb : {T C R : Type 0} → (C → T → Result (List ℕ) SlateDBError) → LogKind → List ℕ → T → ℤ → Told → Told → Result (Holder T C R) SlateDBError → Type 0
CreatesDb {T} {C} {R} encoded kind db first moment old new result = (of : LogOf T C R kind db) × Creates encoded moment old new of.log of.rules first result

-- a first value has no bytes
abbrev pub HasNoBytes : {T C : Type 0} → (C → T → Result (List ℕ) SlateDBError) → T → Type 0
HasNoBytes {C = C} encoded first = (codec : C) → IsErr (encoded codec first)

-- the put of a first value as version 1 of a database's log stands
abbrev pub FirstStands : {T C : Type 0} → (C → T → Result (List ℕ) SlateDBError) → LogKind → List ℕ → T → ℤ → Told → Told → Type 0
FirstStands {C = C} encoded kind db first moment old new = (codec : C) × CommitStands db kind moment old new (first_commit (encoded codec) first)

-- the latest version of a database's log was read, and is held
abbrev pub LoadsDb : {T C R : Type 0} → (C → List ℕ → Result T SlateDBError) → LogKind → List ℕ → ℕ → Told → Told → Result (Holder T C R) SlateDBError → Type 0
LoadsDb {T} {C} {R} decoded kind db tries old new result = (of : LogOf T C R kind db) × LoadRan decoded tries old new of.log (loaded of.log of.rules) result

-- the same, where there is one
abbrev pub TryLoadsDb : {T C R : Type 0} → (C → List ℕ → Result T SlateDBError) → LogKind → List ℕ → ℕ → Told → Told → Result (Option (Holder T C R)) SlateDBError → Type 0
TryLoadsDb {T} {C} {R} decoded kind db tries old new result = (of : LogOf T C R kind db) × LoadRan decoded tries old new of.log (try_loaded of.log of.rules) result

-- ---- machines

-- a creation begins: this first value is to be put as version 1 of a database's log
abbrev pub CreationOf : {T C R : Type 0} → (C → T → Result (List ℕ) SlateDBError) → LogKind → List ℕ → T → CreateMachine T C R → Type 0
CreationOf {T} {C} {R} encoded kind db first machine = (of : LogOf T C R kind db) × (machine ≡ create_of (first_commit (encoded of.log.codec) first) of.log of.rules)

-- a load begins: the versions of a database's log are to be listed
abbrev pub LoadOf : {T C R : Type 0} → LogKind → List ℕ → TryLoadMachine T C R → Type 0
LoadOf {T} {C} {R} kind db machine = (of : LogOf T C R kind db) × (machine ≡ Reading Listing of.log of.rules)

-- a fence begins: the value held is to be put with its next epoch of a kind
abbrev pub raise_machine : {T C R E : Type 0} → (R → ℕ → T → T → Right → Option SlateDBError) → (C → T → Result (List ℕ) SlateDBError) → (E → T → ℕ)
    → (E → T → ℕ → T) → E → Holder T C R → InitMachine T C R E
raise_machine refusal encoded epoch with_epoch kind holder = init_of (raised (refusal holder.rules) (encoded holder.sequenced.codec) (epoch kind) (with_epoch kind) holder.id holder.object) holder kind

-- the same with this epoch, unless that of the value held is greater
abbrev pub set_machine : {T C R E : Type 0} → (R → ℕ → T → T → Right → Option SlateDBError) → (C → T → Result (List ℕ) SlateDBError) → (E → T → ℕ)
    → (E → T → ℕ → T) → E → ℕ → Holder T C R → InitMachine T C R E
set_machine refusal encoded epoch with_epoch kind own holder = init_of
    (epoch_commit (refusal holder.rules) (encoded holder.sequenced.codec) (epoch kind)
    (with_epoch kind) own Plain holder.id holder.object) holder kind
