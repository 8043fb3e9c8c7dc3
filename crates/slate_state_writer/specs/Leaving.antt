-- What the calls of a compactor leave of a store, whatever they answer: they list, get, and put new objects alone.
use Rattle.std.specs.Prelude.{◌≡◌, ℕ, ℤ, Bool, true, false, List, [], ◌∷◌, Option, Some, Result}
use Rattle.slate_state_calls.specs.Opening.{open_asks}
use Rattle.slate_state_calls.specs.StateSteps.{state_asks}
use Rattle.slate_state_calls.specs.declared.compactor.Compactor.{Compactor}
use Rattle.slate_state_calls.specs.declared.open_phase.OpenPhase.{OpenPhase}
use Rattle.slate_state_calls.specs.declared.state_phase.StatePhase.{StatePhase}
use Rattle.slate_state_calls.specs.declared.state_start.StateStart.{StateStart}
use Rattle.slate_state_writer.specs.PlainOpening.{OpenBegan, OpenRan}
use Rattle.slate_state_writer.specs.StateCalls.{StateBegan, StateRan}
use Rattle.slate_state_writer.specs.Writer.{Writer}
use Rattle.slate_ids.specs.declared.error.SlateDBError.{SlateDBError}
use Rattle.slate_ids.specs.declared.object_path.ObjectPath.{ObjectPath}
use Rattle.slate_store.specs.Store.{Store, object_at}
use Rattle.slate_store.specs.StoreCalls.{Told}
use Rattle.slate_store.specs.declared.made.Made.{Made}
use Rattle.slate_store.specs.declared.object.StoredObject.{StoredObject}
use Rattle.slate_store.specs.declared.store_answer.StoreAnswer.{StoreAnswer}
use Rattle.slate_store.specs.declared.store_answer.StoreAnswer.TheVariants.{Created}
use Rattle.slate_store.specs.declared.store_call.StoreCall.{StoreCall}
use Rattle.slate_store.specs.declared.store_call.StoreCall.TheVariants.{List as ListCall, Get, PutNew}

-- a list, a get, or a put of a new object
abbrev pub only_adds : StoreCall → Bool
only_adds (ListCall dir) = true
only_adds (Get path) = true
only_adds (PutNew path bytes) = true
only_adds _ = false

-- each object of the one store stands in the other, as it was
abbrev pub Within : Store → Store → Type 0
Within s t = (path : ObjectPath) (object : StoredObject) → object_at path s ≡ Some object → object_at path t ≡ Some object

-- an object that a call made at this moment stands as it was put
abbrev pub StandsAsPut : StoreCall → StoreAnswer → ℤ → Store → Type 0
StandsAsPut (PutNew path bytes) (Created (Some tag)) moment s = object_at path s ≡ Some (record { bytes = bytes; last_modified = moment; e_tag = tag })
StandsAsPut _ _ moment s = Unit {0}

-- the same of all that these calls made
abbrev pub AllStand : List Made → ℤ → Store → Type 0
AllStand [] moment s = Unit {0}
AllStand (m ∷ made) moment s = StandsAsPut m.call m.answer moment s × AllStand made moment s

-- these calls on a store of these objects left all of them, and all that they made
pub record Leaves (made : List Made) (moment : ℤ) (s : Store) (new : Told) : Type 0 where
  pub now : Store
  pub told : new.contents ≡ Some now
  pub stood : Within s now
  pub came : AllStand made moment now

-- an open and a call on the state ask only such calls
abbrev pub OpensOnlyAdd : Type 0
OpensOnlyAdd = (db : List ℕ) (phase : OpenPhase) → only_adds (open_asks db phase) ≡ true

abbrev pub CallsOnlyAdd : Type 0
CallsOnlyAdd = (db : List ℕ) (phase : StatePhase) → only_adds (state_asks db phase) ≡ true

-- an open leaves what stood and what it made, where it ends with an answer, and where memory ran out in it
abbrev pub OpensLeave : Type 0
OpensLeave = (db : List ℕ) (moment : ℤ) (tries : ℕ) (old new : Told) (result : Result Writer SlateDBError) (ran : OpenRan db moment tries old new result)
    → (s : Store) → old.contents ≡ Some s → Leaves ran.1.made moment s new

abbrev pub BegunOpensLeave : Type 0
BegunOpensLeave = (db : List ℕ) (moment : ℤ) (tries : ℕ) (old new : Told) (began : OpenBegan db moment tries old new)
    → (s : Store) → old.contents ≡ Some s → Leaves began.1.made moment s new

-- and so does a call on the state
abbrev pub CallsLeave : Type 0
CallsLeave = (db : List ℕ) (start : StateStart) (moment : ℤ) (tries : ℕ) (old new : Told) (from to : Compactor) (result : Result (Unit {0}) SlateDBError) (ran : StateRan db start moment tries old new from to result)
    → (s : Store) → old.contents ≡ Some s → Leaves ran.2.made moment s new

abbrev pub BegunCallsLeave : Type 0
BegunCallsLeave = (db : List ℕ) (start : StateStart) (moment : ℤ) (tries : ℕ) (old new : Told) (from to : Compactor) (began : StateBegan db start moment tries old new from to)
    → (s : Store) → old.contents ≡ Some s → Leaves began.2.made moment s new
