-- How the calls of a compactor end over a store that serves them.
use Rattle.std.specs.Prelude.{◌≡◌, ◌⊎◌, ℕ, ℤ, true, List, Some, Result, Ok, Err}
use Rattle.slate_ids.specs.Answers.{ran_out}
use Rattle.slate_ids.specs.declared.error.SlateDBError.{SlateDBError}
use Rattle.slate_state_calls.specs.declared.state_start.StateStart.{StateStart}
use Rattle.slate_state_compactor_complete.specs.Refusals.{CallRefused, OpenRefused}
use Rattle.slate_store.specs.Store.{Store}
use Rattle.slate_store.specs.StoreCalls.{Told}
use Rattle.slate_txn_changes_laws.specs.BothLogs.{AreReady}
use Rattle.slate_txn_changes_laws.specs.Works.{IsInside}

-- why a result is a refusal, where it is one
abbrev pub Causes : {X : Type 0} → (Store → SlateDBError → Type 0) → Store → Result X SlateDBError → Type 0
Causes Why t (Ok x) = Unit {0}
Causes Why t (Err e) = Why t e

-- a refusal has such a cause, and none comes of others or of the store; and both logs are left ready
pub record LeavesBothReady {X : Type 0} (Why : Store → SlateDBError → Type 0) (db : List ℕ) (new : Told) (result : Result X SlateDBError) : Type 0 where
  pub left : Store
  pub contents : new.contents ≡ Some left
  pub causes : Causes Why left result
  pub inside : IsInside result
  pub ready : AreReady db left

-- or memory ran out
abbrev pub EndsFor : {X : Type 0} → (Store → SlateDBError → Type 0) → List ℕ → Told → Result X SlateDBError → Type 0
EndsFor Why db new result = LeavesBothReady Why db new result ⊎ (ran_out result ≡ true)

-- an open ends so
abbrev pub OpenEnds : {X : Type 0} → List ℕ → ℤ → Told → Result X SlateDBError → Type 0
OpenEnds db moment = EndsFor (OpenRefused db moment) db

-- and a call on the state of a compactor of an epoch
abbrev pub CallEnds : {X : Type 0} → List ℕ → ℤ → StateStart → ℕ → Told → Result X SlateDBError → Type 0
CallEnds db moment start epoch = EndsFor (CallRefused db moment start epoch) db
