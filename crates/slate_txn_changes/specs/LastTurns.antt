-- The last turn of a plain call that came to its end.
use Rattle.std.specs.Prelude.{◌≡◌, ℤ, Bool, false, List, [], ◌∷◌, ◌++◌, Result, Ok, Err}
use Rattle.slate_ids.specs.Answers.{is_conflict}
use Rattle.slate_ids.specs.declared.error.SlateDBError.{SlateDBError}
use Rattle.slate_ids.specs.declared.error.SlateDBError.TheVariants.{Contended}
use Rattle.slate_store.specs.StoreCalls.{Told}
use Rattle.slate_store.specs.Machines.{Goes, Stay, End}
use Rattle.slate_store.specs.CallRuns.{Run}
use Rattle.slate_store.specs.declared.made.Made.{Made}
use Rattle.slate_store.specs.declared.store_answer.StoreAnswer.{StoreAnswer}
use Rattle.slate_store.specs.declared.store_call.StoreCall.{StoreCall}
use Rattle.slate_txn_changes.specs.Turns.{Turn, turn_asks}

-- a machine that goes on, or ended without a conflict
abbrev pub is_no_conflict : {P R : Type 0} → Goes P R → Type 0
is_no_conflict (Stay p) = Unit {0}
is_no_conflict (End p (Ok r)) = Unit {0}
is_no_conflict (End p (Err e)) = is_conflict e ≡ false

-- none of these answers led it to a conflict, or to an end before the last one
abbrev pub no_conflict : {P R : Type 0} → (P → StoreAnswer → Goes P R) → Goes P R → List Made → Type 0
no_conflict goes from [] = is_no_conflict from
no_conflict goes (Stay p) (m ∷ ms) = no_conflict goes (goes p m.answer) ms
no_conflict goes (End p r) (m ∷ ms) = ⊥

-- a plain call came to an end of its machine: it didn't give up for want of tries
abbrev pub HasEnded : {R : Type 0} → Result R SlateDBError → Type 0
HasEnded result = result ≡ Err Contended → ⊥

-- the later ones of the calls that a plain call made are its last turn: the earlier ones led to a phase at which the call begins, and from
-- there no answer led to a conflict, up to its end
pub record LastTurn {P R : Type 0} (asks : P → StoreCall) (turning : Turn P → StoreAnswer → Goes (Turn P) R) (goes : P → StoreAnswer → Goes P R)
    (Begins : P → Type 0) (moment : ℤ) (old new : Told) (made : List Made) (first to : Turn P) (result : Result R SlateDBError) : Type 0 where
  pub start : P
  pub before : Bool
  pub mid : Told
  pub earlier : List Made
  pub later : List Made
  pub all : made ≡ earlier ++ later
  pub reached : Run (turn_asks asks) turning moment old mid earlier (Stay first) (Stay (start, before))
  pub run : Run (turn_asks asks) turning moment mid new later (Stay (start, before)) (End to result)
  pub begins : Begins start
  pub alone : no_conflict goes (Stay start) later
