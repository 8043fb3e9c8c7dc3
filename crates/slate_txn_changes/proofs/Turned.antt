-- A plain call without a conflict is the run of its machine alone.
use Rattle.std.proofs.Common.{◌≡◌, ℤ, Bool, true, List, [], ◌∷◌, Result, Ok, Err, refl, sym, ap, ◌∙◌, subst}
use Rattle.std.specs.Prelude.{if◌then◌else◌}
use Rattle.slate_txn_changes.specs.Turns.{Turn, turn_asks, turn_goes, turned_on}
use Rattle.slate_ids.specs.declared.error.SlateDBError.{SlateDBError}
use Rattle.slate_store.specs.StoreCalls.{Told}
use Rattle.slate_store.specs.Machines.{Goes, Stay, End}
use Rattle.slate_store.specs.CallRuns.{Run}
use Rattle.slate_store.specs.declared.made.Made.{Made}
use Rattle.slate_store.specs.declared.store_answer.StoreAnswer.{StoreAnswer}
use Rattle.slate_store.specs.declared.store_call.StoreCall.{StoreCall}
use Rattle.slate_txn_changes.specs.LastTurns.{no_conflict}

-- a machine made these calls, and then goes on so
abbrev pub Along : {P R : Type 0} → (P → StoreCall) → (P → StoreAnswer → Goes P R) → Goes P R → List Made → Goes P R → Type 0
Along asks goes from [] out = from ≡ out
Along asks goes (Stay p) (m ∷ ms) out = (m.call ≡ asks p) × Along asks goes (goes p m.answer) ms out
Along asks goes (End p r) (m ∷ ms) out = ⊥

-- what it made between two moments of the store
along : {P R : Type 0} (asks : P → StoreCall) (goes : P → StoreAnswer → Goes P R) (moment : ℤ) (ms : List Made) (old new : Told) (from out : Goes P R) → Run asks goes moment old new ms from out → Along asks goes from ms out
along asks goes moment [] old new from out run = sym run.0
along asks goes moment (m ∷ ms) old new (Stay p) out run = (run.1, along asks goes moment ms run.0 new (goes p m.answer) out run.3)
along asks goes moment (m ∷ ms) old new (End p r) out run = absurd run

module _ {P R : Type 0} (asks : P → StoreCall) (goes : P → StoreAnswer → Goes P R) (again : P → P → Bool) (restart : P → P) (moment : ℤ) (to : P) (after : Bool) (result : Result R SlateDBError) where
  -- a turn that goes on as its machine does
  abbrev IsTurn : Goes P R → Goes (Turn P) R → Type 0
  IsTurn (Stay p) (Stay turn) = turn.0 ≡ p
  IsTurn (End p r) (End turn s) = (turn.0 ≡ p) × (s ≡ r)
  IsTurn (Stay p) (End turn s) = ⊥
  IsTurn (End p r) (Stay turn) = ⊥

  -- without a conflict it does
  turned : (from : Turn P) (g : Goes P R) → (ms : List Made) → no_conflict goes g ms → IsTurn g (turned_on again restart from g)
  turned from (Stay p) ms h = refl
  turned from (End p (Ok r)) ms h = (refl, refl)
  turned from (End p (Err e)) [] h = subst (λ (b : Bool). IsTurn (End p (Err e)) (if b then Stay (restart p, true) else End (p, from.1) (Err e))) (sym h) (refl, refl)
  turned from (End p (Err e)) (m ∷ ms) h = absurd h

  -- so the calls of the turn are those of its machine
  runs : (ms : List Made) (old new : Told) (g : Goes P R) (t : Goes (Turn P) R) → IsTurn g t → Run (turn_asks asks) (turn_goes again restart goes) moment old new ms t (End (to, after) result) → no_conflict goes g ms → Run asks goes moment old new ms g (End to result)
  runs [] old new (Stay p) (Stay turn) is run h = absurd (cc run.0)
  runs [] old new (Stay p) (End turn s) is run h = absurd is
  runs [] old new (End p r) (Stay turn) is run h = absurd is
  runs [] old new (End p r) (End turn s) is run h =
      let same : turn ≡ (to, after) = cc (run.0) in
      let answered : s ≡ result = cc (run.0) in
      let phase : p ≡ to = sym is.0 ∙ ap (λ (x : Turn P). x.0) same in
      (sym (ap (λ (q : P). End q r) phase ∙ ap (λ (x : Result R SlateDBError). End to x) (sym is.1 ∙ answered)), run.1)
  runs (m ∷ ms) old new (Stay p) (Stay turn) is run h =
      let from : Turn P = (p, turn.1) in
      let here : turn ≡ from = ap (λ (q : P). (q, turn.1)) is in
      let rest = subst (λ (x : Turn P). Run (turn_asks asks) (turn_goes again restart goes) moment run.0 new ms (turn_goes again restart goes x m.answer) (End (to, after) result)) here run.3 in
      (run.0, run.1 ∙ ap asks is, run.2, runs ms run.0 new (goes p m.answer) (turn_goes again restart goes from m.answer) (turned from (goes p m.answer) ms h) rest h)
  runs (m ∷ ms) old new (Stay p) (End turn s) is run h = absurd is
  runs (m ∷ ms) old new (End p r) t is run h = absurd h

  pub turn_runs : (ms : List Made) (old new : Told) (p : P) (before : Bool) → Run (turn_asks asks) (turn_goes again restart goes) moment old new ms (Stay (p, before)) (End (to, after) result) → no_conflict goes (Stay p) ms → Run asks goes moment old new ms (Stay p) (End to result)
  turn_runs ms old new p before run h = runs ms old new (Stay p) (Stay (p, before)) refl run h

  pub turn_along : (ms : List Made) (old new : Told) (p : P) (before : Bool) → Run (turn_asks asks) (turn_goes again restart goes) moment old new ms (Stay (p, before)) (End (to, after) result) → no_conflict goes (Stay p) ms → Along asks goes (Stay p) ms (End to result)
  turn_along ms old new p before run h = along asks goes moment ms old new (Stay p) (End to result) (turn_runs ms old new p before run h)
