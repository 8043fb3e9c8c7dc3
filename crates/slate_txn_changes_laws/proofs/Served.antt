-- How a plain call ends over a store that serves it, by what holds at each of its steps.
use Rattle.std.proofs.Common.{◌≡◌, ℕ, ◌<◌, ◌≤◌, inl, inr, refl, ℤ, Bool, true, false, if◌then◌else◌, List, [], ◌∷◌, Some, Result, Ok, Err, sym, ap, ◌∙◌, subst, arith}
use Rattle.slate_ids.specs.Answers.{OrMemory, is_conflict}
use Rattle.slate_ids.specs.declared.error.SlateDBError.{SlateDBError}
use Rattle.slate_ids.specs.declared.error.SlateDBError.TheVariants.{TransactionalObjectVersionExists}
use Rattle.slate_store.specs.StoreCalls.{Told, Makes, Rose, moment_of}
use Rattle.slate_store.specs.Machines.{AtMost, Goes, Stay, End}
use Rattle.slate_store.specs.CallRuns.{Began, Run, Ran, turns, one_if}
use Rattle.slate_store.specs.Store.{Store, whole}
use Rattle.slate_store.specs.declared.made.Made.{Made}
use Rattle.slate_store.specs.declared.store_answer.StoreAnswer.{StoreAnswer}
use Rattle.slate_store.specs.declared.store_call.StoreCall.{StoreCall}
use Rattle.slate_txn_changes.specs.Turns.{Turn, is_turned, turn_asks, turn_goes, turned_on}
use Rattle.slate_txn_changes_laws.specs.Works.{IsInside}
use Rattle.slate_txn_laws.proofs.Turns.{rose_after, rose_before, whole_call}
use Rattle.slate_txn_laws.specs.Outside.{is_outside}
use Rattle.slate_txn_laws.specs.Serving.{Serves}

-- a result that holds of the contents left
pub record EndsIn {R : Type 0} (Ends : Store → Result R SlateDBError → Type 0) (new : Told) (result : Result R SlateDBError) : Type 0 where
  pub left : Store
  pub contents : new.contents ≡ Some left
  pub ends : Ends left result

-- contents are left in which this stands
pub record StandsIn (Stands : Store → Type 0) (new : Told) : Type 0 where
  pub left : Store
  pub contents : new.contents ≡ Some left
  pub stands : Stands left

-- the count of faults never falls
pub run_later : {P R : Type 0} (asks : P → StoreCall) (goes : P → StoreAnswer → Goes P R) (moment : ℤ) (ms : List Made) (old new : Told) (from out : Goes P R) → Run asks goes moment old new ms from out → old.faults ≤ new.faults
run_later asks goes moment [] old new from out run = let e : new.faults ≡ old.faults = ap (λ (t : Told). t.faults) run.1 in omega (arith, e)
run_later asks goes moment (m ∷ ms) old new (Stay p) out run = let h = run.2.later in let k = run_later asks goes moment ms run.0 new (goes p m.answer) out run.3 in omega (arith, h, k)
run_later asks goes moment (m ∷ ms) old new (End p r) out run = absurd run

pub at_most_later : (old new : Told) (call : StoreCall) (moment : ℤ) → AtMost old new call moment → old.faults ≤ new.faults
at_most_later old new call moment most = elim most.calls [
  | inl same ↦ subst (λ (t : Told). old.faults ≤ t.faults) (sym same) (omega arith)
  | inr made ↦ made.1.later
]

module _ {P R : Type 0} (is_start : P → Bool) (asks : P → StoreCall) (goes : P → StoreAnswer → Goes P R) (moment : ℤ) (Holds : Store → P → Type 0) (Ends : Store → Result R SlateDBError → Type 0) where
  -- a phase at which it holds, or such an end
  abbrev pub Held : Store → Goes P R → Type 0
  Held t (Stay q) = Holds t q
  Held t (End q r) = Ends t r

  -- the same, and the phase is no start
  abbrev pub Leads : Store → Goes P R → Type 0
  Leads t (Stay q) = (is_start q ≡ false) × Holds t q
  Leads t (End q r) = Ends t r

  -- each step leads there, by its call's whole effect
  abbrev pub Steps : Type 0
  Steps = (s : Store) (p : P) → Holds s p → Leads (whole (asks p) (moment_of (asks p) moment) s).store (goes p (whole (asks p) (moment_of (asks p) moment) s).answer)

  held : (t : Store) (g : Goes P R) → Leads t g → Held t g
  held t (Stay q) h = h.1
  held t (End q r) h = h

  none_used : (t : Store) (g : Goes P R) → Leads t g → one_if is_start g ≡ 0
  none_used t (Stay q) h = ap (λ (b : Bool). if b then 1 else 0) h.0
  none_used t (End q r) h = refl

  -- where a run stands, and that no step of it led to a start
  record Along (new : Told) (out : Goes P R) (used : ℕ) : Type 0 where
    pub left : Store
    pub contents : new.contents ≡ Some left
    pub holds : Held left out
    pub none : used ≡ 0

  module _ (steps : Steps) where
    along : (ms : List Made) (old new : Told) (s : Store) (from out : Goes P R) → old.contents ≡ Some s → (Rose old.faults new.faults → ⊥) → Run asks goes moment old new ms from out → Held s from → Along new out (turns is_start goes ms from)
    along [] old new s from out told calm run h = record {
      left = s;
      contents = ap (λ (t : Told). t.contents) run.1 ∙ told;
      holds = subst (λ (g : Goes P R). Held s g) (sym run.0) h;
      none = refl;
    }
    along (m ∷ ms) old new s (Stay p) out told calm run h =
        let t = (whole (asks p) (moment_of (asks p) moment) s).store in
        let makes : Makes old run.0 (asks p) (moment_of (asks p) moment) m.answer = subst (λ (c : StoreCall). Makes old run.0 c (moment_of c moment) m.answer) run.1 run.2 in
        let went = whole_call old run.0 (asks p) (moment_of (asks p) moment) m.answer s makes told (λ (r : Rose old.faults run.0.faults). calm (rose_after old.faults run.0.faults new.faults r (run_later asks goes moment ms run.0 new (goes p m.answer) out run.3))) in
        let leads = subst (λ (a : StoreAnswer). Leads t (goes p a)) (sym went.reply) (steps s p h) in
        let rest = along ms run.0 new t (goes p m.answer) out went.contents (λ (r : Rose run.0.faults new.faults). calm (rose_before old.faults run.0.faults new.faults makes.later r)) run.3 (held t (goes p m.answer) leads) in
        let first = none_used t (goes p m.answer) leads in
        let more = rest.none in
        record { left = rest.left; contents = rest.contents; holds = rest.holds; none = omega (arith, first, more) }
    along (m ∷ ms) old new s (End p r) out told calm run h = absurd run

    -- a plain call with a try ends so
    pub served : (tries : ℕ) (old new : Told) (s : Store) (start to : P) (result : Result R SlateDBError) → Ran is_start asks goes moment tries old new start to result → 0 < tries → Serves old new s → Holds s start → EndsIn Ends new result
    served tries old new s start to result ran some serves h =
        let a = along ran.made old new s (Stay start) ran.out serves.contents serves.calm ran.run h in
        elim ran.ends [
          | inl e ↦ record { left = a.left; contents = a.contents; ends = subst (λ (g : Goes P R). Held a.left g) e.0 a.holds }
          | inr e ↦ let all = e.2 in let none = a.none in absurd (omega (arith, all, none, some))
        ]

    -- where memory ran out in it, it holds at the phase at which it stands
    pub began : (tries : ℕ) (old new : Told) (s : Store) (start to : P) → Began is_start asks goes moment tries old new start to → Serves old new s → Holds s start → StandsIn (λ t. Holds t to) new
    began tries old new s start to ran serves h =
        let a = along ran.made old ran.mid s (Stay start) (Stay to) serves.contents
        (λ (r : Rose old.faults ran.mid.faults). serves.calm (rose_after old.faults ran.mid.faults new.faults r (at_most_later ran.mid new (asks to) moment ran.last))) ran.run h in
        record { left = a.left; contents = ran.last.contents ∙ a.contents; stands = a.holds }

-- ---- a machine that begins again after a conflict

module _ {P R : Type 0} (asks : P → StoreCall) (goes : P → StoreAnswer → Goes P R) (again : P → P → Bool) (restart : P → P) (moment : ℤ) (Holds : Store → P → Type 0) (Ends : Store → Result R SlateDBError → Type 0) where
  -- from a phase: no turn is used, and no reason from outside ends it
  abbrev pub LeadsOn : P → Store → Goes P R → Type 0
  LeadsOn p t (Stay q) = (again p q ≡ false) × Holds t q
  LeadsOn p t (End q r) = IsInside r × Ends t r

  abbrev pub StepsOn : Type 0
  StepsOn = (s : Store) (p : P) → Holds s p → LeadsOn p (whole (asks p) (moment_of (asks p) moment) s).store (goes p (whole (asks p) (moment_of (asks p) moment) s).answer)

  abbrev HoldsTurn : Store → Turn P → Type 0
  HoldsTurn s turn = Holds s turn.0

  no_conflict : (e : SlateDBError) → is_outside e ≡ false → is_conflict e ≡ false
  no_conflict (TransactionalObjectVersionExists number boundary) h = absurd cc
  no_conflict _ h = refl

  turned : (p : P) (b : Bool) (t : Store) (g : Goes P R) → LeadsOn p t g
      → Leads is_turned (turn_asks asks) (turn_goes again restart goes) moment HoldsTurn Ends t (turned_on again restart (p, b) g)
  turned p b t (Stay q) h = h
  turned p b t (End q (Ok r)) h = h.1
  turned p b t (End q (Err e)) h =
      subst (λ (x : Bool). Leads is_turned (turn_asks asks) (turn_goes again restart goes) moment HoldsTurn Ends t (if x then Stay (restart q, true) else End (q, b) (Err e))) (sym (no_conflict e h.0)) h.1

  pub turns_served : StepsOn → (tries : ℕ) (old new : Told) (s : Store) (start : P) (b : Bool) (to : Turn P) (result : Result R SlateDBError)
      → Ran is_turned (turn_asks asks) (turn_goes again restart goes) moment tries old new (start, b) to result → 0 < tries → Serves old new s → Holds s start → EndsIn Ends new result
  turns_served steps tries old new s start b to result ran some serves h =
      served is_turned (turn_asks asks) (turn_goes again restart goes) moment HoldsTurn Ends
      (λ s turn h. turned turn.0 turn.1 _ _ (steps s turn.0 h))
      tries old new s (start, b) to result ran some serves h

  pub turns_began : StepsOn → (tries : ℕ) (old new : Told) (s : Store) (start : P) (b : Bool) (to : Turn P)
      → Began is_turned (turn_asks asks) (turn_goes again restart goes) moment tries old new (start, b) to → Serves old new s → Holds s start → StandsIn (λ t. Holds t to.0) new
  turns_began steps tries old new s start b to ran serves h =
      began is_turned (turn_asks asks) (turn_goes again restart goes) moment HoldsTurn Ends
      (λ s turn h. turned turn.0 turn.1 _ _ (steps s turn.0 h))
      tries old new s (start, b) to ran serves h

-- the count of faults never falls in a plain call
pub call_later : {P R : Type 0} (is_start : P → Bool) (asks : P → StoreCall) (goes : P → StoreAnswer → Goes P R) (moment : ℤ) (tries : ℕ) (old new : Told) (start to : P) (result : Result R SlateDBError)
    → OrMemory result (Began is_start asks goes moment tries old new start to) (Ran is_start asks goes moment tries old new start to result) → old.faults ≤ new.faults
call_later is_start asks goes moment tries old new start to result (inl ran) = run_later asks goes moment ran.made old new (Stay start) ran.out ran.run
call_later is_start asks goes moment tries old new start to result (inr memory) =
    let first = run_later asks goes moment memory.1.made old memory.1.mid (Stay start) (Stay to) memory.1.run in
    let last = at_most_later memory.1.mid new (asks to) moment memory.1.last in
    omega (arith, first, last)
