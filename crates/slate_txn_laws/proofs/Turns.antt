-- A run over a store that serves it, call by call.
use Rattle.std.proofs.Common.{◌≡◌, ℕ, ◌+◌, ◌<◌, ◌≤◌, ◌⊎◌, inl, inr, refl, ℤ, Bool, true, false, if◌then◌else◌, List, [], ◌∷◌, Option, Some, Result, Err, sym, ap, ◌∙◌, subst, arith}
use Rattle.slate_ids.specs.declared.error.SlateDBError.{SlateDBError}
use Rattle.slate_ids.specs.declared.error.SlateDBError.TheVariants.{Contended}
use Rattle.slate_store.specs.StoreCalls.{Told, Makes, Rose, IfFault, Answers, contents_after, moment_of}
use Rattle.slate_store.specs.Machines.{Goes, Stay, End}
use Rattle.slate_store.specs.CallRuns.{Run, Ran, turns, one_if}
use Rattle.slate_txn.specs.Moves.{Move, RunBy, RanBy, turns_of}
use Rattle.slate_store.specs.Store.{Store, whole, under, taken}
use Rattle.slate_store.specs.declared.made.Made.{Made}
use Rattle.slate_store.specs.declared.mark.Mark.{Mark}
use Rattle.slate_store.specs.declared.mark.Mark.TheVariants.{Good, Fail, Lost}
use Rattle.slate_store.specs.declared.store_answer.StoreAnswer.{StoreAnswer}
use Rattle.slate_store.specs.declared.store_answer.StoreAnswer.TheVariants.{Fault}
use Rattle.slate_store.specs.declared.store_call.StoreCall.{StoreCall}

pub rose_before : (a b c : ℕ) → a ≤ b → Rose b c → Rose a c
rose_before a b c h r = grind (arith, h, r)

pub rose_after : (a b c : ℕ) → Rose a b → b ≤ c → Rose a c
rose_after a b c r h = omega (arith, h, r)

-- a call that did not fault had its whole effect
pub record Whole (new : Told) (call : StoreCall) (moment : ℤ) (answer : StoreAnswer) (s : Store) : Type 0 where
  pub contents : new.contents ≡ Some (whole call moment s).store
  pub reply : answer ≡ (whole call moment s).answer

module _ (old new : Told) (call : StoreCall) (moment : ℤ) (answer : StoreAnswer) (s : Store) where
  no_fault : answer ≡ Fault → IfFault answer (Rose old.faults new.faults) → Rose old.faults new.faults
  no_fault e h = subst (λ (a : StoreAnswer). IfFault a (Rose old.faults new.faults)) e h

  by_mark : (m : Mark) → (Rose old.faults new.faults → ⊥) → IfFault answer (Rose old.faults new.faults) → new.contents ≡ Some (under m (whole call moment s) s).store → answer ≡ (under m (whole call moment s) s).answer → Whole new call moment answer s
  by_mark Good calm fault contents answers = record { contents = contents; reply = answers }
  by_mark Fail calm fault contents answers = absurd (calm (no_fault answers fault))
  by_mark Lost calm fault contents answers = absurd (calm (no_fault answers fault))

  pub whole_call : Makes old new call moment answer → old.contents ≡ Some s → (Rose old.faults new.faults → ⊥) → Whole new call moment answer s
  whole_call makes told calm =
      by_mark (taken makes.mark call s) calm makes.fault
      (makes.contents ∙ ap (contents_after makes.mark call moment) told)
      (subst (λ (c : Option Store). Answers makes.mark c call moment answer) told makes.answers)

-- ---- a machine that may go on in more than one way

module _ {P R : Type 0} (is_start : P → Bool) (asks : P → StoreCall) (may : P → StoreAnswer → Goes P R → Type 0) (moment : ℤ) where
  run_later : (ms : List (Move P R)) (old new : Told) (from out : Goes P R) → RunBy asks may moment old new ms from out → old.faults ≤ new.faults
  run_later [] old new from out run = let e : new.faults ≡ old.faults = ap (λ (t : Told). t.faults) run.1 in omega (arith, e)
  run_later (m ∷ ms) old new (Stay p) out run = let h = run.2.later in let k = run_later ms run.0 new m.went out run.4 in omega (arith, h, k)
  run_later (m ∷ ms) old new (End p r) out run = absurd run

  -- how a plain call ends that used so many turns of those left
  abbrev pub Ends : P → Result R SlateDBError → Goes P R → ℕ → ℕ → Type 0
  Ends to result out used left = ((out ≡ End to result) × (used < left)) ⊎ ((out ≡ Stay to) × (result ≡ Err Contended) × (used ≡ left) × (is_start to ≡ true))

  shift : (to : P) (result : Result R SlateDBError) (out : Goes P R) (o n left rest : ℕ) → rest + o ≡ left → Ends to result out (o + n) left → Ends to result out n rest
  shift to result out o n left rest used (inl e) = let lt = e.1 in inl (e.0, omega (arith, used, lt))
  shift to result out o n left rest used (inr e) = let all = e.2 in inr (e.0, e.1, omega (arith, used, all), e.3)

  -- what is left of a plain call with so many tries left: from here, with these contents
  pub record RestBy (left : ℕ) (s : Store) (from : Goes P R) (new : Told) (to : P) (result : Result R SlateDBError) : Type 0 where
    pub old : Told
    pub contents : old.contents ≡ Some s
    pub calm : Rose old.faults new.faults → ⊥
    pub moves : List (Move P R)
    pub out : Goes P R
    pub run : RunBy asks may moment old new moves from out
    pub ends : Ends to result out (turns_of is_start moves) left

  -- the reply of a machine that ended
  pub record EndedBy (s : Store) (p : P) (r : Result R SlateDBError) (new : Told) (to : P) (result : Result R SlateDBError) : Type 0 where
    pub phase : to ≡ p
    pub answer : result ≡ r
    pub contents : new.contents ≡ Some s

  ended_from : (left : ℕ) (s : Store) (p : P) (r : Result R SlateDBError) (old new : Told) (to : P) (result : Result R SlateDBError) (moves : List (Move P R)) (out : Goes P R)
      → old.contents ≡ Some s → RunBy asks may moment old new moves (End p r) out → Ends to result out (turns_of is_start moves) left → EndedBy s p r new to result
  ended_from left s p r old new to result [] out told run (inl e) =
      let same : End p r ≡ End to result = sym run.0 ∙ e.0 in
      record { phase = cc; answer = cc; contents = ap (λ (t : Told). t.contents) run.1 ∙ told }
  ended_from left s p r old new to result [] out told run (inr e) = absurd cc
  ended_from left s p r old new to result (m ∷ ms) out told run e = absurd run

  pub ended_by : (left : ℕ) (s : Store) (p : P) (r : Result R SlateDBError) (new : Told) (to : P) (result : Result R SlateDBError) → RestBy left s (End p r) new to result → EndedBy s p r new to result
  ended_by left s p r new to result rest = ended_from left s p r rest.old new to result rest.moves rest.out rest.contents rest.run rest.ends

  -- the answer to what a phase asks, and the contents after that call
  abbrev pub answer_at : P → Store → StoreAnswer
  answer_at p s = (whole (asks p) (moment_of (asks p) moment) s).answer

  abbrev pub store_at : P → Store → Store
  store_at p s = (whole (asks p) (moment_of (asks p) moment) s).store

  -- where the machine went on its answer, with one try less where that is a start
  pub record Went (left : ℕ) (s : Store) (p : P) (new : Told) (to : P) (result : Result R SlateDBError) : Type 0 where
    pub there : Goes P R
    pub moved : may p (answer_at p s) there
    pub go : (rest : ℕ) → rest + one_if is_start there ≡ left → RestBy rest (store_at p s) there new to result

  step_from : (left : ℕ) (s : Store) (p : P) (old new : Told) (to : P) (result : Result R SlateDBError) (moves : List (Move P R)) (out : Goes P R)
      → old.contents ≡ Some s → (Rose old.faults new.faults → ⊥) → RunBy asks may moment old new moves (Stay p) out → 0 < left → Ends to result out (turns_of is_start moves) left → Went left s p new to result
  step_from left s p old new to result [] out told calm run some (inl e) = absurd cc
  step_from left s p old new to result [] out told calm run some (inr e) = let none : 0 ≡ left = e.2 in absurd (omega (arith, some, none))
  step_from left s p old new to result (m ∷ ms) out told calm run some e =
      let makes : Makes old run.0 (asks p) (moment_of (asks p) moment) m.made.answer = subst (λ (c : StoreCall). Makes old run.0 c (moment_of c moment) m.made.answer) run.1 run.2 in
      let later = run_later ms run.0 new m.went out run.4 in
      let went = whole_call old run.0 (asks p) (moment_of (asks p) moment) m.made.answer s makes told (λ (r : Rose old.faults run.0.faults). calm (rose_after old.faults run.0.faults new.faults r later)) in
      record {
        there = m.went;
        moved = subst (λ (a : StoreAnswer). may p a m.went) went.reply run.3;
        go = λ rest used. record {
          old = run.0;
          contents = went.contents;
          calm = λ (r : Rose run.0.faults new.faults). calm (rose_before old.faults run.0.faults new.faults makes.later r);
          moves = ms;
          out = out;
          run = run.4;
          ends = shift to result out (one_if is_start m.went) (turns_of is_start ms) left rest used e;
        };
      }

  -- one call on
  pub step_by : (left : ℕ) (s : Store) (p : P) (new : Told) (to : P) (result : Result R SlateDBError) → RestBy left s (Stay p) new to result → 0 < left → Went left s p new to result
  step_by left s p new to result from some = step_from left s p from.old new to result from.moves from.out from.contents from.calm from.run some from.ends

  -- a plain call before its first call
  pub before_by : (tries : ℕ) (s : Store) (old new : Told) (start to : P) (result : Result R SlateDBError) → RanBy is_start asks may moment tries old new start to result → old.contents ≡ Some s → (Rose old.faults new.faults → ⊥) → RestBy tries s (Stay start) new to result
  before_by tries s old new start to result ran told calm = record { old = old; contents = told; calm = calm; moves = ran.moves; out = ran.out; run = ran.run; ends = ran.ends }

-- ---- a machine that goes on in one way

abbrev pub one_way : {P R : Type 0} → (P → StoreAnswer → Goes P R) → P → StoreAnswer → Goes P R → Type 0
one_way goes p answer out = goes p answer ≡ out

module _ {P R : Type 0} (is_start : P → Bool) (asks : P → StoreCall) (goes : P → StoreAnswer → Goes P R) (moment : ℤ) where
  abbrev moves_of : List Made → Goes P R → List (Move P R)
  moves_of [] from = []
  moves_of (m ∷ ms) (Stay p) = record { made = m; went = goes p m.answer } ∷ moves_of ms (goes p m.answer)
  moves_of (m ∷ ms) (End p r) = []

  run_moves : (ms : List Made) (old new : Told) (from out : Goes P R) → Run asks goes moment old new ms from out → RunBy asks (one_way goes) moment old new (moves_of ms from) from out
  run_moves [] old new from out run = run
  run_moves (m ∷ ms) old new (Stay p) out run = (run.0, run.1, run.2, refl, run_moves ms run.0 new (goes p m.answer) out run.3)
  run_moves (m ∷ ms) old new (End p r) out run = absurd run

  same_turns : (ms : List Made) (from : Goes P R) → turns is_start goes ms from ≡ turns_of is_start (moves_of ms from)
  same_turns [] from = refl
  same_turns (m ∷ ms) (Stay p) = ap (λ (n : ℕ). one_if is_start (goes p m.answer) + n) (same_turns ms (goes p m.answer))
  same_turns (m ∷ ms) (End p r) = refl

  -- the same of such a machine
  abbrev pub Rest : ℕ → Store → Goes P R → Told → P → Result R SlateDBError → Type 0
  Rest left s from new to result = RestBy is_start asks (one_way goes) moment left s from new to result

  pub ended : (left : ℕ) (s : Store) (p : P) (r : Result R SlateDBError) (new : Told) (to : P) (result : Result R SlateDBError) → Rest left s (End p r) new to result → EndedBy is_start asks (one_way goes) moment s p r new to result
  ended left s p r new to result rest = ended_by is_start asks (one_way goes) moment left s p r new to result rest

  pub step : (left rest : ℕ) (s : Store) (p : P) (g : Goes P R) (new : Told) (to : P) (result : Result R SlateDBError) → Rest left s (Stay p) new to result → goes p (whole (asks p) (moment_of (asks p) moment) s).answer ≡ g → 0 < left → rest + one_if is_start g ≡ left
      → Rest rest (whole (asks p) (moment_of (asks p) moment) s).store g new to result
  step left rest s p g new to result from leads some used =
      let went = step_by is_start asks (one_way goes) moment left s p new to result from some in
      let same : went.there ≡ g = sym went.moved ∙ leads in
      let count = ap (one_if is_start) same in
      subst (λ (g : Goes P R). Rest rest (whole (asks p) (moment_of (asks p) moment) s).store g new to result) same (went.go rest (omega (arith, used, count)))

  pub before : (tries : ℕ) (s : Store) (old new : Told) (start to : P) (result : Result R SlateDBError) → Ran is_start asks goes moment tries old new start to result → old.contents ≡ Some s → (Rose old.faults new.faults → ⊥) → Rest tries s (Stay start) new to result
  before tries s old new start to result ran told calm = record {
    old = old;
    contents = told;
    calm = calm;
    moves = moves_of ran.made (Stay start);
    out = ran.out;
    run = run_moves ran.made old new (Stay start) ran.out ran.run;
    ends = subst (λ (n : ℕ). ((ran.out ≡ End to result) × (n < tries)) ⊎ ((ran.out ≡ Stay to) × (result ≡ Err Contended) × (n ≡ tries) × (is_start to ≡ true))) (same_turns ran.made (Stay start)) ran.ends;
  }

-- ---- a machine within another

-- its phases are phases of that, which asks what it asks and goes on by how it goes on
pub record Within {P R Q S : Type 0} (first : P → Bool) (asks : P → StoreCall) (goes : P → StoreAnswer → Goes P R) (starts : Q → Bool) (all_asks : Q → StoreCall) (all_may : Q → StoreAnswer → Goes Q S → Type 0) (enter : P → Q) (on : Goes P R → Goes Q S → Type 0) : Type 0 where
  pub same_call : (p : P) → all_asks (enter p) ≡ asks p
  pub goes_by : (p : P) (a : StoreAnswer) (out : Goes Q S) → all_may (enter p) a out → on (goes p a) out
  pub stays : (p : P) (out : Goes Q S) → on (Stay p) out → Stay (enter p) ≡ out
  pub same_start : (p : P) → starts (enter p) ≡ first p

module _ {P R Q S : Type 0} (first : P → Bool) (asks : P → StoreCall) (goes : P → StoreAnswer → Goes P R) (starts : Q → Bool) (all_asks : Q → StoreCall) (all_may : Q → StoreAnswer → Goes Q S → Type 0) (enter : P → Q) (on : Goes P R → Goes Q S → Type 0)
    (within : Within first asks goes starts all_asks all_may enter on) (moment : ℤ) (left : ℕ) (s : Store) (p : P) (new : Told) (to : Q) (result : Result S SlateDBError) (from : RestBy starts all_asks all_may moment left s (Stay (enter p)) new to result) (some : 0 < left) where
  abbrev next_store : Store
  next_store = (whole (asks p) (moment_of (asks p) moment) s).store

  abbrev next_answer : StoreAnswer
  next_answer = (whole (asks p) (moment_of (asks p) moment) s).answer

  -- where the machine around it went from its step
  pub record Out (g : Goes P R) : Type 0 where
    pub there : Goes Q S
    pub moved : on g there
    pub go : (rest : ℕ) → rest + one_if starts there ≡ left → RestBy starts all_asks all_may moment rest next_store there new to result

  pub step_in : (g : Goes P R) → goes p next_answer ≡ g → Out g
  step_in g leads =
      let went = step_by starts all_asks all_may moment left s (enter p) new to result from some in
      let call = within.same_call p in
      record {
        there = went.there;
        moved = subst (λ (g : Goes P R). on g went.there) leads (subst (λ (c : StoreCall). on (goes p (whole c (moment_of c moment) s).answer) went.there) call (within.goes_by p (whole (all_asks (enter p)) (moment_of (all_asks (enter p)) moment) s).answer went.there went.moved));
        go = λ rest used. subst (λ (c : StoreCall). RestBy starts all_asks all_may moment rest (whole c (moment_of c moment) s).store went.there new to result) call (went.go rest used);
      }

  -- to another phase of it, which is no start
  pub stay_in : (q : P) → goes p next_answer ≡ Stay q → first q ≡ false → RestBy starts all_asks all_may moment left next_store (Stay (enter q)) new to result
  stay_in q leads calm =
      let o = step_in (Stay q) leads in
      let same = within.stays q o.there o.moved in
      let count : one_if {R = S} starts (Stay (enter q)) ≡ 0 = ap (λ (b : Bool). if b then 1 else 0) (within.same_start q ∙ calm) in
      let counted : one_if starts o.there ≡ 0 = subst (λ (g : Goes Q S). one_if starts g ≡ 0) same count in
      subst (λ (g : Goes Q S). RestBy starts all_asks all_may moment left next_store g new to result) (sym same) (o.go left (omega (arith, counted)))
