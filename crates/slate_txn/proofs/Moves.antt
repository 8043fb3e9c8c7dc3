-- A run of moves goes on by a step; by a function it is a run of that function.
use Rattle.std.specs.Prelude.{◌≡◌, ℕ, ◌+◌, ◌-◌, ◌<◌, ℤ, Bool, true, false, Result, Err, List, [], ◌∷◌, ◌++◌, refl, if◌then◌else◌}
use Rattle.std.proofs.Common.{sym, subst, ap, arith, inl, inr, ◌∙◌}
use Rattle.slate_ids.specs.Answers.{OrMemory, OrMemory-map}
use Rattle.slate_ids.specs.declared.error.SlateDBError.{SlateDBError}
use Rattle.slate_ids.specs.declared.error.SlateDBError.TheVariants.{Contended}
use Rattle.slate_store.specs.StoreCalls.{Told, Makes, moment_of}
use Rattle.slate_store.specs.Machines.{Goes, Stay, End, Held}
use Rattle.slate_store.specs.CallRuns.{one_if, made_by, Run, turns, Ran, Began}
use Rattle.slate_store.specs.declared.made.Made.{Made}
use Rattle.slate_store.specs.declared.step.Step.{Step}
use Rattle.slate_store.specs.declared.step.Step.TheVariants.{Again, Done}
use Rattle.slate_store.specs.declared.store_answer.StoreAnswer.{StoreAnswer}
use Rattle.slate_store.specs.declared.store_call.StoreCall.{StoreCall}
use Rattle.slate_txn_log.specs.Due.{WhereOut}
use Rattle.slate_txn_log.proofs.Steps.{is_reading, reads_keep}
use Rattle.slate_txn.specs.Moves.{SteppedBy, StepsBy, GoesOnBy, Move, RunBy, turns_of, RanBy, BeganBy}

abbrev pub moved : {P R : Type 0} → StoreCall → StoreAnswer → Goes P R → Move P R
moved call answer went = record { made = made_by call answer; went = went }

-- a run goes on by a step
run_on : {P R : Type 0} (asks : P → StoreCall) (may : P → StoreAnswer → Goes P R → Type 0) (moment : ℤ) (old mid new : Told) (ms : List (Move P R)) (from : Goes P R) (p : P) (out : Goes P R)
    → RunBy asks may moment old mid ms from (Stay p) → (step : SteppedBy mid new (asks p) moment (may p) out)
    → RunBy asks may moment old new (ms ++ moved (asks p) step.answer out ∷ []) from out
run_on asks may moment old mid new [] from p out run step =
    subst (λ (f : Goes _ _). RunBy asks may moment old new (moved (asks p) step.answer out ∷ []) f out) run.0
    (new, refl, subst (λ (t : Told). Makes t new (asks p) (moment_of (asks p) moment) step.answer) run.1 step.makes, step.moves, (refl, refl))
run_on asks may moment old mid new (m ∷ ms) (Stay q) p out run step =
    (run.0, run.1, run.2, run.3, run_on asks may moment run.0 mid new ms m.went p out run.4 step)
run_on asks may moment old mid new (m ∷ ms) (End q r) p out run step = absurd run

turns_on : {P R : Type 0} (is_start : P → Bool) (ms : List (Move P R)) (m : Move P R) → turns_of is_start (ms ++ m ∷ []) ≡ turns_of is_start ms + one_if is_start m.went
turns_on is_start [] m = omega arith
turns_on is_start (n ∷ ms) m = let rest = turns_on is_start ms m in omega (arith, rest)

-- the run so far, which stands at a phase with so many tries left
pub record RunningBy {P R : Type 0} (is_start : P → Bool) (asks : P → StoreCall) (may : P → StoreAnswer → Goes P R → Type 0) (moment : ℤ) (tries : ℕ) (old new : Told) (start now : P) (left : ℕ) : Type 0 where
  pub moves : List (Move P R)
  pub run : RunBy asks may moment old new moves (Stay start) (Stay now)
  pub used : turns_of is_start moves + left ≡ tries
  pub more : 0 < left

-- a call begins
pub begins_by : {P R : Type 0} (is_start : P → Bool) (asks : P → StoreCall) (may : P → StoreAnswer → Goes P R → Type 0) (moment : ℤ) (tries : ℕ) (old : Told) (start : P) → 0 < tries → RunningBy is_start asks may moment tries old old start start tries
begins_by is_start asks may moment tries old start h = record { moves = []; run = (refl, refl); used = omega arith; more = h }

-- a step within a try
pub goes_further_by : {P R : Type 0} {is_start : P → Bool} {asks : P → StoreCall} {may : P → StoreAnswer → Goes P R → Type 0} {moment : ℤ} {tries : ℕ} {old mid new : Told} {start p q : P} {left : ℕ}
    → RunningBy is_start asks may moment tries old mid start p left → SteppedBy mid new (asks p) moment (may p) (Stay q) → is_start q ≡ false
    → RunningBy is_start asks may moment tries old new start q left
goes_further_by {R = R} {is_start = is_start} {asks = asks} {may = may} {moment = moment} {old = old} {mid = mid} {new = new} {start = start} {p = p} {q = q} running step h =
    let count : one_if {R = R} is_start (Stay q) ≡ 0 = ap (λ (b : Bool). if b then 1 else 0) h in
    let more = turns_on is_start running.moves (moved (asks p) step.answer (Stay q)) in
    record {
      moves = running.moves ++ moved (asks p) step.answer (Stay q) ∷ [];
      run = run_on asks may moment old mid new running.moves (Stay start) p (Stay q) running.run step;
      used = omega (arith, count, more, running.used);
      more = running.more;
    }

-- a step that starts again, with a try left
pub starts_again_by : {P R : Type 0} {is_start : P → Bool} {asks : P → StoreCall} {may : P → StoreAnswer → Goes P R → Type 0} {moment : ℤ} {tries : ℕ} {old mid new : Told} {start p q : P} {left : ℕ}
    → RunningBy is_start asks may moment tries old mid start p left → SteppedBy mid new (asks p) moment (may p) (Stay q) → is_start q ≡ true → 1 < left
    → RunningBy is_start asks may moment tries old new start q (left - 1)
starts_again_by {R = R} {is_start = is_start} {asks = asks} {may = may} {moment = moment} {old = old} {mid = mid} {new = new} {start = start} {p = p} {q = q} running step h two =
    let count : one_if {R = R} is_start (Stay q) ≡ 1 = ap (λ (b : Bool). if b then 1 else 0) h in
    let more = turns_on is_start running.moves (moved (asks p) step.answer (Stay q)) in
    record {
      moves = running.moves ++ moved (asks p) step.answer (Stay q) ∷ [];
      run = run_on asks may moment old mid new running.moves (Stay start) p (Stay q) running.run step;
      used = omega (arith, count, more, running.used, two);
      more = omega (arith, two);
    }

-- the last try starts again
pub gives_up_by : {P R : Type 0} {is_start : P → Bool} {asks : P → StoreCall} {may : P → StoreAnswer → Goes P R → Type 0} {moment : ℤ} {tries : ℕ} {old mid new : Told} {start p q : P} {left : ℕ}
    → RunningBy is_start asks may moment tries old mid start p left → SteppedBy mid new (asks p) moment (may p) (Stay q) → is_start q ≡ true → left ≡ 1
    → RanBy is_start asks may moment tries old new start q (Err Contended)
gives_up_by {R = R} {is_start = is_start} {asks = asks} {may = may} {moment = moment} {old = old} {mid = mid} {new = new} {start = start} {p = p} {q = q} running step h one =
    let count : one_if {R = R} is_start (Stay q) ≡ 1 = ap (λ (b : Bool). if b then 1 else 0) h in
    let more = turns_on is_start running.moves (moved (asks p) step.answer (Stay q)) in
    record {
      moves = running.moves ++ moved (asks p) step.answer (Stay q) ∷ [];
      out = Stay q;
      run = run_on asks may moment old mid new running.moves (Stay start) p (Stay q) running.run step;
      ends = inr (refl, refl, omega (arith, count, more, running.used, one), h);
    }

-- a step that ends the call
ends_by : {P R : Type 0} {is_start : P → Bool} {asks : P → StoreCall} {may : P → StoreAnswer → Goes P R → Type 0} {moment : ℤ} {tries : ℕ} {old mid new : Told} {start p q : P} {left : ℕ} {result : Result R SlateDBError}
    → RunningBy is_start asks may moment tries old mid start p left → SteppedBy mid new (asks p) moment (may p) (End q result)
    → RanBy is_start asks may moment tries old new start q result
ends_by {is_start = is_start} {asks = asks} {may = may} {moment = moment} {old = old} {mid = mid} {new = new} {start = start} {p = p} {q = q} {result = result} running step =
    let more = turns_on is_start running.moves (moved (asks p) step.answer (End q result)) in
    record {
      moves = running.moves ++ moved (asks p) step.answer (End q result) ∷ [];
      out = End q result;
      run = run_on asks may moment old mid new running.moves (Stay start) p (End q result) running.run step;
      ends = inl (refl, omega (arith, more, running.used, running.more));
    }

-- a step for which memory runs out
stopped_by : {P R : Type 0} {is_start : P → Bool} {asks : P → StoreCall} {may : P → StoreAnswer → Goes P R → Type 0} {moment : ℤ} {tries : ℕ} {old mid new : Told} {start p q : P} {left : ℕ}
    → RunningBy is_start asks may moment tries old mid start p left → Held mid new (asks p) moment p q
    → BeganBy is_start asks may moment tries old new start q
stopped_by {is_start = is_start} {asks = asks} {may = may} {moment = moment} {tries = tries} {old = old} {mid = mid} {new = new} {start = start} {p = p} {q = q} running held =
    let ended : BeganBy is_start asks may moment tries old new start p = record {
      mid = mid;
      moves = running.moves;
      run = running.run;
      last = held.made;
      within = omega (arith, running.used, running.more);
    } in
    subst (λ (s : _). BeganBy is_start asks may moment tries old new start s) (sym held.kept) ended

-- the same of a step that is done
pub done_by : {P R : Type 0} {is_start : P → Bool} {asks : P → StoreCall} {may : P → StoreAnswer → Goes P R → Type 0} {moment : ℤ} {tries : ℕ} {old mid : Told} {start p : P} {left : ℕ}
    → RunningBy is_start asks may moment tries old mid start p left → (new : Told) (q : P) (result : Result R SlateDBError) → StepsBy mid new (asks p) moment (may p) p q (Done result)
    → OrMemory result (BeganBy is_start asks may moment tries old new start q) (RanBy is_start asks may moment tries old new start q result)
done_by running new q result steps = OrMemory-map result (λ held. stopped_by running held) (λ step. ends_by running step) steps

-- the calls of moves
abbrev calls_of : {P R : Type 0} → List (Move P R) → List Made
calls_of [] = []
calls_of (m ∷ ms) = m.made ∷ calls_of ms

-- where each move is that of a function, the run is a run of the function
run_of : {P R : Type 0} (asks : P → StoreCall) (may : P → StoreAnswer → Goes P R → Type 0) (goes : P → StoreAnswer → Goes P R) → ((p : P) (answer : StoreAnswer) (out : Goes P R) → may p answer out → goes p answer ≡ out)
    → (moment : ℤ) (old new : Told) (ms : List (Move P R)) (from out : Goes P R) → RunBy asks may moment old new ms from out → Run asks goes moment old new (calls_of ms) from out
run_of asks may goes by moment old new [] from out run = run
run_of asks may goes by moment old new (m ∷ ms) (Stay p) out run =
    let rest = run_of asks may goes by moment run.0 new ms m.went out run.4 in
    (run.0, run.1, run.2, subst (λ (g : Goes _ _). Run asks goes moment run.0 new (calls_of ms) g out) (sym (by p m.made.answer m.went run.3)) rest)
run_of asks may goes by moment old new (m ∷ ms) (End p r) out run = absurd run

same_turns : {P R : Type 0} (is_start : P → Bool) (asks : P → StoreCall) (may : P → StoreAnswer → Goes P R → Type 0) (goes : P → StoreAnswer → Goes P R) → ((p : P) (answer : StoreAnswer) (out : Goes P R) → may p answer out → goes p answer ≡ out)
    → (moment : ℤ) (old new : Told) (ms : List (Move P R)) (from out : Goes P R) → RunBy asks may moment old new ms from out → turns is_start goes (calls_of ms) from ≡ turns_of is_start ms
same_turns is_start asks may goes by moment old new [] from out run = refl
same_turns is_start asks may goes by moment old new (m ∷ ms) (Stay p) out run =
    let rest = same_turns is_start asks may goes by moment run.0 new ms m.went out run.4 in
    let went = by p m.made.answer m.went run.3 in
    let there : turns is_start goes (calls_of ms) (goes p m.made.answer) ≡ turns_of is_start ms = ap (λ (g : Goes _ _). turns is_start goes (calls_of ms) g) went ∙ rest in
    let first : one_if is_start (goes p m.made.answer) ≡ one_if is_start m.went = ap (one_if is_start) went in
    omega (arith, there, first)
same_turns is_start asks may goes by moment old new (m ∷ ms) (End p r) out run = absurd run

-- so a plain call of moves is one of the function
pub ran_of : {P R : Type 0} {is_start : P → Bool} {asks : P → StoreCall} {may : P → StoreAnswer → Goes P R → Type 0} {moment : ℤ} {tries : ℕ} {old new : Told} {start to : P} {result : Result R SlateDBError}
    (goes : P → StoreAnswer → Goes P R) → ((p : P) (answer : StoreAnswer) (out : Goes P R) → may p answer out → goes p answer ≡ out) → RanBy is_start asks may moment tries old new start to result → Ran is_start asks goes moment tries old new start to result
ran_of {is_start = is_start} {asks = asks} {may = may} {moment = moment} {tries = tries} {old = old} {new = new} {start = start} {to = to} {result = result} goes by ran =
    let count = same_turns is_start asks may goes by moment old new ran.moves (Stay start) ran.out ran.run in
    record {
      made = calls_of ran.moves;
      out = ran.out;
      run = run_of asks may goes by moment old new ran.moves (Stay start) ran.out ran.run;
      ends = elim ran.ends [
        | inl e ↦ inl (e.0, omega (arith, count, e.1))
        | inr e ↦ inr (e.0, e.1, count ∙ e.2, e.3)
      ];
    }

pub began_of : {P R : Type 0} {is_start : P → Bool} {asks : P → StoreCall} {may : P → StoreAnswer → Goes P R → Type 0} {moment : ℤ} {tries : ℕ} {old new : Told} {start to : P}
    (goes : P → StoreAnswer → Goes P R) → ((p : P) (answer : StoreAnswer) (out : Goes P R) → may p answer out → goes p answer ≡ out) → BeganBy is_start asks may moment tries old new start to → Began is_start asks goes moment tries old new start to
began_of {is_start = is_start} {asks = asks} {may = may} {moment = moment} {tries = tries} {old = old} {start = start} {to = to} goes by began =
    let count = same_turns is_start asks may goes by moment old began.mid began.moves (Stay start) (Stay to) began.run in
    record {
      mid = began.mid;
      made = calls_of began.moves;
      run = run_of asks may goes by moment old began.mid began.moves (Stay start) (Stay to) began.run;
      last = began.last;
      within = omega (arith, count, began.within);
    }

-- what may be gone on by less may be gone on by more
run_more : {P R : Type 0} (asks : P → StoreCall) (may more : P → StoreAnswer → Goes P R → Type 0) → ((p : P) (answer : StoreAnswer) (out : Goes P R) → may p answer out → more p answer out)
    → (moment : ℤ) (old new : Told) (ms : List (Move P R)) (from out : Goes P R) → RunBy asks may moment old new ms from out → RunBy asks more moment old new ms from out
run_more asks may more by moment old new [] from out run = run
run_more asks may more by moment old new (m ∷ ms) (Stay p) out run = (run.0, run.1, run.2, by p m.made.answer m.went run.3, run_more asks may more by moment run.0 new ms m.went out run.4)
run_more asks may more by moment old new (m ∷ ms) (End p r) out run = absurd run

pub ran_more : {P R : Type 0} {is_start : P → Bool} {asks : P → StoreCall} {may : P → StoreAnswer → Goes P R → Type 0} {moment : ℤ} {tries : ℕ} {old new : Told} {start to : P} {result : Result R SlateDBError}
    (more : P → StoreAnswer → Goes P R → Type 0) → ((p : P) (answer : StoreAnswer) (out : Goes P R) → may p answer out → more p answer out) → RanBy is_start asks may moment tries old new start to result → RanBy is_start asks more moment tries old new start to result
ran_more {asks = asks} {may = may} {moment = moment} {old = old} {new = new} {start = start} more by ran =
    record { moves = ran.moves; out = ran.out; run = run_more asks may more by moment old new ran.moves (Stay start) ran.out ran.run; ends = ran.ends }

pub began_more : {P R : Type 0} {is_start : P → Bool} {asks : P → StoreCall} {may : P → StoreAnswer → Goes P R → Type 0} {moment : ℤ} {tries : ℕ} {old new : Told} {start to : P}
    (more : P → StoreAnswer → Goes P R → Type 0) → ((p : P) (answer : StoreAnswer) (out : Goes P R) → may p answer out → more p answer out) → BeganBy is_start asks may moment tries old new start to → BeganBy is_start asks more moment tries old new start to
began_more {asks = asks} {may = may} {moment = moment} {old = old} {start = start} {to = to} more by began =
    record { mid = began.mid; moves = began.moves; run = run_more asks may more by moment old began.mid began.moves (Stay start) (Stay to) began.run; last = began.last; within = began.within }

-- a call, and how the machine goes on from its answer, are a step; memory runs out only after a call that reads
pub steps_by : {P R : Type 0} {old new : Told} {call : StoreCall} {answer : StoreAnswer} (wanted : StoreCall) (moment : ℤ) (may : StoreAnswer → Goes P R → Type 0) (from to : P)
    → call ≡ wanted → Makes old new call (moment_of call moment) answer → (step : Step R) → GoesOnBy (may answer) from to step → WhereOut step (is_reading wanted ≡ true) → StepsBy old new wanted moment may from to step
steps_by {old = old} {new = new} {answer = answer} wanted moment may from to same makes Again h reading =
    record { answer = answer; makes = subst (λ (c : StoreCall). Makes old new c (moment_of c moment) answer) same makes; moves = h }
steps_by {old = old} {new = new} {answer = answer} wanted moment may from to same makes (Done r) (inl moves) reading =
    inl (record { answer = answer; makes = subst (λ (c : StoreCall). Makes old new c (moment_of c moment) answer) same makes; moves = moves })
steps_by {old = old} {new = new} {answer = answer} wanted moment may from to same makes (Done r) (inr m) reading =
    let here : Makes old new wanted (moment_of wanted moment) answer = subst (λ (c : StoreCall). Makes old new c (moment_of c moment) answer) same makes in
    inr (m.0, record { kept = m.1; made = record { contents = reads_keep (reading m.0) here; calls = inr (answer, here) } })
