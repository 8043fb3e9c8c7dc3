-- Whole runs of a machine.
use Rattle.std.specs.Prelude.{◌≡◌, ℕ, ◌+◌, ◌-◌, ◌<◌, ◌⊎◌, ℤ, Bool, true, false, Result, Err, List, [], ◌∷◌, ◌++◌, refl, if◌then◌else◌}
use Rattle.std.proofs.Common.{sym, subst, ap, arith, inl, inr}
use Rattle.slate_ids.specs.declared.error.SlateDBError.{SlateDBError}
use Rattle.slate_ids.specs.declared.error.SlateDBError.TheVariants.{Contended}
use Rattle.slate_store.specs.declared.store_call.StoreCall.{StoreCall}
use Rattle.slate_store.specs.declared.store_answer.StoreAnswer.{StoreAnswer}
use Rattle.slate_store.specs.StoreCalls.{Told, Makes, moment_of}
use Rattle.slate_store.specs.declared.made.Made.{Made}
use Rattle.slate_store.specs.Machines.{Goes, Stay, End, Stepped, Held, AtMost, Steps}
use Rattle.slate_store.specs.declared.step.Step.TheVariants.{Done}
use Rattle.slate_ids.specs.Answers.{OrMemory, OrMemory-map}

-- the calls that were made from a phase, each with its answer, and how the machine goes on after them
abbrev pub Run : {P R : Type 0} → (P → StoreCall) → (P → StoreAnswer → Goes P R) → ℤ → Told → Told → List Made → Goes P R → Goes P R → Type 0
Run asks goes moment old new [] from out = (out ≡ from) × (new ≡ old)
Run asks goes moment old new (m ∷ ms) (Stay p) out = (mid : Told) × (m.call ≡ asks p) × Makes old mid m.call (moment_of m.call moment) m.answer × Run asks goes moment mid new ms (goes p m.answer) out
Run asks goes moment old new (m ∷ ms) (End p r) out = ⊥

abbrev pub one_if : {P R : Type 0} → (P → Bool) → Goes P R → ℕ
one_if is_start (Stay p) = if is_start p then 1 else 0
one_if is_start (End p r) = 0

-- how often the machine started again
abbrev pub turns : {P R : Type 0} → (P → Bool) → (P → StoreAnswer → Goes P R) → List Made → Goes P R → ℕ
turns is_start goes [] from = 0
turns is_start goes (m ∷ ms) (Stay p) = one_if is_start (goes p m.answer) + turns is_start goes ms (goes p m.answer)
turns is_start goes (m ∷ ms) (End p r) = 0

abbrev pub made_by : (call : StoreCall) → StoreAnswer → Made
made_by call answer = record { call = call; answer = answer }

-- a run goes on by a step
pub run_on : {P R : Type 0} (asks : P → StoreCall) (goes : P → StoreAnswer → Goes P R) (moment : ℤ) (old mid new : Told) (ms : List Made) (from : Goes P R) (p : P) (out : Goes P R)
    → Run asks goes moment old mid ms from (Stay p) → (step : Stepped mid new (asks p) moment (goes p) out)
    → Run asks goes moment old new (ms ++ made_by (asks p) step.answer ∷ []) from out
run_on asks goes moment old mid new [] from p out run step =
    subst (λ (f : Goes _ _). Run asks goes moment old new (made_by (asks p) step.answer ∷ []) f out) run.0
    (new, refl, subst (λ (t : Told). Makes t new (asks p) (moment_of (asks p) moment) step.answer) run.1 step.makes, (sym step.gives, refl))
run_on asks goes moment old mid new (m ∷ ms) (Stay q) p out run step =
    (run.0, run.1, run.2, run_on asks goes moment run.0 mid new ms (goes q m.answer) p out run.3 step)
run_on asks goes moment old mid new (m ∷ ms) (End q r) p out run step = absurd run

-- and its count of turns by one, where the step starts again
pub turns_on : {P R : Type 0} (is_start : P → Bool) (asks : P → StoreCall) (goes : P → StoreAnswer → Goes P R) (moment : ℤ) (old mid new : Told)
    (ms : List Made) (from : Goes P R) (p : P) (out : Goes P R)
    → Run asks goes moment old mid ms from (Stay p) → (step : Stepped mid new (asks p) moment (goes p) out)
    → turns is_start goes (ms ++ made_by (asks p) step.answer ∷ []) from ≡ turns is_start goes ms from + one_if is_start out
turns_on is_start asks goes moment old mid new [] from p out run step =
    subst (λ (f : Goes _ _). turns is_start goes (made_by (asks p) step.answer ∷ []) f ≡ 0 + one_if is_start out) run.0
    (let same : one_if is_start (goes p step.answer) ≡ one_if is_start out = ap (one_if is_start) step.gives in omega (arith, same))
turns_on is_start asks goes moment old mid new (m ∷ ms) (Stay q) p out run step =
    let rest : turns is_start goes (ms ++ made_by (asks p) step.answer ∷ []) (goes q m.answer) ≡ turns is_start goes ms (goes q m.answer) + one_if is_start out
    = turns_on is_start asks goes moment run.0 mid new ms (goes q m.answer) p out run.3 step in omega (arith, rest)
turns_on is_start asks goes moment old mid new (m ∷ ms) (End q r) p out run step = absurd run

-- a plain call of so many tries made these calls: it ends with the machine's reply, or each try started again, and the last call led back to a start
pub record Ran {P R : Type 0} (is_start : P → Bool) (asks : P → StoreCall) (goes : P → StoreAnswer → Goes P R) (moment : ℤ) (tries : ℕ)
    (old new : Told) (start to : P) (result : Result R SlateDBError) : Type 0 where
  pub made : List Made
  pub out : Goes P R
  pub run : Run asks goes moment old new made (Stay start) out
  pub ends : ((out ≡ End to result) × (turns is_start goes made (Stay start) < tries))
      ⊎ ((out ≡ Stay to) × (result ≡ Err Contended) × (turns is_start goes made (Stay start) ≡ tries) × (is_start to ≡ true))

-- memory ran out in a plain call of so many tries: these calls led to where it stands, and at most the next one was made besides
pub record Began {P R : Type 0} (is_start : P → Bool) (asks : P → StoreCall) (goes : P → StoreAnswer → Goes P R) (moment : ℤ) (tries : ℕ) (old new : Told) (start to : P) : Type 0 where
  pub mid : Told
  pub made : List Made
  pub run : Run asks goes moment old mid made (Stay start) (Stay to)
  pub last : AtMost mid new (asks to) moment
  pub within : turns is_start goes made (Stay start) < tries

-- the run so far, which stands at a phase with so many tries left
pub record Running {P R : Type 0} (is_start : P → Bool) (asks : P → StoreCall) (goes : P → StoreAnswer → Goes P R) (moment : ℤ) (tries : ℕ) (old new : Told) (start now : P) (left : ℕ) : Type 0 where
  pub made : List Made
  pub run : Run asks goes moment old new made (Stay start) (Stay now)
  pub used : turns is_start goes made (Stay start) + left ≡ tries
  pub more : 0 < left

-- a call begins
pub begins : {P R : Type 0} (is_start : P → Bool) (asks : P → StoreCall) (goes : P → StoreAnswer → Goes P R) (moment : ℤ) (tries : ℕ) (old : Told)
    (start : P) → 0 < tries → Running is_start asks goes moment tries old old start start tries
begins is_start asks goes moment tries old start h = record { made = []; run = (refl, refl); used = omega arith; more = h }

-- a step within a try
pub goes_further : {P R : Type 0} {is_start : P → Bool} {asks : P → StoreCall} {goes : P → StoreAnswer → Goes P R} {moment : ℤ} {tries : ℕ} {old mid new : Told} {start p q : P} {left : ℕ}
    → Running is_start asks goes moment tries old mid start p left → Stepped mid new (asks p) moment (goes p) (Stay q) → is_start q ≡ false
    → Running is_start asks goes moment tries old new start q left
goes_further {R = R} {is_start = is_start} {asks = asks} {goes = goes} {moment = moment} {old = old} {mid = mid} {new = new} {start = start} {p = p} {q = q} running step h =
    let count : one_if {R = R} is_start (Stay q) ≡ 0 = ap (λ (b : Bool). if b then 1 else 0) h in
    let more : turns is_start goes (running.made ++ made_by (asks p) step.answer ∷ []) (Stay start) ≡ turns is_start goes running.made (Stay start) + one_if {R = R} is_start (Stay q)
    = turns_on is_start asks goes moment old mid new running.made (Stay start) p (Stay q) running.run step in
    record {
      made = running.made ++ made_by (asks p) step.answer ∷ [];
      run = run_on asks goes moment old mid new running.made (Stay start) p (Stay q) running.run step;
      used = omega (arith, count, more, running.used);
      more = running.more;
    }

-- a step that starts again, with a try left
pub starts_again : {P R : Type 0} {is_start : P → Bool} {asks : P → StoreCall} {goes : P → StoreAnswer → Goes P R} {moment : ℤ} {tries : ℕ} {old mid new : Told} {start p q : P} {left : ℕ}
    → Running is_start asks goes moment tries old mid start p left → Stepped mid new (asks p) moment (goes p) (Stay q) → is_start q ≡ true → 1 < left
    → Running is_start asks goes moment tries old new start q (left - 1)
starts_again {R = R} {is_start = is_start} {asks = asks} {goes = goes} {moment = moment} {old = old} {mid = mid} {new = new} {start = start} {p = p} {q = q} running step h two =
    let count : one_if {R = R} is_start (Stay q) ≡ 1 = ap (λ (b : Bool). if b then 1 else 0) h in
    let more : turns is_start goes (running.made ++ made_by (asks p) step.answer ∷ []) (Stay start) ≡ turns is_start goes running.made (Stay start) + one_if {R = R} is_start (Stay q)
    = turns_on is_start asks goes moment old mid new running.made (Stay start) p (Stay q) running.run step in
    record {
      made = running.made ++ made_by (asks p) step.answer ∷ [];
      run = run_on asks goes moment old mid new running.made (Stay start) p (Stay q) running.run step;
      used = omega (arith, count, more, running.used, two);
      more = omega (arith, two);
    }

-- the last try starts again
pub gives_up : {P R : Type 0} {is_start : P → Bool} {asks : P → StoreCall} {goes : P → StoreAnswer → Goes P R} {moment : ℤ} {tries : ℕ} {old mid new : Told} {start p q : P} {left : ℕ}
    → Running is_start asks goes moment tries old mid start p left → Stepped mid new (asks p) moment (goes p) (Stay q) → is_start q ≡ true → left ≡ 1
    → Ran is_start asks goes moment tries old new start q (Err Contended)
gives_up {R = R} {is_start = is_start} {asks = asks} {goes = goes} {moment = moment} {old = old} {mid = mid} {new = new} {start = start} {p = p} {q = q} running step h one =
    let count : one_if {R = R} is_start (Stay q) ≡ 1 = ap (λ (b : Bool). if b then 1 else 0) h in
    let more : turns is_start goes (running.made ++ made_by (asks p) step.answer ∷ []) (Stay start) ≡ turns is_start goes running.made (Stay start) + one_if {R = R} is_start (Stay q)
    = turns_on is_start asks goes moment old mid new running.made (Stay start) p (Stay q) running.run step in
    record {
      made = running.made ++ made_by (asks p) step.answer ∷ [];
      out = Stay q;
      run = run_on asks goes moment old mid new running.made (Stay start) p (Stay q) running.run step;
      ends = inr (refl, refl, omega (arith, count, more, running.used, one), h);
    }

-- a step that ends the call
pub ends_with : {P R : Type 0} {is_start : P → Bool} {asks : P → StoreCall} {goes : P → StoreAnswer
    → Goes P R} {moment : ℤ} {tries : ℕ} {old mid new : Told} {start p q : P} {left : ℕ} {result : Result R SlateDBError}
    → Running is_start asks goes moment tries old mid start p left → Stepped mid new (asks p) moment (goes p) (End q result)
    → Ran is_start asks goes moment tries old new start q result
ends_with {is_start = is_start} {asks = asks} {goes = goes} {moment = moment} {old = old} {mid = mid} {new = new} {start = start} {p = p} {q = q} {result = result} running step =
    let more : turns is_start goes (running.made ++ made_by (asks p) step.answer ∷ []) (Stay start) ≡ turns is_start goes running.made (Stay start) + 0
    = turns_on is_start asks goes moment old mid new running.made (Stay start) p (End q result) running.run step in
    record {
      made = running.made ++ made_by (asks p) step.answer ∷ [];
      out = End q result;
      run = run_on asks goes moment old mid new running.made (Stay start) p (End q result) running.run step;
      ends = inl (refl, omega (arith, more, running.used, running.more));
    }

-- a step for which memory runs out
pub stopped : {P R : Type 0} {is_start : P → Bool} {asks : P → StoreCall} {goes : P → StoreAnswer → Goes P R} {moment : ℤ} {tries : ℕ} {old mid new : Told} {start p q : P} {left : ℕ}
    → Running is_start asks goes moment tries old mid start p left → Held mid new (asks p) moment p q
    → Began is_start asks goes moment tries old new start q
stopped {is_start = is_start} {asks = asks} {goes = goes} {moment = moment} {tries = tries} {old = old} {mid = mid} {new = new} {start = start} {p = p} {q = q} running held =
    let ended : Began is_start asks goes moment tries old new start p = record {
      mid = mid;
      made = running.made;
      run = running.run;
      last = held.made;
      within = omega (arith, running.used, running.more);
    } in
    subst (λ (s : _). Began is_start asks goes moment tries old new start s) (sym held.kept) ended

-- the same of a step that is done
pub done_with : {P R : Type 0} {is_start : P → Bool} {asks : P → StoreCall} {goes : P → StoreAnswer → Goes P R} {moment : ℤ} {tries : ℕ} {old mid : Told} {start p : P} {left : ℕ}
    → Running is_start asks goes moment tries old mid start p left → (new : Told) (q : P) (result : Result R SlateDBError) → Steps mid new (asks p) moment (goes p) p q (Done result)
    → OrMemory result (Began is_start asks goes moment tries old new start q) (Ran is_start asks goes moment tries old new start q result)
done_with running new q result steps = OrMemory-map result (λ held. stopped running held) (λ step. ends_with running step) steps
