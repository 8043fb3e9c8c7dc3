-- Of the calls that a plain call made up to its end the last ones are a turn without a conflict.
use Rattle.std.proofs.Common.{◌≡◌, ℕ, ℤ, Bool, true, false, List, [], ◌∷◌, Result, Ok, Err, refl, inl, inr, sym, ap, ◌∙◌, ◌⊎◌, subst}
use Rattle.std.specs.Prelude.{if◌then◌else◌}
use Rattle.slate_txn_changes.specs.Turns.{Turn, is_turned, turn_asks, turn_goes, turned_on}
use Rattle.slate_ids.specs.Answers.{is_conflict}
use Rattle.slate_ids.specs.declared.error.SlateDBError.{SlateDBError}
use Rattle.slate_store.specs.StoreCalls.{Makes, Told, moment_of}
use Rattle.slate_store.specs.Machines.{Goes, Stay, End}
use Rattle.slate_store.specs.CallRuns.{Ran, Run}
use Rattle.slate_store.specs.declared.made.Made.{Made}
use Rattle.slate_store.specs.declared.store_answer.StoreAnswer.{StoreAnswer}
use Rattle.slate_store.specs.declared.store_call.StoreCall.{StoreCall}
use Rattle.slate_txn_changes.specs.LastTurns.{HasEnded, LastTurn, no_conflict}

module _ {P R : Type 0} (asks : P → StoreCall) (goes : P → StoreAnswer → Goes P R) (again : P → P → Bool) (restart : P → P) (Begins : P → Type 0) (restarts : (p : P) → Begins (restart p)) (moment : ℤ) (new : Told) (to : Turn P) (result : Result R SlateDBError) where
  -- a run of the plain call to its end
  abbrev ToEnd : Told → List Made → Goes (Turn P) R → Type 0
  ToEnd old made from = Run (turn_asks asks) (turn_goes again restart goes) moment old new made from (End to result)

  abbrev Last : Told → List Made → P → Bool → Type 0
  Last old made p b = LastTurn asks (turn_goes again restart goes) goes Begins moment old new made (p, b) to result

  -- no answer led to a conflict, or the last turn begins after one
  abbrev Found : Told → List Made → P → Bool → Type 0
  Found old made p b = no_conflict goes (Stay p) made ⊎ Last old made p b

  -- the whole run is the last turn
  whole : (made : List Made) (old : Told) (p : P) (b : Bool) → Begins p → ToEnd old made (Stay (p, b)) → no_conflict goes (Stay p) made → Last old made p b
  whole made old p b begins run alone = record { start = p; before = b; mid = old; earlier = []; later = made; all = refl; reached = (refl, refl); run = run; begins = begins; alone = alone }

  -- one call more before it
  one_more : (old mid : Told) (m : Made) (ms : List Made) (p q : P) (b c : Bool) → m.call ≡ asks p → Makes old mid m.call (moment_of m.call moment) m.answer → turned_on again restart (p, b) (goes p m.answer) ≡ Stay (q, c) → Last mid ms q c → Last old (m ∷ ms) p b
  one_more old mid m ms p q b c asked makes leads last = record {
    start = last.start;
    before = last.before;
    mid = last.mid;
    earlier = m ∷ last.earlier;
    later = last.later;
    all = ap (λ (rest : List Made). m ∷ rest) last.all;
    reached = (mid, asked, makes, subst (λ (g : Goes (Turn P) R). Run (turn_asks asks) (turn_goes again restart goes) moment mid last.mid last.earlier g (Stay (last.start, last.before))) (sym leads) last.reached);
    run = last.run;
    begins = last.begins;
    alone = last.alone;
  }

  -- after a refusal: a conflict leads back to where the call begins, any other one is its end
  refused : (old mid : Told) (m : Made) (ms : List Made) (p q : P) (b : Bool) (e : SlateDBError) (conflict : Bool) → is_conflict e ≡ conflict → goes p m.answer ≡ End q (Err e) → m.call ≡ asks p → Makes old mid m.call (moment_of m.call moment) m.answer
      → ToEnd mid ms (if◌then◌else◌ {A = Goes (Turn P) R} conflict (Stay (restart q, true)) (End (q, b) (Err e))) → ((r : P) (c : Bool) → ToEnd mid ms (Stay (r, c)) → Found mid ms r c) → Found old (m ∷ ms) p b
  refused old mid m ms p q b e true is same asked makes run rest =
      let leads = ap (turned_on again restart (p, b)) same ∙ ap (λ (x : Bool). if◌then◌else◌ {A = Goes (Turn P) R} x (Stay (restart q, true)) (End (q, b) (Err e))) is in
      elim (rest (restart q) true run) [
        | inl alone ↦ inr (one_more old mid m ms p (restart q) b true asked makes leads (whole ms mid (restart q) true (restarts q) run alone))
        | inr last ↦ inr (one_more old mid m ms p (restart q) b true asked makes leads last)
      ]
  refused old mid m [] p q b e false is same asked makes run rest = inl (subst (λ (g : Goes P R). no_conflict goes g []) (sym same) is)
  refused old mid m (n ∷ ms) p q b e false is same asked makes run rest = absurd run

  -- after a call
  after : (old mid : Told) (m : Made) (ms : List Made) (p : P) (b : Bool) (g : Goes P R) → goes p m.answer ≡ g → m.call ≡ asks p → Makes old mid m.call (moment_of m.call moment) m.answer
      → ToEnd mid ms (turned_on again restart (p, b) g) → ((r : P) (c : Bool) → ToEnd mid ms (Stay (r, c)) → Found mid ms r c) → Found old (m ∷ ms) p b
  after old mid m ms p b (Stay q) same asked makes run rest = elim (rest q (again p q) run) [
    | inl alone ↦ inl (subst (λ (g : Goes P R). no_conflict goes g ms) (sym same) alone)
    | inr last ↦ inr (one_more old mid m ms p q b (again p q) asked makes (ap (turned_on again restart (p, b)) same) last)
  ]
  after old mid m [] p b (End q (Ok r)) same asked makes run rest = inl (subst (λ (g : Goes P R). no_conflict goes g []) (sym same) tt)
  after old mid m (n ∷ ms) p b (End q (Ok r)) same asked makes run rest = absurd run
  after old mid m ms p b (End q (Err e)) same asked makes run rest = refused old mid m ms p q b e (is_conflict e) refl same asked makes run rest

  found : (made : List Made) (old : Told) (p : P) (b : Bool) → ToEnd old made (Stay (p, b)) → Found old made p b
  found [] old p b run = absurd (cc run.0)
  found (m ∷ ms) old p b run = after old run.0 m ms p b (goes p m.answer) refl run.1 run.2 run.3 (λ r c here. found ms run.0 r c here)

  -- a run from where the call begins has a last turn
  pub last_turn : (made : List Made) (old : Told) (p : P) (b : Bool) → Begins p → ToEnd old made (Stay (p, b)) → Last old made p b
  last_turn made old p b begins run = elim (found made old p b run) [
    | inl alone ↦ whole made old p b begins run alone
    | inr last ↦ last
  ]

-- a plain call that ended ran to its machine's end
pub ended : {P R : Type 0} (asks : P → StoreCall) (turning : Turn P → StoreAnswer → Goes (Turn P) R) (moment : ℤ) (tries : ℕ) (old new : Told) (first to : Turn P) (result : Result R SlateDBError)
    → (ran : Ran is_turned (turn_asks asks) turning moment tries old new first to result) → HasEnded result → Run (turn_asks asks) turning moment old new ran.made (Stay first) (End to result)
ended {P} {R} asks turning moment tries old new first to result ran over = elim ran.ends [
  | inl e ↦ subst (λ (out : Goes (Turn P) R). Run (turn_asks asks) turning moment old new ran.made (Stay first) out) e.0 ran.run
  | inr e ↦ absurd (over e.1)
]
