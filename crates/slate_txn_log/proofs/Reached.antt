-- What an advance leaves of the boundary: at least the number after Ok, and never less than it was.
use Rattle.std.specs.Prelude.{◌≡◌, ◌==◌, ◌^◌, ◌<◌, ◌≤◌, nat_le, decimal, ℤ, ℕ, Bool, true, false, List, [], ◌∷◌, Option, Some, None, Result, Ok, Err, OnOk, if◌then◌else◌, refl}
use Rattle.std.proofs.Common.{inl, inr, ap, sym, subst, ◌∙◌, arith}
use Rattle.std.proofs.lemmas.Bool.Decides.{nat_tests}
use Rattle.slate_ids.specs.Answers.{OrMemory, ran_out}
use Rattle.slate_ids.specs.declared.error.SlateDBError.{SlateDBError}
use Rattle.slate_ids.specs.declared.object_path.ObjectPath.{ObjectPath}
use Rattle.slate_store.specs.StoreCalls.{Told, Makes, Answers, contents_after, moment_of}
use Rattle.slate_store.specs.Machines.{Stay, End}
use Rattle.slate_store.specs.CallRuns.{Run}
use Rattle.slate_store.specs.Store.{Store, Outcome, put_new, replace, under, taken, object_at, has_tag, stored, whole}
use Rattle.slate_store.specs.declared.made.Made.{Made}
use Rattle.slate_store.specs.declared.mark.Mark.{Mark}
use Rattle.slate_store.specs.declared.mark.Mark.TheVariants.{Good, Fail, Lost}
use Rattle.slate_store.specs.declared.object.StoredObject.{StoredObject}
use Rattle.slate_store.specs.declared.store_answer.StoreAnswer.{StoreAnswer}
use Rattle.slate_store.specs.declared.store_answer.StoreAnswer.TheVariants.{Found, Got, Created, Replaced, Written, Deleted, Fault}
use Rattle.slate_store.specs.declared.store_call.StoreCall.{StoreCall}
use Rattle.slate_store.specs.declared.store_call.StoreCall.TheVariants.{Get, PutNew, Replace}
use Rattle.slate_txn_log.specs.AdvancePhase.{advance_asks, advance_goes, AdvanceGoes, bound_goes, read_goes_to}
use Rattle.slate_txn_log.specs.Advance.{Advanced, AdvanceBegan, boundary_at, AtLeast, ReachedIn, NoLower, KeptIn, BoundaryReached, BoundaryKept}
use Rattle.slate_txn_log.specs.Boundary.{boundary_of, boundary_got}
use Rattle.slate_txn_log.specs.LogPaths.{boundary_path}
use Rattle.slate_txn_log.specs.declared.advance_phase.AdvancePhase.{AdvancePhase}
use Rattle.slate_txn_log.specs.declared.advance_phase.AdvancePhase.TheVariants.{Bounding, Creating, Replacing, Over}
use Rattle.slate_txn_log.specs.declared.log_kind.LogKind.{LogKind}
use Rattle.slate_txn_log.specs.declared.sequenced.Sequenced.{Sequenced}
use Rattle.slate_ids.proofs.DecimalTexts.{decimal_back}
use Rattle.slate_txn_log.proofs.Steps.{reads_keep}
use Rattle.slate_txn_log.proofs.Stored.{at_stored}

no_lower : (o : Option ℕ) → NoLower o o
no_lower None = tt
no_lower (Some b) = omega arith

at_least_on : (n b : ℕ) (o : Option ℕ) → n ≤ b → AtLeast b o → AtLeast n o
at_least_on n b None less h = absurd h
at_least_on n b (Some c) less h = omega (arith, less, h)

no_lower_on : (a b c : Option ℕ) → NoLower a b → NoLower b c → NoLower a c
no_lower_on None b c first then_ = tt
no_lower_on (Some x) None c first then_ = absurd first
no_lower_on (Some x) (Some y) c first then_ = at_least_on x y c first then_

-- a boundary that can be read, and is at most this number
abbrev UpTo : ℕ → Option ℕ → Type 0
UpTo n None = ⊥
UpTo n (Some b) = b ≤ n

no_lower_to : (n : ℕ) (o : Option ℕ) → UpTo n o → NoLower o (Some n)
no_lower_to n None h = absurd h
no_lower_to n (Some b) h = h

module _ (db : List ℕ) (log : LogKind) where
  -- contents keep a boundary
  abbrev Kept : Option Store → Option Store → Type 0
  Kept old new = KeptIn db log old new

  abbrev pub path : ObjectPath
  path = boundary_path log db

  kept_same : (s : Option Store) → Kept s s
  kept_same None = tt
  kept_same (Some s) = no_lower (boundary_at db log s)

  kept_on : (a b c : Option Store) → Kept a b → Kept b c → Kept a c
  kept_on None b c first then_ = tt
  kept_on (Some s) None c first then_ = absurd first
  kept_on (Some s) (Some t) None first then_ = absurd then_
  kept_on (Some s) (Some t) (Some u) first then_ = no_lower_on (boundary_at db log s) (boundary_at db log t) (boundary_at db log u) first then_

  -- after a write of a number the boundary is that number
  stored_is : (n : ℕ) (moment : ℤ) (s : Store) → n < 2 ^ 64 → boundary_at db log (stored path (decimal n) moment s) ≡ Some n
  stored_is n moment s small = ap boundary_got (at_stored path (decimal n) moment s) ∙ decimal_back n small

  stored_reaches : (n : ℕ) (moment : ℤ) (s : Store) → n < 2 ^ 64 → AtLeast n (boundary_at db log (stored path (decimal n) moment s))
  stored_reaches n moment s small = subst (λ (o : Option ℕ). AtLeast n o) (sym (stored_is n moment s small)) (omega arith)

  stored_keeps : (n : ℕ) (moment : ℤ) (s : Store) → n < 2 ^ 64 → UpTo n (boundary_at db log s) → Kept (Some s) (Some (stored path (decimal n) moment s))
  stored_keeps n moment s small up = subst (λ (o : Option ℕ). NoLower (boundary_at db log s) o) (sym (stored_is n moment s small)) (no_lower_to n (boundary_at db log s) up)

  -- a call under a mark has its whole effect or none
  under_keeps : (mark : Mark) (o : Outcome) (s : Store) → Kept (Some s) (Some o.store) → Kept (Some s) (Some (under mark o s).store)
  under_keeps Good o s h = h
  under_keeps Fail o s h = kept_same (Some s)
  under_keeps Lost o s h = h

  -- a put where nothing stood
  put_keeps : (n : ℕ) (moment : ℤ) (s : Store) (o : Option StoredObject) → n < 2 ^ 64 → o ≡ object_at path s → Kept (Some s) (Some (put_new o path (decimal n) moment s).store)
  put_keeps n moment s (Some object) small same = kept_same (Some s)
  put_keeps n moment s None small same = stored_keeps n moment s small (subst (λ (o : Option StoredObject). UpTo n (boundary_got o)) same (omega arith))

  -- a replacement of a boundary that isn't above
  replace_keeps : (n : ℕ) (moment : ℤ) (s : Store) (b : Bool) → n < 2 ^ 64 → UpTo n (boundary_at db log s) → Kept (Some s) (Some (replace b path (decimal n) moment s).store)
  replace_keeps n moment s false small up = kept_same (Some s)
  replace_keeps n moment s true small up = stored_keeps n moment s small up

  -- a boundary that can be read is at most this number, where contents are told
  abbrev UpToIn : ℕ → Option Store → Type 0
  UpToIn n None = Unit {0}
  UpToIn n (Some s) = UpTo n (boundary_at db log s)

  create_keeps : (n : ℕ) (mark : Mark) (moment : ℤ) (contents : Option Store) → n < 2 ^ 64 → Kept contents (contents_after mark (PutNew path (decimal n)) moment contents)
  create_keeps n mark moment None small = tt
  create_keeps n mark moment (Some s) small =
      under_keeps (taken mark (PutNew path (decimal n)) s) (whole (PutNew path (decimal n)) moment s) s (put_keeps n moment s (object_at path s) small refl)

  renew_keeps : (n tag : ℕ) (mark : Mark) (moment : ℤ) (contents : Option Store) → n < 2 ^ 64 → UpToIn n contents → Kept contents (contents_after mark (Replace path tag (decimal n)) moment contents)
  renew_keeps n tag mark moment None small up = tt
  renew_keeps n tag mark moment (Some s) small up =
      under_keeps (taken mark (Replace path tag (decimal n)) s) (whole (Replace path tag (decimal n)) moment s) s (replace_keeps n moment s (has_tag tag (object_at path s)) small up)

  -- a put that answers a tag was made
  put_reaches : (n tag : ℕ) (mark : Mark) (moment : ℤ) (s : Store) (o : Option StoredObject) → n < 2 ^ 64 → Created (Some tag) ≡ (under mark (put_new o path (decimal n) moment s) s).answer
      → AtLeast n (boundary_at db log (under mark (put_new o path (decimal n) moment s) s).store)
  put_reaches n tag Good moment s None small same = stored_reaches n moment s small
  put_reaches n tag Good moment s (Some object) small same = absurd cc
  put_reaches n tag Fail moment s o small same = absurd cc
  put_reaches n tag Lost moment s o small same = absurd cc

  create_reaches : (n tag : ℕ) (mark : Mark) (moment : ℤ) (contents : Option Store) → n < 2 ^ 64 → Answers mark contents (PutNew path (decimal n)) moment (Created (Some tag))
      → ReachedIn db log n (contents_after mark (PutNew path (decimal n)) moment contents)
  create_reaches n tag mark moment None small answers = tt
  create_reaches n tag mark moment (Some s) small answers = put_reaches n tag (taken mark (PutNew path (decimal n)) s) moment s (object_at path s) small answers

  -- and so a replacement
  replace_reaches : (n new : ℕ) (mark : Mark) (moment : ℤ) (s : Store) (b : Bool) → n < 2 ^ 64 → Replaced (Some new) ≡ (under mark (replace b path (decimal n) moment s) s).answer
      → AtLeast n (boundary_at db log (under mark (replace b path (decimal n) moment s) s).store)
  replace_reaches n new Good moment s true small same = stored_reaches n moment s small
  replace_reaches n new Good moment s false small same = absurd cc
  replace_reaches n new Fail moment s b small same = absurd cc
  replace_reaches n new Lost moment s b small same = absurd cc

  renew_reaches : (n tag new : ℕ) (mark : Mark) (moment : ℤ) (contents : Option Store) → n < 2 ^ 64 → Answers mark contents (Replace path tag (decimal n)) moment (Replaced (Some new))
      → ReachedIn db log n (contents_after mark (Replace path tag (decimal n)) moment contents)
  renew_reaches n tag new mark moment None small answers = tt
  renew_reaches n tag new mark moment (Some s) small answers = replace_reaches n new (taken mark (Replace path tag (decimal n)) s) moment s (has_tag tag (object_at path s)) small answers

  -- what was got is what stands, where contents are told
  abbrev pub Stands : Option Store → Option StoredObject → Type 0
  Stands None object = Unit {0}
  Stands (Some s) object = object ≡ object_at path s

  pub got_stands : (mark : Mark) (moment : ℤ) (contents : Option Store) (object : Option StoredObject) → Answers mark contents (Get path) moment (Got object) → Stands contents object
  got_stands mark moment None object answers = tt
  got_stands Good moment (Some s) object answers = cc
  got_stands Fail moment (Some s) object answers = absurd cc
  got_stands Lost moment (Some s) object answers = absurd cc

  pub reached_so : (n : ℕ) (contents : Option Store) (object : Option StoredObject) → Stands contents object → AtLeast n (boundary_got object) → ReachedIn db log n contents
  reached_so n None object stands h = tt
  reached_so n (Some s) object stands h = subst (λ (o : Option StoredObject). AtLeast n (boundary_got o)) stands h

  up_so : (n : ℕ) (contents : Option Store) (object : Option StoredObject) → Stands contents object → UpTo n (boundary_got object) → UpToIn n contents
  up_so n None object stands h = tt
  up_so n (Some s) object stands h = subst (λ (o : Option StoredObject). UpTo n (boundary_got o)) stands h

  -- what an advance to this number knows at a phase
  abbrev Knows : ℕ → Option Store → AdvancePhase → Type 0
  Knows n contents (Bounding m) = m ≡ n
  Knows n contents (Creating m) = m ≡ n
  Knows n contents (Replacing m tag) = (m ≡ n) × UpToIn n contents
  Knows n contents Over = Unit {0}

  -- and where it goes on
  abbrev Fits : ℕ → Option Store → AdvanceGoes → Type 0
  Fits n contents (Stay p) = Knows n contents p
  Fits n contents (End p (Ok u)) = ReachedIn db log n contents
  Fits n contents (End p (Err e)) = Unit {0}

  fits_test : (n tag b : ℕ) (contents : Option Store) (test : Bool) → nat_le n b ≡ test → (n ≤ b → ReachedIn db log n contents) → (b ≤ n → UpToIn n contents)
      → Fits n contents (if test then End Over (Ok tt) else Stay (Replacing n tag))
  fits_test n tag b contents true e reached up = reached (grind (arith, nat_tests))
  fits_test n tag b contents false e reached up = (refl, up (grind (arith, nat_tests)))

  fits_read : (n tag : ℕ) (contents : Option Store) (o : Option ℕ) → (AtLeast n o → ReachedIn db log n contents) → (UpTo n o → UpToIn n contents) → Fits n contents (read_goes_to n tag o)
  fits_read n tag contents None reached up = tt
  fits_read n tag contents (Some b) reached up = fits_test n tag b contents (nat_le n b) refl reached up

  fits_absent : (n : ℕ) (contents : Option Store) (test : Bool) → (n == 0) ≡ test → (n ≤ 0 → ReachedIn db log n contents) → Fits n contents (if test then End Over (Ok tt) else Stay (Creating n))
  fits_absent n contents true e reached = reached (grind (arith, nat_tests))
  fits_absent n contents false e reached = refl

  fits_bound : (n : ℕ) (contents : Option Store) (object : Option StoredObject) → Stands contents object → Fits n contents (bound_goes n object)
  fits_bound n contents None stands = fits_absent n contents (n == 0) refl (λ h. reached_so n contents None stands h)
  fits_bound n contents (Some object) stands =
      fits_read n object.e_tag contents (boundary_of object.bytes) (λ h. reached_so n contents (Some object) stands h) (λ h. up_so n contents (Some object) stands h)

  -- from the answer to the get
  fits_got : (n : ℕ) (mark : Mark) (moment : ℤ) (contents : Option Store) (answer : StoreAnswer) → Answers mark contents (Get path) moment answer → Fits n contents (advance_goes (Bounding n) answer)
  fits_got n mark moment contents (Got object) answers = fits_bound n contents object (got_stands mark moment contents object answers)
  fits_got n mark moment contents _ answers = tt

  -- from the answer to the put
  fits_created : (n : ℕ) (mark : Mark) (moment : ℤ) (contents : Option Store) (answer : StoreAnswer) → n < 2 ^ 64 → Answers mark contents (PutNew path (decimal n)) moment answer
      → Fits n (contents_after mark (PutNew path (decimal n)) moment contents) (advance_goes (Creating n) answer)
  fits_created n mark moment contents (Created None) small answers = refl
  fits_created n mark moment contents (Created (Some tag)) small answers = create_reaches n tag mark moment contents small answers
  fits_created n mark moment contents _ small answers = tt

  -- from the answer to the replacement
  fits_replaced : (n tag : ℕ) (mark : Mark) (moment : ℤ) (contents : Option Store) (answer : StoreAnswer) → n < 2 ^ 64 → Answers mark contents (Replace path tag (decimal n)) moment answer
      → Fits n (contents_after mark (Replace path tag (decimal n)) moment contents) (advance_goes (Replacing n tag) answer)
  fits_replaced n tag mark moment contents (Replaced None) small answers = refl
  fits_replaced n tag mark moment contents (Replaced (Some new)) small answers = renew_reaches n tag new mark moment contents small answers
  fits_replaced n tag mark moment contents _ small answers = tt

  -- what a step of an advance leaves
  record Leaves (n : ℕ) (old new : Option Store) (out : AdvanceGoes) : Type 0 where
    fits : Fits n new out
    kept : Kept old new

  leaves_at : (n : ℕ) (old mid : Told) (moment : ℤ) (p : AdvancePhase) (answer : StoreAnswer) → n < 2 ^ 64 → Makes old mid (advance_asks db log p) moment answer → Knows n old.contents p
      → Leaves n old.contents mid.contents (advance_goes p answer)
  leaves_at n old mid moment (Bounding m) answer small makes knows =
      let same : mid.contents ≡ old.contents = reads_keep refl makes in
      record {
        fits = subst (λ (c : Option Store). Fits n c (advance_goes (Bounding m) answer)) (sym same)
            (subst (λ (k : ℕ). Fits n old.contents (advance_goes (Bounding k) answer)) (sym knows) (fits_got n makes.mark moment old.contents answer makes.answers));
        kept = subst (λ (c : Option Store). Kept old.contents c) (sym same) (kept_same old.contents);
      }
  leaves_at n old mid moment (Creating m) answer small makes knows =
      subst (λ (c : Option Store). Leaves n old.contents c (advance_goes (Creating m) answer)) (sym makes.contents)
      (by_number m knows makes.answers)
    where
      by_number : (m : ℕ) → m ≡ n → Answers makes.mark old.contents (PutNew path (decimal m)) moment answer → Leaves n old.contents (contents_after makes.mark (PutNew path (decimal m)) moment old.contents) (advance_goes (Creating m) answer)
      by_number m same answers =
          let here : Answers makes.mark old.contents (PutNew path (decimal n)) moment answer = subst (λ (k : ℕ). Answers makes.mark old.contents (PutNew path (decimal k)) moment answer) same answers in
          subst (λ (k : ℕ). Leaves n old.contents (contents_after makes.mark (PutNew path (decimal k)) moment old.contents) (advance_goes (Creating k) answer)) (sym same)
          (record { fits = fits_created n makes.mark moment old.contents answer small here; kept = create_keeps n makes.mark moment old.contents small })
  leaves_at n old mid moment (Replacing m tag) answer small makes knows =
      subst (λ (c : Option Store). Leaves n old.contents c (advance_goes (Replacing m tag) answer)) (sym makes.contents)
      (by_number m knows.0 makes.answers)
    where
      by_number : (m : ℕ) → m ≡ n → Answers makes.mark old.contents (Replace path tag (decimal m)) moment answer → Leaves n old.contents (contents_after makes.mark (Replace path tag (decimal m)) moment old.contents) (advance_goes (Replacing m tag) answer)
      by_number m same answers =
          let here : Answers makes.mark old.contents (Replace path tag (decimal n)) moment answer = subst (λ (k : ℕ). Answers makes.mark old.contents (Replace path tag (decimal k)) moment answer) same answers in
          subst (λ (k : ℕ). Leaves n old.contents (contents_after makes.mark (Replace path tag (decimal k)) moment old.contents) (advance_goes (Replacing k tag) answer)) (sym same)
          (record { fits = fits_replaced n tag makes.mark moment old.contents answer small here; kept = renew_keeps n tag makes.mark moment old.contents small knows.1 })
  leaves_at n old mid moment Over answer small makes knows =
      let same : mid.contents ≡ old.contents = reads_keep refl makes in
      record { fits = over answer; kept = subst (λ (c : Option Store). Kept old.contents c) (sym same) (kept_same old.contents) }
    where
      over : (answer : StoreAnswer) → Fits n mid.contents (advance_goes Over answer)
      over (Found found) = tt
      over (Got object) = tt
      over (Created tag) = tt
      over (Replaced tag) = tt
      over (Written tag) = tt
      over Deleted = tt
      over Fault = tt

  -- a run of an advance
  run_leaves : (n : ℕ) (moment : ℤ) (old new : Told) (ms : List Made) (from out : AdvanceGoes) → n < 2 ^ 64 → Run (advance_asks db log) advance_goes moment old new ms from out → Fits n old.contents from
      → Leaves n old.contents new.contents out
  run_leaves n moment old new [] from out small run fits =
      subst (λ (g : AdvanceGoes). Leaves n old.contents new.contents g) (sym run.0)
      (subst (λ (t : Told). Leaves n old.contents t.contents from) (sym run.1) (record { fits = fits; kept = kept_same old.contents }))
  run_leaves n moment old new (m ∷ ms) (Stay p) out small run fits =
      let here : Makes old run.0 (advance_asks db log p) (moment_of (advance_asks db log p) moment) m.answer = subst (λ (c : StoreCall). Makes old run.0 c (moment_of c moment) m.answer) run.1 run.2 in
      let first : Leaves n old.contents run.0.contents (advance_goes p m.answer) = leaves_at n old run.0 (moment_of (advance_asks db log p) moment) p m.answer small here fits in
      let rest : Leaves n run.0.contents new.contents out = run_leaves n moment run.0 new ms (advance_goes p m.answer) out small run.3 first.fits in
      record { fits = rest.fits; kept = kept_on old.contents run.0.contents new.contents first.kept rest.kept }
  run_leaves n moment old new (m ∷ ms) (End p r) out small run fits = absurd run

-- what a whole advance leaves
pub record AdvanceLeaves (db : List ℕ) (log : LogKind) (n : ℕ) (old new : Told) (result : Result (Unit {0}) SlateDBError) : Type 0 where
  pub reached : OnOk result (BoundaryReached db log n new)
  pub never_lower : BoundaryKept db log old new

at_end : (db : List ℕ) (log : LogKind) (n : ℕ) (old new : Told) (to : AdvancePhase) (result : Result (Unit {0}) SlateDBError) → Leaves db log n old.contents new.contents (End to result) → AdvanceLeaves db log n old new result
at_end db log n old new to (Ok u) leaves = record { reached = leaves.fits; never_lower = leaves.kept }
at_end db log n old new to (Err e) leaves = record { reached = tt; never_lower = leaves.kept }

at_error : (db : List ℕ) (log : LogKind) (n : ℕ) (old new : Told) (result : Result (Unit {0}) SlateDBError) → ran_out result ≡ true → BoundaryKept db log old new → AdvanceLeaves db log n old new result
at_error db log n old new (Ok u) out kept = absurd cc
at_error db log n old new (Err e) out kept = record { reached = tt; never_lower = kept }

pub advanced_leaves : {T C : Type 0} (sequenced : Sequenced T C) (n : ℕ) (moment : ℤ) (tries : ℕ) (old new : Told) (result : Result (Unit {0}) SlateDBError) → n < 2 ^ 64 → Advanced sequenced n moment tries old new result
    → AdvanceLeaves sequenced.db sequenced.log n old new result
advanced_leaves sequenced n moment tries old new result small done =
    let ran = done.1 in
    let db = sequenced.db in
    let log = sequenced.log in
    let left : Leaves db log n old.contents new.contents ran.out = run_leaves db log n moment old new ran.made (Stay (Bounding n)) ran.out small ran.run refl in
    elim ran.ends [
      | inl e ↦ at_end db log n old new done.0 result (subst (λ (g : AdvanceGoes). Leaves db log n old.contents new.contents g) e.0 left)
      | inr e ↦ subst (λ (r : Result (Unit {0}) SlateDBError). AdvanceLeaves db log n old new r) (sym e.1) (record { reached = tt; never_lower = left.kept })
    ]

-- the same of an advance for which memory may run out
pub advance_leaves : {T C : Type 0} (sequenced : Sequenced T C) (n : ℕ) (moment : ℤ) (tries : ℕ) (old new : Told) (result : Result (Unit {0}) SlateDBError) → n < 2 ^ 64
    → OrMemory result (AdvanceBegan sequenced n moment tries old new) (Advanced sequenced n moment tries old new result) → AdvanceLeaves sequenced.db sequenced.log n old new result
advance_leaves sequenced n moment tries old new result small (inl done) = advanced_leaves sequenced n moment tries old new result small done
advance_leaves sequenced n moment tries old new result small (inr m) =
    let began = m.1.1 in
    let db = sequenced.db in
    let log = sequenced.log in
    let left : Leaves db log n old.contents began.mid.contents (Stay m.1.0) = run_leaves db log n moment old began.mid began.made (Stay (Bounding n)) (Stay m.1.0) small began.run refl in
    at_error db log n old new result m.0 (subst (λ (c : Option Store). KeptIn db log old.contents c) (sym began.last.contents) left.kept)
