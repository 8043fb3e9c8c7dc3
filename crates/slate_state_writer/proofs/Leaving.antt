-- The calls of a compactor leave what stood, and what they made.
use Rattle.std.specs.Prelude.{ℕ, ◌+◌, ℤ, ◌&&◌, not, nat_lt, Bool, true, false, List, [], ◌∷◌, Option, Some, None, is_none, Result, if◌then◌else◌, bytes_eq}
use Rattle.std.proofs.Common.{◌≡◌, ◌≢◌, refl, sym, ap, ◌∙◌, subst, true≢false}
use Rattle.std.specs.Cmp.Lexicographic.{slice_cmp}
use Rattle.std.specs.Map.{lookup}
use Rattle.std.specs.Ordering.{is_eq, nat_cmp}
use Rattle.slate_ids.specs.Limits.{last_number}
use Rattle.slate_ids.specs.PathText.{path_text}
use Rattle.slate_ids.specs.declared.error.SlateDBError.{SlateDBError}
use Rattle.slate_ids.specs.declared.object_path.ObjectPath.{ObjectPath}
use Rattle.slate_store.proofs.LookUps.{at_put, at_else, bytes_same, same_bytes}
use Rattle.slate_store.specs.CallRuns.{Began, Ran, Run}
use Rattle.slate_store.specs.Machines.{Goes, Stay, End}
use Rattle.slate_store.specs.Store.{Store, Outcome, effect, object_at, put_new, stored, under}
use Rattle.slate_store.specs.StoreCalls.{Told, Answers, Makes, contents_after, moment_of}
use Rattle.slate_store.specs.declared.made.Made.{Made}
use Rattle.slate_store.specs.declared.mark.Mark.{Mark}
use Rattle.slate_store.specs.declared.mark.Mark.TheVariants.{Good, Fail, Lost}
use Rattle.slate_store.specs.declared.object.StoredObject.{StoredObject}
use Rattle.slate_store.specs.declared.store_answer.StoreAnswer.{StoreAnswer}
use Rattle.slate_store.specs.declared.store_answer.StoreAnswer.TheVariants.{Created}
use Rattle.slate_store.specs.declared.store_call.StoreCall.{StoreCall}
use Rattle.slate_store.specs.declared.store_call.StoreCall.TheVariants.{List as ListCall, Get, PutNew}
use Rattle.slate_txn_log.specs.declared.commit_phase.CommitPhase.TheVariants as commits
use Rattle.slate_txn_log.specs.declared.log_kind.LogKind.{LogKind}
use Rattle.slate_txn_log.specs.declared.log_kind.LogKind.TheVariants as logs
use Rattle.slate_txn_log.specs.declared.read_phase.ReadPhase.TheVariants as reads
use Rattle.slate_txn_changes.specs.LogWorks.{work_asks}
use Rattle.slate_txn_changes.specs.declared.log_work.LogWork.{LogWork}
use Rattle.slate_txn_changes.specs.declared.log_work.LogWork.TheVariants.{Reading, Committing}
use Rattle.slate_state_calls.specs.declared.open_phase.OpenPhase.TheVariants as opens
use Rattle.slate_state_calls.specs.declared.state_phase.StatePhase.TheVariants as states
use Rattle.slate_state_writer.specs.Leaving.{only_adds, AllStand, BegunCallsLeave, BegunOpensLeave, CallsLeave, CallsOnlyAdd, Leaves, OpensLeave, OpensOnlyAdd, StandsAsPut, Within}

-- ---- what is asked

work_adds : {V : Type 0} (db : List ℕ) (log : LogKind) (work : LogWork V) → only_adds (work_asks db log work) ≡ true
work_adds db log (Reading reads.Listing) = refl
work_adds db log (Reading (reads.Getting n)) = refl
work_adds db log (Reading (reads.Bounding n value)) = refl
work_adds db log (Reading reads.Over) = refl
work_adds db log (Committing made (commits.Putting n bytes value)) = refl
work_adds db log (Committing made (commits.Bounding n value)) = refl
work_adds db log (Committing made commits.Over) = refl

pub opens_add : OpensOnlyAdd
opens_add db (opens.Raising p) = work_adds db logs.Manifest p.work
opens_add db (opens.OnRecord step m p) = work_adds db logs.Compactions p.work
opens_add db opens.Over = refl

pub calls_add : CallsOnlyAdd
calls_add db (states.OnRecord step p) = work_adds db logs.Compactions p.work
calls_add db (states.OnManifest step p) = work_adds db logs.Manifest p.work
calls_add db states.Over = refl

-- ---- one call

-- paths of one text find one object
one_found : (p q : ObjectPath) (s : Store) → path_text p ≡ path_text q → object_at p s ≡ object_at q s
one_found p q s same = ap (λ (text : List ℕ). lookup (λ (o : ObjectPath). is_eq (slice_cmp nat_cmp text (path_text o))) s.objects) same

-- a put where nothing stood leaves what stood
put_leaves : (p : ObjectPath) (bytes : List ℕ) (moment : ℤ) (s : Store) → object_at p s ≡ None → Within s (stored p bytes moment s)
put_leaves p bytes moment s none q object there = by (bytes_eq (path_text q) (path_text p)) refl
  where
    by : (b : Bool) → bytes_eq (path_text q) (path_text p) ≡ b → object_at q (stored p bytes moment s) ≡ Some object
    by true same = let both : Some object ≡ None = sym there ∙ (one_found q p s (same_bytes (path_text q) (path_text p) same) ∙ none) in absurd cc
    by false apart = at_else p q bytes moment s (λ same. true≢false (sym (bytes_same (path_text q)) ∙ (ap (λ (t : List ℕ). bytes_eq (path_text q) t) same ∙ apart))) ∙ there

-- what a call did to a store, under some mark
pub record Left (call : StoreCall) (moment : ℤ) (s : Store) (o : Outcome) : Type 0 where
  pub stood : Within s o.store
  pub came : StandsAsPut call o.answer moment o.store

same_left : (mark : Mark) (call : StoreCall) (moment : ℤ) (s : Store) (answer : StoreAnswer) → ((t : Store) (a : StoreAnswer) → StandsAsPut call a moment t) → Left call moment s (under mark (record { store = s; answer = answer }) s)
same_left Good call moment s answer none = record { stood = λ path object h. h; came = none s answer }
same_left Fail call moment s answer none = record { stood = λ path object h. h; came = none s _ }
same_left Lost call moment s answer none = record { stood = λ path object h. h; came = none s _ }

put_left : (p : ObjectPath) (bytes : List ℕ) (moment : ℤ) (s : Store) (o : Option StoredObject) (full : Bool) (mark : Mark) → object_at p s ≡ o
    → Left (PutNew p bytes) moment s (under (if is_none o && full then Fail else mark) (put_new o p bytes moment s) s)
put_left p bytes moment s (Some x) full Good there = record { stood = λ path object h. h; came = tt }
put_left p bytes moment s (Some x) full Fail there = record { stood = λ path object h. h; came = tt }
put_left p bytes moment s (Some x) full Lost there = record { stood = λ path object h. h; came = tt }
put_left p bytes moment s None true mark there = record { stood = λ path object h. h; came = tt }
put_left p bytes moment s None false Good there = record { stood = put_leaves p bytes moment s there; came = at_put p bytes moment s }
put_left p bytes moment s None false Fail there = record { stood = λ path object h. h; came = tt }
put_left p bytes moment s None false Lost there = record { stood = put_leaves p bytes moment s there; came = tt }

one_left : (mark : Mark) (call : StoreCall) (moment : ℤ) (s : Store) → only_adds call ≡ true → Left call moment s (effect mark call (moment_of call moment) s)
one_left mark (ListCall dir) moment s h = same_left mark (ListCall dir) moment s _ (λ t a. tt)
one_left mark (Get path) moment s h = same_left mark (Get path) moment s _ (λ t a. tt)
one_left mark (PutNew path bytes) moment s h = put_left path bytes moment s (object_at path s) (not (nat_lt s.last_tag last_number)) mark refl
one_left mark _ moment s h = absurd cc

-- ---- many calls

-- what stands as it was put does so later
stands_later : (call : StoreCall) (answer : StoreAnswer) (moment : ℤ) (s t : Store) → Within s t → StandsAsPut call answer moment s → StandsAsPut call answer moment t
stands_later (PutNew path bytes) (Created (Some tag)) moment s t within h = within path _ h
stands_later (PutNew path bytes) (Created None) moment s t within h = tt
stands_later (PutNew path bytes) _ moment s t within h = tt
stands_later _ answer moment s t within h = tt

run_leaves : {P R : Type 0} (asks : P → StoreCall) (goes : P → StoreAnswer → Goes P R) (moment : ℤ) → ((p : P) → only_adds (asks p) ≡ true) → (old new : Told) (ms : List Made) (from out : Goes P R)
    → Run asks goes moment old new ms from out → (s : Store) → old.contents ≡ Some s → Leaves ms moment s new
run_leaves asks goes moment adds old new [] from out run s h = record { now = s; told = ap (λ (t : Told). t.contents) run.1 ∙ h; stood = λ path object at. at; came = tt }
run_leaves asks goes moment adds old new (m ∷ ms) (Stay p) out run s h =
    let makes = run.2 in
    let at = moment_of m.call moment in
    let o = effect makes.mark m.call at s in
    let told : run.0.contents ≡ Some o.store = makes.contents ∙ ap (contents_after makes.mark m.call at) h in
    let answers : m.answer ≡ o.answer = subst (λ (c : Option Store). Answers makes.mark c m.call at m.answer) h makes.answers in
    let left = one_left makes.mark m.call moment s (ap only_adds run.1 ∙ adds p) in
    let rest = run_leaves asks goes moment adds run.0 new ms (goes p m.answer) out run.3 o.store told in
    record {
      now = rest.now;
      told = rest.told;
      stood = λ path object there. rest.stood path object (left.stood path object there);
      came = (stands_later m.call m.answer moment o.store rest.now rest.stood (subst (λ (a : StoreAnswer). StandsAsPut m.call a moment o.store) (sym answers) left.came), rest.came);
    }
run_leaves asks goes moment adds old new (m ∷ ms) (End p r) out run s h = absurd run

-- the same where the contents are those of another moment
same_contents : (ms : List Made) (moment : ℤ) (s : Store) (mid new : Told) → new.contents ≡ mid.contents → Leaves ms moment s mid → Leaves ms moment s new
same_contents ms moment s mid new same l = record { now = l.now; told = same ∙ l.told; stood = l.stood; came = l.came }

-- ---- whole calls

ran_leaves : {P R : Type 0} {is_start : P → Bool} {asks : P → StoreCall} {goes : P → StoreAnswer → Goes P R} {moment : ℤ} {tries : ℕ} {old new : Told} {start to : P} {result : Result R SlateDBError}
    → ((p : P) → only_adds (asks p) ≡ true) → (ran : Ran is_start asks goes moment tries old new start to result) → (s : Store) → old.contents ≡ Some s → Leaves ran.made moment s new
ran_leaves {asks = asks} {goes = goes} {moment = moment} {old = old} {new = new} {start = start} adds ran s h = run_leaves asks goes moment adds old new ran.made (Stay start) ran.out ran.run s h

began_leaves : {P R : Type 0} {is_start : P → Bool} {asks : P → StoreCall} {goes : P → StoreAnswer → Goes P R} {moment : ℤ} {tries : ℕ} {old new : Told} {start to : P}
    → ((p : P) → only_adds (asks p) ≡ true) → (began : Began is_start asks goes moment tries old new start to) → (s : Store) → old.contents ≡ Some s → Leaves began.made moment s new
began_leaves {asks = asks} {goes = goes} {moment = moment} {old = old} {new = new} {start = start} {to = to} adds began s h =
    same_contents began.made moment s began.mid new began.last.contents (run_leaves asks goes moment adds old began.mid began.made (Stay start) (Stay to) began.run s h)

pub opens_leave : OpensLeave
opens_leave db moment tries old new result ran s h = ran_leaves (λ turn. opens_add db turn.0) ran.1 s h

pub begun_opens_leave : BegunOpensLeave
begun_opens_leave db moment tries old new began s h = began_leaves (λ turn. opens_add db turn.0) began.1 s h

pub calls_leave : CallsLeave
calls_leave db start moment tries old new from to result ran s h = ran_leaves (λ turn. calls_add db turn.0.0) ran.2 s h

pub begun_calls_leave : BegunCallsLeave
begun_calls_leave db start moment tries old new from to began s h = began_leaves (λ turn. calls_add db turn.0.0) began.2 s h
