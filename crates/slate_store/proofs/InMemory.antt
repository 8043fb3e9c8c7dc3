-- Calls of a store in memory.
use Rattle.std.proofs.Common.{◌≡◌, ◌≤◌, ℕ, ℤ, pos, Bool, true, false, not, nat_lt, ◌&&◌, if◌then◌else◌, Option, Some, None, is_some, is_none, Result, List, drop, refl, sym, ap, ◌∙◌, subst, arith}
use Rattle.slate_ids.specs.Limits.{last_number}
use Rattle.slate_ids.specs.declared.object_path.ObjectPath.{ObjectPath}
use Rattle.slate_store.specs.Store.{Store, effect, whole, writes, taken, under, removed, put_new}
use Rattle.slate_store.specs.StoreCalls.{Calls, IsAnswerTo, IfFault, Rose, next_mark}
use Rattle.slate_store.specs.InMemory.{Memory, told_of, answer_under, answered, faults_after, left_under}
use Rattle.slate_store.specs.declared.mark.Mark.{Mark}
use Rattle.slate_store.specs.declared.mark.Mark.TheVariants.{Good, Fail, Lost}
use Rattle.slate_store.specs.declared.object.StoredObject.{StoredObject}
use Rattle.slate_store.specs.declared.store.StoreError.{StoreError}
use Rattle.slate_store.specs.declared.store_call.StoreCall.{StoreCall}
use Rattle.slate_store.specs.declared.store_call.StoreCall.TheVariants.{List as ListCall, Get, PutNew, Replace, Put, Delete}
use Rattle.slate_store.specs.declared.store_answer.StoreAnswer.{StoreAnswer}
use Rattle.slate_store.specs.declared.store_answer.StoreAnswer.TheVariants.{Created, Deleted, Fault}

-- a fault answers every call
fault_answers : (call : StoreCall) → IsAnswerTo call Fault
fault_answers (ListCall dir) = tt
fault_answers (Get path) = tt
fault_answers (PutNew path bytes) = tt
fault_answers (Replace path tag bytes) = tt
fault_answers (Put path bytes) = tt
fault_answers (Delete path) = tt

-- an answer of the call, which is no fault
pub record Answer (call : StoreCall) (moment : ℤ) (s : Store) (answer : StoreAnswer) : Type 0 where
  pub gives : (whole call moment s).answer ≡ answer
  pub kind : IsAnswerTo call answer
  pub good : (n : ℕ) → IfFault answer (Rose n n)

-- what a call leaves where it goes by this mark
abbrev pub after_call : Mark → StoreCall → ℤ → Memory → Memory
after_call mark call moment old = record { store = left_under mark old.store (whole call moment old.store).store; marks = drop 1 old.marks; faults = faults_after mark old.faults }

-- the store that such a call leaves, and its answer
under-store : (mark : Mark) (call : StoreCall) (moment : ℤ) (s : Store) (by : Mark) → taken mark call s ≡ by → left_under by s (whole call moment s).store ≡ (effect mark call moment s).store
under-store mark call moment s Good e = ap (λ (m : Mark). (under m (whole call moment s) s).store) (sym e)
under-store mark call moment s Fail e = ap (λ (m : Mark). (under m (whole call moment s) s).store) (sym e)
under-store mark call moment s Lost e = ap (λ (m : Mark). (under m (whole call moment s) s).store) (sym e)

-- a call that goes by a mark, with its answer under that mark
pub calls_by : {X : Type 0} (answer_of : X → StoreAnswer) (call : StoreCall) (moment : ℤ) (x : X) (old : Memory) (by : Mark)
    → taken (next_mark old.marks) call old.store ≡ by → Answer call moment old.store (answer_of x) → old.faults ≤ faults_after by old.faults
    → Calls answer_of (told_of old) (told_of (after_call by call moment old)) call moment (answer_under by x)
calls_by answer_of call moment x old Good e a l = record {
  mark = next_mark old.marks;
  goes_by = refl;
  contents = ap Some (under-store (next_mark old.marks) call moment old.store Good e);
  answers = sym (ap (λ (m : Mark). (under m (whole call moment old.store) old.store).answer) e ∙ a.gives);
  marks = refl;
  calls = refl;
  later = l;
  fault = a.good old.faults;
  kind = a.kind;
}
calls_by answer_of call moment x old Fail e a l = record {
  mark = next_mark old.marks;
  goes_by = refl;
  contents = ap Some (under-store (next_mark old.marks) call moment old.store Fail e);
  answers = sym (ap (λ (m : Mark). (under m (whole call moment old.store) old.store).answer) e);
  marks = refl;
  calls = refl;
  later = l;
  fault = omega arith;
  kind = fault_answers call;
}
calls_by answer_of call moment x old Lost e a l = record {
  mark = next_mark old.marks;
  goes_by = refl;
  contents = ap Some (under-store (next_mark old.marks) call moment old.store Lost e);
  answers = sym (ap (λ (m : Mark). (under m (whole call moment old.store) old.store).answer) e);
  marks = refl;
  calls = refl;
  later = l;
  fault = omega arith;
  kind = fault_answers call;
}

-- a call that writes no object goes by its mark
pub not_taken : (mark : Mark) (call : StoreCall) (s : Store) → writes call s ≡ false → taken mark call s ≡ mark
not_taken mark call s e = ap (λ (b : Bool). if b && not (nat_lt s.last_tag last_number) then Fail else mark) e

-- the same for a state that is equal to the one after it, and an equal answer
pub calls_so : {X : Type 0} (answer_of : X → StoreAnswer) (call : StoreCall) (moment : ℤ) (x : X) (old new : Memory) (by : Mark) (r : Result X StoreError)
    → taken (next_mark old.marks) call old.store ≡ by → Answer call moment old.store (answer_of x)
    → new ≡ after_call by call moment old → r ≡ answer_under by x → old.faults ≤ new.faults
    → Calls answer_of (told_of old) (told_of new) call moment r
calls_so answer_of call moment x old new by r e a n i l =
    subst (λ (m : Memory). Calls answer_of (told_of old) (told_of m) call moment r) (sym n)
    (subst (λ (q : Result _ StoreError). Calls answer_of (told_of old) (told_of (after_call by call moment old)) call moment q) (sym i)
    (calls_by answer_of call moment x old by e a (subst (λ (m : Memory). old.faults ≤ m.faults) n l)))

store_same : (by : Mark) (s : Store) → s ≡ left_under by s s
store_same Good s = refl
store_same Fail s = refl
store_same Lost s = refl

-- a call that leaves the store as it is
pub reads_so : {X : Type 0} (answer_of : X → StoreAnswer) (call : StoreCall) (moment : ℤ) (x : X) (old new : Memory) (r : Result X StoreError)
    → writes call old.store ≡ false → (whole call moment old.store).store ≡ old.store → Answer call moment old.store (answer_of x)
    → r ≡ answer_under (next_mark old.marks) x → new ≡ answered old → old.faults ≤ new.faults
    → Calls answer_of (told_of old) (told_of new) call moment r
reads_so answer_of call moment x old new r e same a i n l =
    calls_so answer_of call moment x old new (next_mark old.marks) r (not_taken (next_mark old.marks) call old.store e) a
    (n ∙ ap (λ (s : Store). record { store = s; marks = drop 1 old.marks; faults = faults_after (next_mark old.marks) old.faults })
    (store_same (next_mark old.marks) old.store ∙ ap (left_under (next_mark old.marks) old.store) (sym same)))
    i l

-- a path that is taken is left as it is
pub taken_path : (o : Option StoredObject) (path : ObjectPath) (bytes : List ℕ) (moment : ℤ) (s : Store) → is_some o ≡ true → put_new o path bytes moment s ≡ record { store = s; answer = Created None }
taken_path (Some object) path bytes moment s e = refl
taken_path None path bytes moment s e = absurd cc

pub is_none-taken : (o : Option StoredObject) → is_some o ≡ true → is_none o ≡ false
is_none-taken (Some object) e = refl
is_none-taken None e = absurd cc

-- a removal under a mark
removed-left : (mark : Mark) (path : ObjectPath) (s : Store) → record { objects = left_under mark s.objects (removed path s).objects; last_tag = s.last_tag } ≡ left_under mark s (removed path s)
removed-left Good path s = refl
removed-left Fail path s = refl
removed-left Lost path s = refl

-- a call that removes an object
pub removes_so : (path : ObjectPath) (old mid new : Memory) (r : Result (Unit {0}) StoreError)
    → mid ≡ record { store = record { objects = left_under (next_mark old.marks) old.store.objects (removed path old.store).objects; last_tag = old.store.last_tag }; marks = old.marks; faults = old.faults }
    → r ≡ answer_under (next_mark mid.marks) tt → new ≡ answered mid → mid.faults ≤ new.faults
    → Calls (λ (u : Unit {0}). Deleted) (told_of old) (told_of new) (Delete path) (pos 0) r
removes_so path old mid new r m i n l =
    calls_so (λ (u : Unit {0}). Deleted) (Delete path) (pos 0) tt old new (next_mark old.marks) r refl
    record { gives = refl; kind = tt; good = λ n. tt }
    (n ∙ ap answered m ∙ ap (λ (s : Store). record { store = s; marks = drop 1 old.marks; faults = faults_after (next_mark old.marks) old.faults }) (removed-left (next_mark old.marks) path old.store))
    (i ∙ ap (λ (k : Memory). answer_under (next_mark k.marks) tt) m)
    (subst (λ (k : Memory). k.faults ≤ new.faults) m l)
