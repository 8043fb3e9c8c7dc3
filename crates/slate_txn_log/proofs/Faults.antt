-- Where the fault of a whole run comes from.
use Rattle.std.specs.Prelude.{◌≡◌, ◌≢◌, ◌⊎◌, ◌≤◌, ℤ, ℕ, Bool, true, false, Option, Result, Ok, Err, List, [], ◌∷◌, refl}
use Rattle.std.proofs.Common.{inl, inr, arith, ap, subst, sym, ◌∙◌}
use Rattle.std.proofs.lemmas.Bool.Decides.{nat_tests}
use Rattle.slate_ids.specs.Answers.{OrMemory, ran_out}
use Rattle.slate_ids.specs.Limits.{next_count}
use Rattle.slate_ids.specs.declared.error.SlateDBError.{SlateDBError}
use Rattle.slate_ids.specs.declared.error.SlateDBError.TheVariants.{StoreFault, Contended}
use Rattle.slate_store.specs.StoreCalls.{Told, Makes, Rose, IsAnswerTo, moment_of, fault_rose}
use Rattle.slate_store.specs.declared.made.Made.{Made}
use Rattle.slate_store.specs.Machines.{Goes, Stay, End, IsEnd, Steps}
use Rattle.slate_store.specs.CallRuns.{Run, Ran}
use Rattle.slate_store.specs.declared.step.Step.{Step}
use Rattle.slate_store.specs.declared.step.Step.TheVariants.{Again, Done}
use Rattle.slate_store.specs.declared.store_answer.StoreAnswer.{StoreAnswer}
use Rattle.slate_store.specs.declared.store_answer.StoreAnswer.TheVariants.{Found, Got, Created, Replaced, Written, Deleted, Fault}
use Rattle.slate_store.specs.declared.store_call.StoreCall.{StoreCall}
use Rattle.slate_store.specs.declared.store_call.StoreCall.TheVariants.{List as ListCall, Get, PutNew, Replace, Delete}
use Rattle.slate_store.specs.declared.object.ObjectMetadata.{ObjectMetadata}
use Rattle.slate_store.specs.declared.object.StoredObject.{StoredObject}
use Rattle.slate_store.specs.declared.list_dir.ListDir.{ListDir}
use Rattle.slate_ids.specs.declared.object_path.ObjectPath.{ObjectPath}
use Rattle.slate_txn_log.specs.Due.{FaultOf, FaultRose}

-- it goes on to where a call is due, or ends, but not in a fault
pub record Fine {P R : Type 0} (due : P → Bool) (out : Goes P R) : Type 0 where
  pub stays : (q : P) → out ≡ Stay q → due q ≡ true
  pub ends : (q : P) → out ≡ End q (Err StoreFault) → ⊥

pub fine_stay : {P R : Type 0} (due : P → Bool) (p : P) → due p ≡ true → Fine {R = R} due (Stay p)
fine_stay due p h = record { stays = λ q e. (let same : p ≡ q = cc in subst (λ k. due k ≡ true) same h); ends = λ q e. absurd cc }

pub fine_ok : {P R : Type 0} (due : P → Bool) (p : P) (r : R) → Fine due (End p (Ok r))
fine_ok due p r = record { stays = λ q e. absurd cc; ends = λ q e. absurd cc }

pub fine_err : {P R : Type 0} (due : P → Bool) (p : P) (e : SlateDBError) → e ≢ StoreFault → Fine {R = R} due (End p (Err e))
fine_err due p e h = record { stays = λ q same. absurd cc; ends = λ q same. (let both : e ≡ StoreFault = cc in absurd (h both)) }

-- a machine in which only a fault of the store ends in a fault, while a call is due
pub record OnlyFaults {P R : Type 0} (due : P → Bool) (asks : P → StoreCall) (goes : P → StoreAnswer → Goes P R) : Type 0 where
  pub sound : (p : P) (answer : StoreAnswer) → due p ≡ true → IsAnswerTo (asks p) answer → ((answer ≡ Fault) × IsEnd (goes p answer)) ⊎ Fine due (goes p answer)

stays_due : {P R : Type 0} {due : P → Bool} (goes : P → StoreAnswer → Goes P R) (p q : P) (answer : StoreAnswer) → ((answer ≡ Fault) × IsEnd (goes p answer)) ⊎ Fine due (goes p answer) → goes p answer ≡ Stay q → due q ≡ true
stays_due goes p q answer (inl f) e = absurd (subst (λ (out : Goes _ _). IsEnd out) e f.1)
stays_due goes p q answer (inr fine) e = fine.stays q e

only_fault : {P R : Type 0} {due : P → Bool} (goes : P → StoreAnswer → Goes P R) (p q : P) (answer : StoreAnswer) → ((answer ≡ Fault) × IsEnd (goes p answer)) ⊎ Fine due (goes p answer) → goes p answer ≡ End q (Err StoreFault) → answer ≡ Fault
only_fault goes p q answer (inl f) e = f.0
only_fault goes p q answer (inr fine) e = absurd (fine.ends q e)

-- a step that ends in a fault made a call that faulted
pub step_rose : {P R : Type 0} {due : P → Bool} {asks : P → StoreCall} {goes : P → StoreAnswer → Goes P R} (old new : Told) (moment : ℤ) (p q : P) (step : Step R)
    → OnlyFaults due asks goes → due p ≡ true → Steps old new (asks p) moment (goes p) p q step → FaultRose old new step
step_rose old new moment p q Again only due stepped = λ fault. absurd cc
step_rose {goes = goes} old new moment p q (Done r) only due (inl stepped) = λ fault.
    let is : r ≡ Err StoreFault = cc in
    fault_rose stepped.makes refl (λ kind. only_fault goes p q stepped.answer (only.sound p stepped.answer due kind) (stepped.gives ∙ ap (λ (k : Result _ SlateDBError). End q k) is))
step_rose old new moment p q (Done r) only due (inr m) = λ fault.
    absurd (let is : r ≡ Err StoreFault = cc in let not : ran_out r ≡ false = ap ran_out is in let out : ran_out r ≡ true = m.0 in cc)

rose_later : (a b c : ℕ) → a ≤ b → next_count b ≤ c → next_count a ≤ c
rose_later a b c less h = grind (arith, nat_tests)

-- the first call of a run that ends in a fault, and those after it
went_rose : {P R : Type 0} {due : P → Bool} {asks : P → StoreCall} {goes : P → StoreAnswer → Goes P R} (only : OnlyFaults due asks goes) (moment : ℤ) (old mid new : Told) (m : Made) (ms : List Made) (p q : P) (out : Goes P R)
    → ((r : P) → due r ≡ true → Run asks goes moment mid new ms (Stay r) (End q (Err StoreFault)) → Rose mid.faults new.faults)
    → goes p m.answer ≡ out → due p ≡ true → m.call ≡ asks p → Makes old mid m.call (moment_of m.call moment) m.answer → Run asks goes moment mid new ms out (End q (Err StoreFault)) → Rose old.faults new.faults
went_rose {goes = goes} only moment old mid new m ms p q (Stay next) rest went here same makes run =
    let kind = subst (λ (c : StoreCall). IsAnswerTo c m.answer) same makes.kind in
    rose_later old.faults mid.faults new.faults makes.later (rest next (stays_due goes p next m.answer (only.sound p m.answer here kind) went) run)
went_rose {goes = goes} only moment old mid new m [] p q (End last r) rest went here same makes run =
    let rose : Rose old.faults mid.faults = fault_rose makes same (λ kind. only_fault goes p q m.answer (only.sound p m.answer here kind) (went ∙ sym run.0)) in
    subst (λ (t : Told). Rose old.faults t.faults) (sym run.1) rose
went_rose only moment old mid new m (n ∷ ms) p q (End last r) rest went here same makes run = absurd run

-- in a run that ends in a fault the store's count of faults rose
run_rose : {P R : Type 0} {due : P → Bool} {asks : P → StoreCall} {goes : P → StoreAnswer → Goes P R} (only : OnlyFaults due asks goes) (moment : ℤ) (old new : Told) (made : List Made) (p q : P)
    → due p ≡ true → Run asks goes moment old new made (Stay p) (End q (Err StoreFault)) → Rose old.faults new.faults
run_rose only moment old new [] p q due run = absurd cc
run_rose {goes = goes} only moment old new (m ∷ ms) p q due run =
    went_rose only moment old run.0 new m ms p q (goes p m.answer) (λ r here after. run_rose only moment run.0 new ms r q here after) refl due run.1 run.2 run.3

-- a fault of a run of so many tries comes from the store
pub ran_rose : {P R : Type 0} {due is_start : P → Bool} {asks : P → StoreCall} {goes : P → StoreAnswer → Goes P R} {moment : ℤ} {tries : ℕ} {old new : Told} {start to : P} {result : Result R SlateDBError}
    → OnlyFaults due asks goes → due start ≡ true → Ran is_start asks goes moment tries old new start to result → FaultOf old new result
ran_rose {asks = asks} {goes = goes} {moment = moment} {old = old} {new = new} {start = start} {to = to} {result = result} only due ran = λ fault. elim ran.ends [
  | inl e ↦ run_rose only moment old new ran.made start to due (subst (λ (out : Goes _ _). Run asks goes moment old new ran.made (Stay start) out) (e.0 ∙ ap (λ (r : Result _ SlateDBError). End to r) fault) ran.run)
  | inr e ↦ absurd (let other : Err Contended ≡ result = sym e.1 in let both : Err Contended ≡ Err StoreFault = other ∙ fault in cc)
]

-- the same of a run for which memory may run out
pub call_rose : {P R M : Type 0} {due is_start : P → Bool} {asks : P → StoreCall} {goes : P → StoreAnswer → Goes P R} {moment : ℤ} {tries : ℕ} {old new : Told} {start to : P} (result : Result R SlateDBError)
    → OnlyFaults due asks goes → due start ≡ true → OrMemory result M (Ran is_start asks goes moment tries old new start to result) → FaultOf old new result
call_rose result only due (inl ran) = ran_rose only due ran
call_rose result only due (inr m) = λ fault. absurd (let out : ran_out result ≡ true = m.0 in let not : ran_out result ≡ false = ap ran_out fault in cc)

-- the answers to a list, a get, a put of a new object, a replacement, and a delete
pub list_answers : (dir : ListDir) (answer : StoreAnswer) → IsAnswerTo (ListCall dir) answer → (answer ≡ Fault) ⊎ ((found : List ObjectMetadata) × (answer ≡ Found found))
list_answers dir (Found found) kind = inr (found, refl)
list_answers dir Fault kind = inl refl
list_answers dir _ kind = absurd kind

pub get_answers : (path : ObjectPath) (answer : StoreAnswer) → IsAnswerTo (Get path) answer → (answer ≡ Fault) ⊎ ((object : Option StoredObject) × (answer ≡ Got object))
get_answers path (Got object) kind = inr (object, refl)
get_answers path Fault kind = inl refl
get_answers path _ kind = absurd kind

pub create_answers : (path : ObjectPath) (bytes : List ℕ) (answer : StoreAnswer) → IsAnswerTo (PutNew path bytes) answer → (answer ≡ Fault) ⊎ ((tag : Option ℕ) × (answer ≡ Created tag))
create_answers path bytes (Created tag) kind = inr (tag, refl)
create_answers path bytes Fault kind = inl refl
create_answers path bytes _ kind = absurd kind

pub replace_answers : (path : ObjectPath) (tag : ℕ) (bytes : List ℕ) (answer : StoreAnswer) → IsAnswerTo (Replace path tag bytes) answer → (answer ≡ Fault) ⊎ ((new : Option ℕ) × (answer ≡ Replaced new))
replace_answers path tag bytes (Replaced new) kind = inr (new, refl)
replace_answers path tag bytes Fault kind = inl refl
replace_answers path tag bytes _ kind = absurd kind

pub delete_answers : (path : ObjectPath) (answer : StoreAnswer) → IsAnswerTo (Delete path) answer → (answer ≡ Fault) ⊎ ((u : Unit {0}) × (answer ≡ Deleted))
delete_answers path Deleted kind = inr (tt, refl)
delete_answers path Fault kind = inl refl
delete_answers path _ kind = absurd kind

-- sound at an answer of its kind
pub sound_at : {P R X : Type 0} (due : P → Bool) (goes : StoreAnswer → Goes P R) (made : X → StoreAnswer) (answer : StoreAnswer) → (answer ≡ Fault) ⊎ ((x : X) × (answer ≡ made x)) → IsEnd (goes Fault) → ((x : X) → Fine due (goes (made x)))
    → ((answer ≡ Fault) × IsEnd (goes answer)) ⊎ Fine due (goes answer)
sound_at due goes made answer (inl e) ends fine = inl (e, subst (λ (a : StoreAnswer). IsEnd (goes a)) (sym e) ends)
sound_at due goes made answer (inr o) ends fine = inr (subst (λ (a : StoreAnswer). Fine due (goes a)) (sym o.1) (fine o.0))
