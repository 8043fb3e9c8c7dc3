-- What a store tells of itself, and what one call does to that.
use Rattle.std.specs.Prelude.{◌≡◌, ◌≤◌, ℕ, ℤ, pos, Bool, true, false, Option, Some, None, Result, Ok, Err, List, [], ◌∷◌, ◌++◌, drop}
use Rattle.std.proofs.Common.{subst}
pub use Rattle.slate_store.specs.FaultCounts.{Rose}
use Rattle.slate_store.specs.Store.{Store, effect}
use Rattle.slate_store.specs.declared.made.Made.{Made}
use Rattle.slate_store.specs.declared.mark.Mark.{Mark}
use Rattle.slate_store.specs.declared.mark.Mark.TheVariants.{Good}
use Rattle.slate_store.specs.declared.store.StoreError.{StoreError}
use Rattle.slate_store.specs.declared.store.StoreError.TheVariants.{Fault as FaultError, OutOfMemory}
use Rattle.slate_store.specs.declared.store_call.StoreCall.{StoreCall}
use Rattle.slate_store.specs.declared.store_call.StoreCall.TheVariants.{List as ListCall, Get, PutNew, Replace, Put, Delete}
use Rattle.slate_store.specs.declared.store_answer.StoreAnswer.{StoreAnswer}
use Rattle.slate_store.specs.declared.store_answer.StoreAnswer.TheVariants.{Found, Got, Created, Replaced, Written, Deleted, Fault}

-- the count of faults, and, each where told, the contents, the marks of the calls to come, and the calls made so far
pub record Told : Type 0 where
  pub faults : ℕ
  pub contents : Option Store
  pub marks : Option (List Mark)
  pub calls : Option (List Made)

abbrev pub IfFault : StoreAnswer → Type 0 → Type 0
IfFault Fault P = P
IfFault _ P = Unit {0}

-- the mark of the next call
abbrev pub next_mark : List Mark → Mark
next_mark [] = Good
next_mark (mark ∷ marks) = mark

-- the call goes by the next mark, where marks are told
abbrev pub GoesBy : Option (List Mark) → Mark → Type 0
GoesBy None mark = Unit {0}
GoesBy (Some marks) mark = mark ≡ next_mark marks

abbrev pub marks_after : Option (List Mark) → Option (List Mark)
marks_after None = None
marks_after (Some marks) = Some (drop 1 marks)

abbrev pub contents_after : Mark → StoreCall → ℤ → Option Store → Option Store
contents_after mark call moment None = None
contents_after mark call moment (Some s) = Some (effect mark call moment s).store

abbrev pub Answers : Mark → Option Store → StoreCall → ℤ → StoreAnswer → Type 0
Answers mark None call moment answer = Unit {0}
Answers mark (Some s) call moment answer = answer ≡ (effect mark call moment s).answer

abbrev pub calls_after : StoreCall → StoreAnswer → Option (List Made) → Option (List Made)
calls_after call answer None = None
calls_after call answer (Some calls) = Some (calls ++ record { call = call; answer = answer } ∷ [])

-- an answer to this call, or a fault
abbrev pub IsAnswerTo : StoreCall → StoreAnswer → Type 0
IsAnswerTo call Fault = Unit {0}
IsAnswerTo (ListCall dir) (Found found) = Unit {0}
IsAnswerTo (Get path) (Got object) = Unit {0}
IsAnswerTo (PutNew path bytes) (Created tag) = Unit {0}
IsAnswerTo (Replace path tag bytes) (Replaced new) = Unit {0}
IsAnswerTo (Put path bytes) (Written tag) = Unit {0}
IsAnswerTo (Delete path) Deleted = Unit {0}
IsAnswerTo _ _ = ⊥

-- the store went from old to new by this one call, with this answer: under some mark, which is the next one where marks are told
pub record Makes (old new : Told) (call : StoreCall) (moment : ℤ) (answer : StoreAnswer) : Type 0 where
  pub mark : Mark
  pub goes_by : GoesBy old.marks mark
  pub contents : new.contents ≡ contents_after mark call moment old.contents
  pub answers : Answers mark old.contents call moment answer
  pub marks : new.marks ≡ marks_after old.marks
  pub calls : new.calls ≡ calls_after call answer old.calls
  pub later : old.faults ≤ new.faults
  pub fault : IfFault answer (Rose old.faults new.faults)
  pub kind : IsAnswerTo call answer

-- the call was made, or memory ran out and nothing changed
abbrev pub Calls : {X : Type 0} → (X → StoreAnswer) → Told → Told → StoreCall → ℤ → Result X StoreError → Type 0
Calls answer_of old new call moment (Ok x) = Makes old new call moment (answer_of x)
Calls answer_of old new call moment (Err FaultError) = Makes old new call moment Fault
Calls answer_of old new call moment (Err OutOfMemory) = new ≡ old

-- a write takes the moment that is handed in, and no other call has one
abbrev pub moment_of : StoreCall → ℤ → ℤ
moment_of (ListCall dir) moment = pos 0
moment_of (Get path) moment = pos 0
moment_of (PutNew path bytes) moment = moment
moment_of (Replace path tag bytes) moment = moment
moment_of (Put path bytes) moment = moment
moment_of (Delete path) moment = pos 0

-- the same, with the answer as a value
abbrev pub Performs : {E : Type 0} → Told → Told → StoreCall → ℤ → Result StoreAnswer E → Type 0
Performs old new call moment (Ok answer) = Makes old new call (moment_of call moment) answer
Performs old new call moment (Err e) = new ≡ old

-- whether a call only reads: a list or a get
abbrev pub is_reading : StoreCall → Bool
is_reading (ListCall dir) = true
is_reading (Get path) = true
is_reading (PutNew path bytes) = false
is_reading (Replace path tag bytes) = false
is_reading (Put path bytes) = false
is_reading (Delete path) = false

-- where only a fault leads there, the count rose
pub fault_rose : {old new : Told} {call wanted : StoreCall} {moment : ℤ} {answer : StoreAnswer} → Makes old new call moment answer → call ≡ wanted
    → (IsAnswerTo wanted answer → answer ≡ Fault) → Rose old.faults new.faults
fault_rose {old = old} {new = new} {answer = answer} makes same only =
    let kind = subst (λ (c : StoreCall). IsAnswerTo c answer) same makes.kind in
    subst (λ (a : StoreAnswer). IfFault a (Rose old.faults new.faults)) (only kind) makes.fault
