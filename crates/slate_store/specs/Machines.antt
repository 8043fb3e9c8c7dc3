-- A machine by its phases: what it asks at a phase, and how it goes on from an answer.
use Rattle.std.specs.Prelude.{◌≡◌, ℤ, Result, Err, ◌⊎◌, List, [], ◌∷◌, ◌++◌, refl}
use Rattle.slate_ids.specs.declared.error.SlateDBError.{SlateDBError}
use Rattle.slate_ids.specs.Answers.{OrMemory}
use Rattle.slate_store.specs.declared.store_call.StoreCall.{StoreCall}
use Rattle.slate_store.specs.declared.store_answer.StoreAnswer.{StoreAnswer}
use Rattle.slate_store.specs.declared.step.Step.{Step}
use Rattle.slate_store.specs.declared.step.Step.TheVariants.{Again, Done}
use Rattle.slate_store.specs.StoreCalls.{Told, Makes, moment_of}
use Rattle.std.proofs.Common.{sym, subst}

-- how a machine goes on: at a phase, or it ends with a reply
pub data Goes (P R : Type 0) : Type 0 where
  Stay : P → Goes P R
  End : P → Result R SlateDBError → Goes P R

-- one store call was made, and its answer leads there
pub record Stepped {P R : Type 0} (old new : Told) (call : StoreCall) (moment : ℤ) (goes : StoreAnswer → Goes P R) (out : Goes P R) : Type 0 where
  pub answer : StoreAnswer
  pub makes : Makes old new call (moment_of call moment) answer
  pub gives : goes answer ≡ out

-- at most this one call was made, and the contents are as before
pub record AtMost (old new : Told) (call : StoreCall) (moment : ℤ) : Type 0 where
  pub contents : new.contents ≡ old.contents
  pub calls : (new ≡ old) ⊎ ((answer : StoreAnswer) × Makes old new call (moment_of call moment) answer)

-- memory ran out: machine and contents are as before, and at most this one call was made
pub record Held {P : Type 0} (old new : Told) (call : StoreCall) (moment : ℤ) (from to : P) : Type 0 where
  pub kept : to ≡ from
  pub made : AtMost old new call moment

-- what next does, from one phase to another
abbrev pub Steps : {P R : Type 0} → Told → Told → StoreCall → ℤ → (StoreAnswer → Goes P R) → P → P → Step R → Type 0
Steps old new call moment goes from to Again = Stepped old new call moment goes (Stay to)
Steps old new call moment goes from to (Done r) = OrMemory r (Held old new call moment from to) (Stepped old new call moment goes (End to r))

-- how a machine goes on from an answer, unless memory runs out
abbrev pub GoesOn : {P R : Type 0} → Goes P R → P → P → Step R → Type 0
GoesOn goes from to Again = goes ≡ Stay to
GoesOn goes from to (Done r) = OrMemory r (to ≡ from) (goes ≡ End to r)

-- how a machine goes on that takes no memory
abbrev pub GoesOnAlways : {P R : Type 0} → Goes P R → P → Step R → Type 0
GoesOnAlways goes to Again = goes ≡ Stay to
GoesOnAlways goes to (Done r) = goes ≡ End to r

abbrev pub IsAgain : {R : Type 0} → Step R → Type 0
IsAgain Again = Unit {0}
IsAgain (Done r) = ⊥

-- how a machine goes on after these answers
abbrev pub after : {P R : Type 0} → (P → StoreAnswer → Goes P R) → Goes P R → List StoreAnswer → Goes P R
after goes from [] = from
after goes (Stay p) (a ∷ answers) = after goes (goes p a) answers
after goes (End p r) (a ∷ answers) = End p r

abbrev pub IsEnd : {P R : Type 0} → Goes P R → Type 0
IsEnd (Stay p) = ⊥
IsEnd (End p r) = Unit {0}

-- one answer more
pub after-push : {P R : Type 0} (goes : P → StoreAnswer → Goes P R) (from : Goes P R) (answers : List StoreAnswer) (a : StoreAnswer) (p : P)
    → after goes from answers ≡ Stay p → after goes from (answers ++ a ∷ []) ≡ goes p a
after-push goes from [] a p h = subst (λ (g : Goes _ _). after goes g (a ∷ []) ≡ goes p a) (sym h) refl
after-push goes (Stay q) (b ∷ answers) a p h = after-push goes (goes q b) answers a p h
after-push goes (End q r) (b ∷ answers) a p h = absurd (subst (λ (g : Goes _ _). IsEnd g) h tt)

-- a machine that was refused before its first call makes none, and answers so
abbrev pub AnswersAtOnce : {R : Type 0} → Told → Told → SlateDBError → Step R → Type 0
AnswersAtOnce old new e step = (new ≡ old) × (step ≡ Done (Err e))
