-- Whole runs of a machine that may go on from one answer in more than one way.
use Rattle.std.specs.Prelude.{◌≡◌, ℕ, ◌+◌, ◌<◌, ◌⊎◌, ℤ, Bool, true, Result, Err, List, [], ◌∷◌}
use Rattle.slate_ids.specs.Answers.{OrMemory}
use Rattle.slate_ids.specs.declared.error.SlateDBError.{SlateDBError}
use Rattle.slate_ids.specs.declared.error.SlateDBError.TheVariants.{Contended}
use Rattle.slate_store.specs.StoreCalls.{Told, Makes, moment_of}
use Rattle.slate_store.specs.Machines.{Goes, Stay, End, Held, AtMost}
use Rattle.slate_store.specs.CallRuns.{one_if}
use Rattle.slate_store.specs.declared.made.Made.{Made}
use Rattle.slate_store.specs.declared.step.Step.{Step}
use Rattle.slate_store.specs.declared.step.Step.TheVariants.{Again, Done}
use Rattle.slate_store.specs.declared.store_answer.StoreAnswer.{StoreAnswer}
use Rattle.slate_store.specs.declared.store_call.StoreCall.{StoreCall}

-- one store call was made, and from its answer the machine may go on so
pub record SteppedBy {P R : Type 0} (old new : Told) (call : StoreCall) (moment : ℤ) (may : StoreAnswer → Goes P R → Type 0) (out : Goes P R) : Type 0 where
  pub answer : StoreAnswer
  pub makes : Makes old new call (moment_of call moment) answer
  pub moves : may answer out

-- what next does, from one phase to another
abbrev pub StepsBy : {P R : Type 0} → Told → Told → StoreCall → ℤ → (StoreAnswer → Goes P R → Type 0) → P → P → Step R → Type 0
StepsBy old new call moment may from to Again = SteppedBy old new call moment may (Stay to)
StepsBy old new call moment may from to (Done r) = OrMemory r (Held old new call moment from to) (SteppedBy old new call moment may (End to r))

-- how it goes on from an answer, unless memory runs out
abbrev pub GoesOnBy : {P R : Type 0} → (Goes P R → Type 0) → P → P → Step R → Type 0
GoesOnBy may from to Again = may (Stay to)
GoesOnBy may from to (Done r) = OrMemory r (to ≡ from) (may (End to r))

-- a call that was made, and how the machine went on from its answer
pub record Move (P R : Type 0) : Type 0 where
  pub made : Made
  pub went : Goes P R

-- the calls that were made from a phase, each with its answer, and how the machine went on after them
abbrev pub RunBy : {P R : Type 0} → (P → StoreCall) → (P → StoreAnswer → Goes P R → Type 0) → ℤ → Told → Told → List (Move P R) → Goes P R → Goes P R → Type 0
RunBy asks may moment old new [] from out = (out ≡ from) × (new ≡ old)
RunBy asks may moment old new (m ∷ ms) (Stay p) out =
    (mid : Told) × (m.made.call ≡ asks p) × Makes old mid m.made.call (moment_of m.made.call moment) m.made.answer × may p m.made.answer m.went × RunBy asks may moment mid new ms m.went out
RunBy asks may moment old new (m ∷ ms) (End p r) out = ⊥

-- how often the machine started again
abbrev pub turns_of : {P R : Type 0} → (P → Bool) → List (Move P R) → ℕ
turns_of is_start [] = 0
turns_of is_start (m ∷ ms) = one_if is_start m.went + turns_of is_start ms

-- a plain call of so many tries made these calls: it ends with the machine's reply, or each try started again, and the last call led back to a start
pub record RanBy {P R : Type 0} (is_start : P → Bool) (asks : P → StoreCall) (may : P → StoreAnswer → Goes P R → Type 0) (moment : ℤ) (tries : ℕ)
    (old new : Told) (start to : P) (result : Result R SlateDBError) : Type 0 where
  pub moves : List (Move P R)
  pub out : Goes P R
  pub run : RunBy asks may moment old new moves (Stay start) out
  pub ends : ((out ≡ End to result) × (turns_of is_start moves < tries)) ⊎ ((out ≡ Stay to) × (result ≡ Err Contended) × (turns_of is_start moves ≡ tries) × (is_start to ≡ true))

-- memory ran out in a plain call of so many tries: these calls led to where it stands, and at most the next one was made besides
pub record BeganBy {P R : Type 0} (is_start : P → Bool) (asks : P → StoreCall) (may : P → StoreAnswer → Goes P R → Type 0) (moment : ℤ) (tries : ℕ) (old new : Told) (start to : P) : Type 0 where
  pub mid : Told
  pub moves : List (Move P R)
  pub run : RunBy asks may moment old mid moves (Stay start) (Stay to)
  pub last : AtMost mid new (asks to) moment
  pub within : turns_of is_start moves < tries
