-- Plain calls of one list or one get.
use Rattle.std.specs.Prelude.{◌≡◌, ℤ, Result}
use Rattle.slate_ids.specs.Answers.{OrMemory}
use Rattle.slate_ids.specs.declared.error.SlateDBError.{SlateDBError}
use Rattle.slate_store.specs.StoreCalls.{Told, Makes, moment_of}
use Rattle.slate_store.specs.Machines.{AtMost}
use Rattle.slate_store.specs.declared.store_answer.StoreAnswer.{StoreAnswer}
use Rattle.slate_store.specs.declared.store_call.StoreCall.{StoreCall}

-- the one call was made, and the reply to its answer is the result
pub record Replied {R : Type 0} (old new : Told) (call : StoreCall) (moment : ℤ) (reply : StoreAnswer → Result R SlateDBError) (result : Result R SlateDBError) : Type 0 where
  pub answer : StoreAnswer
  pub makes : Makes old new call (moment_of call moment) answer
  pub gives : reply answer ≡ result

-- a plain call of one store call, or memory ran out
abbrev pub Once : {R : Type 0} → Told → Told → StoreCall → ℤ → (StoreAnswer → Result R SlateDBError) → Result R SlateDBError → Type 0
Once old new call moment reply result = OrMemory result (AtMost old new call moment) (Replied old new call moment reply result)
