-- From one call to a plain call of one list or one get.
use Rattle.std.specs.Prelude.{◌≡◌, ℤ, true, Result}
use Rattle.std.proofs.Common.{inl, inr, subst}
use Rattle.slate_ids.specs.Answers.{Gives}
use Rattle.slate_ids.specs.declared.error.SlateDBError.{SlateDBError}
use Rattle.slate_store.specs.StoreCalls.{Told, Makes, moment_of}
use Rattle.slate_store.specs.declared.store_answer.StoreAnswer.{StoreAnswer}
use Rattle.slate_store.specs.declared.store_call.StoreCall.{StoreCall}
use Rattle.slate_txn_log.proofs.Steps.{is_reading, reads_keep}
use Rattle.slate_txn_log.specs.Once.{Once}

-- a call that reads, and the reply to its answer unless memory runs out
pub once : {R : Type 0} {old new : Told} {call : StoreCall} {answer : StoreAnswer} (wanted : StoreCall) (moment : ℤ) (reply : StoreAnswer → Result R SlateDBError) (result : Result R SlateDBError)
    → call ≡ wanted → is_reading wanted ≡ true → Makes old new call (moment_of call moment) answer → Gives result (reply answer) → Once old new wanted moment reply result
once {old = old} {new = new} {answer = answer} wanted moment reply result same reading makes (inl gives) =
    inl (record { answer = answer; makes = subst (λ (c : StoreCall). Makes old new c (moment_of c moment) answer) same makes; gives = gives })
once {old = old} {new = new} {answer = answer} wanted moment reply result same reading makes (inr out) =
    let here : Makes old new wanted (moment_of wanted moment) answer = subst (λ (c : StoreCall). Makes old new c (moment_of c moment) answer) same makes in
    inr (out, record { contents = reads_keep reading here; calls = inr (answer, here) })
