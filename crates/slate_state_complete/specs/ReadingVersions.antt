-- How the reads of a log of a database end: of its latest version, and of the version of a number.
use Rattle.std.specs.Prelude.{◌≡◌, ◌⊎◌, ℕ, true, pos, List, Option, Some, Result}
use Rattle.slate_ids.specs.Answers.{ran_out}
use Rattle.slate_ids.specs.declared.error.SlateDBError.{SlateDBError}
use Rattle.slate_store.specs.StoreCalls.{Told}
use Rattle.slate_store.specs.Store.{object_at, Store}
use Rattle.slate_store.specs.declared.object.StoredObject.{StoredObject}
use Rattle.slate_store.specs.declared.store_answer.StoreAnswer.{StoreAnswer}
use Rattle.slate_store.specs.declared.store_call.StoreCall.TheVariants.{Get}
use Rattle.slate_txn_log.specs.LogPaths.{version_path}
use Rattle.slate_txn_log.specs.Once.{Once}
use Rattle.slate_txn_log.specs.TryRead.{try_reply, value_got}
use Rattle.slate_txn_log.specs.declared.sequenced.Sequenced.{Sequenced}
use Rattle.slate_txn_laws.specs.Replies.{present}
use Rattle.slate_txn_laws.specs.Reading.{AnswersBy}

-- it is answered by the latest version that was read, and the contents stay; or memory ran out
abbrev pub ReadLatestEnds : {T C X : Type 0} → (C → List ℕ → Result T SlateDBError) → Sequenced T C
    → (Result (Option (ℕ × T)) SlateDBError → Result X SlateDBError) → Store → Told → Result X SlateDBError → Type 0
ReadLatestEnds decoded sequenced answer s new result =
    (AnswersBy (decoded sequenced.codec) sequenced.db sequenced.log s answer result × (new.contents ≡ Some s)) ⊎ (ran_out result ≡ true)

-- the value of a number that has to stand, of the store's answer
abbrev pub needed_reply : {T : Type 0} → (ℕ → SlateDBError) → ℕ → (List ℕ → Result T SlateDBError) → StoreAnswer → Result T SlateDBError
needed_reply missing n decoded answer = present missing n (try_reply decoded answer)

-- and of the object that stands there
abbrev pub needed_got : {T : Type 0} → (ℕ → SlateDBError) → ℕ → (List ℕ → Result T SlateDBError) → Option StoredObject → Result T SlateDBError
needed_got missing n decoded found = present missing n (value_got decoded found)

-- the plain calls that get the object of a version, and make this reply of the store's answer
abbrev pub GetsVersion : {T C X : Type 0} → Sequenced T C → ℕ → (StoreAnswer → Result X SlateDBError) → Told → Told → Result X SlateDBError → Type 0
GetsVersion sequenced n reply old new result = Once old new (Get (version_path sequenced.log sequenced.db n)) (pos 0) reply result

-- it is answered by the object that stands there, or by none where none does, and the contents stay; or memory ran out
abbrev pub GetVersionEnds : {T C X : Type 0} → Sequenced T C → ℕ → (Option StoredObject → Result X SlateDBError) → Store → Told → Result X SlateDBError → Type 0
GetVersionEnds sequenced n answer s new result =
    ((answer (object_at (version_path sequenced.log sequenced.db n) s) ≡ result) × (new.contents ≡ Some s)) ⊎ (ran_out result ≡ true)
