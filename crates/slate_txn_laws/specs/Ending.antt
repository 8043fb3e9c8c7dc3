-- How plain calls end over a store that serves them: each law of this crate says it of some calls.
use Rattle.std.specs.Prelude.{◌≡◌, ◌<◌, ◌^◌, ◌⊎◌, ℕ, ℤ, true, List, Some, None, Result}
use Rattle.slate_ids.specs.Answers.{ran_out}
use Rattle.slate_ids.specs.Ids.{is_db_path}
use Rattle.slate_ids.specs.declared.error.SlateDBError.{SlateDBError}
use Rattle.slate_store.specs.StoreCalls.{moment_of, Told}
use Rattle.slate_store.specs.Store.{whole, Store}
use Rattle.slate_store.specs.declared.store_answer.StoreAnswer.{StoreAnswer}
use Rattle.slate_store.specs.declared.store_call.StoreCall.{StoreCall}
use Rattle.slate_txn_log.specs.declared.log_kind.LogKind.{LogKind}
use Rattle.slate_txn.specs.Holder.{Holder}
use Rattle.slate_txn_laws.specs.Outside.{NotOutside}
use Rattle.slate_txn_laws.specs.Ready.{top_of, IsReady, LeavesReady}
use Rattle.slate_txn_laws.specs.Serving.{Serves}

-- over a store that serves it, each of these calls ends so; of a call it is said what the store told before and after and what was answered, of
-- its end the contents before, what the store told after and what was answered
abbrev pub WhereServed : {X : Type 0} → (Told → Told → Result X SlateDBError → Type 0) → (Store → Told → Result X SlateDBError → Type 0) → Type 0
WhereServed {X} calls ends = (old new : Told) (s : Store) (result : Result X SlateDBError) → calls old new result → Serves old new s → ends s new result

-- over a store that serves it and in which this log is ready, each of these calls ends so
abbrev pub WhereReady : {X : Type 0} → List ℕ → LogKind → (Told → Told → Result X SlateDBError → Type 0) → (Store → Told → Result X SlateDBError → Type 0) → Type 0
WhereReady {X} db log calls ends = (old new : Told) (s : Store) (result : Result X SlateDBError) → calls old new result → Serves old new s → IsReady db log s → ends s new result

-- the same of a log without versions
abbrev pub WhereEmpty : {X : Type 0} → List ℕ → LogKind → (Told → Told → Result X SlateDBError → Type 0) → (Store → Told → Result X SlateDBError → Type 0) → Type 0
WhereEmpty db log calls ends = WhereReady db log calls (λ s new result. top_of db log s ≡ None → ends s new result)

-- over a store that serves it and in which the log of this holder is ready, each of these calls ends so, where the database has a path that there
-- is, and the number held is below 2 ^ 64
abbrev pub FromHolder : {T C R X : Type 0} → Holder T C R → (Told → Told → Result X SlateDBError → Type 0) → (Store → Told → Result X SlateDBError → Type 0) → Type 0
FromHolder holder calls ends = is_db_path holder.sequenced.db ≡ true → holder.id < 2 ^ 64 → WhereReady holder.sequenced.db holder.sequenced.log calls ends

-- the same of a holder of the latest version
abbrev pub FromLatest : {T C R X : Type 0} → Holder T C R → (Told → Told → Result X SlateDBError → Type 0) → (Store → Told → Result X SlateDBError → Type 0) → Type 0
FromLatest holder calls ends = FromHolder holder calls (λ s new result. top_of holder.sequenced.db holder.sequenced.log s ≡ Some holder.id → ends s new result)

-- no refusal is answered that others or the store cause
abbrev pub EndsInside : {X : Type 0} → Store → Told → Result X SlateDBError → Type 0
EndsInside s new result = NotOutside result

-- the log is left ready
abbrev pub EndsReady : {X : Type 0} → List ℕ → LogKind → Store → Told → Result X SlateDBError → Type 0
EndsReady db log s new result = LeavesReady db log new

-- a call of one store call is answered by the answer to that call's whole effect, and leaves that effect; or memory ran out
abbrev pub OnceEnds : {X : Type 0} → StoreCall → ℤ → (StoreAnswer → Result X SlateDBError) → Store → Told → Result X SlateDBError → Type 0
OnceEnds call moment reply s new result =
    ((reply (whole call (moment_of call moment) s).answer ≡ result) × (new.contents ≡ Some (whole call (moment_of call moment) s).store)) ⊎ (ran_out result ≡ true)
