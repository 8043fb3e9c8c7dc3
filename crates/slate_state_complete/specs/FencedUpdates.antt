-- What an update by a fenced holder answers.
use Rattle.std.specs.Prelude.{◌≡◌, ◌⊎◌, ℕ, ℤ, true, List, Option, Some, None, Result, Err}
use Rattle.slate_ids.specs.Answers.{ran_out}
use Rattle.slate_ids.specs.declared.error.SlateDBError.{SlateDBError}
use Rattle.slate_store.specs.StoreCalls.{Told}
use Rattle.slate_store.specs.Store.{Store}
use Rattle.slate_txn_log.specs.declared.right.Right.{Right}
use Rattle.slate_txn.specs.FencedHolder.{FencedHolder}
use Rattle.slate_txn.specs.Fencing.{held_fence, UnlessFenced}
use Rattle.slate_txn.specs.Updating.{Updates}
use Rattle.slate_txn.specs.declared.stored.DirtyObject.{DirtyObject}
use Rattle.slate_txn_laws.specs.Ending.{FromHolder}
use Rattle.slate_txn_laws.specs.Ready.{LeavesReady}
use Rattle.slate_txn_laws.specs.Updating.{UpdateAnswers}

-- the fence of the version held refuses it, and the contents stay; or there is none, and it is answered as without a fence
pub data FencedUpdateAnswers {T C R E : Type 0} (refusal : R → ℕ → T → T → Right → Option SlateDBError)
    (encoded : C → T → Result (List ℕ) SlateDBError) (epoch : E → T → ℕ) (s : Store) (new : Told) (fenced : FencedHolder T C R E)
    (dirty : DirtyObject T) (right : Right) (result : Result (Unit {0}) SlateDBError) : Type 0 where
  IsFenced : (e : SlateDBError) → held_fence epoch fenced ≡ Some e → new.contents ≡ Some s → result ≡ Err e → FencedUpdateAnswers refusal encoded epoch s new fenced dirty right result
  IsUnfenced : held_fence epoch fenced ≡ None → UpdateAnswers refusal encoded s new fenced.holder dirty right result → FencedUpdateAnswers refusal encoded epoch s new fenced dirty right result

-- the updates of a fenced holder by this dirty value, at a moment and under a right: the fence of the version held refuses before any call
abbrev pub FencedUpdatesOf : {T C R E : Type 0} → (R → ℕ → T → T → Right → Option SlateDBError) → (C → T → Result (List ℕ) SlateDBError) → (E → T → ℕ) → ℤ
    → FencedHolder T C R E → DirtyObject T → Right → Told → Told → Result (Unit {0}) SlateDBError → Type 0
FencedUpdatesOf refusal encoded epoch moment fenced dirty right old new result =
    UnlessFenced (held_fence epoch fenced) old new result (Updates refusal encoded moment old new fenced.holder dirty right result)

-- it is answered so, and the log stays ready; or memory ran out
abbrev pub FencedUpdateEnds : {T C R E : Type 0} → (R → ℕ → T → T → Right → Option SlateDBError) → (C → T → Result (List ℕ) SlateDBError) → (E → T → ℕ)
    → FencedHolder T C R E → DirtyObject T → Right → Store → Told → Result (Unit {0}) SlateDBError → Type 0
FencedUpdateEnds refusal encoded epoch fenced dirty right s new result =
    (FencedUpdateAnswers refusal encoded epoch s new fenced dirty right result
    × LeavesReady fenced.holder.sequenced.db fenced.holder.sequenced.log new) ⊎ (ran_out result ≡ true)

-- from a fenced holder whose log is ready, each such update ends so
abbrev pub FencedUpdatesEnd : {T C R E : Type 0} → (R → ℕ → T → T → Right → Option SlateDBError) → (C → T → Result (List ℕ) SlateDBError) → (E → T → ℕ) → ℤ
    → FencedHolder T C R E → DirtyObject T → Right → Type 0
FencedUpdatesEnd refusal encoded epoch moment fenced dirty right =
    FromHolder fenced.holder (FencedUpdatesOf refusal encoded epoch moment fenced dirty right) (FencedUpdateEnds refusal encoded epoch fenced dirty right)
