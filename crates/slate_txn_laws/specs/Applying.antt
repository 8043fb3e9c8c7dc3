-- What the commit of a change of the version held answers, with two tries or more.
use Rattle.std.specs.Prelude.{◌≡◌, ◌<◌, ◌⊎◌, ℕ, ℤ, ◌+◌, true, List, Some, None, Result, Ok, Err}
use Rattle.slate_ids.specs.Answers.{ran_out}
use Rattle.slate_ids.specs.declared.error.SlateDBError.{SlateDBError}
use Rattle.slate_ids.specs.declared.error.SlateDBError.TheVariants.{Corrupt}
use Rattle.slate_ids.specs.declared.error.FormatName.TheVariants.{Boundary as BoundaryFormat}
use Rattle.slate_store.specs.StoreCalls.{Told}
use Rattle.slate_store.specs.Store.{Store}
use Rattle.slate_txn_log.specs.Advance.{boundary_at}
use Rattle.slate_txn.specs.ApplyMoves.{AppliesBy, MayWays}
use Rattle.slate_txn.specs.Holder.{Holder, at_version}
use Rattle.slate_txn_laws.specs.Changing.{IsChange, IsRefusal}
use Rattle.slate_txn_laws.specs.Committing.{Stands}
use Rattle.slate_txn_laws.specs.Ending.{EndsInside, FromHolder, FromLatest}
use Rattle.slate_txn_laws.specs.Outside.{WaysInside}
use Rattle.slate_txn_laws.specs.Ready.{IsLatest, LeavesReady}

-- the version held, or the latest one, read
pub data IsSeen {T C R : Type 0} (ways : MayWays T C R) (holder : Holder T C R) (s : Store) (id : ℕ) (value : T) : Type 0 where
  IsHeld : id ≡ holder.id → value ≡ holder.object → IsSeen ways holder s id value
  IsRead : (bytes : List ℕ) → IsLatest holder.sequenced.db holder.sequenced.log s id bytes → ways.decoded holder.sequenced.codec bytes ≡ Ok value → IsSeen ways holder s id value

-- what the change makes of a version seen stands after it and is held; or it makes nothing, or is refused, or the latest version is refused by the codec, or the boundary is not a number
pub data ApplyAnswers {T C R : Type 0} (ways : MayWays T C R) (s : Store) (new : Told) (from to : Holder T C R) (result : Result (Unit {0}) SlateDBError) : Type 0 where
  Changes : (id : ℕ) (value wanted : T) (bytes : List ℕ) (t : Store) → IsSeen ways from s id value → IsChange ways from id value wanted bytes
      → new.contents ≡ Some t → Stands from.sequenced.db from.sequenced.log s t (id + 1) bytes → to ≡ at_version from (id + 1) wanted → result ≡ Ok tt → ApplyAnswers ways s new from to result
  MakesNone : (id : ℕ) (value : T) → IsSeen ways from s id value → ways.may id value (Ok None) → to ≡ at_version from id value → result ≡ Ok tt → ApplyAnswers ways s new from to result
  Refuses : (id : ℕ) (value : T) (e : SlateDBError) → IsSeen ways from s id value → IsRefusal ways from id value e → result ≡ Err e → ApplyAnswers ways s new from to result
  Unread : (id : ℕ) (bytes : List ℕ) (e : SlateDBError) → IsLatest from.sequenced.db from.sequenced.log s id bytes
      → ways.decoded from.sequenced.codec bytes ≡ Err e → result ≡ Err e → ApplyAnswers ways s new from to result
  NoBoundary : boundary_at from.sequenced.db from.sequenced.log s ≡ None → result ≡ Err (Corrupt BoundaryFormat) → ApplyAnswers ways s new from to result

-- the commit of a change is answered so, and the log stays ready; or memory ran out
abbrev pub ApplyEnds : {T C R : Type 0} → MayWays T C R → Holder T C R → Holder T C R → Store → Told → Result (Unit {0}) SlateDBError → Type 0
ApplyEnds ways from to s new result = (ApplyAnswers ways s new from to result × LeavesReady from.sequenced.db from.sequenced.log new) ⊎ (ran_out result ≡ true)

-- with two tries or more, from a holder whose log is ready, each commit of what a function may answer ends so
abbrev pub MovesEnd : {T C R : Type 0} → MayWays T C R → Type 0
MovesEnd {T} {C} {R} ways = (moment : ℤ) (tries : ℕ) (from to : Holder T C R) → 1 < tries
    → FromHolder from (λ old new. AppliesBy ways moment tries old new from to) (ApplyEnds ways from to)

-- from a holder of the latest version one try does
abbrev pub LatestMovesEnd : {T C R : Type 0} → MayWays T C R → Type 0
LatestMovesEnd {T} {C} {R} ways = (moment : ℤ) (tries : ℕ) (from to : Holder T C R) → 0 < tries
    → FromLatest from (λ old new. AppliesBy ways moment tries old new from to) (ApplyEnds ways from to)

-- unless codec, rules or function answer a refusal that others or the store cause, such a commit with two tries or more answers none
abbrev pub MovesEndInside : {T C R : Type 0} → MayWays T C R → Type 0
MovesEndInside {T} {C} {R} ways = WaysInside ways → (moment : ℤ) (tries : ℕ) (from to : Holder T C R) → 1 < tries
    → FromHolder from (λ old new. AppliesBy ways moment tries old new from to) EndsInside
