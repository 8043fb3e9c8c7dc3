-- What the plain call answers that changes the latest version of a log, and what it leaves.
use Rattle.std.specs.Prelude.{◌≡◌, ◌⊎◌, ◌+◌, ℕ, ℤ, true, List, Option, Some, None, Result, Ok, Err}
use Rattle.slate_ids.specs.Answers.{ran_out}
use Rattle.slate_ids.specs.declared.error.SlateDBError.{SlateDBError}
use Rattle.slate_ids.specs.declared.error.SlateDBError.TheVariants.{Corrupt}
use Rattle.slate_ids.specs.declared.error.FormatName.TheVariants.{Boundary as BoundaryFormat}
use Rattle.slate_store.specs.Store.{Store, stored}
use Rattle.slate_store.specs.StoreCalls.{Told}
use Rattle.slate_txn_changes.specs.declared.log_work.LogEnd.{LogEnd}
use Rattle.slate_txn_changes.specs.declared.log_work.LogEnd.TheVariants.{Absent, Unchanged, Committed}
use Rattle.slate_txn_changes_laws.specs.Works.{IsInside}
use Rattle.slate_txn_laws.specs.Ready.{top_of, IsLatest, IsReady}
use Rattle.slate_txn_log.specs.Advance.{boundary_at}
use Rattle.slate_txn_log.specs.LogPaths.{version_path}
use Rattle.slate_txn_log.specs.declared.commit_phase.CommitPhase.{CommitPhase}
use Rattle.slate_txn_log.specs.declared.commit_phase.CommitPhase.TheVariants.{Putting}
use Rattle.slate_txn_log.specs.declared.log_kind.LogKind.{LogKind}

-- what reads a value of its bytes
abbrev pub Decoded : Type 0 → Type 0
Decoded V = List ℕ → Result V SlateDBError

-- the commit of what a change makes of a version at a moment
abbrev pub Commit : Type 0 → Type 0
Commit V = ℤ → ℕ → V → Result (Option (CommitPhase V)) SlateDBError

-- this is the latest version, and what is read of it
pub record IsRead {V : Type 0} (decoded : Decoded V) (db : List ℕ) (log : LogKind) (s : Store) (n : ℕ) (value : V) : Type 0 where
  pub bytes : List ℕ
  pub latest : IsLatest db log s n bytes
  pub read : decoded bytes ≡ Ok value

-- why a change of the latest version is refused, by the contents that are left: the change or the codec refuses that version, or the boundary is
-- not a number
pub data WhyRefused {V : Type 0} (decoded : Decoded V) (commit : Commit V) (db : List ℕ) (log : LogKind) (moment : ℤ) (t : Store) (e : SlateDBError) : Type 0 where
  OfChange : (n : ℕ) (value : V) → IsRead decoded db log t n value → commit moment n value ≡ Err e → WhyRefused decoded commit db log moment t e
  OfBytes : (n : ℕ) (bytes : List ℕ) → IsLatest db log t n bytes → decoded bytes ≡ Err e → WhyRefused decoded commit db log moment t e
  OfBoundary : boundary_at db log t ≡ None → e ≡ Corrupt BoundaryFormat → WhyRefused decoded commit db log moment t e

-- from contents to contents: the change makes this value of the latest version, with these bytes, and that stands at the next number
pub record IsChanged {V : Type 0} (decoded : Decoded V) (commit : Commit V) (db : List ℕ) (log : LogKind) (moment : ℤ) (s t : Store) (k : ℕ) (bytes : List ℕ) (wanted : V) : Type 0 where
  pub number : ℕ
  pub value : V
  pub was : IsRead decoded db log s number value
  pub made : commit moment number value ≡ Ok (Some (Putting (number + 1) bytes wanted))
  pub next : k ≡ number + 1
  pub stands : t ≡ stored (version_path log db k) bytes moment s
  pub latest : IsLatest db log t k bytes

-- what the change makes of the latest version stands after it, or it makes nothing of it; or there is none; or the change or the codec
-- refuses it, or the boundary is not a number. But for the first, the contents stay
pub data ChangeAnswers {V : Type 0} (decoded : Decoded V) (commit : Commit V) (db : List ℕ) (log : LogKind) (moment : ℤ) (s t : Store) (result : Result (LogEnd V) SlateDBError) : Type 0 where
  Changes : (k : ℕ) (bytes : List ℕ) (wanted : V) → IsChanged decoded commit db log moment s t k bytes wanted → result ≡ Ok (Committed k wanted) → ChangeAnswers decoded commit db log moment s t result
  MakesNone : (n : ℕ) (value : V) → t ≡ s → IsRead decoded db log s n value → commit moment n value ≡ Ok None → result ≡ Ok (Unchanged n value) → ChangeAnswers decoded commit db log moment s t result
  NoVersion : t ≡ s → top_of db log s ≡ None → result ≡ Ok Absent → ChangeAnswers decoded commit db log moment s t result
  Refuses : (n : ℕ) (value : V) (e : SlateDBError) → t ≡ s → IsRead decoded db log s n value → commit moment n value ≡ Err e → result ≡ Err e → ChangeAnswers decoded commit db log moment s t result
  Undecoded : (n : ℕ) (bytes : List ℕ) (e : SlateDBError) → t ≡ s → IsLatest db log s n bytes → decoded bytes ≡ Err e → result ≡ Err e → ChangeAnswers decoded commit db log moment s t result
  NoBoundary : t ≡ s → boundary_at db log s ≡ None → result ≡ Err (Corrupt BoundaryFormat) → ChangeAnswers decoded commit db log moment s t result

-- it is answered so, and for no reason from outside; and the log is left ready
pub record ChangeLeaves {V : Type 0} (decoded : Decoded V) (commit : Commit V) (db : List ℕ) (log : LogKind) (moment : ℤ) (s : Store) (new : Told) (result : Result (LogEnd V) SlateDBError) : Type 0 where
  pub left : Store
  pub contents : new.contents ≡ Some left
  pub answers : ChangeAnswers decoded commit db log moment s left result
  pub inside : IsInside result
  pub ready : IsReady db log left

-- or memory ran out
abbrev pub ChangeEnds : {V : Type 0} → Decoded V → Commit V → List ℕ → LogKind → ℤ → Store → Told → Result (LogEnd V) SlateDBError → Type 0
ChangeEnds decoded commit db log moment s new result = ChangeLeaves decoded commit db log moment s new result ⊎ (ran_out result ≡ true)
