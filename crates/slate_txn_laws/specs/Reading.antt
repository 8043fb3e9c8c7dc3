-- What a read of the latest version answers.
use Rattle.std.specs.Prelude.{◌≡◌, ◌⊎◌, ℕ, true, List, Option, Some, None, Result, Ok, Err}
use Rattle.slate_ids.specs.Answers.{ran_out}
use Rattle.slate_ids.specs.declared.error.SlateDBError.{SlateDBError}
use Rattle.slate_ids.specs.declared.error.SlateDBError.TheVariants.{Corrupt}
use Rattle.slate_ids.specs.declared.error.FormatName.TheVariants.{Boundary as BoundaryFormat}
use Rattle.slate_store.specs.StoreCalls.{Told}
use Rattle.slate_store.specs.Store.{Store}
use Rattle.slate_txn_log.specs.Advance.{boundary_at}
use Rattle.slate_txn_log.specs.declared.log_kind.LogKind.{LogKind}
use Rattle.slate_txn_log.specs.declared.sequenced.Sequenced.{Sequenced}
use Rattle.slate_txn.specs.Holder.{Holder}
use Rattle.slate_txn.specs.Refreshing.{held_after, refreshed}
use Rattle.slate_txn_laws.specs.Ready.{top_of, IsLatest}

-- there is no version, or the latest one is read, or its bytes are refused by the codec, or they are not and the boundary is not a number
pub data ReadAnswers {T : Type 0} (decoded : List ℕ → Result T SlateDBError) (db : List ℕ) (log : LogKind) (s : Store) (result : Result (Option (ℕ × T)) SlateDBError) : Type 0 where
  NoVersion : top_of db log s ≡ None → result ≡ Ok None → ReadAnswers decoded db log s result
  Latest : (n : ℕ) (bytes : List ℕ) (value : T) → IsLatest db log s n bytes → decoded bytes ≡ Ok value → result ≡ Ok (Some (n, value)) → ReadAnswers decoded db log s result
  Undecoded : (n : ℕ) (bytes : List ℕ) (e : SlateDBError) → IsLatest db log s n bytes → decoded bytes ≡ Err e → result ≡ Err e → ReadAnswers decoded db log s result
  NoBoundary : (n : ℕ) (bytes : List ℕ) (value : T) → IsLatest db log s n bytes → decoded bytes ≡ Ok value → boundary_at db log s ≡ None
      → result ≡ Err (Corrupt BoundaryFormat) → ReadAnswers decoded db log s result

-- what is answered by the read
abbrev pub AnswersBy : {T X : Type 0} → (List ℕ → Result T SlateDBError) → List ℕ → LogKind → Store → (Result (Option (ℕ × T)) SlateDBError → Result X SlateDBError) → Result X SlateDBError → Type 0
AnswersBy decoded db log s answer result = (reply : Result (Option (ℕ × _)) SlateDBError) × ReadAnswers decoded db log s reply × (answer reply ≡ result)

-- the read is answered so, and the contents stay
abbrev pub ReadEnds : {T C : Type 0} → (C → List ℕ → Result T SlateDBError) → Sequenced T C → Store → Told → Result (Option (ℕ × T)) SlateDBError → Type 0
ReadEnds decoded sequenced s new result = ReadAnswers (decoded sequenced.codec) sequenced.db sequenced.log s result × (new.contents ≡ Some s)

-- a call that is answered by a read is so, or memory ran out
abbrev pub ToldEnds : {T C X : Type 0} → (C → List ℕ → Result T SlateDBError) → Sequenced T C → (Result (Option (ℕ × T)) SlateDBError → Result X SlateDBError)
    → Store → Told → Result X SlateDBError → Type 0
ToldEnds decoded sequenced answer s new result = AnswersBy (decoded sequenced.codec) sequenced.db sequenced.log s answer result ⊎ (ran_out result ≡ true)

-- a refresh holds the version that was read, and else what it held, and is answered by that; or memory ran out
abbrev pub RefreshEnds : {T C R : Type 0} → (C → List ℕ → Result T SlateDBError) → Holder T C R → Holder T C R → Store → Told → Result (Unit {0}) SlateDBError → Type 0
RefreshEnds {T} decoded from to s new result =
    ((reply : Result (Option (ℕ × T)) SlateDBError) × ReadAnswers (decoded from.sequenced.codec) from.sequenced.db from.sequenced.log s reply
    × (to ≡ held_after from reply) × (refreshed reply ≡ result)) ⊎ (ran_out result ≡ true)
