-- How the calls end that make a holder of a log of a database.
use Rattle.std.specs.Prelude.{◌≡◌, ◌⊎◌, ℕ, true, List, Option, Some, Result}
use Rattle.slate_ids.specs.Answers.{ran_out}
use Rattle.slate_ids.specs.declared.error.SlateDBError.{SlateDBError}
use Rattle.slate_store.specs.StoreCalls.{Told}
use Rattle.slate_store.specs.Store.{Store}
use Rattle.slate_txn_log.specs.declared.log_kind.LogKind.{LogKind}
use Rattle.slate_txn_log.specs.declared.sequenced.Sequenced.{Sequenced}
use Rattle.slate_txn.specs.Holder.{Holder}
use Rattle.slate_txn_laws.specs.Creating.{CreateAnswers}
use Rattle.slate_txn_laws.specs.Reading.{AnswersBy}
use Rattle.slate_txn_laws.specs.Ready.{LeavesReady}
use Rattle.slate_state_holders.specs.Holders.{LogOf}

-- a creation is answered so, and the log stays ready; or memory ran out
abbrev pub CreateDbEnds : {T C R : Type 0} → (C → T → Result (List ℕ) SlateDBError) → LogKind → List ℕ → T → Store → Told → Result (Holder T C R) SlateDBError → Type 0
CreateDbEnds {T} {C} {R} encoded kind db first s new result =
    ((of : LogOf T C R kind db) × CreateAnswers encoded s new of.log of.rules first result × LeavesReady db kind new) ⊎ (ran_out result ≡ true)

-- a load is answered by the latest version that was read, with the log and its rules, and the contents stay; or memory ran out
abbrev pub LoadDbEnds : {T C R X : Type 0} → (C → List ℕ → Result T SlateDBError) → LogKind → List ℕ
    → (Sequenced T C → R → Result (Option (ℕ × T)) SlateDBError → Result X SlateDBError) → Store → Told → Result X SlateDBError → Type 0
LoadDbEnds {T} {C} {R} decoded kind db answer s new result =
    ((of : LogOf T C R kind db) × AnswersBy (decoded of.log.codec) db kind s (answer of.log of.rules) result × (new.contents ≡ Some s)) ⊎ (ran_out result ≡ true)
