-- A commit that is refused before its first call, or runs to its end.
use Rattle.std.specs.Prelude.{◌≡◌, ℕ, ℤ, List, Result, Ok, Err}
use Rattle.std.proofs.Common.{◌⊎◌}
use Rattle.slate_ids.specs.Answers.{OrMemory}
use Rattle.slate_ids.specs.declared.error.SlateDBError.{SlateDBError}
use Rattle.slate_store.specs.StoreCalls.{Told}
use Rattle.slate_txn_log.specs.Commit.{Committed, CommitBegan}
use Rattle.slate_txn_log.specs.declared.commit_phase.CommitPhase.{CommitPhase}
use Rattle.slate_txn_log.specs.declared.log_kind.LogKind.{LogKind}

-- a commit that is refused at once makes no call; else it ran, and this is the answer to what it replied
abbrev pub StartRan : {T X : Type 0} → List ℕ → LogKind → (Result (ℕ × T) SlateDBError → Result X SlateDBError) → ℤ → Told → Told → Result (CommitPhase T) SlateDBError → Result X SlateDBError → Type 0
StartRan db log answer moment old new (Err e) result = (result ≡ Err e) × (new ≡ old)
StartRan db log answer moment old new (Ok commit) result = (reply : Result (ℕ × _) SlateDBError) × Committed db log moment old new commit reply × (answer reply ≡ result)

-- memory ran out before the first call, or within the commit
abbrev pub StartBegan : {T : Type 0} → List ℕ → LogKind → ℤ → Told → Told → Result (CommitPhase T) SlateDBError → Type 0
StartBegan db log moment old new start = (new ≡ old) ⊎ ((commit : CommitPhase _) × (start ≡ Ok commit) × CommitBegan db log moment old new commit)

-- a whole commit, from its start on
abbrev pub Starts : {T X : Type 0} → List ℕ → LogKind → (Result (ℕ × T) SlateDBError → Result X SlateDBError) → ℤ → Told → Told → Result (CommitPhase T) SlateDBError → Result X SlateDBError → Type 0
Starts db log answer moment old new start result = OrMemory result (StartBegan db log moment old new start) (StartRan db log answer moment old new start result)
