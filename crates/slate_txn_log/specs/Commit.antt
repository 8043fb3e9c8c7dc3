-- A commit that runs to its end.
use Rattle.std.specs.Prelude.{ℕ, ℤ, Bool, false, List, Result}
use Rattle.slate_ids.specs.declared.error.SlateDBError.{SlateDBError}
use Rattle.slate_store.specs.StoreCalls.{Told}
use Rattle.slate_store.specs.CallRuns.{Ran, Began}
use Rattle.slate_txn_log.specs.CommitPhase.{commit_asks, commit_goes}
use Rattle.slate_txn_log.specs.declared.commit_phase.CommitPhase.{CommitPhase}
use Rattle.slate_txn_log.specs.declared.log_kind.LogKind.{LogKind}

-- a commit never starts again
abbrev pub never : {P : Type 0} → P → Bool
never p = false

-- the commit ran
abbrev pub Committed : {T : Type 0} → List ℕ → LogKind → ℤ → Told → Told → CommitPhase T → Result (ℕ × T) SlateDBError → Type 0
Committed db log moment old new commit result = (to : CommitPhase _) × Ran never (commit_asks db log) commit_goes moment 1 old new commit to result

-- memory ran out within the commit
abbrev pub CommitBegan : {T : Type 0} → List ℕ → LogKind → ℤ → Told → Told → CommitPhase T → Type 0
CommitBegan db log moment old new commit = (to : CommitPhase _) × Began never (commit_asks db log) commit_goes moment 1 old new commit to
