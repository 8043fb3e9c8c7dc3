-- Changes of a version: what is committed of what a change makes of it.
use Rattle.std.specs.Prelude.{ℕ, ◌+◌, ◌==◌, List, Option, Some, None, Result, Ok, Err, if◌then◌else◌}
use Rattle.slate_ids.specs.Limits.{last_number}
use Rattle.slate_ids.specs.declared.error.SlateDBError.{SlateDBError}
use Rattle.slate_ids.specs.declared.error.SlateDBError.TheVariants.{Exhausted}
use Rattle.slate_txn_log.specs.CommitPhase.{prepared}
use Rattle.slate_txn_log.specs.declared.commit_phase.CommitPhase.{CommitPhase}
use Rattle.slate_txn_log.specs.declared.right.Right.{Right}

-- the value with its epoch plus one, as a change of the value read
abbrev pub next_epoch : {T : Type 0} → (T → ℕ) → (T → ℕ → T) → ℕ → T → Result (Option T) SlateDBError
next_epoch epoch with_epoch id value = if epoch value == last_number then Err (Exhausted (epoch value)) else Ok (Some (with_epoch value (epoch value + 1)))

-- a commit, where it is not refused
abbrev pub some_commit : {T : Type 0} → Result (CommitPhase T) SlateDBError → Result (Option (CommitPhase T)) SlateDBError
some_commit (Ok commit) = Ok (Some commit)
some_commit (Err e) = Err e

-- after a change: none is no commit
abbrev pub wanted : {T : Type 0} → (T → Result (CommitPhase T) SlateDBError) → Result (Option T) SlateDBError → Result (Option (CommitPhase T)) SlateDBError
wanted prepare (Err e) = Err e
wanted prepare (Ok None) = Ok None
wanted prepare (Ok (Some value)) = some_commit (prepare value)

-- the commit of what a change makes of a version
abbrev pub renewed : {T : Type 0} → (ℕ → T → Result (Option T) SlateDBError) → (ℕ → T → T → Right → Option SlateDBError)
    → (T → Result (List ℕ) SlateDBError) → Right → ℕ → T → Result (Option (CommitPhase T)) SlateDBError
renewed changed refusal encoded right id value = wanted (λ new. prepared refusal encoded id value new right) (changed id value)
