-- The commit of the value read with another epoch: its own plus one, or a given one.
use Rattle.std.specs.Prelude.{ℕ, ◌+◌, ◌==◌, List, Option, Some, Result, Ok, Err, if◌then◌else◌}
use Rattle.slate_ids.specs.Limits.{last_number}
use Rattle.slate_ids.specs.declared.error.SlateDBError.{SlateDBError}
use Rattle.slate_ids.specs.declared.error.SlateDBError.TheVariants.{Exhausted}
use Rattle.slate_txn_log.specs.CommitPhase.{prepared}
use Rattle.slate_txn_log.specs.Fence.{unless, fence}
use Rattle.slate_txn_log.specs.declared.commit_phase.CommitPhase.{CommitPhase}
use Rattle.slate_txn_log.specs.declared.right.Right.{Right}
use Rattle.slate_txn_log.specs.declared.right.Right.TheVariants.{Plain}

-- the commit of the value read with its epoch plus one, where there is such an epoch
abbrev pub raised : {T : Type 0} → (ℕ → T → T → Right → Option SlateDBError) → (T → Result (List ℕ) SlateDBError) → (T → ℕ) → (T → ℕ → T) → ℕ → T → Result (CommitPhase T) SlateDBError
raised refusal encoded epoch with_epoch id value =
    if epoch value == last_number then Err (Exhausted (epoch value)) else prepared refusal encoded id value (with_epoch value (epoch value + 1)) Plain

-- the value with this epoch, as a change of the value read
abbrev pub this_epoch : {T : Type 0} → (T → ℕ → T) → ℕ → ℕ → T → Result (Option T) SlateDBError
this_epoch with_epoch own id value = Ok (Some (with_epoch value own))

-- the commit of the value read with this epoch, unless its own is greater
abbrev pub epoch_commit : {T : Type 0} → (ℕ → T → T → Right → Option SlateDBError) → (T → Result (List ℕ) SlateDBError) → (T → ℕ) → (T → ℕ → T) → ℕ
    → Right → ℕ → T → Result (CommitPhase T) SlateDBError
epoch_commit refusal encoded epoch with_epoch own right id value = unless (fence own (epoch value)) (prepared refusal encoded id value (with_epoch value own) right)
