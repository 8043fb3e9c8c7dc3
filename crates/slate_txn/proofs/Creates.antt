-- From a commit to a creation.
use Rattle.std.specs.Prelude.{◌≡◌, ℕ, Result, Ok, Err, refl}
use Rattle.slate_ids.specs.Answers.{ran_out}
use Rattle.slate_ids.specs.declared.error.SlateDBError.{SlateDBError}
use Rattle.slate_txn_log.specs.declared.sequenced.Sequenced.{Sequenced}
use Rattle.slate_txn.specs.Creating.{created}
use Rattle.slate_txn.proofs.Standing.{Leaves}

pub created_out : {T C R : Type 0} (sequenced : Sequenced T C) (rules : R) (reply : Result (ℕ × T) SlateDBError) → ran_out (created sequenced rules reply) ≡ ran_out reply
created_out sequenced rules (Ok version) = refl
created_out sequenced rules (Err e) = refl

pub created_leaves : {T C R : Type 0} (sequenced : Sequenced T C) (rules : R) (same stands : Type 0) (reply : Result (ℕ × T) SlateDBError) → Leaves same stands reply → Leaves same stands (created sequenced rules reply)
created_leaves sequenced rules same stands (Ok version) leaves = record { put = leaves.put; left = tt; either = tt }
created_leaves sequenced rules same stands (Err e) leaves = record { put = tt; left = leaves.left; either = leaves.either }
