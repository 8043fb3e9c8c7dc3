-- What a commit puts: what a change makes of the version read, under its right, unless its fence refuses that version.
use Rattle.std.specs.Prelude.{ℕ, ℤ, List, Option, Some, None, Result, Ok}
use Rattle.slate_ids.specs.declared.error.SlateDBError.{SlateDBError}
use Rattle.slate_ids.specs.declared.error.SlateDBError.TheVariants.{InvalidDBState}
use Rattle.slate_ids.specs.declared.error.StateCause.TheVariants.{NotOpen}
use Rattle.slate_txn_log.specs.Change.{renewed}
use Rattle.slate_txn_log.specs.Fence.{fence, unless}
use Rattle.slate_txn_log.specs.declared.commit_phase.CommitPhase.{CommitPhase}
use Rattle.slate_txn_log.specs.declared.right.Right.{Right}
use Rattle.slate_txn_log.specs.declared.right.Right.TheVariants.{Plain}

-- the commit, by what a change makes at a moment of version n, its right and its fence, and by the rules and the bytes of its log; none, where nothing is to be committed; or why there is none
abbrev pub change_commit : {V : Type 0} → (ℤ → ℕ → V → Result (Option V) SlateDBError) → Right → (V → Option SlateDBError)
    → (ℕ → V → V → Right → Option SlateDBError) → (V → Result (List ℕ) SlateDBError) → ℤ → ℕ → V → Result (Option (CommitPhase V)) SlateDBError
change_commit made right fence refusal encoded now n v = unless (fence v) (renewed (made now) refusal encoded right n v)

-- the refusal of a holder with this epoch, or of one that hasn't opened the database, at a version with that one
abbrev pub holder_fence : Option ℕ → ℕ → Option SlateDBError
holder_fence None read = Some (InvalidDBState NotOpen)
holder_fence (Some own) read = fence own read

-- ---- a change, where there is one

-- what it makes
abbrev pub made_by : {C V : Type 0} → (C → ℤ → ℕ → V → Result (Option V) SlateDBError) → Option C → ℤ → ℕ → V → Result (Option V) SlateDBError
made_by made None now n v = Ok None
made_by made (Some change) now n v = made change now n v

-- its right
abbrev pub right_by : {C : Type 0} → (C → Right) → Option C → Right
right_by right None = Plain
right_by right (Some change) = right change

-- its fence
abbrev pub fence_by : {C V : Type 0} → (C → V → Option SlateDBError) → Option C → V → Option SlateDBError
fence_by fence None v = None
fence_by fence (Some change) v = fence change v
