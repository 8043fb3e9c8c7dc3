-- What a commit leaves in the store.
use Rattle.std.specs.Prelude.{◌≡◌, ◌||◌, ℤ, Bool, true, false, List, ℕ, Some, Result, Ok, Err}
use Rattle.slate_ids.specs.Answers.{is_memory}
use Rattle.slate_ids.specs.declared.error.SlateDBError.{SlateDBError}
use Rattle.slate_ids.specs.declared.error.SlateDBError.TheVariants.{TransactionalObjectVersionExists, StoreFault, Corrupt}
use Rattle.slate_ids.specs.declared.error.FormatName.TheVariants.{Boundary as BoundaryFormat}
use Rattle.slate_store.specs.StoreCalls.{Told, contents_after}
use Rattle.slate_store.specs.declared.mark.Mark.TheVariants.{Good}
use Rattle.slate_txn_log.specs.CommitPhase.{commit_asks}
use Rattle.slate_txn_log.specs.declared.commit_phase.CommitPhase.{CommitPhase}
use Rattle.slate_txn_log.specs.declared.log_kind.LogKind.{LogKind}
use Rattle.slate_txn.specs.Holder.{Holder}

-- the store's contents are as before
abbrev pub SameContents : Told → Told → Type 0
SameContents old new = new.contents ≡ old.contents

-- they are those of the whole effect of the put of this commit
abbrev pub PutStands : {T : Type 0} → List ℕ → LogKind → ℤ → Told → Told → CommitPhase T → Type 0
PutStands db log moment old new commit = new.contents ≡ contents_after Good (commit_asks db log commit) moment old.contents

-- the put's answer was lost or the store faulted, or the boundary read after it was at or above its number or couldn't be decoded
abbrev pub after_put : SlateDBError → Bool
after_put StoreFault = true
after_put (TransactionalObjectVersionExists number (Some boundary)) = true
after_put (Corrupt BoundaryFormat) = true
after_put _ = false

-- the refusals after which the put may stand: these, and running out of memory
abbrev pub may_stand : SlateDBError → Bool
may_stand e = is_memory e || after_put e

-- the put of a commit that began stands
abbrev pub CommitStands : {T : Type 0} → List ℕ → LogKind → ℤ → Told → Told → Result (CommitPhase T) SlateDBError → Type 0
CommitStands db log moment old new (Ok commit) = PutStands db log moment old new commit
CommitStands db log moment old new (Err e) = ⊥

-- the same of the commit of an update
abbrev pub UpdateStands : {T C R : Type 0} → Holder T C R → ℤ → Told → Told → Result (CommitPhase T) SlateDBError → Type 0
UpdateStands holder moment old new start = CommitStands holder.sequenced.db holder.sequenced.log moment old new start
