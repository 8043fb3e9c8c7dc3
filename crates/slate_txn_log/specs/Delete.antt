-- The plain calls that delete a version.
use Rattle.std.specs.Prelude.{ℕ, pos, Result, Ok, Err}
use Rattle.slate_ids.specs.declared.error.SlateDBError.{SlateDBError}
use Rattle.slate_ids.specs.declared.error.SlateDBError.TheVariants.{StoreFault}
use Rattle.slate_store.specs.StoreCalls.{Told}
use Rattle.slate_store.specs.CallRuns.{Ran, Began}
use Rattle.slate_store.specs.declared.store_answer.StoreAnswer.{StoreAnswer}
use Rattle.slate_store.specs.declared.store_answer.StoreAnswer.TheVariants.{Deleted}
use Rattle.slate_txn_log.specs.Commit.{never}
use Rattle.slate_txn_log.specs.DeletePhase.{delete_asks, delete_goes}
use Rattle.slate_txn_log.specs.declared.delete_phase.DeletePhase.{DeletePhase}
use Rattle.slate_txn_log.specs.declared.delete_phase.DeletePhase.TheVariants.{Bounding}
use Rattle.slate_txn_log.specs.declared.sequenced.Sequenced.{Sequenced}

-- the deletion ran
abbrev pub DeleteRan : {T C : Type 0} → Sequenced T C → ℕ → Told → Told → Result (Unit {0}) SlateDBError → Type 0
DeleteRan sequenced n old new result =
    (to : DeletePhase) × Ran never (delete_asks sequenced.db sequenced.log) delete_goes (pos 0) 1 old new (Bounding n) to result

-- memory ran out within the deletion
abbrev pub DeleteBegan : {T C : Type 0} → Sequenced T C → ℕ → Told → Told → Type 0
DeleteBegan sequenced n old new =
    (to : DeletePhase) × Began never (delete_asks sequenced.db sequenced.log) delete_goes (pos 0) 1 old new (Bounding n) to

-- the reply to the answer to a delete; any other answer is a fault
abbrev pub deleted_reply : StoreAnswer → Result (Unit {0}) SlateDBError
deleted_reply Deleted = Ok tt
deleted_reply answer = Err StoreFault
