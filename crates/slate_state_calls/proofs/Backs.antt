-- The last call of a change that ended well was due, and is a list or a get.
use Rattle.std.specs.Prelude.{◌≡◌, ℕ, ℤ, List, true, Option, Result, Ok, refl}
use Rattle.slate_txn_changes.specs.LogWorks.{put_back, work_asks, work_due, work_goes}
use Rattle.slate_txn_changes.specs.declared.log_work.LogEnd.{LogEnd}
use Rattle.slate_txn_changes.specs.declared.log_work.LogEnd.TheVariants.{Absent, Unchanged, Committed}
use Rattle.slate_txn_changes.specs.declared.log_work.LogWork.{LogWork}
use Rattle.slate_txn_changes.specs.declared.log_work.LogWork.TheVariants.{Reading, Committing}
use Rattle.slate_ids.specs.declared.error.SlateDBError.{SlateDBError}
use Rattle.slate_txn_log.proofs.Steps.{reads_only}
use Rattle.slate_txn_log.specs.declared.commit_phase.CommitPhase.{CommitPhase}
use Rattle.slate_txn_log.specs.declared.commit_phase.CommitPhase.TheVariants as commits
use Rattle.slate_txn_log.specs.declared.log_kind.LogKind.{LogKind}
use Rattle.slate_txn_log.specs.declared.read_phase.ReadPhase.TheVariants as reads
use Rattle.slate_store.specs.StoreCalls.{is_reading}
use Rattle.slate_store.specs.Machines.{End}
use Rattle.slate_store.specs.declared.store_answer.StoreAnswer.{StoreAnswer}

pub back_reads : {V : Type 0} (db : List ℕ) (log : LogKind) (end : LogEnd V) (to : LogWork V) → is_reading (work_asks db log (put_back end to)) ≡ true
back_reads db log Absent to = refl
back_reads db log (Unchanged n v) to = refl
back_reads db log (Committed n v) (Reading phase) = reads_only db log phase
back_reads db log (Committed n v) (Committing made phase) = refl

pub ended_due : {V : Type 0} (log : LogKind) (decoded : List ℕ → Result V SlateDBError) (commit : ℤ → ℕ → V → Result (Option (CommitPhase V)) SlateDBError) (now : ℤ) (work : LogWork V) (answer : StoreAnswer) (to : LogWork V) (end : LogEnd V)
    → work_goes log decoded commit now work answer ≡ End to (Ok end) → work_due work ≡ true
ended_due log decoded commit now (Reading reads.Listing) answer to end h = refl
ended_due log decoded commit now (Reading (reads.Getting n)) answer to end h = refl
ended_due log decoded commit now (Reading (reads.Bounding n v)) answer to end h = refl
ended_due log decoded commit now (Reading reads.Over) answer to end h = absurd cc
ended_due log decoded commit now (Committing made (commits.Putting n bytes v)) answer to end h = refl
ended_due log decoded commit now (Committing made (commits.Bounding n v)) answer to end h = refl
ended_due log decoded commit now (Committing made commits.Over) answer to end h = absurd cc
