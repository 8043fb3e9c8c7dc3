-- A whole pass: the expired checkpoints are removed, by a change of the latest manifest; then it collects.
use Rattle.std.specs.Prelude.{◌≡◌, ◌⊎◌, ℕ, ℤ, Bool, true, List, Option, Some, None, Result, Ok, Err}
use Rattle.slate_txn_changes.specs.LogWorks as works
use Rattle.slate_txn_changes.specs.LogWorks.{WorkGoes, reads_still, work_asks, work_due, work_goes, work_start}
use Rattle.slate_txn_changes.specs.declared.log_work.LogEnd.TheVariants.{Absent, Unchanged, Committed}
use Rattle.slate_ids.specs.declared.error.SlateDBError.{SlateDBError}
use Rattle.slate_ids.specs.declared.error.SlateDBError.TheVariants.{LatestTransactionalObjectVersionMissing}
use Rattle.slate_ids.specs.declared.gc_message.GcMessage.{GcMessage}
use Rattle.slate_txn_log.specs.CommitPhase.{CommitGoes}
use Rattle.slate_txn_log.specs.ReadPhase.{Reply}
use Rattle.slate_txn_log.specs.declared.commit_phase.CommitPhase.{CommitPhase}
use Rattle.slate_txn_log.specs.declared.log_kind.LogKind.TheVariants as logs
use Rattle.slate_model.specs.declared.manifest.Manifest.{Manifest}
use Rattle.slate_gc_passes.specs.Pass.{PassGoes, first_phase, is_reading_phase, pass_asks, pass_due, pass_goes}
use Rattle.slate_gc_passes.specs.Ways.{Ways}
use Rattle.slate_gc_passes.specs.declared.gc_phase.GcPhase.{GcPhase}
use Rattle.slate_gc_passes.specs.declared.gc_phase.GcPhase.TheVariants.{Removing, Collecting}
use Rattle.slate_gc_passes.specs.declared.pass_counts.PassCounts.{PassCounts}
use Rattle.slate_gc_passes.specs.declared.pass_settings.PassSettings.{PassSettings}
use Rattle.slate_store.specs.StoreCalls.{Told, is_reading}
use Rattle.slate_store.specs.Machines.{Goes, Stay, End, Steps}
use Rattle.slate_store.specs.declared.step.Step.{Step}
use Rattle.slate_store.specs.declared.step.Step.TheVariants.{Again, Done}
use Rattle.slate_store.specs.declared.store_answer.StoreAnswer.{StoreAnswer}
use Rattle.slate_store.specs.declared.store_call.StoreCall.{StoreCall}
use Rattle.slate_state_updates.specs.ManifestChanges.{commit_of}
use Rattle.slate_state_updates.specs.declared.manifest_change.ManifestChange.TheVariants.{DropExpired}

-- a pass at its start
abbrev pub gc_start : GcPhase
gc_start = Removing work_start

-- the one call of each phase
abbrev pub gc_asks : List ℕ → GcMessage → GcPhase → StoreCall
gc_asks db pass (Removing work) = work_asks db logs.Manifest work
gc_asks db pass (Collecting at phase) = pass_asks db pass phase

-- whether a call is due
abbrev pub gc_due : GcPhase → Bool
gc_due (Removing work) = work_due work
gc_due (Collecting at phase) = pass_due phase

-- where memory may run out after the call: while the pass reads
abbrev pub may_run_out : GcPhase → Bool
may_run_out (Removing work) = reads_still work
may_run_out (Collecting at phase) = is_reading_phase phase

-- no call was made, or one that only reads
abbrev pub WroteNothing : Told → Told → StoreCall → Type 0
WroteNothing old new call = (new ≡ old) ⊎ (is_reading call ≡ true)

-- how a whole pass goes on
abbrev pub GcGoes : Type 0
GcGoes = Goes GcPhase PassCounts

-- the pass is to collect, and has made no call for it
abbrev pub collects : GcMessage → GcGoes
collects pass = Stay (Collecting None (first_phase pass))

-- after a step of the removal: once its change is committed, or made nothing, the pass collects; there has to be a manifest
abbrev pub removed_goes : GcMessage → WorkGoes Manifest → GcGoes
removed_goes pass (Stay work) = Stay (Removing work)
removed_goes pass (End work (Ok Absent)) = End (Removing work) (Err LatestTransactionalObjectVersionMissing)
removed_goes pass (End work (Ok (Unchanged n m))) = collects pass
removed_goes pass (End work (Ok (Committed n m))) = collects pass
removed_goes pass (End work (Err e)) = End (Removing work) (Err e)

-- so after a step of its read, at a moment
abbrev pub read_on : (Manifest → Result (List ℕ) SlateDBError) → GcMessage → ℤ → Reply Manifest → GcGoes
read_on bytes_of pass now out = removed_goes pass (works.read_on (commit_of bytes_of DropExpired) now out)

-- after the read's last one, by the commit of what the change makes of this version
abbrev pub removal_goes : GcMessage → ℤ → ℕ → Manifest → Result (Option (CommitPhase Manifest)) SlateDBError → GcGoes
removal_goes pass now n m commit = removed_goes pass (works.change_goes now n m commit)

-- and after a step of its commit
abbrev pub commit_on : GcMessage → ℤ → CommitGoes Manifest → GcGoes
commit_on pass made out = removed_goes pass (works.commit_on made out)

-- after a step of what follows: once it made a call the pass has its moment
abbrev pub collect_on : Option ℤ → ℤ → PassGoes → GcGoes
collect_on at now (Stay phase) = Stay (Collecting (Some now) phase)
collect_on at now (End phase r) = End (Collecting at phase) r

-- the moment of a pass: that of its first call after the removal
abbrev pub moment_of_pass : Option ℤ → ℤ → ℤ
moment_of_pass None moment = moment
moment_of_pass (Some now) moment = now

-- the moment that a pass has after a step
abbrev pub moment_after : {R : Type 0} → Option ℤ → ℤ → Step R → Option ℤ
moment_after at now Again = Some now
moment_after at now (Done r) = at

-- how the whole pass goes on from the answer at this moment
abbrev pub gc_goes : Ways → PassSettings → ℤ → GcPhase → StoreAnswer → GcGoes
gc_goes ways settings moment (Removing work) answer = removed_goes settings.pass (work_goes logs.Manifest ways.manifest_of (commit_of ways.bytes_of DropExpired) moment work answer)
gc_goes ways settings moment (Collecting at phase) answer = collect_on at (moment_of_pass at moment) (pass_goes ways settings (moment_of_pass at moment) phase answer)

-- what next does, by these ways and settings at a moment
abbrev pub GcSteps : List ℕ → Ways → PassSettings → ℤ → Told → Told → GcPhase → GcPhase → Step PassCounts → Type 0
GcSteps db ways settings moment old new from to step = Steps old new (gc_asks db settings.pass from) moment (gc_goes ways settings moment from) from to step
