-- A whole pass ends in a fault only where the store faults, and memory runs out after a call that reads.
use Rattle.std.specs.Prelude.{◌≡◌, ℕ, ℤ, true, List, Option, Some, None, Result, Ok, Err, refl}
use Rattle.std.proofs.Common.{inl, inr, ap, sym, subst}
use Rattle.slate_txn_changes.proofs.Sound as works
use Rattle.slate_txn_changes.proofs.Sound.{IsFault}
use Rattle.slate_txn_changes.proofs.WorkFaults.{work_sound}
use Rattle.slate_txn_changes.specs.LogWorks.{WorkGoes, work_due, work_goes}
use Rattle.slate_txn_changes.specs.declared.log_work.LogEnd.TheVariants.{Absent, Unchanged, Committed}
use Rattle.slate_txn_changes.specs.declared.log_work.LogWork.TheVariants.{Reading, Committing}
use Rattle.slate_ids.specs.declared.error.SlateDBError.{SlateDBError}
use Rattle.slate_ids.specs.declared.error.SlateDBError.TheVariants.{LatestTransactionalObjectVersionMissing}
use Rattle.slate_ids.specs.declared.gc_message.GcMessage.{GcMessage}
use Rattle.slate_ids.specs.declared.gc_message.GcMessage.TheVariants as named
use Rattle.slate_txn_log.proofs.Faults.{OnlyFaults, Fine, fine_stay, fine_err, fine_ok}
use Rattle.slate_txn_log.proofs.Steps.{is_reading, reads_only}
use Rattle.slate_txn_log.specs.Due.{WhereOut}
use Rattle.slate_txn_log.specs.declared.log_kind.LogKind.TheVariants as logs
use Rattle.slate_model.specs.declared.manifest.Manifest.{Manifest}
use Rattle.slate_gc_passes.proofs.PassFaults.{AreFine, Sound, pass_faults, reads_there}
use Rattle.slate_gc_passes.proofs.Starts.{removal_well}
use Rattle.slate_gc_passes.specs.GcPhase.{GcGoes, WroteNothing, collect_on, collects, gc_asks, gc_due, gc_goes, may_run_out, moment_of_pass, removed_goes}
use Rattle.slate_gc_passes.specs.Pass.{PassGoes, first_phase, pass_due, pass_goes}
use Rattle.slate_gc_passes.specs.Ways.{Ways}
use Rattle.slate_gc_passes.specs.declared.gc_phase.GcPhase.{GcPhase}
use Rattle.slate_gc_passes.specs.declared.gc_phase.GcPhase.TheVariants.{Removing, Collecting}
use Rattle.slate_gc_passes.specs.declared.pass_settings.PassSettings.{PassSettings}
use Rattle.slate_store.specs.StoreCalls.{IsAnswerTo, Told}
use Rattle.slate_store.specs.Machines.{Goes, Stay, End, IsEnd}
use Rattle.slate_store.specs.declared.step.Step.{Step}
use Rattle.slate_store.specs.declared.step.Step.TheVariants.{Again, Done}
use Rattle.slate_store.specs.declared.store_answer.StoreAnswer.{StoreAnswer}
use Rattle.slate_store.specs.declared.store_answer.StoreAnswer.TheVariants.{Fault}
use Rattle.slate_state_updates.specs.ManifestChanges.{commit_of}
use Rattle.slate_state_updates.specs.declared.manifest_change.ManifestChange.TheVariants.{DropExpired}

abbrev FineGc : GcGoes → Type 0
FineGc out = Fine gc_due out

-- a call is due at the first phase of a pass
first_due : (pass : GcMessage) → pass_due (first_phase pass) ≡ true
first_due named.Manifest = refl
first_due named.Wal = refl
first_due named.WalFence = refl
first_due named.Compacted = refl
first_due named.Compactions = refl
first_due named.Detach = refl

fine_collects : (pass : GcMessage) → FineGc (collects pass)
fine_collects pass = fine_stay gc_due (Collecting None (first_phase pass)) (first_due pass)

-- ---- the removal

fine_removed : (pass : GcMessage) (out : WorkGoes Manifest) → Fine work_due out → FineGc (removed_goes pass out)
fine_removed pass (Stay work) fine = fine_stay gc_due (Removing work) (fine.stays work refl)
fine_removed pass (End work (Ok Absent)) fine = fine_err gc_due (Removing work) LatestTransactionalObjectVersionMissing (λ same. absurd cc)
fine_removed pass (End work (Ok (Unchanged n m))) fine = fine_collects pass
fine_removed pass (End work (Ok (Committed n m))) fine = fine_collects pass
fine_removed pass (End work (Err e)) fine = fine_err gc_due (Removing work) e (λ same. fine.ends work (ap (λ (k : SlateDBError). End work (Err k)) same))

removed_ends : (pass : GcMessage) (out : WorkGoes Manifest) → IsFault out → IsEnd (removed_goes pass out)
removed_ends pass (Stay work) fault = absurd fault
removed_ends pass (End work (Ok end)) fault = absurd fault
removed_ends pass (End work (Err e)) fault = tt

sound_removed : (pass : GcMessage) (answer : StoreAnswer) (out : WorkGoes Manifest) → works.Sound work_due answer out → Sound gc_due answer (removed_goes pass out)
sound_removed pass answer out (inl f) = inl (f.0, removed_ends pass out f.1)
sound_removed pass answer out (inr fine) = inr (fine_removed pass out fine)

-- ---- what follows

fine_collect : (at : Option ℤ) (now : ℤ) (out : PassGoes) → Fine pass_due out → FineGc (collect_on at now out)
fine_collect at now (Stay phase) fine = fine_stay gc_due (Collecting (Some now) phase) (fine.stays phase refl)
fine_collect at now (End phase (Ok counts)) fine = fine_ok gc_due (Collecting at phase) counts
fine_collect at now (End phase (Err e)) fine = fine_err gc_due (Collecting at phase) e (λ same. fine.ends phase (ap (λ (k : SlateDBError). End phase (Err k)) same))

collect_ends : (at : Option ℤ) (now : ℤ) (out : PassGoes) → IsEnd out → IsEnd (collect_on at now out)
collect_ends at now (Stay phase) h = absurd h
collect_ends at now (End phase r) h = tt

sound_collect : (at : Option ℤ) (now : ℤ) (answer : StoreAnswer) (out : PassGoes) → Sound pass_due answer out → Sound gc_due answer (collect_on at now out)
sound_collect at now answer out (inl f) = inl (f.0, collect_ends at now out f.1)
sound_collect at now answer out (inr fine) = inr (fine_collect at now out fine)

by_phase : (db : List ℕ) (ways : Ways) → AreFine ways → (settings : PassSettings) (moment : ℤ) (p : GcPhase) (answer : StoreAnswer) → gc_due p ≡ true → IsAnswerTo (gc_asks db settings.pass p) answer
    → Sound gc_due answer (gc_goes ways settings moment p answer)
by_phase db ways good settings moment (Removing work) answer due kind =
    sound_removed settings.pass answer (work_goes logs.Manifest ways.manifest_of (commit_of ways.bytes_of DropExpired) moment work answer)
    (work_sound db logs.Manifest ways.manifest_of (commit_of ways.bytes_of DropExpired) good.manifests (λ now n m. removal_well ways.bytes_of good.bytes now n m) moment work answer due kind)
by_phase db ways good settings moment (Collecting at phase) answer due kind =
    let now = moment_of_pass at moment in
    let only = pass_faults db ways good settings now in
    sound_collect at now answer (pass_goes ways settings now phase answer) (only.sound phase answer due kind)

-- a whole pass ends in a fault only where the store faults
pub gc_faults : (db : List ℕ) (ways : Ways) → AreFine ways → (settings : PassSettings) (moment : ℤ) → OnlyFaults gc_due (gc_asks db settings.pass) (gc_goes ways settings moment)
gc_faults db ways good settings moment = record { sound = λ p answer. by_phase db ways good settings moment p answer }

reads_here : (db : List ℕ) (pass : GcMessage) (p : GcPhase) → may_run_out p ≡ true → is_reading (gc_asks db pass p) ≡ true
reads_here db pass (Removing (Reading phase)) h = reads_only db logs.Manifest phase
reads_here db pass (Removing (Committing now phase)) h = absurd cc
reads_here db pass (Collecting at phase) h = reads_there db pass phase h

-- where memory runs out after the call, the call reads
pub where_reads : {R : Type 0} (db : List ℕ) (pass : GcMessage) (p : GcPhase) (step : Step R) → WhereOut step (may_run_out p ≡ true) → WhereOut step (is_reading (gc_asks db pass p) ≡ true)
where_reads db pass p Again h = tt
where_reads db pass p (Done r) h = λ out. reads_here db pass p (h out)

-- and nothing was written
pub wrote_nothing : {R : Type 0} (old new : Told) (db : List ℕ) (pass : GcMessage) (p : GcPhase) (step : Step R) → WhereOut step (may_run_out p ≡ true) → WhereOut step (WroteNothing old new (gc_asks db pass p))
wrote_nothing old new db pass p Again h = tt
wrote_nothing old new db pass p (Done r) h = λ out. inr (reads_here db pass p (h out))
