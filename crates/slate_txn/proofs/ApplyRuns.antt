-- Laws of apply that its proofs take.
use Rattle.std.specs.Prelude.{◌≡◌, true, refl}
use Rattle.slate_store.specs.declared.step.Step.{Step}
use Rattle.slate_store.specs.declared.step.Step.TheVariants.{Again, Done}
use Rattle.slate_txn.specs.Apply.{apply_asks, is_reading_phase}
use Rattle.slate_txn_log.specs.CommitPhase.{commit_due, is_putting}
use Rattle.slate_txn_log.specs.Due.{WhereOut}
use Rattle.slate_txn.specs.Holder.{Holder}
use Rattle.slate_txn_log.proofs.Steps.{reads_only, is_reading}
use Rattle.slate_txn.specs.declared.apply.ApplyPhase.{ApplyPhase}
use Rattle.slate_txn.specs.declared.apply.ApplyPhase.TheVariants.{Reading, Committing}
use Rattle.slate_txn_log.specs.declared.commit_phase.CommitPhase.{CommitPhase}
use Rattle.slate_txn_log.specs.declared.commit_phase.CommitPhase.TheVariants.{Putting, Bounding, Over}

-- a put that is due is a call that is due
pub putting_due : {T : Type 0} (commit : CommitPhase T) → is_putting commit ≡ true → commit_due commit ≡ true
putting_due (Putting n bytes value) h = refl
putting_due (Bounding n value) h = refl
putting_due Over h = absurd cc

-- a phase that reads asks for a list or a get
apply_reads : {T C R : Type 0} (phase : ApplyPhase T) (holder : Holder T C R) → is_reading_phase phase ≡ true → is_reading (apply_asks (phase, holder)) ≡ true
apply_reads (Reading read) holder h = reads_only holder.sequenced.db holder.sequenced.log read
apply_reads (Committing commit) holder h = absurd cc

pub where_reads : {T C R X : Type 0} (phase : ApplyPhase T) (holder : Holder T C R) (step : Step X) → WhereOut step (is_reading_phase phase ≡ true) → WhereOut step (is_reading (apply_asks (phase, holder)) ≡ true)
where_reads phase holder Again h = tt
where_reads phase holder (Done r) h = λ out. apply_reads phase holder (h out)
