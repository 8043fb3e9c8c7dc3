-- A step of the removal, and one of what follows it, as a step of the whole pass.
use Rattle.std.specs.Prelude.{◌≡◌, ℤ, Option, Err}
use Rattle.std.proofs.Common.{inl, inr, ap, sym, ◌∙◌}
use Rattle.slate_txn_changes.specs.LogWorks.{WorkGoes}
use Rattle.slate_txn_changes.specs.declared.log_work.LogWork.{LogWork}
use Rattle.slate_ids.specs.declared.error.SlateDBError.{SlateDBError}
use Rattle.slate_ids.specs.declared.gc_message.GcMessage.{GcMessage}
use Rattle.slate_model.specs.declared.manifest.Manifest.{Manifest}
use Rattle.slate_gc_passes.specs.GcPhase.{collect_on, moment_after, removed_goes}
use Rattle.slate_gc_passes.specs.Pass.{PassGoes}
use Rattle.slate_gc_passes.specs.declared.gc_phase.GcPhase.TheVariants.{Removing, Collecting}
use Rattle.slate_gc_passes.specs.declared.pass_counts.PassCounts.{PassCounts}
use Rattle.slate_gc_passes.specs.declared.pass_phase.PassPhase.{PassPhase}
use Rattle.slate_store.specs.Machines.{GoesOn, Stay, End}
use Rattle.slate_store.specs.declared.step.Step.{Step}
use Rattle.slate_store.specs.declared.step.Step.TheVariants.{Again, Done}

-- a refusal of the removal ends the pass
pub refused : (pass : GcMessage) (out : WorkGoes Manifest) (from to : LogWork Manifest) (e : SlateDBError) → GoesOn out from to (Done (Err e)) → GoesOn (removed_goes pass out) (Removing from) (Removing to) (Done (Err e))
refused pass out from to e (inl gives) = inl (ap (removed_goes pass) gives)
refused pass out from to e (inr held) = inr (held.0, ap Removing held.1)

pub collected : (at new : Option ℤ) (now : ℤ) (out : PassGoes) (from to : PassPhase) (step : Step PassCounts) → new ≡ moment_after at now step → GoesOn out from to step
    → GoesOn (collect_on at now out) (Collecting at from) (Collecting new to) step
collected at new now out from to Again e h = ap (collect_on at now) h ∙ ap (λ (o : Option ℤ). Stay (Collecting o to)) (sym e)
collected at new now out from to (Done r) e (inl h) = inl (ap (collect_on at now) h ∙ ap (λ (o : Option ℤ). End (Collecting o to) r) (sym e))
collected at new now out from to (Done r) e (inr ran) = inr (ran.0, ap (λ (o : Option ℤ). Collecting o to) e ∙ ap (Collecting at) ran.1)
