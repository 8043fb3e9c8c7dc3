-- A view that is told in place of what was read hides no want of memory and no fault.
use Rattle.std.specs.Prelude.{◌≡◌, ℕ, Option, Some, None, Result, Ok, Err, refl}
use Rattle.std.proofs.Common.{ap, inl, inr, ◌∙◌}
use Rattle.slate_state_reader.specs.BothReads.{BothBegan, BothRan}
use Rattle.slate_state_reader.specs.declared.both_phase.Both.{Both}
use Rattle.slate_state_logs.specs.RecordLog.{record_of_bytes}
use Rattle.slate_state_reader.specs.StateViews.{viewed, view_with, Logs, ViewRead}
use Rattle.slate_ids.specs.Answers.{OrMemory, ran_out}
use Rattle.slate_ids.specs.declared.error.SlateDBError.{SlateDBError}
use Rattle.slate_ids.specs.declared.error.SlateDBError.TheVariants.{StoreFault}
use Rattle.slate_state_logs.specs.ManifestLog.{manifest_decoded}
use Rattle.slate_model.specs.declared.manifest.Manifest.{Manifest}
use Rattle.slate_model_records.specs.Records.{Record}
use Rattle.slate_txn_laws.specs.Replies.{Faithful}
use Rattle.slate_store.specs.StoreCalls.{Told}

with_memory : (both : Both Record Manifest) (one : Option (ℕ × Record)) (other : Option (ℕ × Manifest)) → ran_out (view_with one other) ≡ ran_out {X = Both Record Manifest} (Ok both)
with_memory both one None = refl
with_memory both one (Some m) = refl

with_fault : (both : Both Record Manifest) (one : Option (ℕ × Record)) (other : Option (ℕ × Manifest)) → view_with one other ≡ Err StoreFault → Ok both ≡ Err StoreFault
with_fault both one None h = absurd cc
with_fault both one (Some m) h = absurd cc

memory : (r : Result (Both Record Manifest) SlateDBError) → ran_out (viewed r) ≡ ran_out r
memory (Ok both) = with_memory both both.one both.other
memory (Err e) = refl

fault : (r : Result (Both Record Manifest) SlateDBError) → viewed r ≡ Err StoreFault → r ≡ Err StoreFault
fault (Ok both) h = with_fault both both.one both.other h
fault (Err e) h = let both : e ≡ StoreFault = cc in ap (λ (k : SlateDBError). Err k) both

pub viewed_faithful : Faithful viewed
viewed_faithful = record { memory = memory; fault = fault }

-- a read that is told as a view
pub read_so : (logs : Logs) (tries : ℕ) (old new : Told) (r : Result (Both Record Manifest) SlateDBError)
    → OrMemory r (BothBegan record_of_bytes manifest_decoded logs.records logs.manifests tries old new) (BothRan record_of_bytes manifest_decoded logs.records logs.manifests tries old new r) → ViewRead logs tries old new (viewed r)
read_so logs tries old new r (inl ran) = inl (r, ran, refl)
read_so logs tries old new r (inr m) = inr (viewed_faithful.memory r ∙ m.0, m.1)
