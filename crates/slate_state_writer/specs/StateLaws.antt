-- What the calls of a compactor keep to, in words of what is held and of what stands.
use Rattle.std.specs.Prelude.{◌≡◌, ◌⊎◌, ℕ, ℤ, Bool, true, false, Option, Some, Err}
use Rattle.slate_state_calls.specs.Commits.{committing}
use Rattle.slate_state_calls.specs.StateSteps.{StateAt, state_goes}
use Rattle.slate_state_calls.specs.declared.state_phase.ManifestStep.TheVariants.{Merge}
use Rattle.slate_state_calls.specs.declared.state_phase.RecordStep.{RecordStep}
use Rattle.slate_state_calls.specs.declared.state_phase.RecordStep.TheVariants.{Fetch, Record}
use Rattle.slate_state_calls.specs.declared.state_phase.StatePhase.{StatePhase}
use Rattle.slate_state_calls.specs.declared.state_phase.StatePhase.TheVariants.{OnManifest, OnRecord}
use Rattle.slate_state_calls.specs.declared.state_start.TreesWrite.{TreesWrite}
use Rattle.slate_ids.specs.declared.error.SlateDBError.{SlateDBError}
use Rattle.slate_txn_log.specs.declared.commit_phase.CommitPhase.TheVariants.{Bounding}
use Rattle.slate_model.specs.declared.manifest.Manifest.{Manifest}
use Rattle.slate_store.specs.Machines.{Stay, End}
use Rattle.slate_store.specs.declared.store_answer.StoreAnswer.{StoreAnswer}
use Rattle.slate_state_updates.specs.declared.manifest_change.ManifestChange.{ManifestChange}

-- the manifest with the local trees stands, and the record is to be written after it
abbrev pub TreesStand : StateAt → Type 0
TreesStand at = (write : TreesWrite) × (change : Option ManifestChange) × (made : ℤ) × (n : ℕ) × (m : Manifest)
    × (at.0 ≡ OnManifest (Merge write) (committing change made (Bounding n m))) × (write.whole ≡ true)

-- whether a call is at the record, after the manifest with the local trees
abbrev pub after_trees : RecordStep → Bool
after_trees (Fetch (Some write)) = true
after_trees (Record (Some write)) = true
after_trees _ = false

abbrev pub is_at_record : StatePhase → Bool
is_at_record (OnRecord step p) = after_trees step
is_at_record _ = false

-- a refusal leaves the local state as it was
abbrev pub RefusalsKeepLocal : Type 0
RefusalsKeepLocal = (moment : ℤ) (at to : StateAt) (answer : StoreAnswer) (e : SlateDBError) → state_goes moment at answer ≡ End to (Err e) → to.1.local ≡ at.1.local

-- a call that goes on leaves it too, but where the manifest with the local trees stands
abbrev pub StepsKeepLocal : Type 0
StepsKeepLocal = (moment : ℤ) (at to : StateAt) (answer : StoreAnswer) → state_goes moment at answer ≡ Stay to → (to.1.local ≡ at.1.local) ⊎ TreesStand at

-- a write of the whole state comes to the record only where the manifest with the local trees stands
abbrev pub RecordFollows : Type 0
RecordFollows = (moment : ℤ) (at to : StateAt) (answer : StoreAnswer) → state_goes moment at answer ≡ Stay to → is_at_record to.0 ≡ true → (is_at_record at.0 ≡ true) ⊎ TreesStand at
