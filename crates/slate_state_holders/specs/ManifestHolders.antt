-- Holders of a manifest: what they commit, and what a checkpoint call answers.
use Rattle.std.specs.Prelude.{ℕ, ℤ, List, Result, Ok, Err, ok_or}
use Rattle.slate_ids.specs.Answers.{Gives}
use Rattle.slate_ids.specs.declared.error.SlateDBError.{SlateDBError}
use Rattle.slate_ids.specs.declared.error.SlateDBError.TheVariants.{CheckpointMissing}
use Rattle.slate_layout.specs.declared.codec.ManifestCodec.{ManifestCodec}
use Rattle.slate_txn_log.specs.declared.right.Right.TheVariants.{Plain}
use Rattle.slate_txn_log.specs.declared.right.Right.{Right}
use Rattle.slate_model.specs.declared.checkpoint.Checkpoint.{Checkpoint}
use Rattle.slate_model.specs.declared.manifest.Manifest.{Manifest}
use Rattle.slate_store.specs.StoreCalls.{Told}
use Rattle.slate_txn.specs.Apply.{Applies, Ways, ways_of}
use Rattle.slate_txn.specs.Changing.{Making}
use Rattle.slate_txn.specs.FencedApplying.{fenced_made}
use Rattle.slate_txn.specs.FencedHolder.{FencedHolder}
use Rattle.slate_txn.specs.Fence.{FencedBy, raising}
use Rattle.slate_txn.specs.Holder.{Holder}
use Rattle.slate_state_updates.specs.ManifestChanges.{made}
use Rattle.slate_state_updates.specs.Checkpoints.{checkpoint_at}
use Rattle.slate_state_updates.specs.Writers.{epoch_of, with_epoch}
use Rattle.slate_state_updates.specs.declared.epochs.ManifestEpochs.{ManifestEpochs}
use Rattle.slate_state_updates.specs.declared.manifest_change.ManifestChange.{ManifestChange}
use Rattle.slate_state_updates.specs.declared.rules.ManifestRules.{ManifestRules}
use Rattle.slate_state_logs.specs.ManifestLog.{manifest_decoded, manifest_encoded, manifest_rules}

-- a holder of a manifest
abbrev pub ManifestHolder : Type 0
ManifestHolder = Holder Manifest ManifestCodec ManifestRules

-- a fenced holder of a manifest
abbrev pub FencedManifest : Type 0
FencedManifest = FencedHolder Manifest ManifestCodec ManifestRules ManifestEpochs

-- the ways of a holder that commits what a function makes of a manifest, under a right
abbrev pub manifest_ways : Making Manifest → Right → Ways Manifest ManifestCodec ManifestRules
manifest_ways changed right = ways_of manifest_decoded manifest_encoded manifest_rules changed right

-- a change that was handed in was committed at a moment, under the plain right, with so many tries
abbrev pub Changed : ManifestChange → ℤ → ℕ → Told → Told → ManifestHolder → ManifestHolder → Result (Unit {0}) SlateDBError → Type 0
Changed change moment tries old new from to result = Applies (manifest_ways (made change moment) Plain) moment tries old new from to result

-- the checkpoint of an id that stands in a manifest
abbrev pub standing : List ℕ → Manifest → Result Checkpoint SlateDBError
standing id m = ok_or (checkpoint_at id m.core.checkpoints) (CheckpointMissing id)

-- the answer to a call whose change was committed, or not: the checkpoint that stands in the manifest then held
abbrev pub answer_of : List ℕ → Manifest → Result (Unit {0}) SlateDBError → Result Checkpoint SlateDBError
answer_of id m (Ok u) = standing id m
answer_of id m (Err e) = Err e

-- a change was committed, and the answer is the checkpoint that stands in the manifest then held, unless memory ran out for the copy
pub record Checkpointed (id : List ℕ) (change : ManifestChange) (moment : ℤ) (tries : ℕ) (old new : Told) (from to : ManifestHolder) (result : Result Checkpoint SlateDBError) : Type 0 where
  pub reply : Result (Unit {0}) SlateDBError
  pub changed : Changed change moment tries old new from to reply
  pub answers : Gives result (answer_of id to.object reply)

-- the same of a fenced holder: a version whose epoch of its kind is above the own one refuses
abbrev pub FencedChanged : ManifestChange → ℤ → ℕ → Told → Told → FencedManifest → FencedManifest → Result (Unit {0}) SlateDBError → Type 0
FencedChanged change moment tries old new from to result =
    Applies (manifest_ways (fenced_made epoch_of from.epochs from.epoch (made change moment)) Plain) moment tries old new from.holder to.holder result

-- and of its answer
pub record FencedCheckpointed (id : List ℕ) (change : ManifestChange) (moment : ℤ) (tries : ℕ) (old new : Told) (from to : FencedManifest) (result : Result Checkpoint SlateDBError) : Type 0 where
  pub reply : Result (Unit {0}) SlateDBError
  pub changed : FencedChanged change moment tries old new from to reply
  pub answers : Gives result (answer_of id to.holder.object reply)

-- a holder became the fenced one of a kind: it committed the next epoch of that kind
abbrev pub FencesDb : ManifestEpochs → ℤ → ℕ → Told → Told → ManifestHolder → Result FencedManifest SlateDBError → Type 0
FencesDb kind moment tries old new holder result =
    FencedBy epoch_of (raising manifest_decoded manifest_encoded manifest_rules epoch_of with_epoch kind) moment tries old new holder kind result
