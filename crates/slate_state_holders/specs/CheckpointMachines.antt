-- The machines of checkpoint calls: the answer is known at the start, since a machine makes one try.
use Rattle.std.specs.Prelude.{ℕ, ℤ, List, Option, Some, None, Result, Ok, Err, ok_or}
use Rattle.slate_ids.specs.declared.error.SlateDBError.{SlateDBError}
use Rattle.slate_ids.specs.declared.error.SlateDBError.TheVariants.{CheckpointMissing}
use Rattle.slate_layout.specs.Codec.{encoded}
use Rattle.slate_txn_log.specs.Change.{renewed}
use Rattle.slate_txn_log.specs.Fence.{unless}
use Rattle.slate_txn_log.specs.declared.right.Right.TheVariants.{Plain}
use Rattle.slate_model.specs.declared.checkpoint.Checkpoint.{Checkpoint}
use Rattle.slate_model.specs.declared.manifest.Manifest.{Manifest}
use Rattle.slate_store.specs.declared.step.Step.{Step}
use Rattle.slate_store.specs.declared.step.Step.TheVariants.{Again, Done}
use Rattle.slate_txn.specs.Fencing.{held_fence}
use Rattle.slate_txn.specs.Updating.{maybe_of}
use Rattle.slate_txn.specs.declared.update.UpdateMachine.{UpdateMachine}
use Rattle.slate_state_updates.specs.ManifestChanges.{made}
use Rattle.slate_state_updates.specs.Checkpoints.{checkpoint_at}
use Rattle.slate_state_updates.specs.Rules.{manifest_refusal}
use Rattle.slate_state_updates.specs.Writers.{epoch_of}
use Rattle.slate_state_updates.specs.declared.manifest_change.ManifestChange.{ManifestChange}
use Rattle.slate_state_holders.specs.ManifestHolders.{ManifestHolder, FencedManifest}

-- the checkpoint of an id that stands once what was made of the manifest held is committed, or nothing is
abbrev pub foreseen : List ℕ → Manifest → Result (Option Manifest) SlateDBError → Option Checkpoint
foreseen id m (Ok (Some new)) = checkpoint_at id new.core.checkpoints
foreseen id m (Ok None) = checkpoint_at id m.core.checkpoints
foreseen id m (Err e) = None

-- the same of a change at a moment
abbrev pub foreseen_of : List ℕ → ManifestChange → ℤ → ℕ → Manifest → Option Checkpoint
foreseen_of id change moment n m = foreseen id m (made change moment n m)

-- the commit of a change of the version held, as a machine
abbrev pub change_machine : ManifestChange → ℤ → ManifestHolder → UpdateMachine Manifest
change_machine change moment holder = maybe_of (renewed (made change moment) manifest_refusal encoded Plain holder.id holder.object)

-- the same of a fenced holder, unless the version held refuses it
abbrev pub fenced_machine : ManifestChange → ℤ → FencedManifest → UpdateMachine Manifest
fenced_machine change moment fenced = maybe_of (unless (held_fence epoch_of fenced) (renewed (made change moment) manifest_refusal encoded Plain fenced.holder.id fenced.holder.object))

-- the answer of a step: where the commit ended well, the checkpoint that was foreseen
abbrev pub answered : List ℕ → Option Checkpoint → Step (Unit {0}) → Step Checkpoint
answered id foreseen Again = Again
answered id foreseen (Done (Ok u)) = Done (ok_or foreseen (CheckpointMissing id))
answered id foreseen (Done (Err e)) = Done (Err e)
