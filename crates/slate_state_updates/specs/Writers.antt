-- The epochs of a manifest, and what an open makes of it.
use Rattle.std.specs.Prelude.{◌≡◌, ℕ, Option, Result, refl}
use Rattle.slate_ids.specs.declared.error.SlateDBError.{SlateDBError}
use Rattle.slate_model.specs.declared.manifest.Manifest.{Manifest}
use Rattle.slate_txn_log.specs.Change.{next_epoch}
use Rattle.slate_state_updates.specs.declared.epochs.ManifestEpochs.{ManifestEpochs}
use Rattle.slate_state_updates.specs.declared.epochs.ManifestEpochs.TheVariants.{Writer, Compactor}

-- the epoch of a manifest that fences the holders of a kind
abbrev pub epoch_of : ManifestEpochs → Manifest → ℕ
epoch_of Writer m = m.writer_epoch
epoch_of Compactor m = m.compactor_epoch

-- the manifest with another epoch of that kind
abbrev pub with_epoch : ManifestEpochs → Manifest → ℕ → Manifest
with_epoch Writer m n = record m { writer_epoch = n }
with_epoch Compactor m n = record m { compactor_epoch = n }

-- the epoch that was set is the manifest's
pub epoch_set : (kind : ManifestEpochs) (m : Manifest) (n : ℕ) → epoch_of kind (with_epoch kind m n) ≡ n
epoch_set Writer m n = refl
epoch_set Compactor m n = refl

-- what an open makes of the manifest read: its epoch of that kind plus one, where there is such an epoch
abbrev pub raised : ManifestEpochs → ℕ → Manifest → Result (Option Manifest) SlateDBError
raised kind n m = next_epoch (epoch_of kind) (with_epoch kind) n m
