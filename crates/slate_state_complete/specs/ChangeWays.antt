-- What a holder of a manifest is generic over, at the change that a call commits.
use Rattle.std.specs.Prelude.{ℕ, ℤ}
use Rattle.slate_txn_log.specs.declared.right.Right.TheVariants.{Plain}
use Rattle.slate_layout.specs.declared.codec.ManifestCodec.{ManifestCodec}
use Rattle.slate_model.specs.declared.manifest.Manifest.{Manifest}
use Rattle.slate_txn.specs.ApplyMoves.{MayWays}
use Rattle.slate_txn.specs.FencedApplying.{fenced_made}
use Rattle.slate_state_updates.specs.ManifestChanges.{made}
use Rattle.slate_state_updates.specs.Writers.{epoch_of}
use Rattle.slate_state_updates.specs.declared.epochs.ManifestEpochs.{ManifestEpochs}
use Rattle.slate_state_updates.specs.declared.manifest_change.ManifestChange.{ManifestChange}
use Rattle.slate_state_updates.specs.declared.rules.ManifestRules.{ManifestRules}
use Rattle.slate_txn_laws.specs.Changing.{may_of}
use Rattle.slate_state_holders.specs.ManifestHolders.{manifest_ways}

-- the codec of manifests, their rules, a change and a right
abbrev pub ManifestWays : Type 1
ManifestWays = MayWays Manifest ManifestCodec ManifestRules

-- a change at a moment
abbrev pub change_ways : ManifestChange → ℤ → ManifestWays
change_ways change moment = may_of (manifest_ways (made change moment) Plain)

-- the same, unless a version's epoch of this kind is above the own one
abbrev pub fenced_ways : ManifestEpochs → ℕ → ManifestChange → ℤ → ManifestWays
fenced_ways kind own change moment = may_of (manifest_ways (fenced_made epoch_of kind own (made change moment)) Plain)
