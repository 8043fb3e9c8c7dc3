-- The checkpoint that a change of a manifest is about.
use Rattle.std.specs.Prelude.{ℕ, List, Option, Some, None}
use Rattle.slate_state_updates.specs.declared.manifest_change.ManifestChange.{ManifestChange}
use Rattle.slate_state_updates.specs.declared.manifest_change.ManifestChange.TheVariants.{WriteCheckpoint, ReplaceCheckpoint, RefreshCheckpoint}

-- the id of the checkpoint that is to stand after a change: the one written, the new one, or the one refreshed
abbrev pub checkpoint_of : ManifestChange → Option (List ℕ)
checkpoint_of (WriteCheckpoint id options) = Some id
checkpoint_of (ReplaceCheckpoint old id options) = Some id
checkpoint_of (RefreshCheckpoint id lifetime) = Some id
checkpoint_of _ = None
