-- The manifest that bytes stand for.
use Rattle.std.specs.Prelude.{ℕ, ◌==◌, List, Option, Some, None, Result, Err, ok_or, if◌then◌else◌}
use Rattle.slate_ids.specs.declared.error.SlateDBError.{SlateDBError}
use Rattle.slate_ids.specs.declared.error.SlateDBError.TheVariants.{Corrupt, EmptyManifest, InvalidVersion}
use Rattle.slate_ids.specs.declared.error.FormatName.TheVariants as format
use Rattle.slate_model.specs.declared.manifest.Manifest.{Manifest}
use Rattle.slate_layout_parts.specs.Reading.{u16_in}
use Rattle.slate_layout_manifests.specs.ManifestParts.{second_version}
use Rattle.slate_layout_manifests.specs.OldManifests.{first_version}

-- a manifest that was read; all other bytes are Corrupt
abbrev pub or_corrupt : Option Manifest → Result Manifest SlateDBError
or_corrupt m = ok_or m (Corrupt format.Manifest)

-- the manifest of the bytes after those of its version
abbrev pub by_version : ℕ → List ℕ → Result Manifest SlateDBError
by_version version bytes = if version == 1 then or_corrupt (first_version bytes) else if version == 2 then or_corrupt (second_version bytes) else Err (InvalidVersion format.Manifest version)

-- the same, where the bytes of a version were there
abbrev pub after_version : Option (ℕ × List ℕ) → Result Manifest SlateDBError
after_version None = Err EmptyManifest
after_version (Some p) = by_version p.0 p.1

-- the manifest of bytes, or why they stand for none
abbrev pub decoded_manifest : List ℕ → Result Manifest SlateDBError
decoded_manifest bytes = after_version (u16_in bytes)
