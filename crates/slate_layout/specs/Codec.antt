-- The codec of manifests.
use Rattle.std.specs.Prelude.{Bool, List, ℕ, Result, Ok, Err, if◌then◌else◌}
use Rattle.slate_ids.specs.declared.error.SlateDBError.{SlateDBError}
use Rattle.slate_ids.specs.declared.error.SlateDBError.TheVariants.{Corrupt}
use Rattle.slate_ids.specs.declared.error.FormatName.{FormatName}
use Rattle.slate_ids.specs.declared.error.FormatName.TheVariants as format
use Rattle.slate_model.specs.declared.manifest.Manifest.{Manifest}
use Rattle.slate_layout_manifests.specs.TypedManifests.{is_manifest}
use Rattle.slate_layout_encoding.specs.Encoding.{encoded_manifest}

-- the bytes of a value of its type, as each is that a program holds
abbrev pub if_typed : FormatName → Bool → Result (List ℕ) SlateDBError → Result (List ℕ) SlateDBError
if_typed name typed (Ok bytes) = if typed then Ok bytes else Err (Corrupt name)
if_typed name typed (Err e) = Err e

-- the bytes of a manifest, or why it has none
abbrev pub encoded : Manifest → Result (List ℕ) SlateDBError
encoded m = if_typed format.Manifest (is_manifest m) (encoded_manifest m)
