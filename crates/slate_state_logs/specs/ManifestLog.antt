-- The log of manifests: its codec, the rules on new versions, and how a version is told.
use Rattle.std.specs.Prelude.{ℕ, Bool, List, Option, Result}
use Rattle.slate_ids.specs.declared.error.SlateDBError.{SlateDBError}
use Rattle.slate_layout.specs.Codec.{encoded}
use Rattle.slate_layout.specs.declared.codec.ManifestCodec.{ManifestCodec}
use Rattle.slate_txn_log.specs.declared.right.Right.{Right}
use Rattle.slate_layout_manifests.specs.Decoding.{decoded_manifest}
use Rattle.slate_model.specs.Manifests.{Version}
use Rattle.slate_model.specs.declared.manifest.Manifest.{Manifest}
use Rattle.slate_state_updates.specs.Checkpoints.{is_named}
use Rattle.slate_state_updates.specs.Rules.{manifest_refusal}
use Rattle.slate_state_updates.specs.declared.rules.ManifestRules.{ManifestRules}

-- the manifest of bytes
abbrev pub manifest_decoded : ManifestCodec → List ℕ → Result Manifest SlateDBError
manifest_decoded codec bytes = decoded_manifest bytes

-- the bytes of a manifest
abbrev pub manifest_encoded : ManifestCodec → Manifest → Result (List ℕ) SlateDBError
manifest_encoded codec m = encoded m

-- the rules on new versions of a manifest
abbrev pub manifest_rules : ManifestRules → ℕ → Manifest → Manifest → Right → Option SlateDBError
manifest_rules rules id old new right = manifest_refusal id old new right

-- a number and the manifest of that number, as a version
abbrev pub version_of : ℕ × Manifest → Version
version_of v = record { id = v.0; manifest = v.1 }

-- whether a manifest names the version of a number
abbrev pub manifest_names : Manifest → ℕ → Bool
manifest_names m n = is_named n m.core.checkpoints
