-- The bytes of a manifest, or the first field that has none.
use Rattle.std.specs.Prelude.{ℕ, List, [], ◌∷◌, ◌++◌, length, map, Option, Some, None, Result, Err}
use Rattle.slate_ids.specs.declared.error.SlateDBError.{SlateDBError}
use Rattle.slate_ids.specs.declared.error.SlateDBError.TheVariants.{Unencodable}
use Rattle.slate_ids.specs.declared.error.FieldName.{FieldName}
use Rattle.slate_ids.specs.declared.error.FieldName.TheVariants.{Handles}
use Rattle.slate_model.specs.declared.manifest.Manifest.{Manifest}
use Rattle.slate_model.specs.Trees.{views_of}
use Rattle.slate_layout_parts.specs.Bytes.{list_bytes}
use Rattle.slate_layout_parts.specs.InfoParts.{handle_bytes}
use Rattle.slate_layout_parts.specs.InfoCodec.{unless_field}
use Rattle.slate_layout_manifests.specs.Gathered.{ById, gathered}
use Rattle.slate_layout_manifests.specs.ManifestParts.{body_of, body_bytes}
use Rattle.slate_layout_encodable.specs.Unencodable.{early_field, late_field}

-- the bytes of a manifest of these tables
abbrev pub manifest_bytes : ById → Manifest → List ℕ
manifest_bytes tables m = 0 ∷ 2 ∷ (list_bytes handle_bytes (map (λ e. e.1) tables) ++ body_bytes (body_of m))

-- the same, or the field that has none
abbrev pub encoded_with : Option ById → Manifest → Result (List ℕ) SlateDBError
encoded_with None m = Err (Unencodable Handles)
encoded_with (Some tables) m = unless_field (late_field (length tables) m) (manifest_bytes tables m)

-- the same, where no earlier field has none
abbrev pub unless_early : Option FieldName → Manifest → Result (List ℕ) SlateDBError
unless_early None m = encoded_with (gathered (views_of m.core) []) m
unless_early (Some field) m = Err (Unencodable field)

-- the bytes of a manifest, or the first field that has none
abbrev pub encoded_manifest : Manifest → Result (List ℕ) SlateDBError
encoded_manifest m = unless_early (early_field m) m
