-- Which tables a pass may delete.
use Rattle.std.specs.Prelude.{ℕ, ℤ, pos, ◌-ℤ◌, int_lt, nat_lt, not, ◌&&◌, Bool, false, List, filter}
use Rattle.std.specs.List.{flat_map}
use Rattle.slate_ids.specs.declared.object_path.ObjectPath.{ObjectPath}
use Rattle.slate_ids.specs.declared.object_path.ObjectPath.TheVariants as paths
use Rattle.slate_model.specs.Trees.{tables_of}
use Rattle.slate_model.specs.declared.manifest.Manifest.{Manifest}
use Rattle.slate_store.specs.declared.object.ObjectMetadata.{ObjectMetadata}
use Rattle.slate_model_tables.specs.declared.ss_table_id.SsTableId.{SsTableId}
use Rattle.slate_model_tables.specs.declared.ss_table_id.SsTableId.TheVariants.{Compacted}
use Rattle.slate_state_updates.specs.TableSets.{is_among}

-- the tables of the trees of these versions
abbrev pub used_tables : List (ℕ × Manifest) → List SsTableId
used_tables versions = flat_map (λ v. tables_of v.1.core) versions

-- milliseconds that are strictly below those of a moment less the least age, of the least compaction, and of the watermark
abbrev pub is_early : ℕ → ℤ → ℕ → ℕ → ℕ → Bool
is_early min_age now least watermark ms = int_lt (pos ms) (now -ℤ pos min_age) && (nat_lt ms least && nat_lt ms watermark)

-- an early table that none of these has
abbrev pub is_unused : ℕ → ℤ → ℕ → ℕ → List SsTableId → ObjectPath → Bool
is_unused min_age now least watermark used (paths.Table db id) = is_early min_age now least watermark id.0 && not (is_among used (Compacted id))
is_unused min_age now least watermark used _ = false

-- of these objects the early tables that no tree of these versions has
abbrev pub unused_tables : ℕ → ℤ → ℕ → ℕ → List (ℕ × Manifest) → List ObjectMetadata → List ObjectMetadata
unused_tables min_age now least watermark versions found = filter (λ m. is_unused min_age now least watermark (used_tables versions) m.location) found
