-- Which files of the write-ahead log a pass may delete.
use Rattle.std.specs.Prelude.{ℕ, ℤ, ◌==◌, not, ◌&&◌, Bool, true, false, List, filter}
use Rattle.std.specs.List.{list_any}
use Rattle.slate_ids.specs.Ranges.{is_within}
use Rattle.slate_ids.specs.declared.number_range.NumberRange.{NumberRange}
use Rattle.slate_ids.specs.declared.object_path.ObjectPath.{ObjectPath}
use Rattle.slate_ids.specs.declared.object_path.ObjectPath.TheVariants as paths
use Rattle.slate_gc_picks.specs.Ages.{is_aged}
use Rattle.slate_gc_picks.specs.declared.wal_gc.WalGcMode.{WalGcMode}
use Rattle.slate_gc_picks.specs.declared.wal_gc.WalGcMode.TheVariants.{Regular, Fence}
use Rattle.slate_store.specs.declared.object.ObjectMetadata.{ObjectMetadata}

-- a file of the write-ahead log in none of these ranges
abbrev pub is_unreferenced : List NumberRange → ObjectPath → Bool
is_unreferenced ranges (paths.Wal db n) = not (list_any (λ r. is_within r n) ranges)
is_unreferenced ranges _ = false

-- a size that the mode takes: fences are empty files
abbrev pub has_size : WalGcMode → ℕ → Bool
has_size Regular size = true
has_size Fence size = size == 0

-- an aged file in none of these ranges, and where fences are wanted an empty one
abbrev pub is_collected : WalGcMode → List NumberRange → ℕ → ℤ → ObjectMetadata → Bool
is_collected mode ranges min_age now m = is_unreferenced ranges m.location && (is_aged min_age now m.last_modified && has_size mode m.size)

-- those of the listed files, in their order
abbrev pub collected : WalGcMode → List NumberRange → List ObjectMetadata → ℕ → ℤ → List ObjectMetadata
collected mode ranges listed min_age now = filter (is_collected mode ranges min_age now) listed
