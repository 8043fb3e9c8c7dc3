-- What picks the files of the write-ahead log: what was handed in, or the plain one.
use Rattle.std.specs.Prelude.{ℕ, ℤ, List, Option, Some, None}
use Rattle.slate_ids.specs.declared.number_range.NumberRange.{NumberRange}
use Rattle.slate_gc_picks.specs.WalFiles.{collected}
use Rattle.slate_gc_picks.specs.declared.wal_gc.WalGcMode.TheVariants.{Regular}
use Rattle.slate_store.specs.declared.object.ObjectMetadata.{ObjectMetadata}

-- the candidates for ranges, listed files, a least age and a moment
abbrev pub wal_candidates : {W : Type 0} → (W → List NumberRange → List ObjectMetadata → ℕ → ℤ → List ObjectMetadata) → Option W → List NumberRange → List ObjectMetadata → ℕ → ℤ → List ObjectMetadata
wal_candidates picked None ranges listed min_age now = collected Regular ranges listed min_age now
wal_candidates picked (Some w) ranges listed min_age now = picked w ranges listed min_age now
