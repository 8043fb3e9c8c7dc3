-- The files of the write-ahead log that versions of a manifest have to keep.
use Rattle.std.specs.Prelude.{ℕ, ◌==◌, List, map, if◌then◌else◌}
use Rattle.std.specs.declared.ops.Bound.TheVariants.{Included, Excluded, Unbounded}
use Rattle.slate_ids.specs.declared.number_range.NumberRange.{NumberRange}
use Rattle.slate_model.specs.declared.manifest.Manifest.{Manifest}

-- of the latest version all from the last file on that it replays after; of another those strictly between that and its next one
abbrev pub wal_range : ℕ → ℕ × Manifest → NumberRange
wal_range latest version =
    if version.0 == latest then record { start = Included version.1.core.replay_after_wal_id; end = Unbounded }
    else record { start = Excluded version.1.core.replay_after_wal_id; end = Excluded version.1.core.next_wal_sst_id }

-- the ranges of these versions, in their order
abbrev pub wal_ranges : ℕ → List (ℕ × Manifest) → List NumberRange
wal_ranges latest versions = map (wal_range latest) versions
