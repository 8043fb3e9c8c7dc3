-- Which of the listed objects are candidates of a pass, by what it read before its list.
use Rattle.std.specs.Prelude.{ℕ, ℤ, List, [], Option, Some, None}
use Rattle.slate_ids.specs.declared.gc_message.GcMessage.{GcMessage}
use Rattle.slate_ids.specs.declared.gc_message.GcMessage.TheVariants.{Manifest, Wal, WalFence, Compacted, Compactions, Detach}
use Rattle.slate_ids.specs.declared.number_range.NumberRange.{NumberRange}
use Rattle.slate_txn_log.specs.Boundary.{greatest}
use Rattle.slate_txn_log.specs.declared.log_kind.LogKind.TheVariants as logs
use Rattle.slate_model.specs.Watermark.{watermark}
use Rattle.slate_model.specs.declared.manifest.Manifest.{Manifest as Content}
use Rattle.slate_gc_passes.specs.declared.heads.Heads.{Heads}
use Rattle.slate_gc_picks.specs.Ages.{aged}
use Rattle.slate_gc_picks.specs.TablePicks.{unused_tables}
use Rattle.slate_gc_picks.specs.VersionPicks.{unneeded}
use Rattle.slate_gc_picks.specs.WalFiles.{collected}
use Rattle.slate_gc_picks.specs.WalRanges.{wal_ranges}
use Rattle.slate_gc_picks.specs.declared.wal_gc.WalGcMode.TheVariants.{Fence}
use Rattle.slate_store.specs.declared.object.ObjectMetadata.{ObjectMetadata}

-- before anything was read
abbrev pub no_heads : Heads
no_heads = record { least = 0; latest = 0; watermark = 0 }

-- of the least milliseconds that were read of the record, and of the latest manifest
abbrev pub heads_at : ℕ → ℕ → Content → Heads
heads_at least n m = record { least = least; latest = n; watermark = watermark m.core }

-- of listed records the aged ones below the greatest listed
abbrev pub old_records : ℕ → ℤ → List ObjectMetadata → Option ℕ → List ObjectMetadata
old_records min_age now found None = []
old_records min_age now found (Some n) = unneeded logs.Compactions n [] (aged min_age now found)

-- the candidates of a pass that reads nothing after its list: the pass over the manifests reads more
abbrev pub candidates : (List NumberRange → List ObjectMetadata → ℕ → ℤ → List ObjectMetadata) → ℕ → ℤ → Heads → List (ℕ × Content) → List ObjectMetadata → GcMessage → List ObjectMetadata
candidates files min_age now heads versions found Compactions = old_records min_age now found (greatest logs.Compactions found)
candidates files min_age now heads versions found Compacted = unused_tables min_age now heads.least heads.watermark versions found
candidates files min_age now heads versions found Wal = files (wal_ranges heads.latest versions) found min_age now
candidates files min_age now heads versions found WalFence = collected Fence (wal_ranges heads.latest versions) found min_age now
candidates files min_age now heads versions found Manifest = []
candidates files min_age now heads versions found Detach = []
