-- The statistics of a collector, and how a pass moves them.
use Rattle.std.specs.Prelude.{ℕ, ◌+◌, min, List, [], ◌∷◌, Result, Ok, Err}
use Rattle.slate_gc.specs.Ended.{Ended}
use Rattle.slate_gc.specs.declared.stats.GcStats.{GcStats}
use Rattle.slate_ids.specs.Limits.{last_number, next_count}
use Rattle.slate_ids.specs.declared.error.SlateDBError.{SlateDBError}
use Rattle.slate_ids.specs.declared.gc_message.GcMessage.{GcMessage}
use Rattle.slate_ids.specs.declared.gc_message.GcMessage.TheVariants.{Manifest, Wal, WalFence, Compacted, Compactions, Detach}
use Rattle.slate_gc_passes.specs.declared.pass_counts.PassCounts.{PassCounts}

-- at first
abbrev pub no_stats : GcStats
no_stats = record {
  gc_manifest_count = 0;
  gc_wal_count = 0;
  gc_wal_fence_count = 0;
  gc_compacted_count = 0;
  gc_compactions_count = 0;
  gc_detach_count = 0;
  gc_count = 0;
  gc_manifest_versions = 0;
  gc_compactions_versions = 0;
}

-- a count after so many more, which stops at the greatest number
abbrev pub more : ℕ → ℕ → ℕ
more count n = min (count + n) last_number

-- so many deletes of a pass didn't fault
abbrev pub with_deletes : GcMessage → ℕ → GcStats → GcStats
with_deletes Manifest n stats = record stats { gc_manifest_count = more stats.gc_manifest_count n }
with_deletes Wal n stats = record stats { gc_wal_count = more stats.gc_wal_count n }
with_deletes WalFence n stats = record stats { gc_wal_fence_count = more stats.gc_wal_fence_count n }
with_deletes Compacted n stats = record stats { gc_compacted_count = more stats.gc_compacted_count n }
with_deletes Compactions n stats = record stats { gc_compactions_count = more stats.gc_compactions_count n }
with_deletes Detach n stats = stats

-- so many versions are left after a pass
abbrev pub with_versions : GcMessage → ℕ → GcStats → GcStats
with_versions Manifest n stats = record stats { gc_manifest_versions = n }
with_versions Compactions n stats = record stats { gc_compactions_versions = n }
with_versions Wal n stats = stats
with_versions WalFence n stats = stats
with_versions Compacted n stats = stats
with_versions Detach n stats = stats

-- the version count is set where the pass ended without a refusal
abbrev pub with_result : GcMessage → Result PassCounts SlateDBError → GcStats → GcStats
with_result pass (Ok counts) stats = with_versions pass counts.versions stats
with_result pass (Err e) stats = stats

-- after a pass
abbrev pub after_pass : Ended → GcStats → GcStats
after_pass ended stats = with_result ended.pass ended.result (with_deletes ended.pass ended.deleted stats)

-- after passes, one after the other
abbrev pub after_passes : List Ended → GcStats → GcStats
after_passes [] stats = stats
after_passes (ended ∷ more_ended) stats = after_passes more_ended (after_pass ended stats)

-- after one more run of all passes
abbrev pub one_run_more : GcStats → GcStats
one_run_more stats = record stats { gc_count = next_count stats.gc_count }
