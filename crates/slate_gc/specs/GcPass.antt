-- A pass over the layout of manifests and records.
use Rattle.std.specs.Prelude.{ℕ, ℤ, Bool, true, false, List}
use Rattle.slate_ids.specs.declared.gc_message.GcMessage.{GcMessage}
use Rattle.slate_ids.specs.declared.gc_message.GcMessage.TheVariants.{Manifest, Wal, WalFence, Compacted, Compactions, Detach}
use Rattle.slate_ids.specs.declared.number_range.NumberRange.{NumberRange}
use Rattle.slate_layout.specs.Codec.{encoded}
use Rattle.slate_layout_manifests.specs.Decoding.{decoded_manifest}
use Rattle.slate_gc.specs.declared.gc_pass.GcPass.{GcPass}
use Rattle.slate_gc_passes.specs.GcPhase.{GcSteps}
use Rattle.slate_gc_passes.specs.Ways.{Ways, ways}
use Rattle.slate_gc_passes.specs.declared.pass_counts.PassCounts.{PassCounts}
use Rattle.slate_layout_records.specs.RecordBytes.{decoded_record}
use Rattle.slate_store.specs.StoreCalls.{Told}
use Rattle.slate_store.specs.declared.object.ObjectMetadata.{ObjectMetadata}
use Rattle.slate_store.specs.declared.step.Step.{Step}

-- whether a pass detaches clones: no pass does yet
abbrev pub is_detach : GcMessage → Bool
is_detach Manifest = false
is_detach Wal = false
is_detach WalFence = false
is_detach Compacted = false
is_detach Compactions = false
is_detach Detach = true

-- with which candidates the filter allows, and which files of the write-ahead log may go
abbrev pub layout_ways : (List ObjectMetadata → List ObjectMetadata) → (List NumberRange → List ObjectMetadata → ℕ → ℤ → List ObjectMetadata) → Ways
layout_ways allows files = ways decoded_manifest encoded decoded_record allows files

-- what next does, by these ways at a moment
abbrev pub PassSteps : Ways → ℤ → Told → Told → GcPass → GcPass → Step PassCounts → Type 0
PassSteps ways moment old new from to step = GcSteps from.db ways from.settings moment old new from.phase to.phase step
