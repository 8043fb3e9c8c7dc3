-- A writer's core put together with a manifest that was read.
use Rattle.std.specs.Prelude.{[]}
use Rattle.slate_model.specs.Cores.{Core, empty_tree}
use Rattle.slate_model.specs.Externals.{pruned}
use Rattle.slate_model.specs.declared.manifest.Manifest.{Manifest}
use Rattle.slate_state_merges.specs.Merging.{merged}
use Rattle.slate_state_merges.specs.SegmentMerging.{from_compactor}

-- a core without its trees' tables, segments and checkpoints
abbrev pub without_tables : Core → Core
without_tables core = record core { tree = empty_tree; segments = []; checkpoints = [] }

-- a writer's core, with its trees merged from those that were read, and with the checkpoints that were read
abbrev pub merged_core : Core → Core → Core
merged_core local remote = record local { tree = merged local.tree remote.tree; segments = from_compactor local.segments remote.segments; checkpoints = remote.checkpoints }

-- the manifest that was read, with the merged core; its entries list only the tables that are used then
abbrev pub merged_manifest : Core → Manifest → Manifest
merged_manifest local remote = pruned (record remote { core = merged_core local remote.core })
