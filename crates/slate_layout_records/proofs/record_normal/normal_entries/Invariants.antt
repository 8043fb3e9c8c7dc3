use Rattle.std.proofs.Common.{◌≡◌, ◌++◌, map}
use Rattle.slate_layout_records.specs.RecordNormal.{normal_compaction}
use Rattle.slate_layout_records.proofs.record_normal.normal_entries.Given as goal

-- the compactions so far and those that are left
abbrev pub invariant-loop-compaction : goal.invariant-loop-compaction
invariant-loop-compaction l = (l.made.compactor_epoch ≡ l.epoch) × (l.made.entries ++ map normal_compaction l.compaction-iterator ≡ map normal_compaction l.fn.entries)
