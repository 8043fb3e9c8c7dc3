use Rattle.std.proofs.Common.{◌≡◌, ◌++◌, map}
use Rattle.std.specs.Vec.Iter.{into_iter_items}
use Rattle.slate_layout_records.specs.RecordBytes.{compaction_of}
use Rattle.slate_layout_records.proofs.record_reading.record_in_order.Given as goal

-- the compactions so far and those that are left
abbrev pub invariant-loop-raw : goal.invariant-loop-raw
invariant-loop-raw l = (l.made.compactor_epoch ≡ l.epoch) × (l.made.entries ++ map compaction_of (into_iter_items l.raw-iterator) ≡ map compaction_of l.fn.raws)
