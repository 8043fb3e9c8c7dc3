use Rattle.std.proofs.Common.{◌≡◌, ◌++◌, map}
use Rattle.std.specs.Vec.Iter.{into_iter_items}
use Rattle.slate_layout_records.specs.RecordBytes.{raw_of_old}
use Rattle.slate_layout_records.proofs.record_reading.raws_of_old.Given as goal

abbrev pub invariant-loop-old : goal.invariant-loop-old
invariant-loop-old l = l.raws ++ map raw_of_old (into_iter_items l.old-iterator) ≡ map raw_of_old l.fn.olds
