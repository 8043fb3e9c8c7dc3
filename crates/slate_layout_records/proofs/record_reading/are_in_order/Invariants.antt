use Rattle.std.proofs.Common.{◌≡◌, ◌∷◌, drop}
use Rattle.slate_layout_records.specs.RecordBytes.{raws_ascend}
use Rattle.slate_layout_records.proofs.record_reading.are_in_order.Given as goal

-- the last compaction and those that are left decide
abbrev pub invariant-loop-raw : goal.invariant-loop-raw
invariant-loop-raw l = raws_ascend (l.last ∷ drop l.raw-index l.others) ≡ raws_ascend l.raws
