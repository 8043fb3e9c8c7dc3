use Rattle.std.proofs.Common.{◌≡◌}
use Rattle.std.specs.List.{list_all}
use Rattle.slate_layout_records.specs.RecordFields.{short_compaction}
use Rattle.slate_layout_records.proofs.record_fields.are_all_short.Given as goal

-- those that are left decide
abbrev pub invariant-loop-compaction : goal.invariant-loop-compaction
invariant-loop-compaction l = list_all short_compaction l.compaction-iterator ≡ list_all short_compaction l.fn.entries
