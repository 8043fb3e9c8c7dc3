use Rattle.std.proofs.Common.{◌≡◌}
use Rattle.std.specs.List.{list_all}
use Rattle.slate_layout_records.specs.NormalRecords.{is_normal_compaction, is_normal_record}
use Rattle.slate_layout_records.proofs.normality.is_normal_record.Given as goal

-- the compactions that are left decide
abbrev pub invariant-loop-compaction : goal.invariant-loop-compaction
invariant-loop-compaction l = list_all is_normal_compaction l.compaction-iterator ≡ is_normal_record l.compactions
