use Rattle.std.proofs.Common.{◌≡◌}
use Rattle.std.specs.List.{list_all}
use Rattle.slate_layout_records.specs.RecordFields.{has_keys_of}
use Rattle.slate_layout_records.proofs.record_fields.have_all_keys.Given as goal

-- those that are left decide
abbrev pub invariant-loop-compaction : goal.invariant-loop-compaction
invariant-loop-compaction l = list_all has_keys_of l.compaction-iterator ≡ list_all has_keys_of l.fn.entries
