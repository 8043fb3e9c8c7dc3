use Rattle.std.proofs.Common.{◌≡◌}
use Rattle.std.specs.List.{list_all}
use Rattle.slate_model_tables.specs.Tables.{is_compacted}
use Rattle.slate_layout_records.specs.RecordFields.{of_outputs}
use Rattle.slate_layout_records.proofs.record_fields.are_all_compacted.Given as goal

-- those that are left decide
abbrev pub invariant-loop-compaction : goal.invariant-loop-compaction
invariant-loop-compaction l = list_all (of_outputs (λ h. is_compacted h.id)) l.compaction-iterator ≡ list_all (of_outputs (λ h. is_compacted h.id)) l.fn.entries
