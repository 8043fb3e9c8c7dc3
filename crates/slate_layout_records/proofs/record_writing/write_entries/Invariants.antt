use Rattle.std.proofs.Common.{◌≡◌, ◌++◌, map, true}
use Rattle.std.specs.List.{flat_map, list_all}
use Rattle.slate_layout_records.specs.RecordBytes.{raw_bytes, raw_of}
use Rattle.slate_layout_records.specs.RecordFields.{is_compaction}
use Rattle.slate_layout_records.proofs.record_writing.write_entries.Given as goal

-- the bytes so far, and those of the compactions that are left; all are of their type where those that are left are
abbrev pub invariant-loop-compaction : goal.invariant-loop-compaction
invariant-loop-compaction l = (l.out.items ++ flat_map raw_bytes (map raw_of l.compaction-iterator) ≡ l.fn.out.items ++ flat_map raw_bytes (map raw_of l.fn.entries)) × (list_all is_compaction l.compaction-iterator ≡ true → list_all is_compaction l.fn.entries ≡ true)
