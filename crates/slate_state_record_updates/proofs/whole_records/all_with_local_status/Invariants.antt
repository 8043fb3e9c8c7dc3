use Rattle.std.proofs.Common.{◌≡◌, ◌++◌, map}
use Rattle.slate_state_record_updates.specs.EntrySteps.{with_local_status}
use Rattle.slate_state_record_updates.proofs.whole_records.all_with_local_status.Given as goal

-- the compactions so far and those that are left
abbrev pub invariant-loop-compaction : goal.invariant-loop-compaction
invariant-loop-compaction l = (l.made.compactor_epoch ≡ l.epoch) × (l.made.entries ++ map (with_local_status l.local.entries) l.compaction-iterator ≡ map (with_local_status l.local.entries) l.fn.entries)
