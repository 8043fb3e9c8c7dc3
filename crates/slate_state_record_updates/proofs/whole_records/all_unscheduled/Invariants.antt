use Rattle.std.proofs.Common.{◌≡◌, ◌++◌, map}
use Rattle.slate_state_record_updates.specs.EntrySteps.{unscheduled}
use Rattle.slate_state_record_updates.proofs.whole_records.all_unscheduled.Given as goal

-- the compactions so far and those that are left
abbrev pub invariant-loop-compaction : goal.invariant-loop-compaction
invariant-loop-compaction l = (l.made.compactor_epoch ≡ l.epoch) × (l.made.entries ++ map unscheduled l.compaction-iterator ≡ map unscheduled l.fn.entries)
