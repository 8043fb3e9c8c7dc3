use Rattle.std.proofs.Common.{◌≡◌}
use Rattle.slate_state_record_updates.specs.RecordRules.{first_refusal, entry_refusal}
use Rattle.slate_state_record_updates.proofs.record_rules.entries_refusal.Given as goal

-- the first refusal of those that are left is the first of all
abbrev pub invariant-loop-compaction : goal.invariant-loop-compaction
invariant-loop-compaction l = first_refusal (entry_refusal l.old.entries) l.compaction-iterator ≡ first_refusal (entry_refusal l.old.entries) l.new.entries
