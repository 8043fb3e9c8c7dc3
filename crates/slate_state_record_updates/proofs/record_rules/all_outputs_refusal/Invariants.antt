use Rattle.std.proofs.Common.{◌≡◌}
use Rattle.slate_state_record_updates.specs.RecordRules.{first_refusal, outputs_refusal}
use Rattle.slate_state_record_updates.proofs.record_rules.all_outputs_refusal.Given as goal

-- the first refusal of those that are left is the first of all
abbrev pub invariant-loop-compaction : goal.invariant-loop-compaction
invariant-loop-compaction l = first_refusal outputs_refusal l.compaction-iterator ≡ first_refusal outputs_refusal l.new.entries
