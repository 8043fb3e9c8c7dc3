use Rattle.std.proofs.Common.{◌≡◌}
use Rattle.std.specs.List.{list_any}
use Rattle.slate_state_record_updates.specs.RecordRules.{is_lost}
use Rattle.slate_state_record_updates.proofs.record_rules.loses.Given as goal

-- one of those that are left is lost, where any is
abbrev pub invariant-loop-compaction : goal.invariant-loop-compaction
invariant-loop-compaction l = list_any (is_lost l.right l.new.entries) l.compaction-iterator ≡ list_any (is_lost l.right l.new.entries) l.old.entries
