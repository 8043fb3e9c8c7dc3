use Rattle.std.proofs.Common.{◌≡◌, drop}
use Rattle.slate_state_record_updates.specs.RecordRules.{first_refusal, table_refusal}
use Rattle.slate_state_record_updates.proofs.record_rules.tables_refusal.Given as goal

-- the first refusal of those that are left is the first of all
abbrev pub invariant-loop-table : goal.invariant-loop-table
invariant-loop-table l = first_refusal (λ sst. table_refusal l.ms sst.id) (drop l.table-index l.tables) ≡ first_refusal (λ sst. table_refusal l.ms sst.id) l.tables
