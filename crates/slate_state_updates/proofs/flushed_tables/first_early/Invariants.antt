use Rattle.std.proofs.Common.{◌≡◌, drop}
use Rattle.std.specs.Prelude.{◌&&◌, not}
use Rattle.std.specs.List.{find}
use Rattle.slate_state_updates.specs.FlushedTables.{is_before}
use Rattle.slate_state_updates.specs.TableSets.{has_table}
use Rattle.slate_state_updates.proofs.flushed_tables.first_early.Given as goal

-- the first is among the tables that are left
abbrev pub invariant-loop-id : goal.invariant-loop-id
invariant-loop-id l = find (λ id. is_before l.moment id && not (has_table l.old id)) (drop l.id-index l.ids) ≡ find (λ id. is_before l.moment id && not (has_table l.old id)) l.ids
