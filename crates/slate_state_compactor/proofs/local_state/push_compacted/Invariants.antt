use Rattle.std.proofs.Common.{◌≡◌, ◌++◌, drop}
use Rattle.slate_state_compactor.specs.Local.{compacted_ids}
use Rattle.slate_state_compactor.proofs.local_state.push_compacted.Given as goal

-- the tables so far and those that are left
abbrev pub invariant-loop-table : goal.invariant-loop-table
invariant-loop-table l = l.ids ++ compacted_ids (drop l.table-index l.tables) ≡ l.fn.ids ++ compacted_ids l.tables
