use Rattle.std.proofs.Common.{drop}
use Rattle.slate_state_updates.specs.TableSets.{has_table}
use Rattle.slate_state_updates.proofs.TableSets.{Left}
use Rattle.slate_state_updates.proofs.tables.set_of.Given as goal

-- the set has the tables so far, and the others are left
abbrev pub invariant-loop-id : goal.invariant-loop-id
invariant-loop-id l = Left (has_table l.set) (drop l.id-index l.ids) l.ids
