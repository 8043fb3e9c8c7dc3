use Rattle.std.proofs.Common.{◌≡◌, ◌++◌, drop, map}
use Rattle.slate_cluster_protocol.specs.Specs.{table_ids}
use Rattle.slate_cluster_opening.proofs.ids.push_table_ids.Given as goal

-- the ids so far and the tables that are left
abbrev pub invariant-loop-table : goal.invariant-loop-table
invariant-loop-table l = l.ids.items ++ map (λ t. t.0) (drop l.table-index l.spec.tables) ≡ l.fn.ids.items ++ table_ids l.spec
