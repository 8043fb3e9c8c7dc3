use Rattle.std.proofs.Common.{◌≡◌, ◌++◌, drop, map}
use Rattle.slate_cluster_protocol.specs.Ids.{only_named}
use Rattle.slate_cluster_protocol.specs.Specs.{table_ids}
use Rattle.slate_cluster_opening.proofs.opening_ids.push_tables.Given as goal

-- the ids so far and the tables that are left
abbrev pub invariant-loop-table : goal.invariant-loop-table
invariant-loop-table l = l.all.items ++ map only_named (map (λ t. t.0) (drop l.table-index l.spec.tables)) ≡ l.fn.all.items ++ map only_named (table_ids l.spec)
