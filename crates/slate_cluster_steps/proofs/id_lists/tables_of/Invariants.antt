use Rattle.std.proofs.Common.{◌≡◌, ◌++◌, drop, map}
use Rattle.slate_cluster_steps.proofs.id_lists.tables_of.Given as goal

-- the ids so far and the tables that are left
abbrev pub invariant-loop-table : goal.invariant-loop-table
invariant-loop-table l = l.all ++ map (λ t. t.table) (drop l.table-index l.tables) ≡ map (λ t. t.table) l.tables
