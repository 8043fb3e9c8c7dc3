use Rattle.std.proofs.Common.{◌≡◌, ◌++◌, drop, map}
use Rattle.slate_cluster_protocol.specs.Calls.{uploaded_table}
use Rattle.slate_cluster_steps.proofs.uploaded.uploaded_tables.Given as goal

-- the outputs so far and the tables that are left
abbrev pub invariant-loop-table : goal.invariant-loop-table
invariant-loop-table l = l.outputs ++ map (uploaded_table l.uploads) (drop l.table-index l.tables) ≡ map (uploaded_table l.uploads) l.tables
