use Rattle.std.proofs.Common.{◌≡◌, ◌++◌, drop, map}
use Rattle.slate_cluster_protocol.specs.Calls.{flushed_table}
use Rattle.slate_cluster_steps.proofs.uploaded.flushed_tables.Given as goal

-- the tables so far and those that are left
abbrev pub invariant-loop-table : goal.invariant-loop-table
invariant-loop-table l = l.flushed ++ map (flushed_table l.uploads) (drop l.table-index l.tables) ≡ map (flushed_table l.uploads) l.tables
