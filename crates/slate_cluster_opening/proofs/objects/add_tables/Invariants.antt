use Rattle.std.proofs.Common.{◌≡◌, drop}
use Rattle.slate_cluster_protocol.specs.Specs.{tables_from}
use Rattle.slate_cluster_opening.proofs.objects.add_tables.Given as goal

-- the objects so far and the tables that are left
abbrev pub invariant-loop-table : goal.invariant-loop-table
invariant-loop-table l = tables_from l.objects.entries l.spec (drop l.table-index l.tables) ≡ tables_from l.fn.objects.entries l.spec l.tables
