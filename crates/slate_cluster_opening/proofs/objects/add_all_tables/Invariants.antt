use Rattle.std.proofs.Common.{◌≡◌, drop}
use Rattle.slate_cluster_protocol.specs.Specs.{all_tables_from}
use Rattle.slate_cluster_opening.proofs.objects.add_all_tables.Given as goal

-- the objects so far and the databases that are left
abbrev pub invariant-loop-spec : goal.invariant-loop-spec
invariant-loop-spec l = all_tables_from l.objects.entries (drop l.spec-index l.specs) ≡ all_tables_from l.fn.objects.entries l.specs
