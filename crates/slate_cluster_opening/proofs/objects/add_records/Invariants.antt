use Rattle.std.proofs.Common.{◌≡◌, drop}
use Rattle.slate_cluster_protocol.specs.Specs.{records_from}
use Rattle.slate_cluster_opening.proofs.objects.add_records.Given as goal

-- the objects so far and the databases that are left
abbrev pub invariant-loop-spec : goal.invariant-loop-spec
invariant-loop-spec l = records_from l.firsts.entries (drop l.spec-index l.specs) ≡ records_from l.fn.firsts.entries l.specs
