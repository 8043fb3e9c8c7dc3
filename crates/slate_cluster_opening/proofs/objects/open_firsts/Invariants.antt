use Rattle.std.proofs.Common.{◌≡◌, [], drop}
use Rattle.slate_cluster_protocol.specs.Specs.{firsts_from}
use Rattle.slate_cluster_opening.proofs.objects.open_firsts.Given as goal

abbrev pub invariant-loop-spec : goal.invariant-loop-spec
invariant-loop-spec l = firsts_from l.firsts.entries (drop l.spec-index l.specs) ≡ firsts_from [] l.specs
