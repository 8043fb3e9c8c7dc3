use Rattle.std.proofs.Common.{◌≡◌}
use Rattle.std.specs.List.{list_any}
use Rattle.slate_cluster_protocol.specs.Specs.{has_wrong_output}
use Rattle.slate_cluster_opening.proofs.causes.record_has_wrong.Given as goal

-- the compactions that are left decide
abbrev pub invariant-loop-compaction : goal.invariant-loop-compaction
invariant-loop-compaction l = list_any (has_wrong_output l.objects.entries l.spec) l.compaction-iterator ≡ list_any (has_wrong_output l.objects.entries l.spec) l.compactions.entries
