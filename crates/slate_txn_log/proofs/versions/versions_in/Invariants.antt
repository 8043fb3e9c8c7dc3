use Rattle.std.proofs.Common.{◌≡◌, drop}
use Rattle.slate_txn_log.proofs.Ascend.{Listing}
use Rattle.slate_txn_log.specs.Versions as spec
use Rattle.slate_txn_log.proofs.versions.versions_in.Given as goal

abbrev pub invariant-loop-metadata : goal.invariant-loop-metadata
invariant-loop-metadata l = record {
  rest : spec.versions_from l.log l.range l.kept.items (drop l.metadata-index l.found) ≡ spec.versions_in l.log l.range l.found;
  listing : Listing l.range l.kept.items;
}
