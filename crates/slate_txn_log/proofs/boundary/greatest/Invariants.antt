use Rattle.std.proofs.Common.{◌≡◌, drop}
use Rattle.slate_txn_log.specs.Boundary.{greatest_from, greatest}
use Rattle.slate_txn_log.proofs.boundary.greatest.Given as goal

abbrev pub invariant-loop-metadata : goal.invariant-loop-metadata
invariant-loop-metadata l = greatest_from l.log l.best (drop l.metadata-index l.found) ≡ greatest l.log l.found
