use Rattle.std.proofs.Common.{◌≡◌, ◌≤◌, length, take}
use Rattle.slate_txn_log.specs.Versions as spec
use Rattle.slate_txn_log.proofs.versions.place.Given as goal

abbrev pub invariant-loop-at : goal.invariant-loop-at
invariant-loop-at l = record {
  rest : spec.place l.number (take l.at l.kept) ≡ spec.place l.number l.kept;
  within : l.at ≤ length l.kept;
}

abbrev pub decreases-loop-at : goal.decreases-loop-at
decreases-loop-at l = l.at
