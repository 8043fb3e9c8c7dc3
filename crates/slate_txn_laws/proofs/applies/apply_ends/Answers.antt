use Rattle.slate_txn_laws.specs.Changing.{may_of}
use Rattle.slate_txn_laws.proofs.ApplyWalks.{apply_ends, apply_latest}
use Rattle.slate_txn_laws.proofs.Inside.{apply_inside}
use Rattle.slate_txn_laws.proofs.applies.apply_ends.Goals as goal

pub returns : goal.returns
returns g c = record {
  answers = λ ways moment tries from to two named small old new s result applies serves ready. apply_ends ways moment tries old new s from to result applies two named small serves ready;
  latest = λ ways moment tries from to one named small old new s result applies serves ready latest. apply_latest ways moment tries old new s from to result applies one named small serves ready latest;
  inside = λ ways moment tries from to two inside named small old new s result applies serves ready. apply_inside (may_of ways) inside s new from to result (apply_ends ways moment tries old new s from to result applies two named small serves ready);
}
