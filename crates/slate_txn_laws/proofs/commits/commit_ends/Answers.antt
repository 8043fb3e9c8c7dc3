use Rattle.slate_txn_laws.proofs.CommitWalks.{commit_ends}
use Rattle.slate_txn_laws.proofs.Inside.{commit_inside}
use Rattle.slate_txn_laws.proofs.commits.commit_ends.Goals as goal

pub returns : goal.returns
returns g c = record {
  answers = λ db log n bytes value moment named some small old new s result ran serves ready. commit_ends db log n bytes value moment old new s result ran named some small serves ready;
  inside = λ db log n bytes value moment named some small old new s result ran serves ready over. commit_inside db log s new n bytes value result over (commit_ends db log n bytes value moment old new s result ran named some small serves ready).0;
}
