use Rattle.slate_txn_laws.proofs.Inside.{read_inside}
use Rattle.slate_txn_laws.proofs.LatestReads.{read_ends}
use Rattle.slate_txn_laws.proofs.reads.read_ends.Goals as goal

pub returns : goal.returns
returns g c = record {
  answers = λ decoded sequenced tries some old new s result read serves ready. read_ends decoded sequenced tries old new s result read some serves ready;
  inside = λ decoded sequenced tries some inside old new s result read serves ready. read_inside (decoded sequenced.codec) sequenced.db sequenced.log s result inside (read_ends decoded sequenced tries old new s result read some serves ready).0;
}
