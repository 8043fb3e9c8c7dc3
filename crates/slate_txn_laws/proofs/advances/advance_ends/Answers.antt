use Rattle.slate_txn_laws.proofs.BoundaryWalks.{advance_ends}
use Rattle.slate_txn_laws.proofs.Inside.{advance_inside}
use Rattle.slate_txn_laws.proofs.advances.advance_ends.Goals as goal

pub returns : goal.returns
returns g c = record {
  answers = λ sequenced n moment tries some small old new s result ran serves. (advance_ends sequenced n moment tries old new s result ran some small serves).0;
  ready = λ sequenced n moment tries some small named old new s result ran serves ready. (advance_ends sequenced n moment tries old new s result ran some small serves).1 named ready;
  inside = λ sequenced n moment tries some small old new s result ran serves. advance_inside sequenced.db sequenced.log s new n result (advance_ends sequenced n moment tries old new s result ran some small serves).0;
}
