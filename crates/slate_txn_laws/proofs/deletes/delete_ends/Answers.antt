use Rattle.slate_txn_laws.proofs.BoundaryWalks.{delete_ends}
use Rattle.slate_txn_laws.proofs.deletes.delete_ends.Goals as goal

pub returns : goal.returns
returns g c = record {
  answers = λ sequenced n old new s result ran serves. (delete_ends sequenced n old new s result ran serves).0;
  ready = λ sequenced n named some small old new s result ran serves ready. (delete_ends sequenced n old new s result ran serves).1 named some small ready;
}
