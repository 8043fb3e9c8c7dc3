use Rattle.slate_txn_laws.proofs.OneCalls.{once_ends}
use Rattle.slate_txn_laws.proofs.once_calls.once_ends.Goals as goal

pub returns : goal.returns
returns g c = λ call moment reply old new s result once serves. once_ends old new call moment reply s result once serves
