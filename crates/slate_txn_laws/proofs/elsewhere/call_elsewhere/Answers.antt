use Rattle.slate_txn_laws.proofs.OtherCalls.{call_ready}
use Rattle.slate_txn_laws.proofs.elsewhere.call_elsewhere.Goals as goal

pub returns : goal.returns
returns c = call_ready
