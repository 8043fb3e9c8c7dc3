use Rattle.slate_txn_laws.proofs.OtherCalls.{run_ready}
use Rattle.slate_txn_laws.proofs.elsewhere.run_elsewhere.Goals as goal

pub returns : goal.returns
returns g c = λ db log named asks goes moment old new calls from out run all before. run_ready db log named asks goes moment old new calls from out run all before
