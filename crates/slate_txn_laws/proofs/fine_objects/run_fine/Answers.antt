use Rattle.slate_txn_laws.proofs.FineObjects as fine
use Rattle.slate_txn_laws.proofs.fine_objects.run_fine.Goals as goal

pub returns : goal.returns
returns g c = λ asks goes moment old new calls from out run all before. fine.run_fine asks goes moment old new calls from out run all before
