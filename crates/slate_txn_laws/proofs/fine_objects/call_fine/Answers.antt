use Rattle.slate_txn_laws.proofs.FineObjects as fine
use Rattle.slate_txn_laws.proofs.fine_objects.call_fine.Goals as goal

pub returns : goal.returns
returns c = fine.call_fine
