use Rattle.slate_cluster_laws.proofs.OpenedEpochs.{epochs_of_run}
use Rattle.slate_cluster_laws.proofs.safe_parties.epochs_stand.Goals as goal

pub returns : goal.returns
returns c = λ specs events n p accepted at. epochs_of_run specs events n p accepted at
