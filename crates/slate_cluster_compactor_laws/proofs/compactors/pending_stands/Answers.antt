use Rattle.slate_cluster_compactor_laws.proofs.Laws.{pending_of_run}
use Rattle.slate_cluster_compactor_laws.proofs.compactors.pending_stands.Goals as goal

pub returns : goal.returns
returns c = λ specs events n p accepted at. pending_of_run specs events accepted n p at
