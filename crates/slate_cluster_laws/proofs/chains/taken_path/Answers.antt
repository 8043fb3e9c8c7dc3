use Rattle.slate_cluster_laws.proofs.Changes.{taken_path}
use Rattle.slate_cluster_laws.proofs.chains.taken_path.Goals as goal

pub returns : goal.returns
returns c = taken_path
