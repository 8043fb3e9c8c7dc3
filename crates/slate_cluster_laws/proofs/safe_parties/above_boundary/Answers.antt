use Rattle.slate_cluster_laws.proofs.Holding.{above_bound}
use Rattle.slate_cluster_laws.proofs.safe_parties.above_boundary.Goals as goal

pub returns : goal.returns
returns c = above_bound
