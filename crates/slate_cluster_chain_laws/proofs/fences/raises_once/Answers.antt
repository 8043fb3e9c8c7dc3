use Rattle.slate_cluster_chain_laws.proofs.Raises.{raised_once}
use Rattle.slate_cluster_chain_laws.proofs.fences.raises_once.Goals as goal

pub returns : goal.returns
returns c = λ chain n m epoch one other h. raised_once chain h n m epoch one other
