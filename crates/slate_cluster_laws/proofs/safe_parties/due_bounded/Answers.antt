use Rattle.slate_cluster_laws.proofs.Holding.{bounded_due}
use Rattle.slate_cluster_laws.proofs.safe_parties.due_bounded.Goals as goal

pub returns : goal.returns
returns c = λ specs events n p task accepted at is. bounded_due specs events n p task accepted at is
