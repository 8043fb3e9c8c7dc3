use Rattle.slate_cluster_laws.proofs.Holding.{late_refused}
use Rattle.slate_cluster_laws.proofs.safe_parties.late_put_is_refused.Goals as goal

pub returns : goal.returns
returns c = λ specs events n p task accepted good at is k db puts now number v front back mark moment e gone. late_refused specs events n p task accepted at is k db puts now number v front back mark moment e good gone
