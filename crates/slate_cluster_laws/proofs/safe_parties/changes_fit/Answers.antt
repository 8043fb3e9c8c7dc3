use Rattle.slate_cluster_laws.proofs.Holding.{work_fits}
use Rattle.slate_cluster_laws.proofs.safe_parties.changes_fit.Goals as goal

pub returns : goal.returns
returns c = λ specs events n p task accepted at is. work_fits specs events n p task accepted at is
