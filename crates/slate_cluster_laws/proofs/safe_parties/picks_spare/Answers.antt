use Rattle.slate_cluster_laws.proofs.Holding.{spare_picks}
use Rattle.slate_cluster_laws.proofs.safe_parties.picks_spare.Goals as goal

pub returns : goal.returns
returns c = λ specs events n p task accepted at is. spare_picks specs events n p task accepted at is
