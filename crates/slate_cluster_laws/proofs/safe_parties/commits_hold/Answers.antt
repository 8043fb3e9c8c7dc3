use Rattle.slate_cluster_laws.proofs.Holding.{commit_holds}
use Rattle.slate_cluster_laws.proofs.safe_parties.commits_hold.Goals as goal

pub returns : goal.returns
returns c = λ specs events n p task accepted at is. commit_holds specs events n p task accepted at is
