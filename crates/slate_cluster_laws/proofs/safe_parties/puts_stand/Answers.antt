use Rattle.slate_cluster_laws.proofs.Holding.{put_stands}
use Rattle.slate_cluster_laws.proofs.safe_parties.puts_stand.Goals as goal

pub returns : goal.returns
returns c = λ specs events n p task accepted at is. put_stands specs events n p task accepted at is
