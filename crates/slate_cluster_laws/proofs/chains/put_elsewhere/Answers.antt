use Rattle.slate_cluster_laws.proofs.Elsewhere.{put_elsewhere}
use Rattle.slate_cluster_laws.proofs.chains.put_elsewhere.Goals as goal

pub returns : goal.returns
returns c = λ k db path bytes moment mark store named fine other. put_elsewhere k db path bytes moment mark store named fine other
