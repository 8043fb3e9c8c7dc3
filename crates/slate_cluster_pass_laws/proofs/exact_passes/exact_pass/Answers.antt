use Rattle.slate_cluster_pass_laws.proofs.Exact.{exact_pass}
use Rattle.slate_cluster_pass_laws.proofs.exact_passes.exact_pass.Goals as goal

pub returns : goal.returns
returns c = exact_pass
