use Rattle.slate_cluster_pass_laws.proofs.Undisturbed.{passes_alone}
use Rattle.slate_cluster_pass_laws.proofs.passes_alone.undisturbed_pass.Goals as goal

pub returns : goal.returns
returns c = passes_alone
