use Rattle.slate_cluster_protocol.specs.Logs.{manifests}
use Rattle.slate_cluster_chain_laws.specs.Raises.{RaisesOrKeeps}
use Rattle.slate_cluster_chain_laws.proofs.ChainSteps.{each_step}
use Rattle.slate_cluster_chain_laws.proofs.Raises.{raise_step}
use Rattle.slate_cluster_chain_laws.proofs.fences.epoch_steps.Goals as goal

pub returns : goal.returns
returns c = λ chain h. each_step manifests (λ author old new. RaisesOrKeeps author.puts old new) raise_step chain h
