use Rattle.slate_cluster_chain_laws.proofs.RecordSteps.{outputs_stand}
use Rattle.slate_cluster_chain_laws.proofs.entries.outputs_obeyed.Goals as goal

pub returns : goal.returns
returns c = λ chain h given n l at. outputs_stand chain h given n l at
