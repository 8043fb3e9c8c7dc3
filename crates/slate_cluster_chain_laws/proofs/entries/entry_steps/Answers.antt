use Rattle.slate_cluster_protocol.specs.Logs.{records}
use Rattle.slate_cluster_chain_laws.specs.RecordSteps.{KeepsEntries}
use Rattle.slate_cluster_chain_laws.proofs.ChainSteps.{each_step}
use Rattle.slate_cluster_chain_laws.proofs.RecordSteps.{record_step}
use Rattle.slate_cluster_chain_laws.proofs.entries.entry_steps.Goals as goal

pub returns : goal.returns
returns c = λ chain h. each_step records (λ author old new. KeepsEntries author.puts old new) record_step chain h
