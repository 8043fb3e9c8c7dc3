use Rattle.slate_txn_log.specs.declared.log_kind.LogKind.TheVariants as logs
use Rattle.slate_cluster_protocol.specs.Lawful.{chains_at_end}
use Rattle.slate_cluster_laws.proofs.AfterEvents.{after_inv}
use Rattle.slate_cluster_compactor_laws.proofs.Growing.{records_of_chain}
use Rattle.slate_cluster_compactor_laws.proofs.Laws.{holders_of_run}
use Rattle.slate_cluster_compactor_laws.proofs.compactors.records_grow.Goals as goal

pub returns : goal.returns
returns c = record {
  grow = λ specs events db accepted has. let i = after_inv specs events accepted in records_of_chain (chains_at_end specs events logs.Compactions db) (i.logs logs.Compactions db (i.named db has)).chain;
  trimmed = λ specs events db accepted has. holders_of_run specs events accepted db has;
}
