use Rattle.slate_cluster_spare_laws.proofs.RemovedTables.{due_spare, removed_spare}
use Rattle.slate_cluster_spare_laws.proofs.removed_tables.removed_tables_are_spare.Goals as goal

pub returns : goal.returns
returns c = record {
  removed = λ specs events front back db id accepted good gone. removed_spare specs accepted events front back db id good gone;
  due = λ specs events n p task db phase accepted at is phrase. due_spare specs accepted events n p task db phase at is phrase;
}
