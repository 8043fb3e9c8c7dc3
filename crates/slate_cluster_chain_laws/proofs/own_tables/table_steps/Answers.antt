use Rattle.slate_cluster_chain_laws.proofs.TableSteps.{tables_come}
use Rattle.slate_cluster_chain_laws.proofs.own_tables.table_steps.Goals as goal

pub returns : goal.returns
returns c = λ chain h. tables_come chain h
