use Rattle.slate_cluster_laws.proofs.Tops.{top_listed, none_listed}
use Rattle.slate_cluster_laws.proofs.chains.list_top.Goals as goal

pub returns : goal.returns
returns c = record { some = top_listed; none = none_listed }
