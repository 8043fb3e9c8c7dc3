use Rattle.std.proofs.Common.{refl}
use Rattle.slate_cluster_protocol.specs.Reach.IsNeeded.{Greatest, Named}
use Rattle.slate_cluster_chain_laws.proofs.needs.needed_versions.Goals as goal

pub returns : goal.returns
returns c = record { greatest = λ k l rest pos. Greatest pos refl; named = λ l rest n named. Named named }
