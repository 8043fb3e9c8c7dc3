use Rattle.slate_cluster_known_laws.proofs.Bad.{checkpoints_named}
use Rattle.slate_cluster_known_laws.proofs.events_done.checkpoints_carried.Goals as goal

pub returns : goal.returns
returns c = λ specs events id accepted good. checkpoints_named specs accepted events good id
