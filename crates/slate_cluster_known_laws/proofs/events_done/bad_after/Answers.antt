use Rattle.slate_cluster_known_laws.proofs.Bad.{bad_after}
use Rattle.slate_cluster_known_laws.proofs.events_done.bad_after.Goals as goal

pub returns : goal.returns
returns c = λ specs events event accepted good. bad_after specs accepted events good event
