use Rattle.slate_cluster_known_laws.proofs.Bad.{ulids_named}
use Rattle.slate_cluster_known_laws.proofs.events_done.ulids_carried.Goals as goal

pub returns : goal.returns
returns c = λ specs events id accepted good. ulids_named specs accepted events good id
