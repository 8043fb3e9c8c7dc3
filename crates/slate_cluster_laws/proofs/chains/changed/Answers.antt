use Rattle.slate_cluster_protocol.specs.Lawful.{chains_at_end}
use Rattle.slate_cluster_protocol.specs.Logs.{world_after}
use Rattle.slate_cluster_protocol.specs.Specs.{opening_world}
use Rattle.slate_cluster_laws.proofs.Changes.{event_changes}
use Rattle.slate_cluster_laws.proofs.AfterEvents.{after_inv}
use Rattle.slate_cluster_laws.proofs.chains.changed.Goals as goal

pub returns : goal.returns
returns c = λ specs events event k db accepted has.
    let i = after_inv specs events accepted in
    event_changes (world_after events (opening_world specs)) (chains_at_end specs events) event i k db (i.named db has)
