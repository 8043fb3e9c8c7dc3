use Rattle.slate_cluster_protocol.specs.Lawful.{chains_at_end}
use Rattle.slate_cluster_protocol.specs.Logs.{world_after}
use Rattle.slate_cluster_protocol.specs.Specs.{opening_world}
use Rattle.slate_cluster_laws.proofs.AfterEvents.{after_inv}
use Rattle.slate_cluster_laws.proofs.Changes.{put_changes}
use Rattle.slate_cluster_laws.proofs.chains.written_puts.Goals as goal

pub returns : goal.returns
returns c = λ specs events n p task accepted at state. put_changes (world_after events (opening_world specs)) (chains_at_end specs events) (after_inv specs events accepted) n p at task state
