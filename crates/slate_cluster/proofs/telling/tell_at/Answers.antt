use Rattle.std.proofs.Common.{string_bytes, ◌∙◌}
use Rattle.slate_cluster_protocol.specs.Runs.{run}
use Rattle.slate_cluster.proofs.ToldLines.{told_whole}
use Rattle.slate_cluster.specs.Told.{from_state}
use Rattle.slate_cluster.proofs.telling.tell_at.Goals as goal

pub returns-clause-text : goal.returns-clause-text
returns-clause-text c = λ specs.
    c.in_ok-push_end_of.ensures
    ∙ told_whole (run c.args.events.now 0 (from_state specs c.args.state.now)) c.in_ok-bad.bad c.tell.new.state (string_bytes c.new-text.result) (string_bytes c.tell.new.text) c.new-text.ensures.bytes (c.in_ok-bad.ensures specs)
