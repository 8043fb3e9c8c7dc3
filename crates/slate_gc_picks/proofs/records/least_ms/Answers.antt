use Rattle.std.proofs.Common.{◌∙◌}
use Rattle.slate_state_record_updates.proofs.LeastIds.{least_is}
use Rattle.slate_gc_picks.proofs.records.least_ms.Goals as goal

pub returns-in-Some : goal.returns-in-Some
returns-in-Some c = c.timestamp_ms.ensures.value ∙ least_is c.in-Some.id c.args.compactions.now.entries c.in-Some.ensures.first c.in-Some.ensures.least
