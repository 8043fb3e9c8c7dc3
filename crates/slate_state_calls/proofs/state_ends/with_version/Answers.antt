use Rattle.std.proofs.Common.{w64}
use Rattle.std.proofs.lemmas.Int.{to_z-of_z}
use Rattle.slate_state_calls.proofs.state_ends.with_version.Goals as goal

pub returns-in-Fetch-clause-leads : goal.returns-in-Fetch-clause-leads
returns-in-Fetch-clause-leads c = rw (c.in-Fetch.is) (rw (to_z-of_z w64 c.args.now c.ranges.now) at c.put_statuses.ensures.leads)
