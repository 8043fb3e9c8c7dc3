use Rattle.std.proofs.Common.{w64}
use Rattle.std.proofs.lemmas.Int.{to_z-of_z}
use Rattle.slate_state_holders.proofs.db_fenced.DbFenced.update.Goals as goal

pub returns-clause-update : goal.returns-clause-update
returns-clause-update g c = rw c.self.view_is at (rw (to_z-of_z w64 c.args.moment c.ranges.moment) at c.update.ensures.update)
