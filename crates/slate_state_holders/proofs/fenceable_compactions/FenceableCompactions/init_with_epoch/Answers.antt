use Rattle.std.proofs.Common.{w64}
use Rattle.std.proofs.lemmas.Int.{to_z-of_z}
use Rattle.slate_state_holders.proofs.fenceable_compactions.FenceableCompactions.init_with_epoch.Goals as goal

pub returns-clause-set : goal.returns-clause-set
returns-clause-set g c = (_, rw (to_z-of_z w64 c.args.moment c.ranges.moment) at c.fence_at.ensures.set)
