use Rattle.std.proofs.Common.{w64}
use Rattle.std.proofs.lemmas.Int.{to_z-of_z}
use Rattle.slate_state_holders.proofs.fenceable_manifest.FenceableManifest.init_writer.Goals as goal

pub returns-clause-fenced : goal.returns-clause-fenced
returns-clause-fenced g c = rw (to_z-of_z w64 c.args.moment c.ranges.moment) at c.fence.ensures.fenced
