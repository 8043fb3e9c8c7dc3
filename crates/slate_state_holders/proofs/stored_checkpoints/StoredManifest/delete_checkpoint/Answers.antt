use Rattle.std.proofs.Common.{w64}
use Rattle.std.proofs.lemmas.Int.{to_z-of_z}
use Rattle.slate_state_holders.proofs.stored_checkpoints.StoredManifest.delete_checkpoint.Goals as goal

pub returns-clause-deleted : goal.returns-clause-deleted
returns-clause-deleted g c = rw (to_z-of_z w64 c.args.moment c.ranges.moment) at c.commit_change-reply.ensures.change
