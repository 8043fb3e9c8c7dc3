use Rattle.std.proofs.Common.{w64}
use Rattle.std.proofs.lemmas.Int.{to_z-of_z}
use Rattle.slate_state_holders.proofs.stored_manifest.StoredManifest.create_new_db.Goals as goal

pub returns-clause-create : goal.returns-clause-create
returns-clause-create g c = rw c.initial-first.ensures at (rw (to_z-of_z w64 c.args.moment c.ranges.moment) at c.create_first.ensures.create)

pub returns-clause-before : goal.returns-clause-before
returns-clause-before g c = rw c.initial-first.ensures at c.create_first.ensures.before

pub returns-clause-put : goal.returns-clause-put
returns-clause-put g c = rw c.initial-first.ensures at (rw (to_z-of_z w64 c.args.moment c.ranges.moment) at c.create_first.ensures.put)

pub returns-clause-stands : goal.returns-clause-stands
returns-clause-stands g c = rw c.initial-first.ensures at (rw (to_z-of_z w64 c.args.moment c.ranges.moment) at c.create_first.ensures.stands)
