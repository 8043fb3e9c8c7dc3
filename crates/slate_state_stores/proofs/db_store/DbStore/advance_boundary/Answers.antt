use Rattle.std.proofs.Common.{w64}
use Rattle.std.proofs.lemmas.Int.{to_z-of_z}
use Rattle.slate_state_stores.proofs.db_store.DbStore.advance_boundary.Goals as goal

pub returns-clause-advance : goal.returns-clause-advance
returns-clause-advance g c = rw c.self.view_is at (rw (to_z-of_z w64 c.args.moment c.ranges.moment) at c.advance.ensures.advance)
