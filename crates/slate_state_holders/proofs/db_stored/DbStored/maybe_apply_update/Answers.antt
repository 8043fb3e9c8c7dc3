use Rattle.std.proofs.Common.{w64}
use Rattle.std.proofs.lemmas.Int.{to_z-of_z}
use Rattle.slate_txn_laws.proofs.PlainCommits as plain
use Rattle.slate_state_holders.proofs.db_stored.DbStored.maybe_apply_update.Goals as goal

pub returns-clause-apply : goal.returns-clause-apply
returns-clause-apply g c = λ changed computes. rw c.self.view_is at (rw (to_z-of_z w64 c.args.moment c.ranges.moment) at (c.maybe_apply.ensures.apply changed computes))

pub returns-clause-moves : goal.returns-clause-moves
returns-clause-moves g c = rw c.self.view_is at (rw (to_z-of_z w64 c.args.moment c.ranges.moment) at c.maybe_apply.ensures.moves)

pub returns-clause-never : goal.returns-clause-never
returns-clause-never g c = λ fine. c.maybe_apply.ensures.never (plain.any_fine _ _ _ g.met.L.DbLog.plain _ c.args.right.now fine)
