use Rattle.std.proofs.Common.{w64}
use Rattle.std.proofs.lemmas.Int.{to_z-of_z}
use Rattle.slate_txn_laws.proofs.PlainCommits as plain
use Rattle.slate_state_holders.proofs.FencedMay.{fenced_may_fine}
use Rattle.slate_txn.specs.FencedApplying.{fenced_made}
use Rattle.slate_state_holders.proofs.db_fenced.DbFenced.maybe_apply_update.Goals as goal

pub returns-clause-apply : goal.returns-clause-apply
returns-clause-apply g c = λ changed computes. rw c.self.view_is at (rw (to_z-of_z w64 c.args.moment c.ranges.moment) at (c.maybe_apply.ensures.apply changed computes))

pub returns-clause-moves : goal.returns-clause-moves
returns-clause-moves g c = rw c.self.view_is at (rw (to_z-of_z w64 c.args.moment c.ranges.moment) at c.maybe_apply.ensures.moves)

pub returns-clause-never : goal.returns-clause-never
returns-clause-never g c = λ fine.
    let inside = c.self.inside.fenced in
    c.maybe_apply.ensures.never (plain.any_fine _ _ _ g.met.L.DbLog.plain _ c.args.right.now (fenced_may_fine g.L.Epochs.Epochs.epoch inside.epochs inside.epoch _ fine))

pub returns-clause-fault : goal.returns-clause-fault
returns-clause-fault g c = λ changed computes fine.
    let inside = c.self.inside.fenced in
    c.maybe_apply.ensures.fault changed computes (plain.ways_fine _ _ _ g.met.L.DbLog.plain (fenced_made g.L.Epochs.Epochs.epoch inside.epochs inside.epoch changed) c.args.right.now (plain.fenced_fine g.L.Epochs.Epochs.epoch inside.epochs inside.epoch changed fine))

pub returns-clause-fenced : goal.returns-clause-fenced
returns-clause-fenced g c = λ free. c.maybe_apply.ensures.unfenced (plain.any_free _ _ _ g.met.L.DbLog.plain _ c.args.right.now free)
