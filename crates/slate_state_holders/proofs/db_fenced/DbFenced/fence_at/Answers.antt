use Rattle.std.proofs.Common.{sym, w64, ◌∙◌}
use Rattle.std.proofs.lemmas.Int.{to_z-of_z}
use Rattle.slate_txn_log.specs.declared.right.Right.TheVariants.{Plain}
use Rattle.slate_txn_laws.proofs.PlainCommits as plain
use Rattle.slate_txn.specs.FencedApplying.{fenced_made}
use Rattle.slate_txn.specs.Raise.{this_epoch}
use Rattle.slate_state_holders.proofs.db_fenced.DbFenced.fence_at.Goals as goal

pub returns-clause-set : goal.returns-clause-set
returns-clause-set g c = rw (sym c.hold.ensures) at (rw c.stored.view_is at (rw (to_z-of_z w64 c.args.moment c.ranges.moment) at c.init_with_epoch.ensures.set))

pub returns-clause-fenced : goal.returns-clause-fenced
returns-clause-fenced g c = λ own read same.
    let given = this_epoch (g.L.Epochs.Epochs.with_epoch c.args.epochs) c.args.epoch in
    c.init_with_epoch.ensures.fenced (plain.ways_free _ _ _ g.met.L.DbLog.plain given Plain (plain.given_free (g.L.Epochs.Epochs.with_epoch c.args.epochs) c.args.epoch)) own read (sym c.hold.ensures ∙ same)

pub returns-clause-fault : goal.returns-clause-fault
returns-clause-fault g c = λ same.
    let epoch = g.L.Epochs.Epochs.epoch in
    let given = this_epoch (g.L.Epochs.Epochs.with_epoch c.args.epochs) c.args.epoch in
    let fine = plain.fenced_fine epoch c.args.epochs c.args.epoch given (plain.given_fine (g.L.Epochs.Epochs.with_epoch c.args.epochs) c.args.epoch) in
    c.init_with_epoch.ensures.fault (plain.ways_fine _ _ _ g.met.L.DbLog.plain (fenced_made epoch c.args.epochs c.args.epoch given) Plain fine) (sym c.hold.ensures ∙ same)
