use Rattle.std.proofs.Common.{sym, w64, ◌∙◌}
use Rattle.std.specs.Prelude.{refl}
use Rattle.std.proofs.lemmas.Int.{to_z-of_z}
use Rattle.slate_ids.specs.declared.error.SlateDBError.TheVariants.{StoreFault}
use Rattle.slate_txn_log.specs.Change.{next_epoch}
use Rattle.slate_txn_log.specs.declared.right.Right.TheVariants.{Plain}
use Rattle.slate_txn_laws.proofs.PlainCommits as plain
use Rattle.slate_state_holders.proofs.db_fenced.DbFenced.fence.Goals as goal

pub returns-clause-fenced : goal.returns-clause-fenced
returns-clause-fenced g c = rw (sym c.hold.ensures) at (rw c.stored.view_is at (rw (to_z-of_z w64 c.args.moment c.ranges.moment) at c.init.ensures.fenced))

pub returns-clause-fault : goal.returns-clause-fault
returns-clause-fault g c = λ same.
    let epoch = g.L.Epochs.Epochs.epoch c.args.epochs in
    let with_epoch = g.L.Epochs.Epochs.with_epoch c.args.epochs in
    c.init.ensures.fault (plain.ways_fine _ _ _ g.met.L.DbLog.plain (next_epoch epoch with_epoch) Plain (λ n value. plain.apart StoreFault _ refl (plain.raise_so epoch with_epoch n value))) (sym c.hold.ensures ∙ same)
