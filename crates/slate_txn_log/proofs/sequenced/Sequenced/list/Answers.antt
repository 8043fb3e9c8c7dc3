use Rattle.std.proofs.Common.{subst, sym}
use Rattle.slate_txn_log.specs.Versions.{Ascending, Within}
use Rattle.slate_txn_log.proofs.Ascend.{once_lists}
use Rattle.slate_txn_log.proofs.sequenced.Sequenced.list.Goals as goal

pub returns-in-Ok-clause-ascending : goal.returns-in-Ok-clause-ascending
returns-in-Ok-clause-ascending g c =
    let listing = once_lists c.args.self.now.log c.args.range c.in-Ok.versions c.in-Ok.ensures.read in
    subst (λ ws. Ascending ws) (sym c.into_vec.ensures) listing.ascending

pub returns-in-Ok-clause-within : goal.returns-in-Ok-clause-within
returns-in-Ok-clause-within g c =
    let listing = once_lists c.args.self.now.log c.args.range c.in-Ok.versions c.in-Ok.ensures.read in
    subst (λ ws. Within c.args.range ws) (sym c.into_vec.ensures) listing.within
