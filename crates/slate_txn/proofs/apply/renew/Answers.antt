use Rattle.std.proofs.Common.{refl}
use Rattle.slate_txn.proofs.AppliesBy.{renewed_err, renewed_ok}
use Rattle.slate_txn.proofs.apply.renew.Goals as goal

pub returns-in-Err-clause-moves : goal.returns-in-Err-clause-moves
returns-in-Err-clause-moves g c =
    renewed_err _ _ _ (g.R.Rules.refusal c.args.rules.now) (g.C.ObjectCodec.encoded c.args.codec.now) c.args.right.now c.args.id c.in-Err.e _ c.in-Err.ensures refl

pub returns-in-Ok-clause-moves : goal.returns-in-Ok-clause-moves
returns-in-Ok-clause-moves g c =
    renewed_ok _ _ _ (g.R.Rules.refusal c.args.rules.now) (g.C.ObjectCodec.encoded c.args.codec.now) c.args.right.now c.args.id c.in-Ok.changed c.prepare_change.result c.in-Ok.ensures c.prepare_change.ensures.commit
