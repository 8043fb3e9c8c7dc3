use Rattle.std.proofs.Common.{subst}
use Rattle.slate_ids.specs.Answers.{Gives}
use Rattle.slate_txn_log.specs.Change.{renewed}
use Rattle.slate_txn.proofs.AppliesBy.{renewed_within}
use Rattle.slate_txn.specs.Holder.{Holder}
use Rattle.slate_txn.proofs.stored.Stored.renew_held.Goals as goal

pub returns-clause-commit : goal.returns-clause-commit
returns-clause-commit g c = λ made computes.
    subst (λ (h : Holder _ _ _). Gives c.renew.result (renewed made (g.R.Rules.refusal h.rules) (g.C.ObjectCodec.encoded h.sequenced.codec) c.args.right.now h.id h.object)) c.self.view_is (c.renew.ensures.commit made computes)

pub returns-clause-moves : goal.returns-clause-moves
returns-clause-moves g c = renewed_within _ g.R.Rules.refusal g.C.ObjectCodec.encoded c.args.right.now _ c.args.self.now c.renew.result c.self.view_is c.renew.ensures.moves
