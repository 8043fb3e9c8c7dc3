use Rattle.std.proofs.Common.{sym, ◌∙◌}
use Rattle.slate_txn.proofs.AppliesBy.{maybe_fenced}
use Rattle.slate_txn.proofs.fenced.Fenced.start_maybe_apply.Goals as goal

pub returns-in-Some-clause-commits : goal.returns-in-Some-clause-commits
returns-in-Some-clause-commits g c =
    let fenced = c.args.self.now in
    let held = fenced.holder in
    maybe_fenced g.E.Epochs.epoch fenced.epochs fenced.epoch _ (g.R.Rules.refusal held.rules) (g.C.ObjectCodec.encoded held.sequenced.codec) c.args.right.now held.id held.object c.in-Some.e c.new.result (sym c.fence_held.ensures ∙ c.in-Some.is) c.new.ensures
