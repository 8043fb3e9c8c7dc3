use Rattle.std.proofs.Common.{Ok, ap, rules, refl, sym, ◌∙◌}
use Rattle.slate_txn.proofs.AppliesBy.{maybe_wrapped}
use Rattle.slate_txn.specs.Updating.{maybe_of}
use Rattle.slate_txn.proofs.stored.Stored.start_maybe_apply.Goals as goal

pub returns-in-Ok-Some-clause-commits : goal.returns-in-Ok-Some-clause-commits
returns-in-Ok-Some-clause-commits g c =
    let held = c.args.self.now in
    maybe_wrapped _ _ (g.R.Rules.refusal held.rules) (g.C.ObjectCodec.encoded held.sequenced.codec) c.args.right.now held.id held.object (Ok c.in-Ok-Some.field-0) _
    (λ codec id shown reply answers. search (rules, answers)) refl (ap (λ o. maybe_of (Ok o)) (sym c.in-Ok-Some.field-0-is)) c.in-Ok-Some.ensures.moves

pub returns-in-Ok-None-clause-commits : goal.returns-in-Ok-None-clause-commits
returns-in-Ok-None-clause-commits g c =
    let held = c.args.self.now in
    maybe_wrapped _ _ (g.R.Rules.refusal held.rules) (g.C.ObjectCodec.encoded held.sequenced.codec) c.args.right.now held.id held.object (Ok c.in-Ok-None.field-0) _
    (λ codec id shown reply answers. search (rules, answers)) refl (ap (λ o. maybe_of (Ok o)) (sym c.in-Ok-None.field-0-is)) c.in-Ok-None.ensures.moves

pub returns-clause-commits : goal.returns-clause-commits
returns-clause-commits g c =
    let held = c.args.self.now in
    maybe_wrapped _ _ (g.R.Rules.refusal held.rules) (g.C.ObjectCodec.encoded held.sequenced.codec) c.args.right.now held.id held.object _ _
    (λ codec id shown reply answers. search (rules, answers)) (sym c.is_memory.ensures ∙ c.if-is_memory.false) refl c.in-Err.ensures.moves
