use Rattle.std.proofs.Common.{sym, rules, w64}
use Rattle.std.proofs.lemmas.Int.{to_z-of_z}
use Rattle.slate_txn_log.specs.declared.right.Right.TheVariants.{Plain}
use Rattle.slate_txn.proofs.SetEpochs.{set_own, set_below}
use Rattle.slate_txn.specs.FencedApplying.{fenced_made}
use Rattle.slate_txn.specs.Raise.{this_epoch}
use Rattle.slate_txn.proofs.fenced.Fenced.init_with_epoch.Goals as goal

pub returns-clause-set : goal.returns-clause-set
returns-clause-set g c =
    let epochs = c.args.epochs in
    let own = c.args.epoch in
    let applies = c.apply-reply.ensures.apply (fenced_made g.E.Epochs.epoch epochs own (this_epoch (g.E.Epochs.with_epoch epochs) own)) (λ codec id value reply answers. search (rules, answers)) in
    record {
      to = c.apply-reply.new.self;
      reply = c.apply-reply.result;
      applies = rw (to_z-of_z w64 c.args.moment c.ranges.moment) at applies;
      same = sym c.fenced_after.ensures;
    }

pub returns-clause-own : goal.returns-clause-own
returns-clause-own g c =
    let old = g.S.ObjectStore.told c.args.store.now in
    let new = g.S.ObjectStore.told c.apply-reply.new.store in
    set_own g.C.ObjectCodec.decoded g.C.ObjectCodec.encoded g.R.Rules.refusal g.E.Epochs.epoch g.E.Epochs.with_epoch c.args.epochs c.args.epoch Plain c.args.moment c.args.tries old new c.args.stored c.fenced_after.result
    (λ value n. g.met.E.Epochs.epoch_set c.args.epochs value n) (returns-clause-set g c)

pub returns-clause-fenced : goal.returns-clause-fenced
returns-clause-fenced g c = λ free.
    let old = g.S.ObjectStore.told c.args.store.now in
    let new = g.S.ObjectStore.told c.apply-reply.new.store in
    set_below _ g.C.ObjectCodec.decoded g.C.ObjectCodec.encoded g.R.Rules.refusal g.E.Epochs.epoch g.E.Epochs.with_epoch c.args.epochs c.args.epoch Plain _ c.args.tries old new c.args.stored c.apply-reply.new.self c.apply-reply.result c.fenced_after.result
    (λ codec id value reply answers. search (rules, answers)) free c.apply-reply.ensures.moves c.fenced_after.ensures
