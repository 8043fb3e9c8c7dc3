use Rattle.std.proofs.Common.{sym, rules, w64}
use Rattle.std.proofs.lemmas.Int.{to_z-of_z}
use Rattle.slate_txn_log.specs.Change.{next_epoch}
use Rattle.slate_txn.proofs.fenced.Fenced.init.Goals as goal

pub returns-clause-fenced : goal.returns-clause-fenced
returns-clause-fenced g c =
    let applies = c.apply-reply.ensures.apply (next_epoch (g.E.Epochs.epoch c.args.epochs) (g.E.Epochs.with_epoch c.args.epochs)) (λ codec id value reply answers. search (rules, answers)) in
    record {
      to = c.apply-reply.new.self;
      reply = c.apply-reply.result;
      applies = rw (to_z-of_z w64 c.args.moment c.ranges.moment) at applies;
      same = sym c.fenced_after.ensures;
    }
