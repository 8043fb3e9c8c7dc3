use Rattle.std.proofs.Common.{ap, refl}
use Rattle.slate_store.specs.declared.store_call.StoreCall.TheVariants as calls
use Rattle.slate_txn_log.proofs.Once.{once}
use Rattle.slate_txn_log.proofs.sequenced.Sequenced.list_once.Goals as goal

pub returns-clause-read : goal.returns-clause-read
returns-clause-read g c = once _ c.args.moment _ c.list_reply-reply.result (ap (λ d. calls.List d) c.folder.ensures) refl c.in_ok-answer.ensures c.list_reply-reply.ensures
