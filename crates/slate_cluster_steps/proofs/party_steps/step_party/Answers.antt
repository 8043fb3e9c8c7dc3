use Rattle.std.proofs.Common.{ap, ◌∙◌}
use Rattle.slate_store.specs.StoreCalls.{is_reading}
use Rattle.slate_cluster_steps.proofs.ReadsKeep.{reads_keep, on_err}
use Rattle.slate_cluster_steps.proofs.party_steps.step_party.Goals as goal

-- memory ran out after a call that only read
pub returns-in_err-reply-clause-kept_store : goal.returns-in_err-reply-clause-kept_store
returns-in_err-reply-clause-kept_store c =
    on_err c.from_residual-in_err-reply.result
    (c.in_ok-answer.ensures.store ∙ reads_keep c.args.mark c.in_ok-call.call _ c.args.store.now.store (ap is_reading c.in_ok-call.ensures ∙ c.in_err-reply.ensures.err.reads))
