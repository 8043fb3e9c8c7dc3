-- Where a machine that goes on leaves a call.
use Rattle.std.proofs.Common.{◌≡◌, true≢false, Option, Result, Ok, Err, IfOk, inl, inr, ap, sym, ◌∙◌}
use Rattle.slate_ids.specs.declared.error.SlateDBError.{SlateDBError}
use Rattle.slate_ids.specs.declared.out_of_memory.OutOfMemory.{OutOfMemory}
use Rattle.slate_ids.specs.Answers.{OrMemory}
use Rattle.slate_script_events.specs.declared.reply.Reply.{Reply}
use Rattle.slate_cluster_protocol.specs.Rows.{Standing, refused}
use Rattle.slate_cluster_protocol.specs.declared.party.Facts.{Facts}
use Rattle.slate_cluster_protocol.specs.declared.work.Work.{Work}
use Rattle.slate_cluster_steps.specs.Followed.{at_work, Ends}
use Rattle.slate_store.specs.Machines.{Goes, End}

module _ {P R : Type 0} (on : Goes P R → Standing) (goes : Goes P R) (from to : P) where
  -- a refusal of the machine is the reply
  pub refused_on : (e : SlateDBError) (facts : Facts) (work : Work) (result : Result (Option Reply) OutOfMemory) → on (End to (Err e)) ≡ refused facts e → OrMemory {X = R} (Err e) (to ≡ from) (goes ≡ End to (Err e)) → Ends e result
      → IfOk result (λ reply. on goes ≡ at_work facts work reply)
  refused_on e facts work (Err out) same gone ends = tt
  refused_on e facts work (Ok reply) same (inl gives) ends = ap on gives ∙ (same ∙ sym (ap (at_work facts work) ends.0))
  refused_on e facts work (Ok reply) same (inr held) ends = absurd (true≢false (sym held.0 ∙ ends.1))

  -- its end is what follows it
  pub ended_on : (r : R) → OrMemory {X = R} (Ok r) (to ≡ from) (goes ≡ End to (Ok r)) → on goes ≡ on (End to (Ok r))
  ended_on r (inl gives) = ap on gives
  ended_on r (inr held) = absurd (true≢false (sym held.0))
