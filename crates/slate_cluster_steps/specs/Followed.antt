-- How a call goes on from an answer.
use Rattle.std.specs.Prelude.{◌≡◌, true, false, Option, Some, None, Result, Ok, Err}
use Rattle.slate_ids.specs.Answers.{is_memory}
use Rattle.slate_ids.specs.declared.error.SlateDBError.{SlateDBError}
use Rattle.slate_ids.specs.declared.out_of_memory.OutOfMemory.{OutOfMemory}
use Rattle.slate_store.specs.StoreCalls.{is_reading}
use Rattle.slate_store.specs.declared.store_call.StoreCall.{StoreCall}
use Rattle.slate_script_events.specs.declared.reply.Reply.{Reply}
use Rattle.slate_script_events.specs.declared.reply.Reply.TheVariants.{Refused}
use Rattle.slate_cluster_protocol.specs.Works.{asks}
use Rattle.slate_cluster_protocol.specs.Calls.{Next, Go, Finish}
use Rattle.slate_cluster_protocol.specs.Rows.{Standing}
use Rattle.slate_cluster_protocol.specs.declared.party.Facts.{Facts}
use Rattle.slate_cluster_protocol.specs.declared.party.Task.{Task}
use Rattle.slate_cluster_protocol.specs.declared.work.Work.{Work}

-- how the call goes on: with its work, unless there is a reply
abbrev pub next_by : Work → Option Reply → Next
next_by work None = Go work
next_by work (Some reply) = Finish reply

-- where the call stands: the facts, and how it goes on
abbrev pub at_work : Facts → Work → Option Reply → Standing
at_work facts work reply = record { facts = facts; next = next_by work reply }

abbrev pub standing : Facts → Task → Option Reply → Standing
standing facts task reply = at_work facts task.work reply

-- a refusal is the reply, unless memory ran out
abbrev pub Refuses : SlateDBError → Result Reply OutOfMemory → Type 0
Refuses e (Ok reply) = (reply ≡ Refused e) × (is_memory e ≡ false)
Refuses e (Err o) = is_memory e ≡ true

-- and ends the call
abbrev pub Ends : SlateDBError → Result (Option Reply) OutOfMemory → Type 0
Ends e (Ok reply) = (reply ≡ Some (Refused e)) × (is_memory e ≡ false)
Ends e (Err o) = is_memory e ≡ true

-- memory ran out after a call that only read: the phase is as it was
pub record StillAt {P : Type 0} (old new : P) (asked : StoreCall) : Type 0 where
  pub same : new ≡ old
  pub reads : is_reading asked ≡ true

-- so the facts and the call are
pub record StillBoth (facts : Facts) (task : Task) (facts' : Facts) (task' : Task) : Type 0 where
  pub same_facts : facts' ≡ facts
  pub same_task : task' ≡ task
  pub reads : is_reading (asks task.work) ≡ true
