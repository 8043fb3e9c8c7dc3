-- A step that puts a table is one of its party.
use Rattle.std.proofs.Common.{◌≡◌, ℕ, ℤ, IfOk, List, Some, Result, Ok, Err, subst, sym, ap, ◌∙◌}
use Rattle.slate_ids.specs.declared.object_path.ObjectPath.TheVariants as paths
use Rattle.slate_store.specs.Store.{Store, effect}
use Rattle.slate_store.specs.declared.mark.Mark.{Mark}
use Rattle.slate_store.specs.declared.store_answer.StoreAnswer.{StoreAnswer}
use Rattle.slate_store.specs.declared.store_call.StoreCall.{StoreCall}
use Rattle.slate_store.specs.declared.store_call.StoreCall.TheVariants.{Put}
use Rattle.slate_script_events.specs.declared.call.Call.{Call}
use Rattle.slate_script_events.specs.declared.reply.Reply.{Reply}
use Rattle.slate_cluster_protocol.specs.Calls.{Finish}
use Rattle.slate_cluster_protocol.specs.Rows.{put_on}
use Rattle.slate_cluster_protocol.specs.declared.party.Facts.{Facts}
use Rattle.slate_cluster_protocol.specs.declared.uploads.Upload.{Upload}
use Rattle.slate_cluster_protocol.specs.declared.work.Work.TheVariants.{PutTable}
use Rattle.slate_cluster_steps.specs.Followed.{standing}
use Rattle.slate_ids.specs.declared.out_of_memory.OutOfMemory.{OutOfMemory}
use Rattle.slate_cluster_protocol.specs.declared.party.Task.{Task}
use Rattle.slate_cluster_protocol.specs.declared.work.Work.{Work}
use Rattle.slate_cluster_steps.specs.PartySteps.{IsPartyStep}
use Rattle.slate_cluster_steps.specs.declared.party_steps.PartyStep.{PartyStep}

pub put_step : (old new : Facts) (call : Call) (db : List ℕ) (upload : Upload) (bytes : List ℕ) (moment : ℤ) (mark : Mark) (before after : Store) (asked : StoreCall) (answer : StoreAnswer) (reply : Reply)
    → asked ≡ Put (paths.Table db upload.table) bytes → answer ≡ (effect mark asked moment before).answer → after ≡ (effect mark asked moment before).store
    → put_on old upload answer ≡ record { facts = new; next = Finish reply }
    → IsPartyStep old (record { call = call; work = PutTable db upload bytes }) moment mark before after (record { call = asked; answer = answer }) (standing new (record { call = call; work = PutTable db upload bytes }) (Some reply))
put_step old new call db upload bytes moment mark before after asked answer reply is answered stored follows =
    let answer_is : answer ≡ (effect mark (Put (paths.Table db upload.table) bytes) moment before).answer = answered ∙ ap (λ (c : StoreCall). (effect mark c moment before).answer) is in
    record {
      call = is;
      answer = answer_is;
      store = stored ∙ ap (λ (c : StoreCall). (effect mark c moment before).store) is;
      stands = sym (ap (put_on old upload) answer_is) ∙ follows;
    }

-- an upload is such a step of its party
pub upload_step : (old new : Facts) (task : Task) (db : List ℕ) (upload : Upload) (bytes : List ℕ) (moment : ℤ) (mark : Mark) (before after : Store) (result : Result PartyStep OutOfMemory) → task.work ≡ PutTable db upload bytes
    → IfOk result (λ s. (call : Call) → IsPartyStep old (record { call = call; work = PutTable db upload bytes }) moment mark before after s.made (standing new (record { call = call; work = PutTable db upload bytes }) s.reply))
    → IfOk result (λ s. IsPartyStep old task moment mark before after s.made (standing new task s.reply))
upload_step old new task db upload bytes moment mark before after (Err e) is h = tt
upload_step old new task db upload bytes moment mark before after (Ok s) is h =
    subst (λ (work : Work). IsPartyStep old (record { call = task.call; work = work }) moment mark before after s.made (standing new (record { call = task.call; work = work }) s.reply)) (sym is) (h task.call)
