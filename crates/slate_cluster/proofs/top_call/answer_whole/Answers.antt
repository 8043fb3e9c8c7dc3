use Rattle.slate_script.specs.Scripts.{script_of}
use Rattle.slate_cluster.proofs.Outcomes.{answers, if_answered}
use Rattle.slate_cluster.proofs.top_call.answer_whole.Goals as goal

pub returns-in-Ok-clause-written : goal.returns-in-Ok-clause-written
returns-in-Ok-clause-written g c =
    let delivers = rw (c.as_str.ensures.value, c.in-Ok.ensures.text, c.in-Ok.ensures.status) at c.deliver-told.ensures in
    answers (script_of c.args.bytes.now) _ _ c.deliver-told.result delivers

pub returns-in-Ok-clause-lawful : goal.returns-in-Ok-clause-lawful
returns-in-Ok-clause-lawful g c = if_answered c.deliver-told.result _ c.in-Ok.ensures.lawful
