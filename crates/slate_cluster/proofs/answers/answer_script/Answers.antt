use Rattle.slate_cluster.proofs.Outcomes.{script_is_lawful}
use Rattle.slate_cluster.proofs.answers.answer_script.Goals as goal

pub returns-in-Ok-clause-lawful : goal.returns-in-Ok-clause-lawful
returns-in-Ok-clause-lawful c = script_is_lawful c.lawful.ensures c.args.script c.answer_run-output.result (record { accepted = c.in-Ok.ensures.0; named = c.in-Ok.ensures.1 })
