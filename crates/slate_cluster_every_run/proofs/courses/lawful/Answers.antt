use Rattle.slate_cluster_every_run.proofs.EveryRun.{lawful}
use Rattle.slate_cluster_every_run.proofs.courses.lawful.Goals as goal

pub returns : goal.returns
returns c = lawful (λ n old new right h some. c.records_stand.ensures n old new right h some)
