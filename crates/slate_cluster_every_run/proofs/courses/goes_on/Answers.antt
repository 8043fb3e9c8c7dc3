use Rattle.slate_cluster_laws.proofs.GoingOn.{is_past_on}
use Rattle.slate_cluster_every_run.proofs.courses.goes_on.Goals as goal

pub returns : goal.returns
returns c = is_past_on
