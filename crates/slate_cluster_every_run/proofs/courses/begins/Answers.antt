use Rattle.std.proofs.Common.{refl}
use Rattle.slate_cluster_every_run.proofs.courses.begins.Goals as goal

pub returns : goal.returns
returns c = λ specs accepted. record { accepted = accepted; led = refl }
