use Rattle.slate_cluster_table_laws.proofs.Moments.{marked_of_run}
use Rattle.slate_cluster_table_laws.proofs.presence.watermarks_stay_below.Goals as goal

pub returns : goal.returns
returns c = λ specs events db accepted has. marked_of_run specs events accepted db has
