use Rattle.slate_cluster_table_laws.proofs.Moments.{put_of_run}
use Rattle.slate_cluster_table_laws.proofs.presence.tables_were_put.Goals as goal

pub returns : goal.returns
returns c = record {
  uploads = λ specs events n p accepted good at. ((put_of_run specs events accepted good).each n p at).uploads;
  tables = λ specs events db accepted good has. (put_of_run specs events accepted good).whole.tables db has;
  outputs = λ specs events db accepted good has. (put_of_run specs events accepted good).whole.outputs db has;
}
