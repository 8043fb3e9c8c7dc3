use Rattle.slate_cluster_protocol.specs.Spares.{IsSpareTable}
use Rattle.slate_cluster_spare_laws.proofs.Onward.{event_keeps, run_keeps}
use Rattle.slate_cluster_spare_laws.proofs.Stays.{step_stays}
use Rattle.slate_cluster_spare_laws.proofs.spare_tables.spare_tables_stay.Goals as goal

pub returns : goal.returns
returns c = record {
  event = λ specs events event db id accepted h. event_keeps specs accepted (λ chains. IsSpareTable chains db id) (step_stays db id) events h event;
  run = λ specs front back db id accepted good h. run_keeps specs accepted (λ chains. IsSpareTable chains db id) (step_stays db id) back front good h;
}
