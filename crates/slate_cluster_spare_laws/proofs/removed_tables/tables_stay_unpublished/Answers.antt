use Rattle.slate_cluster_spare_laws.proofs.Picks.{front_good}
use Rattle.slate_cluster_spare_laws.proofs.RemovedTables.{removed_spare}
use Rattle.slate_cluster_spare_laws.proofs.Unpublished.{manifests_lack, records_lack}
use Rattle.slate_cluster_spare_laws.proofs.removed_tables.tables_stay_unpublished.Goals as goal

pub returns : goal.returns
returns c = record {
  manifests = λ specs front back before after db id accepted good has gone number link le at.
      manifests_lack specs accepted front back good db has id (removed_spare specs accepted front before after db id (front_good specs front back good) gone) number link le at;
  records = λ specs front back before after db id accepted good has gone number link le at.
      records_lack specs accepted front back good db has id (removed_spare specs accepted front before after db id (front_good specs front back good) gone) number link le at;
}
