use Rattle.slate_cluster_laws.proofs.Holding.{all_stand, fetched_stand}
use Rattle.slate_cluster_laws.proofs.safe_parties.referenced_stand.Goals as goal

pub returns : goal.returns
returns c = record {
  fetched = λ specs events n p task accepted at is. fetched_stand specs events n p task accepted at is;
  listing = λ specs events n p task accepted at is. all_stand specs events n p task accepted at is;
}
