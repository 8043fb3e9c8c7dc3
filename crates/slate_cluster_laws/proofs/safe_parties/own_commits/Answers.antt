use Rattle.slate_cluster_laws.proofs.Holding.{commit_ends, created_goes_on, own_or_refused}
use Rattle.slate_cluster_laws.proofs.safe_parties.own_commits.Goals as goal

pub returns : goal.returns
returns c = record {
  created = λ specs events n p task accepted at is. created_goes_on specs events n p task accepted at is;
  ends = λ specs events n p task accepted at is. commit_ends specs events n p task accepted at is;
  refused = λ specs events n p task accepted at is. own_or_refused specs events n p task accepted at is;
}
