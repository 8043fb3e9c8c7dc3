use Rattle.slate_txn_laws.proofs.FirstVersions.{create_ends, create_stays_inside}
use Rattle.slate_txn_laws.proofs.creations.create_ends.Goals as goal

pub returns : goal.returns
returns g c = record {
  answers = λ encoded moment sequenced rules value named old new s result creates serves ready. create_ends encoded moment old new s sequenced rules value result creates named serves ready;
  inside = λ encoded moment sequenced rules value named encodes old new s result creates serves ready empty. create_stays_inside encoded moment old new s sequenced rules value result creates named serves ready empty encodes;
}
