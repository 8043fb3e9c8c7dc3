use Rattle.slate_cluster_laws.proofs.OwnCalls.{own_calls}
use Rattle.slate_cluster_laws.proofs.safe_parties.own_calls.Goals as goal

pub returns : goal.returns
returns c = own_calls
