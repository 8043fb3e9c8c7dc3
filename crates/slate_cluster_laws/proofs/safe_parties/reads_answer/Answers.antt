use Rattle.slate_cluster_laws.proofs.Holding.{read_answers}
use Rattle.slate_cluster_laws.proofs.safe_parties.reads_answer.Goals as goal

pub returns : goal.returns
returns c = λ specs events n p task accepted at is. read_answers specs events n p task accepted at is
