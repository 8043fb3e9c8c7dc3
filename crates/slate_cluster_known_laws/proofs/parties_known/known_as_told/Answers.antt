use Rattle.slate_cluster_known_laws.proofs.Known as laws
use Rattle.slate_cluster_known_laws.proofs.parties_known.known_as_told.Goals as goal

pub returns : goal.returns
returns c = λ specs events n accepted good. laws.known_as_told specs events accepted good n
