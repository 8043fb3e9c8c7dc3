use Rattle.slate_txn_laws.proofs.HolderReads.{load_ends}
use Rattle.slate_txn_laws.proofs.holder_reads.load_ends.Goals as goal

pub returns : goal.returns
returns g c = λ decoded sequenced answer tries some old new s result ran serves ready. load_ends decoded sequenced answer tries old new s result ran some serves ready
