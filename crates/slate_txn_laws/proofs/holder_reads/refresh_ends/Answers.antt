use Rattle.slate_txn_laws.proofs.HolderReads.{refresh_ends}
use Rattle.slate_txn_laws.proofs.holder_reads.refresh_ends.Goals as goal

pub returns : goal.returns
returns g c = λ decoded tries from to some old new s result refreshes serves ready. refresh_ends decoded tries old new s from to result refreshes some serves ready
