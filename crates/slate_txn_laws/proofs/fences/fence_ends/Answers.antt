use Rattle.slate_txn_laws.proofs.HolderReads.{fence_ends}
use Rattle.slate_txn_laws.proofs.fences.fence_ends.Goals as goal

pub returns : goal.returns
returns g c = λ epoch ways moment tries holder epochs two named small old new s result ran serves ready.
    fence_ends epoch ways moment tries old new s holder epochs result ran two named small serves ready
