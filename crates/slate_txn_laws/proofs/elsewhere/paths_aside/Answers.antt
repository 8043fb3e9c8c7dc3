use Rattle.slate_txn_laws.proofs.OtherCalls.{version_aside, boundary_aside}
use Rattle.slate_txn_laws.proofs.elsewhere.paths_aside.Goals as goal

pub returns : goal.returns
returns c = record { version = version_aside; boundary = boundary_aside }
