use Rattle.slate_txn_laws.proofs.Entries.{boundary_fine, version_fine}
use Rattle.slate_txn_laws.proofs.fine_objects.paths_fine.Goals as goal

pub returns : goal.returns
returns c = record { version = λ db log n named small. version_fine db named log n small; boundary = λ db log named. boundary_fine db named log }
