use Rattle.slate_state_compactor_complete.proofs.PlainPuts.{manifest_work, record_work}
use Rattle.slate_state_compactor_complete.proofs.changes.changes_are_plain.Goals as goal

pub returns : goal.returns
returns c = record { manifests = manifest_work; records = record_work }
