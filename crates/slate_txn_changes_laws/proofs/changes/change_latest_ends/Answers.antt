use Rattle.slate_txn_changes_laws.proofs.Latest.{change_ends}
use Rattle.slate_txn_changes_laws.proofs.changes.change_latest_ends.Goals as goal

pub returns : goal.returns
returns g c = λ decoded commit db log moment tries plain named some old new s result changes serves ready.
    change_ends decoded commit plain db log named moment s ready tries old new result changes some serves
