use Rattle.slate_cluster_twins.proofs.PlainTwins.{manifest_twin, open_twin, pass_twin, record_twin, state_twin}
use Rattle.slate_cluster_twins.proofs.twins.calls_are_rows.Goals as goal

pub returns-clause-opens : goal.returns-clause-opens
returns-clause-opens c = open_twin

pub returns-clause-states : goal.returns-clause-states
returns-clause-states c = state_twin

pub returns-clause-manifests : goal.returns-clause-manifests
returns-clause-manifests c = manifest_twin

pub returns-clause-records : goal.returns-clause-records
returns-clause-records c = record_twin

pub returns-clause-passes : goal.returns-clause-passes
returns-clause-passes c = pass_twin
