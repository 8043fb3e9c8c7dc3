-- The state as a run of databases begins.
use Rattle.std.specs.Prelude.{◌≡◌, List, [], Some, None, Result, Ok, Err}
use Rattle.slate_script_events.specs.declared.db_spec.DbSpec.{DbSpec}
use Rattle.slate_cluster_protocol.specs.Specs.{cause_of_specs, opening_world}
use Rattle.slate_cluster_protocol.specs.World.{World}
use Rattle.slate_cluster_opening.specs.declared.new_error.NewError.{NewError}
use Rattle.slate_cluster_opening.specs.declared.new_error.NewError.TheVariants.{BadCluster, OutOfMemory}
use Rattle.slate_cluster_opening.specs.declared.opening.Opening.{Opening}

-- the state of these parts, with no party
abbrev pub world_of : Opening → World
world_of o = record { tallies = o.tallies.entries; deleted = 0; store = o.store.store; parties = []; carried = o.carried }

-- the state as a run of the databases begins; or the first cause that refuses them; or memory ran out
abbrev pub OpensState : List DbSpec → Result Opening NewError → Type 0
OpensState specs (Ok o) = (cause_of_specs specs ≡ None) × (world_of o ≡ opening_world specs)
OpensState specs (Err (BadCluster cause)) = cause_of_specs specs ≡ Some cause
OpensState specs (Err OutOfMemory) = Unit {0}
