-- What was made of databases.
use Rattle.std.specs.Prelude.{◌≡◌, List, Some, None, Result, Ok, Err}
use Rattle.slate_script_events.specs.declared.db_spec.DbSpec.{DbSpec}
use Rattle.slate_cluster_protocol.specs.Specs.{cause_of_specs}
use Rattle.slate_cluster_protocol.specs.Pasts.{Past, no_past}
use Rattle.slate_cluster_opening.specs.declared.new_error.NewError.{NewError}
use Rattle.slate_cluster_opening.specs.declared.new_error.NewError.TheVariants.{BadCluster, OutOfMemory}

-- what a cluster is as a run of the databases begins, with no event done; or the first cause that refuses them; or memory ran out
abbrev pub Opens : List DbSpec → Result Past NewError → Type 0
Opens specs (Ok past) = (cause_of_specs specs ≡ None) × (past ≡ no_past specs)
Opens specs (Err (BadCluster cause)) = cause_of_specs specs ≡ Some cause
Opens specs (Err OutOfMemory) = Unit {0}
