-- What a run tells that keeps no trail.
use Rattle.std.specs.Prelude.{◌≡◌, ℕ, true, List, [], ◌++◌, Option, Some, None, Result, Ok, Err}
use Rattle.std.specs.List.{list_all}
use Rattle.slate_script_events.specs.declared.db_spec.DbSpec.{DbSpec}
use Rattle.slate_script_lines.specs.Lines.{entries_text}
use Rattle.slate_cluster_protocol.specs.Runs.{Course, Ran}
use Rattle.slate_cluster_protocol.specs.Specs.{cause_of_specs, is_named_spec, opening_world}
use Rattle.slate_cluster_protocol.specs.World.{World}
use Rattle.slate_cluster_opening.specs.declared.new_error.NewError.{NewError}
use Rattle.slate_cluster_opening.specs.declared.new_error.NewError.TheVariants.{BadCluster, OutOfMemory}

-- the course of a run of databases that has this state before its first event
abbrev pub from_state : List DbSpec → World → Course
from_state specs w = record { specs = specs; trail = []; world = w }

-- the state as a run of the accepted databases begins; or the first cause that refuses them; or memory ran out
abbrev pub BeginsState : List DbSpec → Result World NewError → Type 0
BeginsState specs (Ok w) = (cause_of_specs specs ≡ None) × (list_all is_named_spec specs ≡ true) × (w ≡ opening_world specs)
BeginsState specs (Err (BadCluster cause)) = cause_of_specs specs ≡ Some cause
BeginsState specs (Err OutOfMemory) = Unit {0}

-- the run led to this state and had this first bad event, and the lines of its entries were added to the text
pub record Tells (ran : Ran) (place : Option ℕ) (now : World) (before text : List ℕ) : Type 0 where
  pub world : ran.course.world ≡ now
  pub bad : ran.bad ≡ place
  pub lines : text ≡ before ++ entries_text 0 ran.course.trail
