-- What a cluster did so far.
use Rattle.std.specs.Prelude.{◌≡◌, List, [], None}
use Rattle.slate_script_events.specs.declared.db_spec.DbSpec.{DbSpec}
use Rattle.slate_script_events.specs.declared.event.Event.{Event}
use Rattle.slate_script_events.specs.declared.entry.Entry.{Entry}
use Rattle.slate_cluster_protocol.specs.Lawful.{IsAccepted}
use Rattle.slate_cluster_protocol.specs.Runs.{Course, opening, run}
use Rattle.slate_cluster_protocol.specs.Specs.{opening_world}
use Rattle.slate_cluster_protocol.specs.World.{World}

-- the databases as they were given, the events done, the entries so far, and the state after them
pub record Past : Type 0 where
  pub specs : List DbSpec
  pub events : List Event
  pub trail : List Entry
  pub world : World

-- where it led
abbrev pub course_of : Past → Course
course_of past = record { specs = past.specs; trail = past.trail; world = past.world }

-- as a run of these databases begins
abbrev pub no_past : List DbSpec → Past
no_past specs = record { specs = specs; events = []; trail = []; world = opening_world specs }

-- the databases are accepted, and the events, of which none is bad, led from their opening to these entries and this state
pub record IsPast (past : Past) : Type 0 where
  pub accepted : IsAccepted past.specs
  pub led : run past.events 0 (opening past.specs) ≡ record { course = course_of past; bad = None }
