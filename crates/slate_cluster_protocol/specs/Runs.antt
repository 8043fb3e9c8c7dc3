-- Runs of a list of events.
use Rattle.std.specs.Prelude.{ℕ, ◌+◌, List, [], ◌∷◌, ◌++◌, Option, Some, None}
use Rattle.slate_script_events.specs.declared.db_spec.DbSpec.{DbSpec}
use Rattle.slate_script_events.specs.declared.event.Event.{Event}
use Rattle.slate_script_events.specs.declared.entry.Entry.{Entry}
use Rattle.slate_cluster_protocol.specs.Specs.{opening_world}
use Rattle.slate_cluster_protocol.specs.World.{World, Transition, happens}

-- the databases as they were given, the entries so far, and the state after them
pub record Course : Type 0 where
  pub specs : List DbSpec
  pub trail : List Entry
  pub world : World

-- the course as a run of these databases begins
abbrev pub opening : List DbSpec → Course
opening specs = record { specs = specs; trail = []; world = opening_world specs }

-- a run: where it led, and the place of the first bad event
pub record Ran : Type 0 where
  pub course : Course
  pub bad : Option ℕ

-- the course after one more event
abbrev pub going_on : Course → Transition → Course
going_on course done = record { specs = course.specs; trail = course.trail ++ done.entry ∷ []; world = done.world }

-- the run of events, of which the first is at a place, up to the first bad one
abbrev pub run : List Event → ℕ → Course → Ran
run [] place course = record { course = course; bad = None }
run (e ∷ es) place course = elim (happens course.world e) [ None ↦ record { course = course; bad = Some place } | Some done ↦ run es (place + 1) (going_on course done) ]
