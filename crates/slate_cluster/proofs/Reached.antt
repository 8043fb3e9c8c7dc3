-- What a run of a cluster leaves came about by the events done.
use Rattle.std.proofs.Common.{◌≡◌, ℕ, List, ◌++◌, take, Some, None, Result, Ok, Err}
use Rattle.slate_script_events.specs.declared.event.Event.{Event}
use Rattle.slate_cluster_protocol.specs.Pasts.{Past, IsPast, course_of}
use Rattle.slate_cluster_protocol.specs.Runs.{run}
use Rattle.slate_cluster.specs.Ran.{HasRun, Stopped, done_before, events_done}
use Rattle.slate_cluster.specs.declared.cluster.Report.{Report}
use Rattle.slate_cluster.specs.declared.cluster.ClusterError.{ClusterError}
use Rattle.slate_cluster.specs.declared.cluster.ClusterError.TheVariants.{BadEvent, OutOfMemory}

-- runs go on
abbrev Onward : Type 0
Onward = (old new : Past) (events : List Event) → IsPast old → run events 0 (course_of old) ≡ record { course = course_of new; bad = None } → new.events ≡ old.events ++ events → IsPast new

-- and so do those up to a bad event
abbrev UpTo : Type 0
UpTo = (old new : Past) (events : List Event) (place : ℕ) → IsPast old → run events 0 (course_of old) ≡ record { course = course_of new; bad = Some place } → new.events ≡ old.events ++ take place events → IsPast new

module _ (on : Onward) (to : UpTo) where
  stopped : (old new : Past) (es : List Event) (e : ClusterError) → IsPast old → Stopped old es e new → new.events ≡ old.events ++ done_before es e → IsPast new
  stopped old new es (BadEvent place) past h added = to old new es place past h added
  stopped old new es (OutOfMemory place) past h added = on old new (take place es) past h added

  pub has_run : (old new : Past) (es : List Event) (r : Result Report ClusterError) → IsPast old → HasRun old es r new → new.events ≡ old.events ++ events_done es r → IsPast new
  has_run old new es (Ok report) past h added = on old new es past h.0 added
  has_run old new es (Err e) past h added = stopped old new es e past h added
