-- What a call of the cluster says of its run.
use Rattle.std.specs.Prelude.{◌≡◌, List, ◌++◌, take, Some, None, Result, Ok, Err}
use Rattle.slate_script_events.specs.declared.event.Event.{Event}
use Rattle.slate_script_events.specs.declared.entry.Entry.{Entry}
use Rattle.slate_cluster_protocol.specs.Pasts.{Past, course_of}
use Rattle.slate_cluster_protocol.specs.Runs.{run}
use Rattle.slate_cluster.specs.declared.cluster.Report.{Report}
use Rattle.slate_cluster.specs.declared.cluster.ClusterError.{ClusterError}
use Rattle.slate_cluster.specs.declared.cluster.ClusterError.TheVariants.{BadEvent, OutOfMemory}

-- the first bad event ended the run; or memory ran out, and what was done before its place stands
abbrev pub Stopped : Past → List Event → ClusterError → Past → Type 0
Stopped old es (BadEvent place) new = run es 0 (course_of old) ≡ record { course = course_of new; bad = Some place }
Stopped old es (OutOfMemory place) new = run (take place es) 0 (course_of old) ≡ record { course = course_of new; bad = None }

-- all events were done, and the report has their entries; or the run stopped
abbrev pub HasRun : Past → List Event → Result Report ClusterError → Past → Type 0
HasRun old es (Ok report) new = (run es 0 (course_of old) ≡ record { course = course_of new; bad = None }) × (new.trail ≡ old.trail ++ report.entries.items)
HasRun old es (Err e) new = Stopped old es e new

-- as `HasRun`, without the report
abbrev pub HasDone : Past → List Event → Result (Unit {0}) ClusterError → Past → Type 0
HasDone old es (Ok _) new = run es 0 (course_of old) ≡ record { course = course_of new; bad = None }
HasDone old es (Err e) new = Stopped old es e new

-- the events before the place at which a run stopped
abbrev pub done_before : List Event → ClusterError → List Event
done_before es (BadEvent place) = take place es
done_before es (OutOfMemory place) = take place es

-- which of the events were done: all, or those before the place at which the run stopped
abbrev pub events_done : {X : Type 0} → List Event → Result X ClusterError → List Event
events_done es (Ok _) = es
events_done es (Err e) = done_before es e

-- entries were added, and no other was touched
abbrev pub Extends : List Entry → List Entry → Type 0
Extends old new = (added : List Entry) × (new ≡ old ++ added)
