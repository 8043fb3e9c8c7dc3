-- What an event did to the state of a cluster.
use Rattle.std.specs.Prelude.{◌≡◌, Option, Some, None}
use Rattle.slate_script_events.specs.declared.event.Event.{Event}
use Rattle.slate_script_events.specs.declared.entry.Entry.{Entry}
use Rattle.slate_cluster_protocol.specs.World.{World, happens}

-- what an event did: nothing where it was bad
abbrev pub Happened : World → Event → Option Entry → World → Type 0
Happened old e None new = (happens old e ≡ None) × (new ≡ old)
Happened old e (Some entry) new = happens old e ≡ Some (record { entry = entry; world = new })
