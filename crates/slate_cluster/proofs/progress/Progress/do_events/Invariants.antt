use Rattle.slate_cluster.proofs.Doing.{Doing}
use Rattle.slate_cluster.proofs.progress.Progress.do_events.Given as goal

-- the events so far were done and noted, and their entries are in the trail
abbrev pub invariant-loop-i : goal.invariant-loop-i
invariant-loop-i l = Doing l.events l.i l.fn.self (record { specs = l.self-inside.specs.items; events = l.self-inside.done.events; trail = l.self-inside.trail.items; world = l.self-inside.state })
