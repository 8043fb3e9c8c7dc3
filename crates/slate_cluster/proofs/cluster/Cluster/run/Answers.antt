use Rattle.std.proofs.Common.{◌≡◌, ◌++◌, subst}
use Rattle.slate_cluster_protocol.specs.Lawful.{Lawful}
use Rattle.slate_cluster_protocol.specs.Pasts.{Past}
use Rattle.slate_cluster.specs.Ran.{events_done}
use Rattle.slate_cluster.proofs.Doing.{one_each}
use Rattle.slate_cluster.proofs.Reached.{has_run}
use Rattle.slate_cluster.proofs.cluster.Cluster.run.Goals as goal

pub invariant_of-self : goal.invariant_of-self
invariant_of-self c = has_run c.goes_on.ensures c.stops.ensures c.self.inside.progress c.run.new.self c.args.events.now c.run.result c.self.invariant c.run.ensures.run c.run.ensures.events

pub returns-clause-entries : goal.returns-clause-entries
returns-clause-entries c = one_each c.self.inside.progress c.run.new.self c.args.events.now c.run.result c.run.ensures.run

pub returns-clause-events : goal.returns-clause-events
returns-clause-events c = subst (λ (v : Past). c.run.new.self.events ≡ v.events ++ events_done c.args.events.now c.run.result) c.self.view_is c.run.ensures.events

pub returns-clause-past : goal.returns-clause-past
returns-clause-past c = has_run c.goes_on.ensures c.stops.ensures c.self.inside.progress c.run.new.self c.args.events.now c.run.result c.self.invariant c.run.ensures.run c.run.ensures.events

pub returns-clause-lawful : goal.returns-clause-lawful
returns-clause-lawful c =
    c.lawful.ensures c.run.new.self.specs c.run.new.self.events
    (has_run c.goes_on.ensures c.stops.ensures c.self.inside.progress c.run.new.self c.args.events.now c.run.result c.self.invariant c.run.ensures.run c.run.ensures.events).accepted

pub returns-clause-lawful_of_all : goal.returns-clause-lawful_of_all
returns-clause-lawful_of_all c =
    subst (λ (v : Past). Lawful v.specs (v.events ++ c.args.events.now)) c.self.view_is
    (c.lawful.ensures c.self.inside.progress.specs (c.self.inside.progress.events ++ c.args.events.now) c.self.invariant.accepted)
