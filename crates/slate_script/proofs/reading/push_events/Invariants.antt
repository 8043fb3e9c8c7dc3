use Rattle.std.proofs.Common.{◌≡◌, ◌++◌, replicate}
use Rattle.slate_script_events.specs.declared.event.Event.TheVariants.{Step}
use Rattle.slate_script.proofs.reading.push_events.Given as goal

abbrev pub invariant-loop : goal.invariant-loop
invariant-loop l = l.events ≡ l.initial.events ++ replicate l.counter (Step l.party l.moment l.mark)
