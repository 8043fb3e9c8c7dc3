use Rattle.std.proofs.Common.{◌≡◌, ◌≤◌, drop, length}
use Rattle.serde_json.specs.View.{items_view}
use Rattle.slate_script.specs.Scripts.{with_front, events_from, event_limit}
use Rattle.slate_script.proofs.reading.events.Given as goal

abbrev pub invariant-loop-value : goal.invariant-loop-value
invariant-loop-value l = record {
  rest : with_front l.events (events_from (length l.events) (items_view (drop l.value-index l.values))) ≡ events_from 0 (items_view l.values);
  within : length l.events ≤ event_limit;
}
