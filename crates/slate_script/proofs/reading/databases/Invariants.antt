use Rattle.std.proofs.Common.{◌≡◌, length}
use Rattle.std.specs.Vec.Iter.{into_iter_items}
use Rattle.serde_json.specs.View.{items_view}
use Rattle.slate_script.specs.Scripts.{with_front, databases_from}
use Rattle.slate_script.proofs.reading.databases.Given as goal

abbrev pub invariant-loop-value : goal.invariant-loop-value
invariant-loop-value l = with_front l.databases (databases_from (length l.databases) (items_view (into_iter_items l.value-iterator))) ≡ databases_from 0 (items_view l.fn.values.items)
