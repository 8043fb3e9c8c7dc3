use Rattle.std.proofs.Common.{◌≡◌, drop}
use Rattle.serde_json.specs.View.{items_view}
use Rattle.slate_script_json.specs.Fields.{items_in}
use Rattle.slate_script_json.proofs.Lists.{with_front}
use Rattle.slate_script_json.proofs.values.all.Given as goal

abbrev pub invariant-loop-value : goal.invariant-loop-value
invariant-loop-value g l = with_front l.items (items_in g.T.FromJson.reads (items_view (drop l.value-index l.values))) ≡ items_in g.T.FromJson.reads (items_view l.values)
