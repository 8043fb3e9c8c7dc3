use Rattle.slate_state_updates.proofs.Placings.{is_nested, nested_segments}
use Rattle.slate_state_updates.proofs.placing.push_nested.Goals as goal

pub set_segments-requires : goal.set_segments-requires
set_segments-requires c = record {
  ascending = nested_segments c.args.prefix.now c.args.core.now _ c.segments.result.now c.in_ok-segments.segments.items (is_nested c.args.prefix.now c.args.core.now c.requires.nested) c.segments.ensures.segments c.segments.ensures.ascending c.in_ok-segments.ensures;
}
