use Rattle.std.proofs.Common.{inl, rules}
use Rattle.slate_model.proofs.Placing.{lent_back, lent_within, lent_tree}
use Rattle.slate_model.proofs.segments.Segments.tree_of.Goals as goal

pub tree_at-requires : goal.tree_at-requires
tree_at-requires c = record { place = lent_within c.args.prefix.now _ _ c.args.self.now _ c.in_ok-place.ensures.place c.in_ok-place.ensures.placed }

pub returns : goal.returns
returns c = (
  λ i. inl (c.tree_at.result.ghost_name, λ w. lent_back c.args.prefix.now _ w _ c.args.self.now _ c.in_ok-place.ensures.place c.in_ok-place.ensures.placed i),
  record {
    lends = tt;
    granted = c.in_ok-place.ensures.granted;
    tree = lent_tree c.args.prefix.now _ _ _ c.args.self.now _ c.in_ok-place.ensures.place c.in_ok-place.ensures.placed c.tree_at.ensures.tree;
    err = tt;
    there = search rules;
  },
)
