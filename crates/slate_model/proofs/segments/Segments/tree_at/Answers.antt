use Rattle.std.proofs.Common.{refl}
use Rattle.slate_model.proofs.Placing.{rewritten, still_ascends, read_there}
use Rattle.slate_model.proofs.segments.Segments.tree_at.Goals as goal

pub invariant_of-self-lent : goal.invariant_of-self-lent
invariant_of-self-lent c w = still_ascends c.args.place c.index_mut.result.now w _ c.index_mut.ensures.value c.self.invariant

pub returns : goal.returns
returns c = ((refl, λ w. rewritten c.args.place c.index_mut.result.now w _ _ c.index_mut.ensures.value c.self.view_is), record { lends = tt; tree = rw c.tree_mut.ensures.tree (read_there c.args.place c.index_mut.result.now _ _ c.index_mut.ensures.value c.self.view_is c.requires.place) })
