use Rattle.std.specs.Prelude.{◌≡◌}
use Rattle.std.proofs.Common.{rules}
use Rattle.slate_model.specs.Cores.{empty_tree}
use Rattle.slate_model.proofs.Placing.{fits, filled, filled_ascends, made}
use Rattle.slate_model.proofs.segments.Segments.insert_empty.Goals as goal

pub insert-requires : goal.insert-requires
insert-requires c = fits c.args.prefix.now c.args.place _ _ _ c.requires.place c.self.view_is c.self.inside.items.ok.0

pub invariant_of-self-2 : goal.invariant_of-self-2
invariant_of-self-2 c =
    let fresh : c.new-segment.result ≡ made c.args.prefix.now empty_tree = search rules in
    rw c.in_ok-insert.ensures.items (filled_ascends c.args.prefix.now c.new-segment.result c.args.place _ _ fresh c.requires.place c.self.view_is c.requires.absent c.requires.some c.self.invariant)

pub returns-clause-ok : goal.returns-clause-ok
returns-clause-ok c =
    let fresh : c.new-segment.result ≡ made c.args.prefix.now empty_tree = search rules in
    rw c.in_ok-insert.ensures.items (filled c.args.prefix.now c.new-segment.result c.args.place _ _ fresh c.requires.place c.self.view_is c.requires.absent)
