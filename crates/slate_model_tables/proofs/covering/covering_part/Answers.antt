use Rattle.std.proofs.Common.{rules, true}
use Rattle.slate_model_tables.proofs.Covers.{covering_found, covering_empty, covering_none, part_found, part_empty, part_of_none}
use Rattle.slate_model_tables.proofs.covering.covering_part.Goals as goal

pub returns-then-not-is_proper-clause-covering : goal.returns-then-not-is_proper-clause-covering
returns-then-not-is_proper-clause-covering c = covering_none c.ranges_are_sets.ensures.meet c.args.views.now c.args.range.now (search rules)

pub returns-then-not-is_proper-clause-part : goal.returns-then-not-is_proper-clause-part
returns-then-not-is_proper-clause-part c = part_of_none c.ranges_are_sets.ensures.meet c.args.views.now c.args.range.now (search rules)

pub returns-then-from-to-clause-covering : goal.returns-then-from-to-clause-covering
returns-then-from-to-clause-covering c = covering_found c.ranges_are_sets.ensures.meet c.args.views.now c.args.range.now (record { shown = c.requires.shown; ascending = c.requires.ascending }) (search rules) _ _ c.ends-from.ensures c.if-from-to.true

pub returns-then-from-to-clause-part : goal.returns-then-from-to-clause-part
returns-then-from-to-clause-part c = part_found c.ranges_are_sets.ensures.meet c.args.views.now c.args.range.now (record { shown = c.requires.shown; ascending = c.requires.ascending }) (search rules) _ _ c.ends-from.ensures c.if-from-to.true

pub returns-else-from-to-clause-covering : goal.returns-else-from-to-clause-covering
returns-else-from-to-clause-covering c = covering_empty c.ranges_are_sets.ensures.meet c.args.views.now c.args.range.now (record { shown = c.requires.shown; ascending = c.requires.ascending }) (search rules) _ _ c.ends-from.ensures c.if-from-to.false

pub returns-else-from-to-clause-part : goal.returns-else-from-to-clause-part
returns-else-from-to-clause-part c = part_empty c.ranges_are_sets.ensures.meet c.args.views.now c.args.range.now (record { shown = c.requires.shown; ascending = c.requires.ascending }) (search rules) _ _ c.ends-from.ensures c.if-from-to.false
