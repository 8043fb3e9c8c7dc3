use Rattle.std.proofs.Common.{◌+◌, ◌-◌, ◌/◌, ◌∙◌, true, false, sym, arith}
use Rattle.slate_model_tables.proofs.Covers.{reach_later, not_reached_earlier}
use Rattle.slate_model_tables.proofs.covering.first_reached.Goals as goal

pub loop-low-preserved-then-reaches : goal.loop-low-preserved-then-reaches
loop-low-preserved-then-reaches c =
    let middle = c.loop-low.low + (c.loop-low.high - c.loop-low.low) / 2 in
    let here = sym c.reaches.ensures ∙ c.if-reaches.true in
    record {
      ordered = omega arith;
      within = omega (arith, c.loop-low.invariant.within, c.loop-low-test.true);
      passed = c.loop-low.invariant.passed;
      reached = λ i l m. reach_later c.args.range.now.start c.args.views.now (record { shown = c.requires.shown; ascending = c.requires.ascending }) middle i l m here;
    }

pub loop-low-preserved : goal.loop-low-preserved
loop-low-preserved c =
    let middle = c.loop-low.low + (c.loop-low.high - c.loop-low.low) / 2 in
    let here = sym c.reaches.ensures ∙ c.if-reaches.false in
    record {
      ordered = omega (arith, c.loop-low-test.true);
      within = c.loop-low.invariant.within;
      passed = λ i l. not_reached_earlier c.args.range.now.start c.args.views.now (record { shown = c.requires.shown; ascending = c.requires.ascending }) i middle (omega arith) (omega (arith, c.loop-low.invariant.within, c.loop-low-test.true)) here;
      reached = c.loop-low.invariant.reached;
    }
