use Rattle.std.proofs.Common.{ℕ, ℤ, pos, get_or, sym, ◌∙◌}
use Rattle.std.proofs.lemmas.Bool.{and_from}
use Rattle.std.proofs.lemmas.List.{drop_more}
use Rattle.std.proofs.lemmas.List.Folds.{list_all_more}
use Rattle.slate_model.specs.Sequences.{is_pair}
use Rattle.slate_model.proofs.Trackers.{follows_next, follows_not}
use Rattle.slate_model.proofs.sequence_tracker.are_in_order.Goals as goal

pub loop-pair-preserved : goal.loop-pair-preserved
loop-pair-preserved c =
    let i = c.loop-pair.pair-index in
    let pairs = c.args.pairs.now in
    let pair : ℕ × ℤ = get_or pairs i (0, pos 0) in
    record {
      ordered = sym (follows_next c.loop-pair.last pairs i pair (drop_more pairs i (0, pos 0) c.loop-pair-test.true) (sym c.if-not-follows_last.ensures.order)) ∙ c.loop-pair.invariant.ordered;
      fit = list_all_more is_pair pairs i (0, pos 0) c.loop-pair-test.true ∙ and_from _ _ c.loop-pair.invariant.fit c.follows_last.ensures.fits;
    }

pub returns-then-not-follows_last-clause-order : goal.returns-then-not-follows_last-clause-order
returns-then-not-follows_last-clause-order c =
    let i = c.loop-pair.pair-index in
    let pairs = c.args.pairs.now in
    let pair : ℕ × ℤ = get_or pairs i (0, pos 0) in
    sym (follows_not c.loop-pair.last pairs i pair (drop_more pairs i (0, pos 0) c.loop-pair-test.true) (sym c.if-not-follows_last.ensures.order)) ∙ c.loop-pair.invariant.ordered
