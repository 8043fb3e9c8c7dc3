use Rattle.std.proofs.Common.{◌≡◌, ◌≤◌, ◌<◌, ℕ, ◌+◌, ◌-◌, suc, List, length, get_or, take, arith, subst, refl, sym, ◌∙◌}
use Rattle.slate_txn_log.proofs.FromTheEnd.{without_greater, whole_front}
use Rattle.slate_txn_log.specs.Versions.{Version, place, Ascending}
use Rattle.slate_txn_log.proofs.versions.place.Goals as goal

whole : (n at : ℕ) (x d : Version) (ws : List Version) → Ascending ws → at ≤ length ws → 0 < at → x ≡ get_or ws (at - 1) d → x.0 ≤ n → place n (take at ws) ≡ place n ws → at ≡ place n ws
whole n at x d ws all within more is below rest =
    let e : suc (at - 1) ≡ at = omega (arith, more) in
    sym (subst (λ (j : ℕ). place n (take j ws) ≡ j) e (whole_front n (at - 1) x d ws all (omega (arith, within, more)) is below)) ∙ rest

shorter : (n at : ℕ) (x d : Version) (ws : List Version) → at ≤ length ws → 0 < at → x ≡ get_or ws (at - 1) d → n < x.0 → place n (take at ws) ≡ place n ws → place n (take (at - 1) ws) ≡ place n ws
shorter n at x d ws within more is above rest =
    let e : suc (at - 1) ≡ at = omega (arith, more) in
    subst (λ (j : ℕ). place n (take (at - 1) ws) ≡ place n (take j ws)) e (without_greater n (at - 1) x d ws (omega (arith, within, more)) is above) ∙ rest

pub returns-then-kept-at-clause-place : goal.returns-then-kept-at-clause-place
returns-then-kept-at-clause-place c =
    whole c.args.number c.loop-at.at (get_or c.args.kept.now (c.loop-at.at - 1) c.index-kept-at.result) c.index-kept-at.result c.args.kept.now c.requires c.loop-at.invariant.within c.loop-at-test.true refl c.if-kept-at.true c.loop-at.invariant.rest

pub loop-at-preserved : goal.loop-at-preserved
loop-at-preserved c = record {
  rest = shorter c.args.number c.loop-at.at (get_or c.args.kept.now (c.loop-at.at - 1) c.index-kept-at.result) c.index-kept-at.result c.args.kept.now c.loop-at.invariant.within c.loop-at-test.true refl c.if-kept-at.false c.loop-at.invariant.rest;
  within = omega (arith, c.loop-at.invariant.within);
}
