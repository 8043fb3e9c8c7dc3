use Rattle.std.proofs.Common.{rules, ◌≡◌, ◌≤◌, ◌&&◌, ◌∙◌, Bool, true, false, ℕ, List, length, drop, sym, ap, arith}
use Rattle.std.proofs.lemmas.List.{drop_all}
use Rattle.slate_model_tables.specs.Views.{View}
use Rattle.slate_model_tables.specs.SortedRuns.{ascend}
use Rattle.slate_model_tables.proofs.Ascents.{ascend_at, ascend_nothing}
use Rattle.slate_model_tables.proofs.order.ascend.Goals as goal

fails : (b t : Bool) → b ≡ false → false ≡ (b && t)
fails b t e = ap (λ x. x && t) (sym e)

goes_on : (b t : Bool) → b ≡ true → (b && t) ≡ t
goes_on b t e = ap (λ x. x && t) e

pub returns-then-not-ends_before_next : goal.returns-then-not-ends_before_next
returns-then-not-ends_before_next c =
    let views = c.args.views.now in
    let b = c.ends_before_next.result in
    sym (c.loop-i.invariant ∙ ascend_at views c.loop-i.i b c.loop-i-test.true c.ends_before_next.ensures ∙ sym (fails b _ (search rules)))

pub loop-i-preserved : goal.loop-i-preserved
loop-i-preserved c =
    let views = c.args.views.now in
    let b = c.ends_before_next.result in
    c.loop-i.invariant ∙ ascend_at views c.loop-i.i b c.loop-i-test.true c.ends_before_next.ensures ∙ goes_on b _ (search rules)

past_all : (views : List View) (i : ℕ) → length views ≤ i → ascend views ≡ ascend (drop i views) → true ≡ ascend views
past_all views i l e = sym (e ∙ ap ascend (drop_all i views l) ∙ ascend_nothing)

pub returns : goal.returns
returns c = past_all c.args.views.now c.loop-i.i (omega (arith, c.loop-i-test.false)) c.loop-i.invariant
