use Rattle.std.proofs.Common.{refl, sym, ◌∙◌, arith}
use Rattle.std.proofs.Math.Nat.{pow-zero}
use Rattle.slate_ids.proofs.Reading.{digit_read, one_more_at, step_fits, read_more, read_none, read_all, read_none_yet}
use Rattle.slate_ids.proofs.numeral.read_numeral.Goals as goal

pub loop-letter-init : goal.loop-letter-init
loop-letter-init c = record {
  base = refl;
  below = rw pow-zero (omega arith);
  rest = read_none_yet _ _;
}

pub returns-in_err-digit : goal.returns-in_err-digit
returns-in_err-digit c = c.from_residual.ensures ∙ sym (read_none _ _ _ _ c.loop-letter-test.true (sym c.digit_of.ensures ∙ c.in_err-digit.was)) ∙ c.loop-letter.invariant.rest

pub overflow_mul-number : goal.overflow_mul-number
overflow_mul-number c =
    let r = digit_read _ _ _ (sym c.digit_of.ensures ∙ c.in_ok-digit.was) in
    let f = step_fits _ _ _ _ _ c.loop-letter.invariant.below r.0 c.loop-letter-test.true c.requires in
    omega arith

pub overflow_add-number : goal.overflow_add-number
overflow_add-number c =
    let r = digit_read _ _ _ (sym c.digit_of.ensures ∙ c.in_ok-digit.was) in
    let f = step_fits _ _ _ _ _ c.loop-letter.invariant.below r.0 c.loop-letter-test.true c.requires in
    omega arith

pub loop-letter-preserved : goal.loop-letter-preserved
loop-letter-preserved c =
    let e = sym c.digit_of.ensures ∙ c.in_ok-digit.was in
    let r = digit_read _ _ _ e in
    record {
      base = refl;
      below = one_more_at _ _ _ _ c.loop-letter.invariant.below r.0;
      rest = sym (read_more _ _ _ _ _ c.loop-letter-test.true e) ∙ c.loop-letter.invariant.rest;
    }

pub returns : goal.returns
returns c = sym (read_all _ _ _ _ c.loop-letter-test.false) ∙ c.loop-letter.invariant.rest
