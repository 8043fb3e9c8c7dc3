use Rattle.std.proofs.Common.{arith, refl, ◌∙◌}
use Rattle.std.proofs.lemmas.List.{length-set}
use Rattle.slate_ids.proofs.Numerals.{digit_written, all_written}
use Rattle.slate_ids.proofs.numeral.write_numeral.Goals as goal

pub loop-i-preserved : goal.loop-i-preserved
loop-i-preserved c =
    let i = c.loop-i.invariant in
    record {
      same_length = length-set _ _ _ ∙ i.same_length;
      within = omega arith;
      base = refl;
      digits = digit_written c.args.alphabet.now c.loop-i.out _ c.loop-i.i c.loop-i.rest c.loop-i-test.true (omega arith) i.digits;
    }

pub returns : goal.returns
returns c = all_written c.args.alphabet.now c.loop-i.out _ c.loop-i.i c.loop-i.rest c.loop-i-test.false c.loop-i.invariant.digits
