use Rattle.std.proofs.Common.{sym, subst, ◌∙◌, arith}
use Rattle.std.specs.Str.{IsUtf8}
use Rattle.slate_ids.proofs.Ascii.{digits_utf8}
use Rattle.slate_ids.proofs.Digits.{twenty-numeral}
use Rattle.slate_ids.proofs.path_pieces.twenty_digits.Goals as goal

pub returns : goal.returns
returns c = record {
  digits = c.write_numeral.ensures ∙ sym (twenty-numeral c.args.n (omega arith));
  text = subst IsUtf8 (sym (twenty-numeral c.args.n (omega arith))) (digits_utf8 20 c.args.n);
}
