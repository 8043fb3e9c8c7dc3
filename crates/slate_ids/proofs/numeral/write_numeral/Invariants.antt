use Rattle.std.proofs.Common.{◌≡◌, ◌≤◌, ◌++◌, length, drop}
use Rattle.slate_ids.specs.Numerals.{numeral}
use Rattle.slate_ids.proofs.numeral.write_numeral.Given as goal

abbrev pub invariant-loop-i : goal.invariant-loop-i
invariant-loop-i l = record {
  same_length : length l.out ≡ length l.fn.out;
  within : l.i ≤ length l.fn.out;
  base : l.base ≡ length l.alphabet;
  digits : numeral l.alphabet l.i l.rest ++ drop l.i l.out ≡ numeral l.alphabet (length l.fn.out) l.n;
}

abbrev pub decreases-loop-i : goal.decreases-loop-i
decreases-loop-i l = l.i
