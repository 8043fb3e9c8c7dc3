use Rattle.std.proofs.Common.{◌≡◌, ◌<◌, ◌^◌, length, drop}
use Rattle.slate_ids.specs.Numerals.{number_after, number_of}
use Rattle.slate_ids.proofs.numeral.read_numeral.Given as goal

abbrev pub invariant-loop-letter : goal.invariant-loop-letter
invariant-loop-letter l = record {
  base : l.base ≡ length l.alphabet;
  below : l.number < length l.alphabet ^ l.letter-index;
  rest : number_after l.alphabet l.number (drop l.letter-index l.letters) ≡ number_of l.alphabet l.letters;
}
