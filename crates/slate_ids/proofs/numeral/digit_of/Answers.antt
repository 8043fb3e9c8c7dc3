use Rattle.std.proofs.Common.{◌==◌, rules, tests}
use Rattle.std.proofs.lemmas.Iterator.{YieldsList-from_slice}
use Rattle.std.proofs.lemmas.Iterator.Search.{position_from_yields_List}
use Rattle.slate_ids.specs.Numerals.{digit_of}
use Rattle.slate_ids.proofs.numeral.digit_of.Goals as goal

pub returns : goal.returns
unfolding digit_of
returns c = position_from_yields_List (λ e. e == c.args.letter) _ _ c.position.result c.position.ensures.ran (YieldsList-from_slice c.args.alphabet.now cc) (λ x b q k. search (rules, tests))
