-- Twenty digits are read back as their number.
use Rattle.std.proofs.Common.{◌≡◌, ℕ, zero, suc, ◌+◌, ◌-◌, ◌*◌, ◌^◌, ◌<◌, ◌≤◌, ◌==◌, Bool, true, false, List, [], ◌∷◌, ◌++◌, length, replicate, Option, Some, None, option_and_then, refl, sym, ap, subst, ◌∙◌, arith, if◌then◌else◌}
use Rattle.std.specs.Prelude.{decimal}
use Rattle.std.proofs.lemmas.Bool.{eqb-true}
use Rattle.slate_ids.specs.Decimals.{digits_from}
use Rattle.slate_ids.specs.Numerals.{digit_of, number_after}
use Rattle.slate_ids.specs.PathKind.{twenty_of}
use Rattle.slate_ids.specs.Twenty.{twenty}
use Rattle.slate_ids.proofs.DecimalTexts.{good, good_is, reads, decimal_digits}
use Rattle.slate_ids.proofs.Digits.{tens, twenty-numeral, digit}
use Rattle.slate_ids.proofs.Numerals.{length-numeral}
use Rattle.slate_ids.proofs.Reading.{IsAlphabet, IsAlphabet-tested, number_letters, read_none_yet}
use Rattle.slate_ids.proofs.UlidTexts.{if_some}

tens_alphabet : IsAlphabet tens
tens_alphabet = IsAlphabet-tested tens (omega arith) refl

digit_place : (d : ℕ) → d < 10 → digit_of tens (48 + d) ≡ Some d
digit_place d h = subst (λ (c : ℕ). digit_of tens c ≡ Some d) (digit d h) (tens_alphabet.reads d h)

letter_place : (c : ℕ) → 48 ≤ c → c ≤ 57 → digit_of tens c ≡ Some (c - 48)
letter_place c low high =
    let whole : 48 + (c - 48) ≡ c = omega (arith, low) in
    let small : c - 48 < 10 = omega (arith, high) in
    subst (λ (k : ℕ). digit_of tens k ≡ Some (c - 48)) whole (digit_place (c - 48) small)

-- digits that are read are a numeral's
as_numeral : (a : ℕ) (cs : List ℕ) (n : ℕ) → digits_from (2 ^ 64) a cs ≡ Some n → number_after tens a cs ≡ Some n
unfolding number_after
as_numeral a [] n h = h
as_numeral a (c ∷ cs) n h = by (good a c) refl (λ e. as_numeral (a * 10 + (c - 48)) cs n e) h
  where
    by : (b : Bool) → good a c ≡ b → (digits_from (2 ^ 64) (a * 10 + (c - 48)) cs ≡ Some n → number_after tens (a * 10 + (c - 48)) cs ≡ Some n)
        → (if b then digits_from (2 ^ 64) (a * 10 + (c - 48)) cs else None) ≡ Some n → option_and_then (λ d. number_after tens (a * length tens + d) cs) (digit_of tens c) ≡ Some n
    by true e rest f =
        let fine = good_is a c e in
        ap (option_and_then (λ d. number_after tens (a * length tens + d) cs)) (letter_place c fine.range.0 fine.range.1) ∙ rest f
    by false e rest f = absurd cc

-- zeros in front don't count
zeros_lead : (k : ℕ) (ds : List ℕ) → digits_from (2 ^ 64) 0 (replicate k 48 ++ ds) ≡ digits_from (2 ^ 64) 0 ds
zeros_lead zero ds = refl
zeros_lead (suc k) ds = zeros_lead k ds

digits_twenty : (n : ℕ) → n < 2 ^ 64 → digits_from (2 ^ 64) 0 (twenty n) ≡ Some n
unfolding twenty
digits_twenty n l = zeros_lead (20 - length (decimal n)) (decimal n) ∙ decimal_digits n l

-- a number is read back from its twenty digits
pub twenty_read : (n : ℕ) → n < 2 ^ 64 → twenty_of (twenty n) ≡ Some n
unfolding twenty_of
twenty_read n l =
    let size : length (twenty n) ≡ 20 = ap length (twenty-numeral n l) ∙ length-numeral tens 20 n in
    let read = digits_twenty n l in
    rw (size, read)

else_some : (b : Bool) (o : Option ℕ) (n : ℕ) → (if b then None else o) ≡ Some n → o ≡ Some n
else_some true o n h = absurd cc
else_some false o n h = h

pub twenty_shown : (text : List ℕ) (n : ℕ) → twenty_of text ≡ Some n → twenty n ≡ text
unfolding twenty_of
twenty_shown text n h =
    let i = if_some (length text == 20) (if length text == 0 then None else digits_from (2 ^ 64) 0 text) n h in
    let size : length text ≡ 20 = eqb-true _ _ i.0 in
    let e = else_some (length text == 0) (digits_from (2 ^ 64) 0 text) n i.1 in
    let read = reads 0 text n (omega arith) e in
    twenty-numeral n read.below ∙ number_letters tens text 20 n size (sym (read_none_yet tens text) ∙ as_numeral 0 text n e)
