-- The reader of decimal digits against the writer of std: exactly the decimal texts of numbers below 2^64 are read.
use Rattle.std.proofs.Common.{rules, zero, suc, ◌≡◌, ◌<◌, ◌≤◌, ℕ, ◌+◌, ◌-◌, ◌*◌, ◌^◌, Bool, true, false, List, [], ◌∷◌, length, Option, Some, None, refl, arith, ap, sym, subst, ◌∙◌}
use Rattle.std.specs.Prelude.{nat_le, nat_lt, ◌&&◌, ◌==◌, if◌then◌else◌, decimal, slice_index}
use Rattle.std.proofs.Math.ListN.{get_or}
use Rattle.std.proofs.lemmas.Bool.Decides.{nat_tests}
use Rattle.std.specs.Int.{IsInRange}
use Rattle.std.specs.Str.Parse.{AllDigits}
use Rattle.std.proofs.lemmas.Str.Parse.{IsNumeralModel, numerals_by_fold, tells_digits}
use Rattle.std.proofs.lemmas.Fmt.{decimal_nonempty, decimal_digit, first_decimal, digits_decimal, digits_value-decimal, decimal-digits_value}
use Rattle.slate_ids.specs.Decimals.{digits_from, decimal_of, ReadsDecimal}

-- the number that digits go on to
abbrev pub read_on : ℕ → List ℕ → ℕ
read_on n [] = n
read_on n (c ∷ cs) = read_on (n * 10 + (c - 48)) cs

own : IsNumeralModel (AllDigits 10) (read_on 0)
own = numerals_by_fold _ tells_digits read_on (search rules)

-- the digits, and the number that they go on to
pub record Read (n : ℕ) (bs : List ℕ) (m : ℕ) : Type 0 where
  pub digits : AllDigits 10 bs
  pub value : read_on n bs ≡ m
  pub below : m < 2 ^ 64

abbrev pub good : ℕ → ℕ → Bool
good n c = nat_le 48 c && nat_le c 57 && nat_lt (n * 10 + (c - 48)) (2 ^ 64)

pub record Good (n c : ℕ) : Type 0 where
  pub range : IsInRange 48 57 c
  pub below : n * 10 + (c - 48) < 2 ^ 64

tests : (n c : ℕ) → good n c ≡ true → (48 ≤ c) × (c ≤ 57) × (n * 10 + (c - 48) < 2 ^ 64)
tests n c h = grind (arith, nat_tests)

pub good_is : (n c : ℕ) → good n c ≡ true → Good n c
good_is n c h = let t = tests n c h in record { range = (t.0, t.1); below = t.2 }

passes : (n c : ℕ) → 48 ≤ c → c ≤ 57 → n * 10 + (c - 48) < 2 ^ 64 → good n c ≡ true
passes n c low high below = grind (arith, nat_tests)

reads_if : (b : Bool) (n c : ℕ) (cs : List ℕ) (m : ℕ) → good n c ≡ b → ((k : ℕ) → k < 2 ^ 64 → digits_from (2 ^ 64) k cs ≡ Some m → Read k cs m)
    → (if b then digits_from (2 ^ 64) (n * 10 + (c - 48)) cs else None) ≡ Some m → Read n (c ∷ cs) m
reads_if true n c cs m e rest h =
    let fine : Good n c = good_is n c e in
    let read : Read (n * 10 + (c - 48)) cs m = rest (n * 10 + (c - 48)) fine.below h in
    record { digits = tells_digits.more c cs fine.range read.digits; value = read.value; below = read.below }
reads_if false n c cs m e rest h = absurd cc

pub reads : (n : ℕ) (bs : List ℕ) (m : ℕ) → n < 2 ^ 64 → digits_from (2 ^ 64) n bs ≡ Some m → Read n bs m
reads n [] m below h = let same : n ≡ m = cc in record { digits = tells_digits.empty; value = same; below = subst (λ (k : ℕ). k < 2 ^ 64) same below }
reads n (c ∷ cs) m below h = reads_if (good n c) n c cs m refl (λ k b e. reads k cs m b e) h

grows : (n : ℕ) (bs : List ℕ) → n ≤ read_on n bs
grows n [] = omega arith
grows n (c ∷ cs) = let rest : n * 10 + (c - 48) ≤ read_on (n * 10 + (c - 48)) cs = grows (n * 10 + (c - 48)) cs in omega (arith, rest)

-- digits of a number below the limit are read
writes : (n : ℕ) (bs : List ℕ) → AllDigits 10 bs → read_on n bs < 2 ^ 64 → digits_from (2 ^ 64) n bs ≡ Some (read_on n bs)
writes n [] d below = refl
writes n (c ∷ cs) d below =
    let parts = tells_digits.parts c cs d in
    let more : n * 10 + (c - 48) ≤ read_on (n * 10 + (c - 48)) cs = grows (n * 10 + (c - 48)) cs in
    let fits : n * 10 + (c - 48) < 2 ^ 64 = omega (arith, more, below) in
    subst (λ (b : Bool). (if b then digits_from (2 ^ 64) (n * 10 + (c - 48)) cs else None) ≡ Some (read_on (n * 10 + (c - 48)) cs)) (sym (passes n c parts.0.0 parts.0.1 fits)) (writes (n * 10 + (c - 48)) cs parts.1 below)

-- whether a zero leads a text
abbrev leads : List ℕ → Bool
leads bs = (slice_index bs 0 == 48) && nat_lt 1 (length bs)

leads_of : (first count : ℕ) → (first ≡ 48 → count ≡ 1) → ((first == 48) && nat_lt 1 count) ≡ false
leads_of first count one = grind (arith, nat_tests, one)

leads_not : (first count : ℕ) → ((first == 48) && nat_lt 1 count) ≡ false → (count == 0) ≡ false → (0 < count) × (first ≡ 48 → count ≡ 1)
leads_not first count h some = (grind (arith, nat_tests), λ e. grind (arith, nat_tests))

some_of : (count : ℕ) → 0 < count → (count == 0) ≡ false
some_of count h = grind (arith, nat_tests)

zero_first : (n : ℕ) → n < 2 ^ 64 → get_or (decimal n) 0 0 ≡ 48 → length (decimal n) ≡ 1
zero_first zero small e = ap (λ (ds : List ℕ). length ds) (decimal_digit 0 (omega arith))
zero_first (suc n) small e = let more : 48 < get_or (decimal (suc n)) 0 0 = first_decimal (suc n) (omega arith) small in absurd (omega (arith, more, e))

-- a decimal text has a digit and no leading zero, and its digits are those of its number
record Text (n : ℕ) : Type 0 where
  plain : leads (decimal n) ≡ false
  some : (length (decimal n) == 0) ≡ false
  digits : digits_from (2 ^ 64) 0 (decimal n) ≡ Some n

text_of : (n : ℕ) → n < 2 ^ 64 → Text n
text_of n small =
    let value : read_on 0 (decimal n) ≡ n = digits_value-decimal own n small in
    record {
      plain = leads_of _ _ (zero_first n small);
      some = some_of _ (decimal_nonempty n small);
      digits = subst (λ (k : ℕ). digits_from (2 ^ 64) 0 (decimal n) ≡ Some k) value (writes 0 (decimal n) (digits_decimal own n small) (omega (arith, value, small)));
    }

pub decimal_digits : (n : ℕ) → n < 2 ^ 64 → digits_from (2 ^ 64) 0 (decimal n) ≡ Some n
decimal_digits n small = (text_of n small).digits

by_tests : (bs : List ℕ) (lead none : Bool) (o : Option ℕ) → leads bs ≡ lead → (length bs == 0) ≡ none → digits_from (2 ^ 64) 0 bs ≡ o → ReadsDecimal bs (if lead then None else (if none then None else o))
by_tests bs true none o e s h = λ n small same. let t = (text_of n small).plain in absurd cc
by_tests bs false true o e s h = λ n small same. let t = (text_of n small).some in absurd cc
by_tests bs false false None e s h = λ n small same. let t = (text_of n small).digits in absurd cc
by_tests bs false false (Some m) e s h =
    let read : Read 0 bs m = reads 0 bs m (omega arith) h in
    let lead = leads_not (slice_index bs 0) (length bs) e s in
    let text : decimal (read_on 0 bs) ≡ bs = decimal-digits_value own bs read.digits lead.0 lead.1 (omega (arith, read.value, read.below)) in
    (sym text ∙ ap decimal read.value, read.below)

-- exactly the decimal texts are read
pub reads_decimal : (bs : List ℕ) → ReadsDecimal bs (decimal_of bs)
reads_decimal bs = by_tests bs (leads bs) (length bs == 0) (digits_from (2 ^ 64) 0 bs) refl refl refl

by_text : (lead none : Bool) (o : Option ℕ) (n : ℕ) → lead ≡ false → none ≡ false → o ≡ Some n → (if lead then None else (if none then None else o)) ≡ Some n
by_text false false o n plain some digits = digits
by_text true none o n plain some digits = absurd cc
by_text false true o n plain some digits = absurd cc

-- a decimal text is read as its number
pub decimal_back : (n : ℕ) → n < 2 ^ 64 → decimal_of (decimal n) ≡ Some n
decimal_back n small = let t = text_of n small in by_text _ _ _ n t.plain t.some t.digits
