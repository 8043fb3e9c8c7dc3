-- Numerals of a fixed width.
use Rattle.std.proofs.Common.{◌≡◌, ℕ, zero, suc, ◌+◌, ◌-◌, ◌<◌, ◌≤◌, ◌/◌, ◌%◌, List, [], ◌∷◌, ◌++◌, length, get_or, set, drop, refl, ap, sym, ◌∙◌, arith, append_assoc}
use Rattle.std.proofs.lemmas.List.{drop-set, length-append}
use Rattle.std.proofs.lemmas.Str.{IsAscii-append}
use Rattle.std.proofs.lemmas.Str.Ascii.{IsAscii-cons}
use Rattle.std.specs.Str.{IsAscii}
use Rattle.slate_ids.specs.Numerals.{numeral}

pub length-numeral : (alphabet : List ℕ) (k n : ℕ) → length (numeral alphabet k n) ≡ k
unfolding numeral
length-numeral alphabet zero n = refl
length-numeral alphabet (suc k) n = length-append (numeral alphabet k (n / length alphabet)) (get_or alphabet (n % length alphabet) 0 ∷ []) ∙ (rw (length-numeral alphabet k (n / length alphabet)) (omega arith))

-- the first step of a numeral writes its last digit
pub last_digit : (alphabet : List ℕ) (i n : ℕ) (out : List ℕ) → i < length out → numeral alphabet i (n / length alphabet) ++ drop i (set out i (get_or alphabet (n % length alphabet) 0)) ≡ numeral alphabet (suc i) n ++ drop (suc i) out
unfolding numeral
last_digit alphabet i n out h =
    let x = get_or alphabet (n % length alphabet) 0 in
    let next : i + 1 ≡ suc i = omega arith in
    ap (λ (r : List ℕ). numeral alphabet i (n / length alphabet) ++ r) (drop-set out i x h ∙ ap (λ (k : ℕ). x ∷ drop k out) next) ∙ sym (append_assoc (numeral alphabet i (n / length alphabet)) (x ∷ []) (drop (suc i) out))

pub numeral-IsAscii : (alphabet : List ℕ) (k n : ℕ) → IsAscii alphabet → IsAscii (numeral alphabet k n)
unfolding numeral
numeral-IsAscii alphabet zero n h = λ i. omega arith
numeral-IsAscii alphabet (suc k) n h = IsAscii-append _ _ (numeral-IsAscii alphabet k (n / length alphabet) h) (IsAscii-cons _ [] (h (n % length alphabet)) (λ i. omega arith))

pub digit_written : (alphabet out whole : List ℕ) (i n : ℕ) → 0 < i → i ≤ length out → numeral alphabet i n ++ drop i out ≡ whole → numeral alphabet (i - 1) (n / length alphabet) ++ drop (i - 1) (set out (i - 1) (get_or alphabet (n % length alphabet) 0)) ≡ whole
digit_written alphabet out whole zero n p l e = absurd (omega arith)
digit_written alphabet out whole (suc i) n p l e =
    let back : suc i - 1 ≡ i = omega arith in
    let room : i < length out = omega arith in
    rw back (last_digit alphabet i n out room ∙ e)

pub all_written : (alphabet out whole : List ℕ) (i n : ℕ) → i ≤ 0 → numeral alphabet i n ++ drop i out ≡ whole → out ≡ whole
unfolding numeral
all_written alphabet out whole zero n l e = e
all_written alphabet out whole (suc i) n l e = absurd (omega arith)
