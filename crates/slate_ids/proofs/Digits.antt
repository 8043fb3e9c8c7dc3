-- Twenty digits of a number are its decimal digits after zeros.
use Rattle.std.proofs.Common.{◌≡◌, ℕ, zero, suc, ◌+◌, ◌-◌, ◌<◌, ◌≤◌, ◌^◌, ◌/◌, ◌%◌, List, [], ◌∷◌, ◌++◌, length, get_or, replicate, codes, refl, ap, ◌∙◌, arith, append_assoc}
use Rattle.std.proofs.lemmas.List.{replicate_more, length-append}
use Rattle.std.proofs.lemmas.List.FromFn.{get_or-map-range_with_len}
use Rattle.std.proofs.lemmas.Fmt.{decimal_by_steps, length-decimal-le}
use Rattle.slate_ids.specs.Numerals.{numeral}
use Rattle.slate_ids.specs.Twenty.{twenty}

-- the decimal digits
abbrev pub tens : List ℕ
tens = codes "0123456789"

pub digit : (d : ℕ) → d < 10 → get_or tens d 0 ≡ 48 + d
digit d h = get_or-map-range_with_len (λ k. 48 + k) 0 10 d d 0 h (omega arith)

zeros : (k : ℕ) → numeral tens k 0 ≡ replicate k 48
unfolding numeral
zeros zero = refl
zeros (suc k) =
    let next : k + 1 ≡ suc k = omega arith in
    ap (λ (r : List ℕ). r ++ 48 ∷ []) (zeros k) ∙ replicate_more k 48 ∙ ap (λ (i : ℕ). replicate i 48) next

-- zeros before these digits make the last digits of n
abbrev FilledUp : ℕ → List ℕ → Type 0
FilledUp n ds = (k : ℕ) → length ds ≤ k → replicate (k - length ds) 48 ++ ds ≡ numeral tens k n

one : (n : ℕ) → n < 10 → FilledUp n ((48 + n) ∷ [])
unfolding numeral
one n h zero l = absurd (omega arith)
one n h (suc k) l =
    let none : n / 10 ≡ 0 = omega arith in
    let whole : n % 10 ≡ n = omega arith in
    let width : suc k - 1 ≡ k = omega arith in
    rw (none, whole, zeros k, digit n h, width)

more : (n : ℕ) (ds : List ℕ) → 10 ≤ n → FilledUp (n / 10) ds → FilledUp n (ds ++ (48 + n % 10) ∷ [])
unfolding numeral
more n ds h p zero l = absurd (omega (arith, length-append ds ((48 + n % 10) ∷ [])))
more n ds h p (suc k) l =
    let len = length-append ds ((48 + n % 10) ∷ []) in
    let width : suc k - length (ds ++ (48 + n % 10) ∷ []) ≡ k - length ds = omega arith in
    let fits : length ds ≤ k = omega arith in
    let below : n % 10 < 10 = omega arith in
    rw (width, ← append_assoc, p k fits, digit (n % 10) below)

-- the twenty digits that are written are the number's
pub twenty-numeral : (n : ℕ) → n < 2 ^ 64 → twenty n ≡ numeral (codes "0123456789") 20 n
unfolding twenty
twenty-numeral n h = decimal_by_steps FilledUp one more n h 20 (length-decimal-le 20 n (omega arith) (omega arith) h)
