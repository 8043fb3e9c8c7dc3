-- The place of a number among ascending ones, looked for from the end.
use Rattle.std.proofs.Common.{zero, suc, ◌≡◌, ◌≤◌, ◌<◌, ℕ, ◌+◌, Bool, true, false, List, [], ◌∷◌, length, get_or, take, refl, arith, ap, sym, subst, ◌∙◌}
use Rattle.std.specs.Prelude.{nat_le, if◌then◌else◌}
use Rattle.std.proofs.lemmas.Bool.Decides.{nat_tests}
use Rattle.slate_txn_log.specs.Versions.{Version, place, AtMostAll, Ascending}

greater : (m n : ℕ) → n < m → nat_le m n ≡ false
greater m n h = grind (arith, nat_tests)

at_most : (m n : ℕ) → m ≤ n → nat_le m n ≡ true
at_most m n h = grind (arith, nat_tests)

none : (b : Bool) (k : ℕ) → b ≡ false → 0 ≡ (if b then k + 1 else 0)
none true k h = absurd cc
none false k h = refl

-- a number that is greater, at the end of a front, changes no place
pub without_greater : (n k : ℕ) (x d : Version) (ws : List Version) → k < length ws → x ≡ get_or ws k d → n < x.0 → place n (take k ws) ≡ place n (take (suc k) ws)
without_greater n k x d [] h e g = absurd (omega (arith, h))
without_greater n zero x d (w ∷ ws) h e g = none (nat_le w.0 n) 0 (subst (λ (v : Version). nat_le v.0 n ≡ false) e (greater x.0 n g))
without_greater n (suc k) x d (w ∷ ws) h e g = ap (λ (j : ℕ). if nat_le w.0 n then j + 1 else 0) (without_greater n k x d ws (omega (arith, h)) e g)

among : (m k : ℕ) (x d : Version) (ws : List Version) → AtMostAll m ws → k < length ws → x ≡ get_or ws k d → m ≤ x.0
among m k x d [] all h e = absurd (omega (arith, h))
among m zero x d (w ∷ ws) all h e = subst (λ (v : Version). m ≤ v.0) (sym e) all.0
among m (suc k) x d (w ∷ ws) all h e = among m k x d ws all.1 (omega (arith, h)) e

one_more : (b : Bool) (j k : ℕ) → b ≡ true → j ≡ k → (if b then j + 1 else 0) ≡ suc k
one_more true j k h e = omega (arith, e)
one_more false j k h e = absurd cc

-- where the last of a front is at most the number, all of the front stand before it
pub whole_front : (n k : ℕ) (x d : Version) (ws : List Version) → Ascending ws → k < length ws → x ≡ get_or ws k d → x.0 ≤ n → place n (take (suc k) ws) ≡ suc k
whole_front n k x d [] all h e g = absurd (omega (arith, h))
whole_front n zero x d (w ∷ ws) all h e g = one_more (nat_le w.0 n) 0 0 (subst (λ (v : Version). nat_le v.0 n ≡ true) e (at_most x.0 n g)) refl
whole_front n (suc k) x d (w ∷ ws) all h e g =
    let below : w.0 ≤ x.0 = among w.0 k x d ws all.0 (omega (arith, h)) e in
    one_more (nat_le w.0 n) (place n (take (suc k) ws)) (suc k) (at_most w.0 n (omega (arith, below, g))) (whole_front n k x d ws all.1 (omega (arith, h)) e g)
