-- What is said of some objects, of one more.
use Rattle.std.specs.Prelude.{ℕ, ◌+◌, ◌<◌, Bool, true, false, List, [], ◌∷◌, ◌++◌, length, filter, if◌then◌else◌}
use Rattle.std.proofs.Common.{◌≡◌, sym, ◌∙◌, ap, drop, get_or, append_assoc}
use Rattle.std.proofs.lemmas.List.{drop_more}

by_test : {X : Type 0} (test : X → Bool) (b : Bool) (kept : List X) (x : X) (rest : List X) → b ≡ test x → (if b then kept ++ x ∷ [] else kept) ++ filter test rest ≡ kept ++ filter test (x ∷ rest)
by_test test true kept x rest e = append_assoc kept (x ∷ []) (filter test rest) ∙ ap (λ (t : Bool). kept ++ (if t then x ∷ filter test rest else filter test rest)) e
by_test test false kept x rest e = ap (λ (t : Bool). kept ++ (if t then x ∷ filter test rest else filter test rest)) e

-- one more is kept, where it passes a test
pub kept : {X : Type 0} (test : X → Bool) (xs : List X) (i : ℕ) (x : X) (passes : Bool) (before after all : List X) → i < length xs → x ≡ get_or xs i x → passes ≡ test x
    → after ≡ (if passes then before ++ x ∷ [] else before) → before ++ filter test (drop i xs) ≡ all → after ++ filter test (drop (i + 1) xs) ≡ all
kept test xs i x passes before after all lt at tested made so_far =
    ap (λ (l : List _). l ++ filter test (drop (i + 1) xs)) made ∙ by_test test passes before x (drop (i + 1) xs) tested
    ∙ sym (ap (λ (l : List _). before ++ filter test l) (drop_more xs i x lt ∙ ap (λ (y : _). y ∷ drop (i + 1) xs) (sym at))) ∙ so_far
