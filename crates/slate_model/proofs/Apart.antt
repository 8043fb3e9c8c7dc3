-- Of prefixes that ascend, what doesn't begin with one stands above all keys that do; so neighbours tell whether any begins with another's.
use Rattle.std.specs.Prelude.{ℕ, ◌+◌, ◌<◌, ◌&&◌, Bool, true, false, List, [], ◌∷◌, length, get_or, drop, nat_eq}
use Rattle.std.specs.Ordering.{nat_cmp, is_lt, ordering_then}
use Rattle.std.specs.Cmp.Lexicographic.{slice_cmp}
use Rattle.std.specs.declared.cmp.Ordering.{Ordering}
use Rattle.std.specs.declared.cmp.Ordering.TheVariants.{Less, Equal, Greater}
use Rattle.std.proofs.Common.{◌≡◌, refl, sym, ◌∙◌, ap, arith}
use Rattle.std.proofs.lemmas.Bool.{and_parts, false_from_ne_true}
use Rattle.std.proofs.lemmas.Bool.Decides.{nat_tests}
use Rattle.std.proofs.lemmas.List.{drop_more}
use Rattle.slate_ids.specs.Keys.{key_lt, begins_with}
use Rattle.slate_ids.proofs.KeyOrder.{one_way}
use Rattle.slate_model.specs.Segments.{Prefixed, ascend_from}
use Rattle.slate_model.specs.Selection.{none_begins, are_apart}
use Rattle.slate_model.proofs.Ascending.{clash}
use Rattle.slate_model.proofs.Placing.{from_below}

equal_eq : (x y : ℕ) → nat_cmp x y ≡ Equal → nat_eq x y ≡ true
equal_eq x y h = grind (arith, nat_tests)

eq_same : (x y : ℕ) → nat_eq x y ≡ true → x ≡ y
eq_same x y h = grind (arith, nat_tests)

second_false : (a b : Bool) → a ≡ true → (a && b) ≡ false → b ≡ false
second_false true b e h = h
second_false false b e h = absurd cc

step : (o : Ordering) (x y : ℕ) → nat_cmp x y ≡ o → (pq kq : Ordering) (b : Bool) → is_lt (ordering_then o pq) ≡ true → (nat_eq x y && b) ≡ false → (is_lt pq ≡ true → b ≡ false → is_lt kq ≡ true) → is_lt (ordering_then o kq) ≡ true
step Less x y e pq kq b l n more = refl
step Equal x y e pq kq b l n more = more l (second_false (nat_eq x y) b (equal_eq x y e) n)
step Greater x y e pq kq b l n more = absurd cc

-- what begins with a key stands below what stands above the key and doesn't begin with it
pub between : (p q k : List ℕ) → key_lt p q ≡ true → begins_with p q ≡ false → begins_with p k ≡ true → key_lt k q ≡ true
unfolding begins_with
between [] q k l n b = absurd cc
between (x ∷ p) [] k l n b = absurd cc
between (x ∷ p) (y ∷ q) [] l n b = absurd cc
between (x ∷ p) (y ∷ q) (z ∷ k) l n b =
    let parts = and_parts (nat_eq x z) (begins_with p k) b in
    let same : x ≡ z = eq_same x z parts.0 in
    rw (← same) (step (nat_cmp x y) x y refl (slice_cmp nat_cmp p q) (slice_cmp nat_cmp k q) (begins_with p q) l n (λ h m. between p q k h m parts.1))

-- what stands above one that doesn't begin with a key doesn't either
pub none_later : (p t : List ℕ) (us : List Prefixed) → key_lt p t ≡ true → begins_with p t ≡ false → ascend_from t us ≡ true → none_begins p us ≡ true
none_later p t [] l n a = refl
none_later p t (u ∷ us) l n a =
    let parts = and_parts (key_lt t u.prefix) (ascend_from u.prefix us) a in
    let other : begins_with p u.prefix ≡ false = false_from_ne_true (begins_with p u.prefix) (λ b. clash (key_lt u.prefix t) (between p t u.prefix l n b) (one_way t u.prefix parts.0)) in
    rw other (none_later p t us l n (from_below t u.prefix us parts.0 parts.1))

-- a segment whose next one's prefix doesn't begin with its own makes no difference
pub next_apart : (s t : Prefixed) (ss : List Prefixed) → ascend_from s.prefix (t ∷ ss) ≡ true → begins_with s.prefix t.prefix ≡ false → are_apart (s ∷ t ∷ ss) ≡ are_apart (t ∷ ss)
next_apart s t ss a n =
    let parts = and_parts (key_lt s.prefix t.prefix) (ascend_from t.prefix ss) a in
    rw (n, none_later s.prefix t.prefix ss parts.0 n parts.1) refl

pub next_begins : (s t : Prefixed) (ss : List Prefixed) → begins_with s.prefix t.prefix ≡ true → are_apart (s ∷ t ∷ ss) ≡ false
next_begins s t ss h = rw h refl

-- what the last segment and those that are left say, one further
pub carried : (all : Bool) (s t : Prefixed) (i : ℕ) (others : List Prefixed) → i < length others → t ≡ get_or others i t → begins_with s.prefix t.prefix ≡ false → (are_apart (s ∷ drop i others) ≡ all) × (ascend_from s.prefix (drop i others) ≡ true) → (are_apart (t ∷ drop (i + 1) others) ≡ all) × (ascend_from t.prefix (drop (i + 1) others) ≡ true)
carried all s t i others l e n h =
    let left : drop i others ≡ t ∷ drop (i + 1) others = drop_more others i t l ∙ ap (λ (u : Prefixed). u ∷ drop (i + 1) others) (sym e) in
    let order : ascend_from s.prefix (t ∷ drop (i + 1) others) ≡ true = sym (ap (ascend_from s.prefix) left) ∙ h.1 in
    (sym (next_apart s t (drop (i + 1) others) order n) ∙ sym (ap (λ (ss : List Prefixed). are_apart (s ∷ ss)) left) ∙ h.0, (and_parts (key_lt s.prefix t.prefix) (ascend_from t.prefix (drop (i + 1) others)) order).1)
