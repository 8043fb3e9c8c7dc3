-- Counts: of a list that a test parts, of two tests, and of a list in another order.
use Rattle.std.specs.Prelude.{ℕ, zero, suc, ◌+◌, ◌<◌, ◌≤◌, Bool, true, false, nat_lt, cond, List, [], ◌∷◌, ◌++◌, length, get_or, count_by, sum_by}
use Rattle.std.proofs.Common.{◌≡◌, refl, sym, ap, ◌∙◌, arith}
use Rattle.std.specs.List.Sorted.{IsPartitionedBy, IsPartitionPoint, IsPermutation}
use Rattle.std.proofs.lemmas.List.Sums.{count_by-le-length, sum_by-append, sum_by-cons}
use Rattle.std.proofs.lemmas.List.Sorted.{sum_by-IsPermutation}
use Rattle.std.proofs.lemmas.Bool.Decides.{nat_tests}

some_pass : (n : ℕ) → nat_lt 0 (1 + n) ≡ true
some_pass n = grind (arith, nat_tests)

one_more : (k n : ℕ) → nat_lt (suc k) (1 + n) ≡ nat_lt k n
one_more k n = grind (arith, nat_tests)

no_more : (k n : ℕ) → n ≡ 0 → nat_lt k (0 + n) ≡ false
no_more k n e = grind (arith, nat_tests)

below : (i n : ℕ) → false ≡ nat_lt i n → i < n → ⊥
below i n e l = grind (arith, nat_tests)

below_none : (n : ℕ) → true ≡ nat_lt n n → ⊥
below_none n e = grind (arith, nat_tests)

place : {i n : ℕ} → (i < n → ⊥) → (n < i → ⊥) → i ≡ n
place {i} {n} f g = by (nat_lt i n) (nat_lt n i) refl refl
  where
    by : (a b : Bool) → nat_lt i n ≡ a → nat_lt n i ≡ b → i ≡ n
    by true b e o = absurd (f (grind (arith, nat_tests)))
    by false true e o = absurd (g (grind (arith, nat_tests)))
    by false false e o = grind (arith, nat_tests)

module _ {X : Type 0} (p : X → Bool) where
  pub count_cons : (x : X) (xs : List X) → count_by p (x ∷ xs) ≡ cond (p x) 1 0 + count_by p xs
  count_cons x xs = sum_by-cons (λ y. cond (p y) 1 0) x xs

  rest_parted : (x : X) (xs : List X) → IsPartitionedBy p (x ∷ xs) → IsPartitionedBy p xs
  rest_parted x xs h i j d l m o = h (suc i) (suc j) d (omega arith) (omega arith) o

  -- where the first fails, all do
  none_pass : (x : X) (xs : List X) → IsPartitionedBy p (x ∷ xs) → p x ≡ false → (i : ℕ) (d : X) → i < length xs → p (get_or xs i d) ≡ false
  none_pass x xs h e i d l = by (p (get_or xs i d)) refl
    where
      by : (b : Bool) → p (get_or xs i d) ≡ b → b ≡ false
      by true o = sym (h zero (suc i) d (omega arith) (omega arith) o) ∙ e
      by false o = refl

  count_none : (xs : List X) → ((i : ℕ) (d : X) → i < length xs → p (get_or xs i d) ≡ false) → count_by p xs ≡ 0
  count_none [] h = refl
  count_none (x ∷ xs) h = count_cons x xs ∙ ap (λ b. cond b 1 0 + count_by p xs) (h zero x (omega arith)) ∙ (let rest = count_none xs (λ i d l. h (suc i) d (omega arith)) in omega (arith, rest))

  -- the elements that pass are the first ones, as many as there are
  pub parted_at : (xs : List X) → IsPartitionedBy p xs → (i : ℕ) (d : X) → i < length xs → p (get_or xs i d) ≡ nat_lt i (count_by p xs)
  parted_at [] h i d l = absurd (omega arith)
  parted_at (x ∷ xs) h i d l = first (p x) refl i l (λ k m. parted_at xs (rest_parted x xs h) k d m) ∙ ap (nat_lt i) (sym (count_cons x xs))
    where
      first : (b : Bool) → p x ≡ b → (i : ℕ) → i < length (x ∷ xs) → ((k : ℕ) → k < length xs → p (get_or xs k d) ≡ nat_lt k (count_by p xs)) → p (get_or (x ∷ xs) i d) ≡ nat_lt i (cond (p x) 1 0 + count_by p xs)
      first true e zero l rec = e ∙ sym (ap (λ b. nat_lt zero (cond b 1 0 + count_by p xs)) e ∙ some_pass (count_by p xs))
      first true e (suc k) l rec = rec k (omega arith) ∙ sym (ap (λ b. nat_lt (suc k) (cond b 1 0 + count_by p xs)) e ∙ one_more k (count_by p xs))
      first false e zero l rec = e ∙ sym (ap (λ b. nat_lt zero (cond b 1 0 + count_by p xs)) e ∙ no_more zero (count_by p xs) (count_none xs (none_pass x xs h e)))
      first false e (suc k) l rec = none_pass x xs h e k d (omega arith) ∙ sym (ap (λ b. nat_lt (suc k) (cond b 1 0 + count_by p xs)) e ∙ no_more (suc k) (count_by p xs) (count_none xs (none_pass x xs h e)))

  -- the place where a list parts is how many pass
  pub point_counts : (xs : List X) (i : ℕ) → i ≤ length xs → IsPartitionedBy p xs → IsPartitionPoint (λ y. p y ≡ true) (λ y. p y ≡ false) xs i → i ≡ count_by p xs
  point_counts [] i l h q = omega arith
  point_counts (x ∷ xs) i l h q = place (λ m. below i (count_by p (x ∷ xs)) (sym (q.1 i x (omega arith) (omega (arith, count_by-le-length p (x ∷ xs)))) ∙ parted_at (x ∷ xs) h i x (omega (arith, count_by-le-length p (x ∷ xs)))) m) (λ m. below_none (count_by p (x ∷ xs)) (sym (q.0 (count_by p (x ∷ xs)) x (omega arith) m) ∙ parted_at (x ∷ xs) h (count_by p (x ∷ xs)) x (omega arith)))

  -- counts in another order
  pub count_permuted : (xs ys : List X) → IsPermutation xs ys → count_by p ys ≡ count_by p xs
  count_permuted xs ys h = sum_by-IsPermutation (λ x. cond (p x) 1 0) xs ys h

  pub count_append : (xs ys : List X) → count_by p (xs ++ ys) ≡ count_by p xs + count_by p ys
  count_append xs ys = sum_by-append (λ x. cond (p x) 1 0) xs ys

-- what passes a stronger test is less
pub count_weaker : {X : Type 0} (p q : X → Bool) → ((x : X) → p x ≡ true → q x ≡ true) → (xs : List X) → count_by p xs ≤ count_by q xs
count_weaker p q h [] = omega arith
count_weaker p q h (x ∷ xs) = rw (count_cons p x xs, count_cons q x xs) (by (p x) (q x) (h x) (count_weaker p q h xs))
  where
    by : (a b : Bool) → (a ≡ true → b ≡ true) → count_by p xs ≤ count_by q xs → cond a 1 0 + count_by p xs ≤ cond b 1 0 + count_by q xs
    by true true k l = omega arith
    by true false k l = let w : false ≡ true = k refl in absurd cc
    by false true k l = omega arith
    by false false k l = omega arith
