-- The order of keys, by its tests.
use Rattle.std.specs.Prelude.{ℕ, Bool, true, false, not, bytes_eq, List, [], ◌∷◌}
use Rattle.std.proofs.Common.{◌≡◌, refl, sym, ap, ◌∙◌}
use Rattle.std.specs.Ordering.{MatchOrdering, nat_cmp, ordering_then, ordering_reverse, is_lt, is_le, is_eq, is_gt}
use Rattle.std.specs.Cmp.{IsStrictWeakOrder}
use Rattle.std.specs.Cmp.Lexicographic.{slice_cmp}
use Rattle.std.specs.declared.cmp.Ordering.{Ordering}
use Rattle.std.specs.declared.cmp.Ordering.TheVariants.{Less, Equal, Greater}
use Rattle.std.proofs.lemmas.Cmp.{ranked, nat_list_cmp_total, tied_itself, alike_right, upto}
use Rattle.std.proofs.lemmas.List.Sorted.{ranks_by}
use Rattle.std.proofs.lemmas.Map.Text.{is_eq-slice_cmp}
use Rattle.slate_ids.specs.Keys.{key_lt, key_le}

abbrev cmp : List ℕ → List ℕ → Ordering
cmp a b = slice_cmp nat_cmp a b

le_not_gt : (o : Ordering) → is_le o ≡ true → is_gt o ≡ false
le_not_gt Less h = refl
le_not_gt Equal h = refl
le_not_gt Greater h = sym h

not_gt_le : (o : Ordering) → is_gt o ≡ false → is_le o ≡ true
not_gt_le Less h = refl
not_gt_le Equal h = refl
not_gt_le Greater h = sym h

lt_less : (o : Ordering) → is_lt o ≡ true → o ≡ Less
lt_less Less h = refl
lt_less Equal h = absurd cc
lt_less Greater h = absurd cc

lt_is_le : (o : Ordering) → is_lt o ≡ true → is_le o ≡ true
lt_is_le Less h = refl
lt_is_le Equal h = refl
lt_is_le Greater h = h

pub le_trans : (a b c : List ℕ) → key_le a b ≡ true → key_le b c ≡ true → key_le a c ≡ true
le_trans a b c h k = not_gt_le (cmp a c) (upto nat_list_cmp_total a b c (le_not_gt (cmp a b) h) (le_not_gt (cmp b c) k))

pub le_refl : (a : List ℕ) → key_le a a ≡ true
le_refl a = ap is_le (tied_itself nat_list_cmp_total a)

pub lt_irreflexive : (a : List ℕ) → key_lt a a ≡ true → ⊥
lt_irreflexive a h = let w : is_lt Equal ≡ true = sym (ap is_lt (tied_itself nat_list_cmp_total a)) ∙ h in absurd cc

pub lt_le : (a b : List ℕ) → key_lt a b ≡ true → key_le a b ≡ true
lt_le a b h = lt_is_le (cmp a b) h

pub lt_le_trans : (a b c : List ℕ) → key_lt a b ≡ true → key_le b c ≡ true → key_lt a c ≡ true
lt_le_trans a b c h k = by (cmp b c) refl
  where
    by : (o : Ordering) → cmp b c ≡ o → key_lt a c ≡ true
    by Less e = ap is_lt (nat_list_cmp_total.trans a b c (lt_less (cmp a b) h) e)
    by Equal e = ap is_lt (sym (alike_right nat_list_cmp_total b c a e)) ∙ h
    by Greater e = let w : is_le Greater ≡ true = sym (ap is_le e) ∙ k in absurd cc

pub le_lt_trans : (a b c : List ℕ) → key_le a b ≡ true → key_lt b c ≡ true → key_lt a c ≡ true
le_lt_trans a b c h k = by (cmp a b) refl
  where
    by : (o : Ordering) → cmp a b ≡ o → key_lt a c ≡ true
    by Less e = ap is_lt (nat_list_cmp_total.trans a b c e (lt_less (cmp b c) k))
    by Equal e = ap is_lt (nat_list_cmp_total.congr a b c e) ∙ k
    by Greater e = let w : is_le Greater ≡ true = sym (ap is_le e) ∙ h in absurd cc

reversed_le : (o r : Ordering) → r ≡ ordering_reverse o → is_lt o ≡ false → is_le r ≡ true
reversed_le Less r e h = absurd cc
reversed_le Equal r e h = ap is_le e
reversed_le Greater r e h = ap is_le e

reversed_lt : (o r : Ordering) → r ≡ ordering_reverse o → is_le o ≡ false → is_lt r ≡ true
reversed_lt Less r e h = absurd cc
reversed_lt Equal r e h = absurd cc
reversed_lt Greater r e h = ap is_lt e

pub not_lt : (a b : List ℕ) → key_lt a b ≡ false → key_le b a ≡ true
not_lt a b h = reversed_le (cmp a b) (cmp b a) (nat_list_cmp_total.antisymm b a) h

pub not_le : (a b : List ℕ) → key_le a b ≡ false → key_lt b a ≡ true
not_le a b h = reversed_lt (cmp a b) (cmp b a) (nat_list_cmp_total.antisymm b a) h

-- keys that are alike are one key
tied : (a b : List ℕ) → cmp a b ≡ Equal → a ≡ b
tied [] [] h = refl
tied [] (y ∷ ys) h = absurd cc
tied (x ∷ xs) [] h = absurd cc
tied (x ∷ xs) (y ∷ ys) h = by (nat_cmp x y) (tied xs ys) (ranked x y (nat_cmp x y) refl) h
  where
    by : (o : Ordering) → (cmp xs ys ≡ Equal → xs ≡ ys) → MatchOrdering o (Rattle.std.proofs.Common.◌<◌ x y) (x ≡ y) (Rattle.std.proofs.Common.◌<◌ y x) → ordering_then o (cmp xs ys) ≡ Equal → x ∷ xs ≡ y ∷ ys
    by Less rec m e = absurd cc
    by Equal rec m e = ap (λ h. h ∷ xs) m ∙ ap (λ t. y ∷ t) (rec e)
    by Greater rec m e = absurd cc

le_not_lt : (o : Ordering) → is_le o ≡ true → is_lt o ≡ false → o ≡ Equal
le_not_lt Less h k = absurd cc
le_not_lt Equal h k = refl
le_not_lt Greater h k = absurd cc

pub same_key : (a b : List ℕ) → key_le a b ≡ true → key_lt a b ≡ false → a ≡ b
same_key a b h k = tied a b (le_not_lt (cmp a b) h k)

-- ---- the order alone

pub order : IsStrictWeakOrder key_lt
order = ranks_by nat_list_cmp_total (λ k. k)

pub one_way : (a b : List ℕ) → key_lt a b ≡ true → key_lt b a ≡ false
one_way a b h = order.one_way a b h

pub not_before_itself : (a : List ℕ) → key_lt a a ≡ false
not_before_itself a = ap is_lt (tied_itself nat_list_cmp_total a)

pub chained : (a b c : List ℕ) → key_lt a b ≡ true → key_lt b c ≡ true → key_lt a c ≡ true
chained a b c h k = lt_le_trans a b c h (lt_le b c k)

turned : (o r : Ordering) → o ≡ ordering_reverse r → is_le o ≡ not (is_lt r)
turned Less Greater e = refl
turned Equal Equal e = refl
turned Greater Less e = refl
turned Less Less e = absurd cc
turned Less Equal e = absurd cc
turned Equal Less e = absurd cc
turned Equal Greater e = absurd cc
turned Greater Equal e = absurd cc
turned Greater Greater e = absurd cc

-- a key is at most another exactly where the other isn't before it
pub le_is : (a b : List ℕ) → key_le a b ≡ not (key_lt b a)
le_is a b = turned (cmp a b) (cmp b a) (nat_list_cmp_total.antisymm a b)

decided : (o r : Ordering) → o ≡ ordering_reverse r → is_lt o ≡ false → is_eq o ≡ false → is_lt r ≡ true
decided Less r e l q = absurd cc
decided Equal r e l q = absurd cc
decided Greater Less e l q = refl
decided Greater Equal e l q = absurd cc
decided Greater Greater e l q = absurd cc

-- of two keys that differ, one stands before the other
pub other_way : (a b : List ℕ) → key_lt a b ≡ false → bytes_eq a b ≡ false → key_lt b a ≡ true
other_way a b l q = decided (cmp a b) (cmp b a) (nat_list_cmp_total.antisymm a b) l (is_eq-slice_cmp a b ∙ q)
