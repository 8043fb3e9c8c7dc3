-- The most views that are open at a start are the most that show one key.
use Rattle.std.specs.Prelude.{ℕ, zero, suc, ◌+◌, ◌-◌, ◌<◌, ◌≤◌, ◌⊎◌, Bool, true, false, not, ◌&&◌, nat_lt, cond, List, [], ◌∷◌, length, get_or, count_by}
use Rattle.std.proofs.Common.{◌≡◌, refl, sym, ap, ◌∙◌, arith, inl, inr}
use Rattle.std.specs.List.Sorted.{IsSorted, IsPartitionedBy, IsPermutation}
use Rattle.std.specs.Ordering.{nat_cmp}
use Rattle.std.specs.Cmp.Lexicographic.{slice_cmp}
use Rattle.std.proofs.lemmas.List.Sums.{count_by-le-length}
use Rattle.std.proofs.lemmas.List.Sorted.{sorted_far, ranks_by}
use Rattle.std.proofs.lemmas.Cmp.{nat_list_cmp_total}
use Rattle.std.proofs.lemmas.Bool.Decides.{nat_tests}
use Rattle.std.specs.declared.ops.Bound.{Bound}
use Rattle.std.specs.declared.ops.Bound.TheVariants.{Included, Excluded, Unbounded}
use Rattle.slate_ids.specs.Keys.{key_lt, key_le, is_past, is_up_to}
use Rattle.slate_ids.specs.KeyRange.{has_key}
use Rattle.slate_model_tables.specs.Views.{View, effective_range, shows_key}
use Rattle.slate_model_tables.specs.SortedRuns.{all_show}
use Rattle.slate_model_tables.specs.Overlap.{showing, IsGreatestOverlap, included_in, excluded_in, start_keys, end_keys, limit_keys, closed_at, open_at, IsMostOpen}
use Rattle.slate_ids.proofs.KeyOrder.{le_trans, lt_le, le_refl, le_lt_trans, lt_le_trans, lt_irreflexive, not_lt, not_le}
use Rattle.slate_model_tables.proofs.Slots.{Begins, begins}
use Rattle.slate_model_tables.proofs.Counting.{count_cons, count_append, count_weaker, count_permuted, parted_at}

-- tests of the order that are opposites

lt_opposite : (a b : List ℕ) → key_lt a b ≡ not (key_le b a)
lt_opposite a b = by (key_lt a b) (key_le b a) refl refl
  where
    by : (s t : Bool) → key_lt a b ≡ s → key_le b a ≡ t → s ≡ not t
    by true true e o = absurd (lt_irreflexive a (lt_le_trans a b a e o))
    by true false e o = refl
    by false true e o = refl
    by false false e o = sym (sym (not_lt a b e) ∙ o)

not_not : (b : Bool) → not (not b) ≡ b
not_not true = refl
not_not false = refl

le_opposite : (a b : List ℕ) → key_le a b ≡ not (key_lt b a)
le_opposite a b = sym (not_not (key_le a b)) ∙ ap not (sym (lt_opposite b a))

-- sorted keys part at each test of the order

sorted_le : (xs : List (List ℕ)) → IsSorted (slice_cmp nat_cmp) xs → (i j : ℕ) (d : List ℕ) → i ≤ j → j < length xs → key_le (get_or xs i d) (get_or xs j d) ≡ true
sorted_le xs h i j d l m = not_lt (get_or xs j d) (get_or xs i d) (sorted_far (λ x y. key_lt x y) (ranks_by nat_list_cmp_total (λ (x : List ℕ). x)) xs h i j d l m)

pub parts_up_to : (xs : List (List ℕ)) (k : List ℕ) → IsSorted (slice_cmp nat_cmp) xs → IsPartitionedBy (λ x. key_le x k) xs
parts_up_to xs k h i j d l m o = le_trans (get_or xs i d) (get_or xs j d) k (sorted_le xs h i j d l m) o

pub parts_before : (xs : List (List ℕ)) (k : List ℕ) → IsSorted (slice_cmp nat_cmp) xs → IsPartitionedBy (λ x. key_lt x k) xs
parts_before xs k h i j d l m o = le_lt_trans (get_or xs i d) (get_or xs j d) k (sorted_le xs h i j d l m) o

first : (a b : Bool) → (a && b) ≡ true → a ≡ true
first true b h = refl
first false b h = h

second : (a b : Bool) → (a && b) ≡ true → b ≡ true
second true b h = h
second false b h = absurd cc

one_key : (p : List ℕ → Bool) (k : List ℕ) → count_by p (k ∷ []) ≡ cond (p k) 1 0
one_key p k = count_cons p k [] ∙ (let n : ℕ = cond (p k) 1 0 in omega arith)

-- the views that start at a key or before it
abbrev started : List ℕ → View → Bool
started k v = is_past (effective_range v).start k

-- the views that end before a key
abbrev ended : List ℕ → View → Bool
ended k v = not (is_up_to (effective_range v).end k)

start_counts : (k : List ℕ) (v : View) → Begins (effective_range v) → count_by (λ s. key_le s k) (included_in (effective_range v).start) ≡ cond (started k v) 1 0
unfolding is_past
start_counts k v b = ap (λ s. count_by (λ x. key_le x k) (included_in s)) b.start ∙ one_key (λ x. key_le x k) b.key ∙ ap (λ s. cond (is_past s k) 1 0) (sym b.start)

starts_count : (k : List ℕ) (views : List View) → all_show views ≡ true → count_by (λ s. key_le s k) (start_keys views) ≡ count_by (started k) views
unfolding all_show
starts_count k [] h = refl
starts_count k (v ∷ views) h =
    count_append (λ s. key_le s k) (included_in (effective_range v).start) (start_keys views) ∙ ap (λ n. n + count_by (λ s. key_le s k) (start_keys views)) (start_counts k v (begins v (first (shows_key v) (all_show views) h))) ∙ ap (λ n. cond (started k v) 1 0 + n) (starts_count k views (second (shows_key v) (all_show views) h)) ∙ sym (count_cons (started k) v views)

end_counts : (k : List ℕ) (e : Bound (List ℕ)) → count_by (λ x. key_lt x k) (included_in e) + count_by (λ x. key_le x k) (excluded_in e) ≡ cond (not (is_up_to e k)) 1 0
unfolding is_up_to
end_counts k (Included x) = ap (λ n. n + 0) (one_key (λ y. key_lt y k) x) ∙ ap (λ b. cond b 1 0 + 0) (lt_opposite x k) ∙ (let n : ℕ = cond (not (key_le k x)) 1 0 in omega arith)
end_counts k (Excluded x) = ap (λ n. 0 + n) (one_key (λ y. key_le y k) x) ∙ ap (λ b. 0 + cond b 1 0) (le_opposite x k) ∙ (let n : ℕ = cond (not (key_lt k x)) 1 0 in omega arith)
end_counts k Unbounded = refl

exchange : (a b c d : ℕ) → (a + b) + (c + d) ≡ (a + c) + (b + d)
exchange a b c d = omega arith

ends_count : (k : List ℕ) (views : List View) → closed_at (end_keys views) (limit_keys views) k ≡ count_by (ended k) views
ends_count k [] = refl
ends_count k (v ∷ views) =
    let e = (effective_range v).end in
    let lt = λ (x : List ℕ). key_lt x k in
    let le = λ (x : List ℕ). key_le x k in
    ap (λ n. n + count_by le (limit_keys (v ∷ views))) (count_append lt (included_in e) (end_keys views)) ∙ ap (λ n. (count_by lt (included_in e) + count_by lt (end_keys views)) + n) (count_append le (excluded_in e) (limit_keys views)) ∙ exchange (count_by lt (included_in e)) (count_by lt (end_keys views)) (count_by le (excluded_in e)) (count_by le (limit_keys views)) ∙ ap (λ n. n + closed_at (end_keys views) (limit_keys views) k) (end_counts k e) ∙ ap (λ n. cond (ended k v) 1 0 + n) (ends_count k views) ∙ sym (count_cons (ended k) v views)

-- a view that has ended before a key has started at it or before
ended_started : (e : Bound (List ℕ)) (a k : List ℕ) → is_up_to e a ≡ true → is_up_to e k ≡ false → key_le a k ≡ true
unfolding is_up_to
ended_started (Included x) a k u n = le_trans a x k u (lt_le x k (not_le k x n))
ended_started (Excluded x) a k u n = le_trans a x k (lt_le a x u) (not_lt k x n)
ended_started Unbounded a k u n = absurd cc

-- of each view: it shows the key or has ended before it where it has started
one_view : (k : List ℕ) (v : View) → Begins (effective_range v) → cond (has_key (effective_range v) k) 1 0 + cond (ended k v) 1 0 ≡ cond (started k v) 1 0
unfolding is_past
one_view k v b = by (is_up_to (effective_range v).end k) refl (started k v) refl
  where
    by : (u : Bool) → is_up_to (effective_range v).end k ≡ u → (s : Bool) → started k v ≡ s → cond (s && u) 1 0 + cond (not u) 1 0 ≡ cond s 1 0
    by true e true o = refl
    by true e false o = refl
    by false e true o = refl
    by false e false o = let w : false ≡ true = sym o ∙ ap (λ s. is_past s k) b.start ∙ ended_started (effective_range v).end b.key k b.has e in absurd cc

shown_and_ended : (k : List ℕ) (views : List View) → all_show views ≡ true → showing k views + count_by (ended k) views ≡ count_by (started k) views
unfolding all_show
shown_and_ended k [] h = refl
shown_and_ended k (v ∷ views) h =
    let has = λ (w : View). has_key (effective_range w) k in
    ap (λ n. n + count_by (ended k) (v ∷ views)) (count_cons has v views) ∙ ap (λ n. (cond (has v) 1 0 + count_by has views) + n) (count_cons (ended k) v views) ∙ exchange (cond (has v) 1 0) (count_by has views) (cond (ended k v) 1 0) (count_by (ended k) views) ∙ ap (λ n. n + (count_by has views + count_by (ended k) views)) (one_view k v (begins v (first (shows_key v) (all_show views) h))) ∙ ap (λ n. cond (started k v) 1 0 + n) (shown_and_ended k views (second (shows_key v) (all_show views) h)) ∙ sym (count_cons (started k) v views)

-- starts, ends and limits of views in some order
pub record AreEdges (views : List View) (starts ends limits : List (List ℕ)) : Type 0 where
  pub start_order : IsPermutation (start_keys views) starts
  pub end_order : IsPermutation (end_keys views) ends
  pub limit_order : IsPermutation (limit_keys views) limits

-- how many show a key, and how many have ended before it, are those that have started
shown_by_edges : (views : List View) (starts ends limits : List (List ℕ)) → all_show views ≡ true → AreEdges views starts ends limits → (k : List ℕ) → showing k views + closed_at ends limits k ≡ count_by (λ s. key_le s k) starts
shown_by_edges views starts ends limits h e k =
    let lt = λ (x : List ℕ). key_lt x k in
    let le = λ (x : List ℕ). key_le x k in
    ap (λ n. showing k views + (n + count_by le limits)) (count_permuted lt (end_keys views) ends e.end_order) ∙ ap (λ n. showing k views + (count_by lt (end_keys views) + n)) (count_permuted le (limit_keys views) limits e.limit_order) ∙ ap (λ n. showing k views + n) (ends_count k views) ∙ shown_and_ended k views h ∙ sym (starts_count k views h) ∙ sym (count_permuted le (start_keys views) starts e.start_order)

-- a later key is past more ends
closed_later : (ends limits : List (List ℕ)) (a b : List ℕ) → key_le a b ≡ true → closed_at ends limits a ≤ closed_at ends limits b
closed_later ends limits a b h =
    let one = count_weaker (λ x. key_lt x a) (λ x. key_lt x b) (λ x l. lt_le_trans x a b l h) ends in
    let two = count_weaker (λ x. key_le x a) (λ x. key_le x b) (λ x l. le_trans x a b l h) limits in
    omega arith

test_lt : (i n : ℕ) → i < n → nat_lt i n ≡ true
test_lt i n l = grind (arith, nat_tests)

lt_test : (i n : ℕ) → nat_lt i n ≡ true → i < n
lt_test i n l = grind (arith, nat_tests)

module _ (views : List View) (starts ends limits : List (List ℕ)) (n : ℕ) (shown : all_show views ≡ true) (edges : AreEdges views starts ends limits) (sorted : IsSorted (slice_cmp nat_cmp) starts) (most : IsMostOpen starts ends limits n) where
  abbrev total : List ℕ → ℕ
  total k = count_by (λ s. key_le s k) starts

  -- no key is shown by more
  no_more : (k : List ℕ) (m : ℕ) → total k ≡ m → showing k views ≤ n
  no_more k zero e = let law = shown_by_edges views starts ends limits shown edges k in omega arith
  no_more k (suc m) e =
      let law = shown_by_edges views starts ends limits shown edges k in
      let within : m < length starts = omega (arith, count_by-le-length (λ s. key_le s k) starts) in
      let last = get_or starts m [] in
      let before : key_le last k ≡ true = parted_at (λ s. key_le s k) starts (parts_up_to starts k sorted) m [] within ∙ ap (nat_lt m) e ∙ test_lt m (suc m) (omega arith) in
      let fewer = closed_later ends limits last k before in
      let most_here = most.greatest m [] within in
      omega arith

  -- the key of a start is shown by as many as are open there
  as_many : (i : ℕ) → i < length starts → open_at starts ends limits i [] ≤ showing (get_or starts i []) views
  as_many i l =
      let k = get_or starts i [] in
      let law = shown_by_edges views starts ends limits shown edges k in
      let here : nat_lt i (total k) ≡ true = sym (parted_at (λ s. key_le s k) starts (parts_up_to starts k sorted) i [] l) ∙ le_refl k in
      let more : i < total k = lt_test i (total k) here in
      omega arith

  by_most : (n ≡ 0) ⊎ ((i : ℕ) × (i < length starts) × ((d : List ℕ) → n ≡ open_at starts ends limits i d)) → IsGreatestOverlap views n
  by_most (inl e) = record { key = []; reached = (let most_here = no_more [] (total []) refl in omega arith); greatest = λ k. no_more k (total k) refl }
  by_most (inr w) = record { key = get_or starts w.0 []; reached = (let most_here = no_more (get_or starts w.0 []) (total (get_or starts w.0 [])) refl in let many = as_many w.0 w.1 in let e = w.2 [] in omega arith); greatest = λ k. no_more k (total k) refl }

  pub is_greatest : IsGreatestOverlap views n
  is_greatest = by_most most.reached
