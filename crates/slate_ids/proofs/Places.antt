-- Starts, keys and ends as places in one order: a start stands at its key or just after it, an end at its key or just before it.
use Rattle.std.specs.Prelude.{ℕ, Bool, true, false, ◌&&◌, List, [], if◌then◌else◌}
use Rattle.std.proofs.Common.{◌≡◌, refl, sym, ap, ◌∙◌}
use Rattle.std.specs.Cmp.{IsTotalOrder}
use Rattle.std.specs.Cmp.Lexicographic.{slice_cmp}
use Rattle.std.specs.Ordering.{nat_cmp, on, then_cmp, ordering_then, ordering_reverse, is_lt, is_le, is_gt}
use Rattle.std.specs.declared.cmp.Ordering.{Ordering}
use Rattle.std.specs.declared.cmp.Ordering.TheVariants.{Less, Equal, Greater}
use Rattle.std.specs.declared.ops.Bound.{Bound}
use Rattle.std.specs.declared.ops.Bound.TheVariants.{Included, Excluded, Unbounded}
use Rattle.std.proofs.lemmas.Cmp.{nat_cmp_total, nat_list_cmp_total, on_total, then_total, upto}
use Rattle.slate_ids.specs.Keys.{is_past, is_up_to, is_ordered, starts_before, ends_before, later, earlier}

-- 0 before all keys, 1 among them and 2 past them; the key; 0 just before the key, 1 at it and 2 just after it
pub record Place : Type 0 where
  pub rank : ℕ
  pub key : List ℕ
  pub side : ℕ

abbrev pub place_cmp : Place → Place → Ordering
place_cmp = then_cmp (on (λ (p : Place). p.rank) nat_cmp) (then_cmp (on (λ (p : Place). p.key) (slice_cmp nat_cmp)) (on (λ (p : Place). p.side) nat_cmp))

place_total : IsTotalOrder place_cmp
place_total = then_total (on_total (λ (p : Place). p.rank) nat_cmp_total) (then_total (on_total (λ (p : Place). p.key) nat_list_cmp_total) (on_total (λ (p : Place). p.side) nat_cmp_total))

unfoldable pub place_le : Place → Place → Bool
place_le p q = is_le (place_cmp p q)

unfoldable pub place_lt : Place → Place → Bool
place_lt p q = is_lt (place_cmp p q)

abbrev pub place_of_key : List ℕ → Place
place_of_key k = record { rank = 1; key = k; side = 1 }

abbrev pub place_of_start : Bound (List ℕ) → Place
place_of_start (Included k) = record { rank = 1; key = k; side = 1 }
place_of_start (Excluded k) = record { rank = 1; key = k; side = 2 }
place_of_start Unbounded = record { rank = 0; key = []; side = 1 }

abbrev pub place_of_end : Bound (List ℕ) → Place
place_of_end (Included k) = record { rank = 1; key = k; side = 1 }
place_of_end (Excluded k) = record { rank = 1; key = k; side = 0 }
place_of_end Unbounded = record { rank = 2; key = []; side = 1 }

-- the order, by its tests

le_true : (o : Ordering) → is_le o ≡ true → is_gt o ≡ false
le_true Less h = refl
le_true Equal h = refl
le_true Greater h = sym h

le_back : (o : Ordering) → is_gt o ≡ false → is_le o ≡ true
le_back Less h = refl
le_back Equal h = refl
le_back Greater h = sym h

lt_is_le : (o : Ordering) → is_lt o ≡ true → is_le o ≡ true
lt_is_le Less h = refl
lt_is_le Equal h = refl
lt_is_le Greater h = h

not_lt_back : (o r : Ordering) → r ≡ ordering_reverse o → is_lt o ≡ false → is_le r ≡ true
not_lt_back Less r e h = absurd cc
not_lt_back Equal r e h = ap is_le e
not_lt_back Greater r e h = ap is_le e

pub place_le-trans : (p q r : Place) → place_le p q ≡ true → place_le q r ≡ true → place_le p r ≡ true
unfolding place_le
place_le-trans p q r h k = le_back (place_cmp p r) (upto place_total p q r (le_true (place_cmp p q) h) (le_true (place_cmp q r) k))

place_lt-le : (p q : Place) → place_lt p q ≡ true → place_le p q ≡ true
unfolding place_lt place_le
place_lt-le p q h = lt_is_le (place_cmp p q) h

place_le-back : (p q : Place) → place_lt p q ≡ false → place_le q p ≡ true
unfolding place_lt place_le
place_le-back p q h = not_lt_back (place_cmp p q) (place_cmp q p) (place_total.antisymm q p) h

and-false : (b : Bool) → (b && false) ≡ false
and-false true = refl
and-false false = refl

-- of two tests, of which the second brings the first
both_second : (a b : Bool) → (b ≡ true → a ≡ true) → b ≡ (a && b)
both_second a true h = ap (λ t. t && true) (sym (h refl))
both_second a false h = sym (and-false a)

both_first : (a b : Bool) → (a ≡ true → b ≡ true) → a ≡ (a && b)
both_first true b h = sym (h refl)
both_first false b h = refl

-- the later of two places is at most a third where both are
later_le : (p q x : Place) (c : Bool) → place_lt p q ≡ c → place_le (if c then q else p) x ≡ (place_le p x && place_le q x)
later_le p q x true e = both_second (place_le p x) (place_le q x) (λ h. place_le-trans p q x (place_lt-le p q e) h)
later_le p q x false e = both_first (place_le p x) (place_le q x) (λ h. place_le-trans q p x (place_le-back p q e) h)

-- a third is at most the earlier of two places where it is at most both
earlier_le : (p q x : Place) (c : Bool) → place_lt q p ≡ c → place_le x (if c then q else p) ≡ (place_le x p && place_le x q)
earlier_le p q x true e = both_second (place_le x p) (place_le x q) (λ h. place_le-trans x q p h (place_lt-le q p e))
earlier_le p q x false e = both_first (place_le x p) (place_le x q) (λ h. place_le-trans x p q h (place_le-back q p e))

-- an order, and then the order of sides

le_same : (o : Ordering) → is_le o ≡ is_le (ordering_then o Equal)
le_same Less = refl
le_same Equal = refl
le_same Greater = refl

le_more : (o : Ordering) → is_lt o ≡ is_le (ordering_then o Greater)
le_more Less = refl
le_more Equal = refl
le_more Greater = refl

lt_same : (o : Ordering) → is_lt o ≡ is_lt (ordering_then o Equal)
lt_same Less = refl
lt_same Equal = refl
lt_same Greater = refl

lt_less : (o : Ordering) → is_le o ≡ is_lt (ordering_then o Less)
lt_less Less = refl
lt_less Equal = refl
lt_less Greater = refl

lt_more : (o : Ordering) → is_lt o ≡ is_lt (ordering_then o Greater)
lt_more Less = refl
lt_more Equal = refl
lt_more Greater = refl

-- the tests of bounds are those of places

pub is_past-place : (s : Bound (List ℕ)) (k : List ℕ) → is_past s k ≡ place_le (place_of_start s) (place_of_key k)
unfolding is_past place_le
is_past-place (Included a) k = le_same (slice_cmp nat_cmp a k)
is_past-place (Excluded a) k = le_more (slice_cmp nat_cmp a k)
is_past-place Unbounded k = refl

pub is_up_to-place : (e : Bound (List ℕ)) (k : List ℕ) → is_up_to e k ≡ place_le (place_of_key k) (place_of_end e)
unfolding is_up_to place_le
is_up_to-place (Included a) k = le_same (slice_cmp nat_cmp k a)
is_up_to-place (Excluded a) k = le_more (slice_cmp nat_cmp k a)
is_up_to-place Unbounded k = refl

pub is_ordered-place : (s e : Bound (List ℕ)) → is_ordered s e ≡ place_le (place_of_start s) (place_of_end e)
unfolding is_ordered place_le
is_ordered-place (Included a) (Included b) = le_same (slice_cmp nat_cmp a b)
is_ordered-place (Included a) (Excluded b) = le_more (slice_cmp nat_cmp a b)
is_ordered-place (Included a) Unbounded = refl
is_ordered-place (Excluded a) (Included b) = le_more (slice_cmp nat_cmp a b)
is_ordered-place (Excluded a) (Excluded b) = le_more (slice_cmp nat_cmp a b)
is_ordered-place (Excluded a) Unbounded = refl
is_ordered-place Unbounded (Included b) = refl
is_ordered-place Unbounded (Excluded b) = refl
is_ordered-place Unbounded Unbounded = refl

starts_before-place : (a b : Bound (List ℕ)) → starts_before a b ≡ place_lt (place_of_start a) (place_of_start b)
unfolding starts_before place_lt
starts_before-place (Included a) (Included b) = lt_same (slice_cmp nat_cmp a b)
starts_before-place (Included a) (Excluded b) = lt_less (slice_cmp nat_cmp a b)
starts_before-place (Included a) Unbounded = refl
starts_before-place (Excluded a) (Included b) = lt_more (slice_cmp nat_cmp a b)
starts_before-place (Excluded a) (Excluded b) = lt_same (slice_cmp nat_cmp a b)
starts_before-place (Excluded a) Unbounded = refl
starts_before-place Unbounded (Included b) = refl
starts_before-place Unbounded (Excluded b) = refl
starts_before-place Unbounded Unbounded = refl

ends_before-place : (a b : Bound (List ℕ)) → ends_before a b ≡ place_lt (place_of_end a) (place_of_end b)
unfolding ends_before place_lt
ends_before-place (Included a) (Included b) = lt_same (slice_cmp nat_cmp a b)
ends_before-place (Included a) (Excluded b) = lt_more (slice_cmp nat_cmp a b)
ends_before-place (Included a) Unbounded = refl
ends_before-place (Excluded a) (Included b) = lt_less (slice_cmp nat_cmp a b)
ends_before-place (Excluded a) (Excluded b) = lt_same (slice_cmp nat_cmp a b)
ends_before-place (Excluded a) Unbounded = refl
ends_before-place Unbounded (Included b) = refl
ends_before-place Unbounded (Excluded b) = refl
ends_before-place Unbounded Unbounded = refl

start_of_choice : (c : Bool) (a b : Bound (List ℕ)) → place_of_start (if c then b else a) ≡ (if c then place_of_start b else place_of_start a)
start_of_choice true a b = refl
start_of_choice false a b = refl

end_of_choice : (c : Bool) (a b : Bound (List ℕ)) → place_of_end (if c then b else a) ≡ (if c then place_of_end b else place_of_end a)
end_of_choice true a b = refl
end_of_choice false a b = refl

pub later-le : (a b : Bound (List ℕ)) (x : Place) → place_le (place_of_start (later a b)) x ≡ (place_le (place_of_start a) x && place_le (place_of_start b) x)
later-le a b x = ap (λ p. place_le p x) (start_of_choice (starts_before a b) a b) ∙ later_le (place_of_start a) (place_of_start b) x (starts_before a b) (sym (starts_before-place a b))

pub earlier-le : (a b : Bound (List ℕ)) (x : Place) → place_le x (place_of_end (earlier a b)) ≡ (place_le x (place_of_end a) && place_le x (place_of_end b))
earlier-le a b x = ap (λ p. place_le x p) (end_of_choice (ends_before b a) a b) ∙ earlier_le (place_of_end a) (place_of_end b) x (ends_before b a) (sym (ends_before-place b a))
