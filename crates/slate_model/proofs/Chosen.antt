-- The segments that a range meets stand together: after those that are over before it starts, up to the last that starts by its end.
use Rattle.std.specs.Prelude.{ℕ, zero, suc, ◌+◌, ◌-◌, ◌<◌, ◌≤◌, ◌^◌, Option, Some, None, Bool, true, false, ◌&&◌, ◌||◌, not, List, [], ◌∷◌, length, get_or, drop, take, filter, slice_range, All, if◌then◌else◌}
use Rattle.std.specs.List.{list_any, prefix_len}
use Rattle.std.specs.List.Sorted.{IsPartitionedBy, IsPartitionPoint}
use Rattle.std.specs.declared.ops.Bound.{Bound}
use Rattle.std.specs.declared.ops.Bound.TheVariants.{Included, Excluded, Unbounded}
use Rattle.std.proofs.Common.{◌≡◌, refl, sym, ◌∙◌, ap, arith}
use Rattle.std.proofs.lemmas.Bool.{and_parts, or_parts, true_from_ne_false, false_from_ne_true}
use Rattle.std.proofs.lemmas.List.Sums.{prefix_len_is}
use Rattle.std.proofs.lemmas.List.Elements.{filter_agree}
use Rattle.slate_ids.specs.Keys.{key_lt, key_le, is_ordered, is_up_to, is_past, begins_with, successor, end_before}
use Rattle.slate_ids.proofs.KeyOrder.{chained, lt_le, le_trans, le_is}
use Rattle.slate_ids.specs.KeyRange.{KeyRange, has_key, is_proper, ranges_meet, prefix_range}
use Rattle.slate_model.specs.Segments.{Prefixed, ascend_from}
use Rattle.slate_model.specs.Selection.{none_begins, are_apart, meets}
use Rattle.slate_model.specs.SegmentReach.{starts_by, stands_before, is_over, StartsWithBytes}
use Rattle.slate_model.proofs.Ascending.{clash, one_more}
use Rattle.slate_model.proofs.Placing.{from_below}
use Rattle.slate_model.proofs.Apart.{between}

-- a test that fails at a segment fails at all whose prefixes stand above and don't begin with its prefix
abbrev pub Falls : (Prefixed → Bool) → Type 0
Falls test = (s t : Prefixed) → key_lt s.prefix t.prefix ≡ true → begins_with s.prefix t.prefix ≡ false → test s ≡ false → test t ≡ false

not_false : (b : Bool) → not b ≡ true → b ≡ false
not_false true h = absurd cc
not_false false h = refl

falls_after : (test : Prefixed → Bool) → Falls test → (s : Prefixed) (ts : List Prefixed) → ascend_from s.prefix ts ≡ true → none_begins s.prefix ts ≡ true → test s ≡ false → list_any test ts ≡ false
falls_after test falls s [] a n h = refl
falls_after test falls s (t ∷ ts) a n h =
    let up = and_parts (key_lt s.prefix t.prefix) (ascend_from t.prefix ts) a in
    let apart = and_parts (not (begins_with s.prefix t.prefix)) (none_begins s.prefix ts) n in
    rw (falls s t up.0 (not_false (begins_with s.prefix t.prefix) apart.0) h) (falls_after test falls s ts (from_below s.prefix t.prefix ts up.0 up.1) apart.1 h)

-- a test that falls once stays so
abbrev pub StaysFallen : (Prefixed → Bool) → List Prefixed → Type 0
StaysFallen test [] = Unit {0}
StaysFallen test (s ∷ ss) = (test s ≡ false → list_any test ss ≡ false) × StaysFallen test ss

pub stays_fallen : (test : Prefixed → Bool) → Falls test → (last : List ℕ) (ss : List Prefixed) → ascend_from last ss ≡ true → are_apart ss ≡ true → StaysFallen test ss
stays_fallen test falls last [] a p = tt
stays_fallen test falls last (s ∷ ss) a p =
    let up = and_parts (key_lt last s.prefix) (ascend_from s.prefix ss) a in
    let apart = and_parts (none_begins s.prefix ss) (are_apart ss) p in
    (λ h. falls_after test falls s ss up.1 apart.0 h, stays_fallen test falls s.prefix ss up.1 apart.1)

fails_at : (test : Prefixed → Bool) (ss : List Prefixed) → list_any test ss ≡ false → (j : ℕ) (d : Prefixed) → j < length ss → test (get_or ss j d) ≡ false
fails_at test [] h j d l = absurd (omega arith)
fails_at test (s ∷ ss) h zero d l = (or_parts (test s) (list_any test ss) h).0
fails_at test (s ∷ ss) h (suc j) d l = fails_at test ss (or_parts (test s) (list_any test ss) h).1 j d (omega arith)

pub partitioned : (test : Prefixed → Bool) (ss : List Prefixed) → StaysFallen test ss → IsPartitionedBy test ss
partitioned test [] f i j d o l h = absurd (omega arith)
partitioned test (s ∷ ss) f zero zero d o l h = h
partitioned test (s ∷ ss) f zero (suc j) d o l h = true_from_ne_false (test s) (λ n. clash (test (get_or ss j d)) h (fails_at test ss (f.0 n) j d (omega arith)))
partitioned test (s ∷ ss) f (suc i) zero d o l h = absurd (omega arith)
partitioned test (s ∷ ss) f (suc i) (suc j) d o l h = partitioned test ss f.1 i j d (omega arith) (omega arith) h

pub point_is : (test : Prefixed → Bool) (ss : List Prefixed) (d : Prefixed) (i : ℕ) → i ≤ length ss → IsPartitionPoint (λ s. test s ≡ true) (λ s. test s ≡ false) ss i → i ≡ prefix_len test ss
point_is test ss d i h point = sym (prefix_len_is test ss i d h (λ k l. point.0 k d (omega arith) l) (λ l. point.1 i d (omega arith) l))

none_pass : (test other : Prefixed → Bool) (ss : List Prefixed) → list_any test ss ≡ false → filter (λ s. not (other s) && test s) ss ≡ []
none_pass test other [] h = refl
none_pass test other (s ∷ ss) h =
    let parts = or_parts (test s) (list_any test ss) h in
    rw (parts.0, never (not (other s))) (none_pass test other ss parts.1)
  where
    never : (b : Bool) → (b && false) ≡ false
    never true = refl
    never false = refl

none_first : (test : Prefixed → Bool) (ss : List Prefixed) → list_any test ss ≡ false → prefix_len test ss ≡ 0
none_first test [] h = refl
none_first test (s ∷ ss) h = rw (or_parts (test s) (list_any test ss) h).0 refl

both_longer : (s : Prefixed) (ss : List Prefixed) (m n : ℕ) → slice_range ss m n ≡ slice_range (s ∷ ss) (1 + m) (1 + n)
both_longer s ss m n =
    let less : (1 + n) - (1 + m) ≡ n - m = omega arith in
    let later : drop (suc m) (s ∷ ss) ≡ drop (1 + m) (s ∷ ss) = ap (λ i. drop i (s ∷ ss)) (one_more m) in
    rw (less, ← later) refl

less_none : (a : ℕ) → a - 0 ≡ a
less_none a = omega arith

take_none : (xs : List Prefixed) → take 0 xs ≡ []
take_none xs = refl

nothing : (xs : List Prefixed) (from to : ℕ) → to ≤ from → slice_range xs from to ≡ []
nothing xs from to l = let e : to - from ≡ 0 = omega arith in rw e (take_none (drop from xs))

-- what passes one test and not the other, of two that fall, stands together
pub together : (over starts : Prefixed → Bool) (ss : List Prefixed) → StaysFallen over ss → StaysFallen starts ss → filter (λ s. not (over s) && starts s) ss ≡ slice_range ss (prefix_len over ss) (prefix_len starts ss)
together over starts [] o f = refl
together over starts (s ∷ ss) o f = by (together over starts ss o.1 f.1) (over s) (starts s) refl refl
  where
    by : filter (λ t. not (over t) && starts t) ss ≡ slice_range ss (prefix_len over ss) (prefix_len starts ss) → (a b : Bool) → over s ≡ a → starts s ≡ b → (if not a && b then s ∷ filter (λ t. not (over t) && starts t) ss else filter (λ t. not (over t) && starts t) ss) ≡ slice_range (s ∷ ss) (if a then 1 + prefix_len over ss else 0) (if b then 1 + prefix_len starts ss else 0)
    by more true true e h = more ∙ both_longer s ss (prefix_len over ss) (prefix_len starts ss)
    by more true false e h = none_pass starts over ss (f.0 h) ∙ sym (nothing (s ∷ ss) (1 + prefix_len over ss) 0 (omega arith))
    by more false true e h =
        let first : slice_range ss (prefix_len over ss) (prefix_len starts ss) ≡ take (prefix_len starts ss) ss = rw (none_first over ss (o.0 e), less_none (prefix_len starts ss)) refl in
        let all : take (suc (prefix_len starts ss)) (s ∷ ss) ≡ slice_range (s ∷ ss) 0 (1 + prefix_len starts ss) = rw (less_none (1 + prefix_len starts ss), ← one_more (prefix_len starts ss)) refl in
        ap (λ (l : List Prefixed). s ∷ l) (more ∙ first) ∙ all
    by more false false e h = none_pass starts over ss (f.0 h)

pub starts_falls : (end : Bound (List ℕ)) → Falls (starts_by end)
unfolding is_ordered
starts_falls (Included e) s t l n h = false_from_ne_true (key_le t.prefix e) (λ k. clash (key_le s.prefix e) (le_trans s.prefix t.prefix e (lt_le s.prefix t.prefix l) k) h)
starts_falls (Excluded e) s t l n h = false_from_ne_true (key_lt t.prefix e) (λ k. clash (key_lt s.prefix e) (chained s.prefix t.prefix e l k) h)
starts_falls Unbounded s t l n h = absurd (clash true refl h)

one_of : (a b : Bool) (P : Type 0) → not (a || b) ≡ false → (a ≡ true → P) → (b ≡ true → P) → P
one_of true b P h f g = f refl
one_of false true P h f g = g refl
one_of false false P h f g = absurd cc

stands_falls : (key : List ℕ) → Falls (stands_before key)
stands_falls key s t l n h =
    let above : key_lt key t.prefix ≡ true = one_of (key_lt key s.prefix) (begins_with s.prefix key) (key_lt key t.prefix ≡ true) h (λ k. chained key s.prefix t.prefix k l) (λ b. between s.prefix t.prefix key l n b) in
    rw above refl

pub over_falls : (start : Bound (List ℕ)) → Falls (is_over start)
over_falls (Included key) s t l n h = stands_falls key s t l n h
over_falls (Excluded key) s t l n h = stands_falls key s t l n h
over_falls Unbounded s t l n h = refl

-- what ranges are, by their laws
pub record Laws : Type 0 where
  pub meet : (a b : KeyRange) → ranges_meet a b ≡ (is_proper a && is_proper b && is_ordered a.start b.end && is_ordered b.start a.end)
  pub prefix : (prefix key : List ℕ) → All (λ b. b < 2 ^ 8) key → has_key (prefix_range prefix) key ≡ begins_with prefix key
  pub proper : (prefix : List ℕ) → is_proper (prefix_range prefix) ≡ true

-- whether a key stands below the end of a prefix's range
abbrev below_end : List ℕ → List ℕ → Bool
below_end prefix key = is_up_to (end_before (successor prefix)) key

end_up_to : (e : Option (List ℕ)) (key : List ℕ) → is_ordered (Included key) (end_before e) ≡ is_up_to (end_before e) key
unfolding is_ordered is_up_to
end_up_to (Some e) key = refl
end_up_to None key = refl

end_after : (e : Option (List ℕ)) (key : List ℕ) → is_ordered (Excluded key) (end_before e) ≡ is_up_to (end_before e) key
unfolding is_ordered is_up_to
end_after (Some e) key = refl
end_after None key = refl

further_down : (e : Option (List ℕ)) (key prefix : List ℕ) → key_lt key prefix ≡ true → is_up_to (end_before e) prefix ≡ true → is_up_to (end_before e) key ≡ true
unfolding is_up_to
further_down (Some e) key prefix l h = chained key prefix e l h
further_down None key prefix l h = refl

in_range : (prefix key : List ℕ) → has_key (prefix_range prefix) key ≡ (key_le prefix key && below_end prefix key)
unfolding is_past
in_range prefix key = refl

-- a key stands below the end of a prefix's range where it stands below the prefix or begins with it
below_end_is : Laws → (prefix key : List ℕ) → All (λ b. b < 2 ^ 8) key → below_end prefix key ≡ (key_lt key prefix || begins_with prefix key)
below_end_is laws prefix key bytes = by (key_lt key prefix) refl
  where
    by : (b : Bool) → key_lt key prefix ≡ b → below_end prefix key ≡ (b || begins_with prefix key)
    by true e = further_down (successor prefix) key prefix e (sym (end_up_to (successor prefix) prefix) ∙ laws.proper prefix)
    by false e = sym (ap (λ b. b && below_end prefix key) (le_is prefix key ∙ ap not e)) ∙ sym (in_range prefix key) ∙ laws.prefix prefix key bytes

twice_not : (b : Bool) → b ≡ not (not b)
twice_not true = refl
twice_not false = refl

-- a range starts before the end of a segment's keys where they aren't over before it starts
reaches_is : Laws → (start : Bound (List ℕ)) (s : Prefixed) → StartsWithBytes start → is_ordered start (prefix_range s.prefix).end ≡ not (is_over start s)
unfolding is_ordered
reaches_is laws (Included key) s bytes = end_up_to (successor s.prefix) key ∙ below_end_is laws s.prefix key bytes ∙ twice_not (key_lt key s.prefix || begins_with s.prefix key)
reaches_is laws (Excluded key) s bytes = end_after (successor s.prefix) key ∙ below_end_is laws s.prefix key bytes ∙ twice_not (key_lt key s.prefix || begins_with s.prefix key)
reaches_is laws Unbounded s bytes = refl

swapped : (a b c d : Bool) → a ≡ true → b ≡ true → (a && b && c && d) ≡ (d && c)
swapped true true true true h k = refl
swapped true true true false h k = refl
swapped true true false true h k = refl
swapped true true false false h k = refl
swapped true false c d h k = absurd cc
swapped false b c d h k = absurd cc

meets_is : Laws → (r : KeyRange) → is_proper r ≡ true → StartsWithBytes r.start → (s : Prefixed) → meets r s ≡ (not (is_over r.start s) && starts_by r.end s)
meets_is laws r p bytes s =
    laws.meet (prefix_range s.prefix) r ∙ swapped (is_proper (prefix_range s.prefix)) (is_proper r) (is_ordered (Included s.prefix) r.end) (is_ordered r.start (prefix_range s.prefix).end) (laws.proper s.prefix) p ∙ ap (λ b. b && starts_by r.end s) (reaches_is laws r.start s bytes)

-- the segments that a proper range meets stand from one place to another
pub chosen : Laws → (r : KeyRange) → is_proper r ≡ true → StartsWithBytes r.start → (ss : List Prefixed) → ascend_from [] ss ≡ true → are_apart ss ≡ true → filter (meets r) ss ≡ slice_range ss (prefix_len (is_over r.start) ss) (prefix_len (starts_by r.end) ss)
chosen laws r p bytes ss a n =
    filter_agree (meets r) (λ s. not (is_over r.start s) && starts_by r.end s) (meets_is laws r p bytes) ss ∙ together (is_over r.start) (starts_by r.end) ss (stays_fallen (is_over r.start) (over_falls r.start) [] ss a n) (stays_fallen (starts_by r.end) (starts_falls r.end) [] ss a n)

none_met : (a b c d : Bool) → b ≡ false → (a && b && c && d) ≡ false
none_met true true c d h = absurd cc
none_met true false c d h = refl
none_met false b c d h = refl

-- none where it ends before it starts
pub chosen_none : Laws → (r : KeyRange) → is_proper r ≡ true → StartsWithBytes r.start → (ss : List Prefixed) → ascend_from [] ss ≡ true → are_apart ss ≡ true → prefix_len (starts_by r.end) ss ≤ prefix_len (is_over r.start) ss → filter (meets r) ss ≡ []
chosen_none laws r p bytes ss a n l = chosen laws r p bytes ss a n ∙ nothing ss (prefix_len (is_over r.start) ss) (prefix_len (starts_by r.end) ss) l

-- no segment meets a range that isn't proper
pub improper_none : Laws → (r : KeyRange) → is_proper r ≡ false → (ss : List Prefixed) → filter (meets r) ss ≡ []
improper_none laws r p [] = refl
improper_none laws r p (s ∷ ss) =
    let misses : meets r s ≡ false = laws.meet (prefix_range s.prefix) r ∙ none_met (is_proper (prefix_range s.prefix)) (is_proper r) (is_ordered (Included s.prefix) r.end) (is_ordered r.start (prefix_range s.prefix).end) p in
    rw misses (improper_none laws r p ss)
