-- The range of a prefix has exactly the keys that begin with it; and how the successor of a prefix is made.
use Rattle.std.specs.Prelude.{ℕ, ◌+◌, ◌<◌, ◌^◌, Bool, true, false, ◌&&◌, ◌==◌, List, [], ◌∷◌, ◌++◌, Option, Some, None, if◌then◌else◌, All, length, get_or, take, drop}
use Rattle.std.specs.List.{list_all}
use Rattle.std.proofs.Common.{◌≡◌, refl, sym, ap, ◌∙◌, arith}
use Rattle.std.proofs.lemmas.Bool.Decides.{nat_tests}
use Rattle.std.specs.Ordering.{MatchOrdering, nat_cmp, ordering_then, is_lt, is_le}
use Rattle.std.specs.Cmp.Lexicographic.{slice_cmp}
use Rattle.std.specs.declared.cmp.Ordering.{Ordering}
use Rattle.std.specs.declared.cmp.Ordering.TheVariants.{Less, Equal, Greater}
use Rattle.std.specs.declared.ops.Bound.{Bound}
use Rattle.std.specs.declared.ops.Bound.TheVariants.{Included, Excluded, Unbounded}
use Rattle.std.proofs.lemmas.Cmp.{ranked}
use Rattle.std.proofs.lemmas.List.{take-append-drop, drop_more}
use Rattle.std.proofs.lemmas.List.Elements.{All-head, All-tail}
use Rattle.slate_ids.specs.Keys.{key_lt, key_le, is_up_to, is_past, is_ordered, begins_with, raised, successor, end_before}
use Rattle.slate_ids.specs.KeyRange.{has_key, prefix_range}

-- the keys below the end of a prefix
abbrev below_end : Option (List ℕ) → List ℕ → Bool
below_end s key = is_up_to (end_before s) key

from_first : (key : List ℕ) → key_le [] key ≡ true
from_first [] = refl
from_first (k ∷ key) = refl

less : (x y : ℕ) → x < y → nat_cmp x y ≡ Less
less x y h = grind (arith, nat_tests)

more : (x y : ℕ) → y < x → nat_cmp x y ≡ Greater
more x y h = grind (arith, nat_tests)

equal : (x : ℕ) → nat_cmp x x ≡ Equal
equal x = grind (arith, nat_tests)

not_same : (x y : ℕ) → x < y → (x == y) ≡ false
not_same x y h = grind (arith, nat_tests)

not_same_back : (x y : ℕ) → y < x → (x == y) ≡ false
not_same_back x y h = grind (arith, nat_tests)

same : (x : ℕ) → (x == x) ≡ true
same x = grind (arith, nat_tests)

-- no key is below one that ends here
not_below_nothing : (key : List ℕ) → key_lt key [] ≡ false
not_below_nothing [] = refl
not_below_nothing (k ∷ key) = refl

-- past the bytes that a prefix begins with, no key is below its end
past_end : (b x : ℕ) (s : Option (List ℕ)) (ks : List ℕ) → b < x → x < 256 → below_end (raised b s) (x ∷ ks) ≡ false
unfolding is_up_to
past_end b x (Some rest) ks h l = ap (λ o. is_lt (ordering_then o (slice_cmp nat_cmp ks rest))) (more x b h)
past_end b x None ks h l = last (b == 255) refl
  where
    beyond : (o : Ordering) → o ≡ nat_cmp x (b + 1) → is_lt (ordering_then o (slice_cmp nat_cmp ks [])) ≡ false
    beyond Less e = absurd (grind (arith, nat_tests))
    beyond Equal e = not_below_nothing ks
    beyond Greater e = refl

    last : (t : Bool) → (b == 255) ≡ t → below_end (if t then None else Some ((b + 1) ∷ [])) (x ∷ ks) ≡ false
    last true e = absurd (grind (arith, nat_tests))
    last false e = beyond (nat_cmp x (b + 1)) refl

-- at its first byte, a key is below the end of a prefix where the rest is below the end of the rest
at_first : (b : ℕ) (s : Option (List ℕ)) (ks : List ℕ) → below_end (raised b s) (b ∷ ks) ≡ below_end s ks
unfolding is_up_to
at_first b (Some rest) ks = ap (λ o. is_lt (ordering_then o (slice_cmp nat_cmp ks rest))) (equal b)
at_first b None ks = last (b == 255)
  where
    last : (t : Bool) → below_end (if t then None else Some ((b + 1) ∷ [])) (b ∷ ks) ≡ true
    last true = refl
    last false = ap (λ o. is_lt (ordering_then o (slice_cmp nat_cmp ks []))) (less b (b + 1) (omega arith))

abbrev In : List ℕ → List ℕ → Bool
In prefix key = key_le prefix key && below_end (successor prefix) key

in_prefix : (prefix key : List ℕ) → All (λ b. b < 2 ^ 8) key → In prefix key ≡ begins_with prefix key
unfolding successor begins_with is_up_to
in_prefix [] key l = ap (λ t. t && true) (from_first key)
in_prefix (b ∷ bs) [] l = refl
in_prefix (b ∷ bs) (x ∷ ks) l = by (nat_cmp b x) (in_prefix bs ks (All-tail (λ c. c < 2 ^ 8) x ks l)) refl (ranked b x (nat_cmp b x) refl)
  where
    by : (o : Ordering) → In bs ks ≡ begins_with bs ks → nat_cmp b x ≡ o → MatchOrdering o (b < x) (b ≡ x) (x < b) → (is_le (ordering_then (nat_cmp b x) (slice_cmp nat_cmp bs ks)) && below_end (raised b (successor bs)) (x ∷ ks)) ≡ ((b == x) && begins_with bs ks)
    by Less rec e h = ap (λ o. is_le (ordering_then o (slice_cmp nat_cmp bs ks)) && below_end (raised b (successor bs)) (x ∷ ks)) e ∙ past_end b x (successor bs) ks h (All-head (λ c. c < 2 ^ 8) x ks l) ∙ ap (λ t. t && begins_with bs ks) (sym (not_same b x h))
    by Equal rec e h = ap (λ o. is_le (ordering_then o (slice_cmp nat_cmp bs ks)) && below_end (raised b (successor bs)) (x ∷ ks)) e ∙ ap (λ y. key_le bs ks && below_end (raised b (successor bs)) (y ∷ ks)) (sym h) ∙ ap (λ t. key_le bs ks && t) (at_first b (successor bs) ks) ∙ rec ∙ ap (λ t. t && begins_with bs ks) (sym (same b)) ∙ ap (λ y. (b == y) && begins_with bs ks) h
    by Greater rec e h = ap (λ o. is_le (ordering_then o (slice_cmp nat_cmp bs ks)) && below_end (raised b (successor bs)) (x ∷ ks)) e ∙ ap (λ t. t && begins_with bs ks) (sym (not_same_back b x h))

-- the range of a prefix has exactly the keys that begin with it
pub prefix_keys : (prefix key : List ℕ) → All (λ b. b < 2 ^ 8) key → has_key (prefix_range prefix) key ≡ begins_with prefix key
unfolding is_past
prefix_keys prefix key l = in_prefix prefix key l

-- a prefix is below its successor
pub prefix_proper : (prefix : List ℕ) → is_up_to (end_before (successor prefix)) prefix ≡ true
unfolding successor is_up_to
prefix_proper [] = refl
prefix_proper (b ∷ bs) = at_first b (successor bs) bs ∙ prefix_proper bs

unequal : (b : ℕ) → (b == 255) ≡ false → raised b None ≡ Some ((b + 1) ∷ [])
unequal b e = ap (λ t. if t then None else Some ((b + 1) ∷ [])) e

equal_last : (b : ℕ) → (b == 255) ≡ true → raised b None ≡ None
equal_last b e = ap (λ t. if t then None else Some ((b + 1) ∷ [])) e

first_of_both : (a b : Bool) → (a && b) ≡ true → a ≡ true
first_of_both true b h = refl
first_of_both false b h = h

second_of_both : (a b : Bool) → (a && b) ≡ true → b ≡ true
second_of_both true b h = h
second_of_both false b h = absurd cc

-- bytes that are all 255 have no successor
pub successor_none : (bs : List ℕ) → list_all (λ b. b == 255) bs ≡ true → successor bs ≡ None
unfolding successor
successor_none [] h = refl
successor_none (b ∷ bs) h = ap (raised b) (successor_none bs (second_of_both (b == 255) (list_all (λ c. c == 255) bs) h)) ∙ equal_last b (first_of_both (b == 255) (list_all (λ c. c == 255) bs) h)

-- the last byte that isn't 255 is one higher in the successor, and nothing follows
successor_after : (front : List ℕ) (b : ℕ) (rest : List ℕ) → (b == 255) ≡ false → list_all (λ c. c == 255) rest ≡ true → successor (front ++ b ∷ rest) ≡ Some (front ++ (b + 1) ∷ [])
unfolding successor
successor_after [] b rest e h = ap (raised b) (successor_none rest h) ∙ unequal b e
successor_after (c ∷ front) b rest e h = ap (raised c) (successor_after front b rest e h)

-- the same by the place of that byte
pub successor_at : (bs : List ℕ) (n : ℕ) → n < length bs → (get_or bs n 0 == 255) ≡ false → list_all (λ c. c == 255) (drop (n + 1) bs) ≡ true → successor bs ≡ Some (take n bs ++ (get_or bs n 0 + 1) ∷ [])
successor_at bs n l e h = ap successor (sym (take-append-drop n bs) ∙ ap (λ r. take n bs ++ r) (drop_more bs n 0 l)) ∙ successor_after (take n bs) (get_or bs n 0) (drop (n + 1) bs) e h

-- one more byte of 255 before those
pub all_last : (bs : List ℕ) (n : ℕ) → n < length bs → (get_or bs n 0 == 255) ≡ true → list_all (λ c. c == 255) (drop (n + 1) bs) ≡ true → list_all (λ c. c == 255) (drop n bs) ≡ true
all_last bs n l e h = ap (list_all (λ c. c == 255)) (drop_more bs n 0 l) ∙ ap (λ t. t && list_all (λ c. c == 255) (drop (n + 1) bs)) e ∙ h

-- a start at a key is ordered before an end where the key is up to it
pub included_ordered : (key : List ℕ) (e : Bound (List ℕ)) → is_ordered (Included key) e ≡ is_up_to e key
unfolding is_ordered is_up_to
included_ordered key (Included k) = refl
included_ordered key (Excluded k) = refl
included_ordered key Unbounded = refl

-- the range of a prefix is proper
pub prefix_ordered : (prefix : List ℕ) (e : Bound (List ℕ)) → e ≡ end_before (successor prefix) → is_ordered (Included prefix) e ≡ true
prefix_ordered prefix e h = included_ordered prefix e ∙ ap (λ x. is_up_to x prefix) h ∙ prefix_proper prefix

pub prefix_is_proper : (prefix : List ℕ) → is_ordered (Included prefix) (end_before (successor prefix)) ≡ true
prefix_is_proper prefix = prefix_ordered prefix (end_before (successor prefix)) refl
