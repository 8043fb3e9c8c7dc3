-- Pairs of a tracker in order.
use Rattle.std.proofs.Common.{◌≡◌, ◌≤◌, ◌<◌, ◌+◌, ◌-◌, ℕ, ℤ, zero, suc, List, [], ◌∷◌, ◌++◌, Option, Some, None, Result, Ok, Err, Bool, true, false, ◌&&◌, ◌==◌, cond, nat_lt, nat_le, int_lt, int_le, length, get_or, take, drop, filter, slice_get, slice_set, OnOk, OnErr, if◌then◌else◌, refl, ap, sym, subst, ◌∙◌, arith}
use Rattle.std.specs.List.{last_or, find, list_all}
use Rattle.std.specs.Bool.{Decides}
use Rattle.std.specs.Cmp.{unsigned_Decides, signed_Decides}
use Rattle.std.specs.Ordering.{int_eq}
use Rattle.std.specs.List.Sorted.{IsPartitionedBy, IsPartitionPoint}
use Rattle.std.proofs.Math.Seq.{set-append_seam}
use Rattle.std.proofs.lemmas.Bool.{and_parts, and_from}
use Rattle.std.proofs.lemmas.Bool.Decides.{nat_tests}
use Rattle.std.proofs.lemmas.Int.{ints}
use Rattle.std.proofs.lemmas.List.{length-append, length-drop, take_all}
use Rattle.std.proofs.lemmas.List.Folds.{list_all-append}
use Rattle.slate_model.specs.Sequences.{is_after, may_follow, follows, in_order, is_pair, IsTracker, with_room, inserted, last_to_seq, first_from_seq, last_to_ts, first_from_ts}

-- ---- a list that a test parts

-- the last element
last_is : {X : Type 0} (xs : List X) → slice_get xs (length xs - 1) ≡ last_or None xs
last_is [] = refl
last_is (x ∷ xs) = ap (λ (i : ℕ). slice_get (x ∷ xs) i) (omega arith) ∙ last_at x xs
  where
    last_at : {X : Type 0} (x : X) (xs : List X) → slice_get (x ∷ xs) (length xs) ≡ last_or (Some x) xs
    last_at x [] = refl
    last_at x (y ∷ ys) = last_at y ys

-- where the first i elements pass a test and the others don't, it keeps the first i
kept_front : {X : Type 0} (p : X → Bool) (xs : List X) (i : ℕ) → IsPartitionPoint (λ x. p x ≡ true) (λ x. p x ≡ false) xs i → filter p xs ≡ take i xs
kept_front p [] zero h = refl
kept_front p [] (suc i) h = refl
kept_front p (x ∷ xs) zero h =
    ap (λ (t : Bool). cond t (x ∷ filter p xs) (filter p xs)) (h.1 0 x (omega arith) (omega arith))
    ∙ kept_front p xs zero ((λ k d _ l. absurd (omega arith)), (λ k d _ l. h.1 (suc k) d (omega arith) (omega arith)))
kept_front p (x ∷ xs) (suc i) h =
    ap (λ (t : Bool). cond t (x ∷ filter p xs) (filter p xs)) (h.0 0 x (omega arith) (omega arith))
    ∙ ap (λ (l : List _). x ∷ l) (kept_front p xs i ((λ k d _ l. h.0 (suc k) d (omega arith) (omega arith)), (λ k d m l. h.1 (suc k) d (omega arith) (omega arith))))

-- where the first i elements fail a test and the others don't, the next one is the first that passes
found_next : {X : Type 0} (p : X → Bool) (xs : List X) (i : ℕ) → IsPartitionPoint (λ x. p x ≡ false) (λ x. p x ≡ true) xs i → find p xs ≡ slice_get (drop i xs) 0
found_next p [] zero h = refl
found_next p [] (suc i) h = refl
found_next p (x ∷ xs) zero h = ap (λ (t : Bool). cond t (Some x) (find p xs)) (h.1 0 x (omega arith) (omega arith))
found_next p (x ∷ xs) (suc i) h =
    ap (λ (t : Bool). cond t (Some x) (find p xs)) (h.0 0 x (omega arith) (omega arith))
    ∙ found_next p xs i ((λ k d _ l. h.0 (suc k) d (omega arith) (omega arith)), (λ k d m l. h.1 (suc k) d (omega arith) (omega arith)))

-- ---- the order of the pairs

-- a test that a pair passes where a later one does
record IsDownward (p : ℕ × ℤ → Bool) : Type 0 where
  down : (x y : ℕ × ℤ) → is_after x y ≡ true → p y ≡ true → p x ≡ true

first_passes : (p : ℕ × ℤ → Bool) → IsDownward p → (last : ℕ × ℤ) (pairs : List (ℕ × ℤ)) → follows (Some last) pairs ≡ true → (j : ℕ) (d : ℕ × ℤ) → j < length pairs → p (get_or pairs j d) ≡ true → p last ≡ true
first_passes p q last [] h j d l e = absurd (omega arith)
first_passes p q last (pair ∷ pairs) h zero d l e = q.down last pair (and_parts (is_after last pair) (follows (Some pair) pairs) h).0 e
first_passes p q last (pair ∷ pairs) h (suc j) d l e =
    let parts = and_parts (is_after last pair) (follows (Some pair) pairs) h in
    q.down last pair parts.0 (first_passes p q pair pairs parts.1 j d (omega arith) e)

parted : (p : ℕ × ℤ → Bool) → IsDownward p → (last : Option (ℕ × ℤ)) (pairs : List (ℕ × ℤ)) → follows last pairs ≡ true → IsPartitionedBy p pairs
parted p q last [] h i j d le l e = absurd (omega arith)
parted p q last (pair ∷ pairs) h zero zero d le l e = e
parted p q last (pair ∷ pairs) h zero (suc j) d le l e = first_passes p q pair pairs (and_parts (may_follow last pair) (follows (Some pair) pairs) h).1 j d (omega arith) e
parted p q last (pair ∷ pairs) h (suc i) zero d le l e = absurd (omega arith)
parted p q last (pair ∷ pairs) h (suc i) (suc j) d le l e = parted p q (Some pair) pairs (and_parts (may_follow last pair) (follows (Some pair) pairs) h).1 i j d (omega arith) (omega arith) e

below_le : (a b n : ℕ) → nat_lt a b ≡ true → nat_le b n ≡ true → nat_le a n ≡ true
below_le a b n h e = grind (arith, nat_tests)

below_lt : (a b n : ℕ) → nat_lt a b ≡ true → nat_lt b n ≡ true → nat_lt a n ≡ true
below_lt a b n h e = grind (arith, nat_tests)

not_below : (a b : ℕ) → nat_lt a b ≡ true → nat_le b a ≡ false
not_below a b h = grind (arith, nat_tests)

from_here : (a b : ℕ) → nat_lt a b ≡ false → nat_le b a ≡ true
from_here a b h = grind (arith, nat_tests)

int_below_le : (a b n : ℤ) → int_le a b ≡ true → int_le b n ≡ true → int_le a n ≡ true
int_below_le a b n h e = grind (arith, ints)

int_below_lt : (a b n : ℤ) → int_le a b ≡ true → int_lt b n ≡ true → int_lt a n ≡ true
int_below_lt a b n h e = grind (arith, ints)

int_not_below : (a b : ℤ) → int_lt a b ≡ true → int_le b a ≡ false
int_not_below a b h = grind (arith, ints)

int_from_here : (a b : ℤ) → int_lt a b ≡ false → int_le b a ≡ true
int_from_here a b h = grind (arith, ints)

-- ---- what a search finds

-- the place between what passes and what fails, where the test parts the pairs
abbrev pub Place : (ℕ × ℤ → Bool) → List (ℕ × ℤ) → ℕ → Type 0
Place p pairs i = IsPartitionedBy p pairs → IsPartitionPoint (λ pair. p pair ≡ true) (λ pair. p pair ≡ false) pairs i

pub last_to_seq_is : (pairs : List (ℕ × ℤ)) (seq i : ℕ) → in_order pairs ≡ true → Place (λ pair. nat_le pair.0 seq) pairs i → slice_get (take i pairs) (length (take i pairs) - 1) ≡ last_to_seq pairs seq
last_to_seq_is pairs seq i h place =
    let q : IsDownward (λ pair. nat_le pair.0 seq) = record { down = λ x y a e. below_le x.0 y.0 seq (and_parts (nat_lt x.0 y.0) (int_le x.1 y.1) a).0 e } in
    last_is (take i pairs) ∙ ap (λ (l : List (ℕ × ℤ)). last_or None l) (sym (kept_front (λ pair. nat_le pair.0 seq) pairs i (place (parted (λ pair. nat_le pair.0 seq) q None pairs h))))

pub last_to_ts_is : (pairs : List (ℕ × ℤ)) (ts : ℤ) (i : ℕ) → in_order pairs ≡ true → Place (λ pair. int_le pair.1 ts) pairs i → slice_get (take i pairs) (length (take i pairs) - 1) ≡ last_to_ts pairs ts
last_to_ts_is pairs ts i h place =
    let q : IsDownward (λ pair. int_le pair.1 ts) = record { down = λ x y a e. int_below_le x.1 y.1 ts (and_parts (nat_lt x.0 y.0) (int_le x.1 y.1) a).1 e } in
    last_is (take i pairs) ∙ ap (λ (l : List (ℕ × ℤ)). last_or None l) (sym (kept_front (λ pair. int_le pair.1 ts) pairs i (place (parted (λ pair. int_le pair.1 ts) q None pairs h))))

-- the rest of a list
rest_is : (pairs : List (ℕ × ℤ)) (i : ℕ) → slice_get (take (length pairs - i) (drop i pairs)) 0 ≡ slice_get (drop i pairs) 0
rest_is pairs i = ap (λ (l : List (ℕ × ℤ)). slice_get l 0) (take_all (length pairs - i) (drop i pairs) (omega (arith, length-drop i pairs)))

pub first_from_seq_is : (pairs : List (ℕ × ℤ)) (seq i : ℕ) → in_order pairs ≡ true → Place (λ pair. nat_lt pair.0 seq) pairs i → slice_get (take (length pairs - i) (drop i pairs)) 0 ≡ first_from_seq pairs seq
first_from_seq_is pairs seq i h place =
    let q : IsDownward (λ pair. nat_lt pair.0 seq) = record { down = λ x y a e. below_lt x.0 y.0 seq (and_parts (nat_lt x.0 y.0) (int_le x.1 y.1) a).0 e } in
    let point = place (parted (λ pair. nat_lt pair.0 seq) q None pairs h) in
    rest_is pairs i ∙ sym (found_next (λ pair. nat_le seq pair.0) pairs i ((λ k d m l. not_below _ _ (point.0 k d m l)), (λ k d m l. from_here _ _ (point.1 k d m l))))

pub first_from_ts_is : (pairs : List (ℕ × ℤ)) (ts : ℤ) (i : ℕ) → in_order pairs ≡ true → Place (λ pair. int_lt pair.1 ts) pairs i → slice_get (take (length pairs - i) (drop i pairs)) 0 ≡ first_from_ts pairs ts
first_from_ts_is pairs ts i h place =
    let q : IsDownward (λ pair. int_lt pair.1 ts) = record { down = λ x y a e. int_below_lt x.1 y.1 ts (and_parts (nat_lt x.0 y.0) (int_le x.1 y.1) a).1 e } in
    let point = place (parted (λ pair. int_lt pair.1 ts) q None pairs h) in
    rest_is pairs i ∙ sym (found_next (λ pair. int_le ts pair.1) pairs i ((λ k d m l. int_not_below (get_or pairs k d).1 ts (point.0 k d m l)), (λ k d m l. int_from_here (get_or pairs k d).1 ts (point.1 k d m l))))

-- ---- equality

-- what `==` says of two pairs
pub same_pair : (a b : ℕ × ℤ) → Decides (a.0 == b.0 && int_eq a.1 b.1) (a ≡ b)
same_pair a b = (same, λ e. and_from _ _ ((unsigned_Decides a.0 b.0).1 (ap (λ (p : ℕ × ℤ). p.0) e)) ((signed_Decides a.1 b.1).1 (ap (λ (p : ℕ × ℤ). p.1) e)))
  where
    same : a.0 == b.0 && int_eq a.1 b.1 ≡ true → a ≡ b
    same h =
        let parts = and_parts (a.0 == b.0) (int_eq a.1 b.1) h in
        let seq : a.0 ≡ b.0 = (unsigned_Decides a.0 b.0).0 parts.0 in
        let ts : a.1 ≡ b.1 = (signed_Decides a.1 b.1).0 parts.1 in
        ap (λ (n : ℕ). (n, a.1)) seq ∙ ap (λ (z : ℤ). (b.0, z)) ts

-- ---- one pair more

follows_push : (last : Option (ℕ × ℤ)) (pairs : List (ℕ × ℤ)) (pair : ℕ × ℤ) → follows last pairs ≡ true → may_follow (last_or last pairs) pair ≡ true → follows last (pairs ++ pair ∷ []) ≡ true
follows_push last [] pair h after = and_from _ _ after refl
follows_push last (next ∷ pairs) pair h after =
    let parts = and_parts (may_follow last next) (follows (Some next) pairs) h in
    and_from _ _ parts.0 (follows_push (Some next) pairs pair parts.1 after)

-- the later pairs are in order too
follows_later : (last : Option (ℕ × ℤ)) (pairs : List (ℕ × ℤ)) → follows last pairs ≡ true → follows None pairs ≡ true
follows_later last [] h = refl
follows_later last (pair ∷ pairs) h = (and_parts (may_follow last pair) (follows (Some pair) pairs) h).1

all_fit : (pairs : List (ℕ × ℤ)) (pair : ℕ × ℤ) → list_all is_pair pairs ≡ true → is_pair pair ≡ true → list_all is_pair (pairs ++ pair ∷ []) ≡ true
all_fit pairs pair h fits = list_all-append is_pair pairs (pair ∷ []) ∙ and_from _ _ h (and_from _ _ fits refl)

less_than : (n m : ℕ) → nat_lt n m ≡ true → n < m
less_than n m h = grind (arith, nat_tests)

with_one : (t : Bool) (pairs : List (ℕ × ℤ)) (pair : ℕ × ℤ) → nat_lt (length pairs) 4096 ≡ t → IsTracker pairs → is_pair pair ≡ true → may_follow (last_or None pairs) pair ≡ true → IsTracker ((if t then pairs else drop 1 pairs) ++ pair ∷ [])
with_one true pairs pair room t fits after =
    let some_room = less_than _ _ room in
    record { ordered = follows_push None pairs pair t.ordered after; few = omega (arith, length-append pairs (pair ∷ [])); fit = all_fit pairs pair t.fit fits }
with_one false [] pair room t fits after = absurd (cc)
with_one false (oldest ∷ pairs) pair room t fits after =
    let few = t.few in
    record {
      ordered = follows_later (Some oldest) (pairs ++ pair ∷ []) (and_parts (may_follow None oldest) (follows (Some oldest) (pairs ++ pair ∷ [])) (follows_push None (oldest ∷ pairs) pair t.ordered after)).1;
      few = omega (arith, length-append pairs (pair ∷ []));
      fit = all_fit pairs pair (and_parts (is_pair oldest) (list_all is_pair pairs) t.fit).1 fits;
    }

-- after an append that may lack memory
pub IsTracker-append : {T E : Type 0} (r : Result T E) (old new : List (ℕ × ℤ)) (pair : ℕ × ℤ) → OnOk r (new ≡ with_room old ++ pair ∷ []) → OnErr r (new ≡ old) → IsTracker old → is_pair pair ≡ true → may_follow (last_or None old) pair ≡ true → IsTracker new
IsTracker-append (Ok x) old new pair ok err t fits after = subst (λ (l : List (ℕ × ℤ)). IsTracker l) (sym ok) (with_one (nat_lt (length old) 4096) old pair refl t fits after)
IsTracker-append (Err e) old new pair ok err t fits after = subst (λ (l : List (ℕ × ℤ)). IsTracker l) (sym err) t

pub inserted_is : {T E : Type 0} (r : Result T E) (old new : List (ℕ × ℤ)) (pair : ℕ × ℤ) → OnOk r (new ≡ with_room old ++ pair ∷ []) → may_follow (last_or None old) pair ≡ true → OnOk r (new ≡ inserted old pair)
inserted_is r old new pair ok after = subst (λ (l : List (ℕ × ℤ)). OnOk r (new ≡ l)) (sym (ap (λ (t : Bool). if t then with_room old ++ pair ∷ [] else old) after)) ok

pub refused_is : (old : List (ℕ × ℤ)) (pair : ℕ × ℤ) → may_follow (last_or None old) pair ≡ false → old ≡ inserted old pair
refused_is old pair after = sym (ap (λ (t : Bool). if t then with_room old ++ pair ∷ [] else old) after)

-- the last pair as code finds it
pub after_last : (pairs : List (ℕ × ℤ)) (last : Option (ℕ × ℤ)) (pair : ℕ × ℤ) (b : Bool) → last ≡ slice_get pairs (length pairs - 1) → b ≡ may_follow last pair → may_follow (last_or None pairs) pair ≡ b
after_last pairs last pair b e h = ap (λ (o : Option (ℕ × ℤ)). may_follow o pair) (sym (e ∙ last_is pairs)) ∙ sym h

-- the pair stands in the oldest one's place, turned to the end
pub turned : (pairs : List (ℕ × ℤ)) (pair : ℕ × ℤ) (n : ℕ) → 4096 ≤ length pairs → n ≡ length pairs → slice_set (drop 1 pairs ++ take 1 pairs) (n - 1) pair ≡ with_room pairs ++ pair ∷ []
turned [] pair n full e = absurd (omega arith)
turned (oldest ∷ pairs) pair n full e =
    let at : n - 1 ≡ length pairs = omega arith in
    let no_room : nat_lt (length (oldest ∷ pairs)) 4096 ≡ false = not_less (length (oldest ∷ pairs)) 4096 full in
    ap (λ (i : ℕ). slice_set (pairs ++ oldest ∷ []) i pair) at
    ∙ set-append_seam pairs oldest [] pair
    ∙ sym (ap (λ (t : Bool). (if t then oldest ∷ pairs else pairs) ++ pair ∷ []) no_room)
  where
    not_less : (n m : ℕ) → m ≤ n → nat_lt n m ≡ false
    not_less n m h = grind (arith, nat_tests)

-- ---- a pair in its turn

-- the next pair is in order
pub follows_next : (last : Option (ℕ × ℤ)) (pairs : List (ℕ × ℤ)) (i : ℕ) (pair : ℕ × ℤ) → drop i pairs ≡ pair ∷ drop (i + 1) pairs → may_follow last pair ≡ true → follows last (drop i pairs) ≡ follows (Some pair) (drop (i + 1) pairs)
follows_next last pairs i pair at after = ap (λ (l : List (ℕ × ℤ)). follows last l) at ∙ ap (λ (t : Bool). t && follows (Some pair) (drop (i + 1) pairs)) after

-- the next pair isn't
pub follows_not : (last : Option (ℕ × ℤ)) (pairs : List (ℕ × ℤ)) (i : ℕ) (pair : ℕ × ℤ) → drop i pairs ≡ pair ∷ drop (i + 1) pairs → may_follow last pair ≡ false → follows last (drop i pairs) ≡ false
follows_not last pairs i pair at after = ap (λ (l : List (ℕ × ℤ)). follows last l) at ∙ ap (λ (t : Bool). t && follows (Some pair) (drop (i + 1) pairs)) after
