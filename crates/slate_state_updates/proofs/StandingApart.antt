-- Of prefixes that ascend, the rule on neighbours tells of any two segments.
use Rattle.std.specs.Prelude.{ℕ, ◌&&◌, Bool, true, false, not, List, [], ◌∷◌, ◌++◌, None, nat_eq}
use Rattle.std.specs.Ordering.{nat_cmp, is_lt, ordering_then}
use Rattle.std.specs.Cmp.Lexicographic.{slice_cmp}
use Rattle.std.specs.declared.cmp.Ordering.{Ordering}
use Rattle.std.specs.declared.cmp.Ordering.TheVariants.{Less, Equal, Greater}
use Rattle.std.proofs.Common.{◌≡◌, ◌↔◌, refl, ap, subst, arith}
use Rattle.std.proofs.lemmas.Bool.{and_parts}
use Rattle.std.proofs.lemmas.Bool.Decides.{nat_tests}
use Rattle.slate_ids.specs.Keys.{key_lt, begins_with}
use Rattle.slate_ids.proofs.KeyOrder.{chained}
use Rattle.slate_model.specs.declared.manifest.Manifest.{Manifest}
use Rattle.slate_model.specs.Segments.{Prefixed, ascend_from, IsAscending}
use Rattle.slate_model.specs.Selection.{none_begins, are_apart}
use Rattle.slate_txn_log.specs.declared.right.Right.{Right}
use Rattle.slate_state_updates.specs.Prefixes.{prefix_refusal}
use Rattle.slate_state_updates.specs.RuleLaws.{AllStandApart, StandApart}
use Rattle.slate_state_updates.specs.Rules.{manifest_refusal}
use Rattle.slate_state_updates.proofs.Lawful.{keeps}
use Rattle.slate_state_updates.proofs.PrefixesApart.{apart, none_nested}

-- ---- what begins with a key isn't below it

equal_self : (x : ℕ) → nat_cmp x x ≡ Equal
equal_self x = grind (arith, nat_tests)

eq_same : (x y : ℕ) → nat_eq x y ≡ true → x ≡ y
eq_same x y h = grind (arith, nat_tests)

then_equal : (o p : Ordering) → o ≡ Equal → is_lt p ≡ false → is_lt (ordering_then o p) ≡ false
then_equal Equal p h n = n
then_equal Less p h n = absurd cc
then_equal Greater p h n = absurd cc

not_below : (p k : List ℕ) → begins_with p k ≡ true → key_lt k p ≡ false
unfolding begins_with
not_below [] [] b = refl
not_below [] (z ∷ k) b = refl
not_below (x ∷ p) [] b = absurd cc
not_below (x ∷ p) (z ∷ k) b =
    let parts = and_parts (nat_eq x z) (begins_with p k) b in
    let same : x ≡ z = eq_same x z parts.0 in
    rw (← same) (then_equal (nat_cmp x x) (slice_cmp nat_cmp k p) (equal_self x) (not_below p k parts.1))

not_beginning : (p q : List ℕ) → key_lt p q ≡ true → begins_with q p ≡ false
not_beginning p q l = test (begins_with q p) refl
  where
    test : (b : Bool) → begins_with q p ≡ b → b ≡ false
    test true is = absurd (cc (l, not_below q p is))
    test false is = refl

-- ---- any later one

not_true : (b : Bool) → not b ≡ true → b ≡ false
not_true true h = absurd cc
not_true false h = refl

later_below : (p : List ℕ) (middle back : List Prefixed) (t : Prefixed) → ascend_from p (middle ++ t ∷ back) ≡ true → key_lt p t.prefix ≡ true
later_below p [] back t h = (and_parts (key_lt p t.prefix) (ascend_from t.prefix back) h).0
later_below p (s ∷ middle) back t h =
    let parts = and_parts (key_lt p s.prefix) (ascend_from s.prefix (middle ++ t ∷ back)) h in
    chained p s.prefix t.prefix parts.0 (later_below s.prefix middle back t parts.1)

later_apart : (p : List ℕ) (middle back : List Prefixed) (t : Prefixed) → none_begins p (middle ++ t ∷ back) ≡ true → begins_with p t.prefix ≡ false
later_apart p [] back t h = not_true (begins_with p t.prefix) (and_parts (not (begins_with p t.prefix)) (none_begins p back) h).0
later_apart p (s ∷ middle) back t h = later_apart p middle back t (and_parts (not (begins_with p s.prefix)) (none_begins p (middle ++ t ∷ back)) h).1

two_apart : (last : List ℕ) (front middle back : List Prefixed) (s t : Prefixed) → ascend_from last (front ++ s ∷ (middle ++ t ∷ back)) ≡ true → are_apart (front ++ s ∷ (middle ++ t ∷ back)) ≡ true → StandApart s t
two_apart last [] middle back s t a h =
    let below = later_below s.prefix middle back t (and_parts (key_lt last s.prefix) (ascend_from s.prefix (middle ++ t ∷ back)) a).1 in
    record {
      below = below;
      extends_not = later_apart s.prefix middle back t (and_parts (none_begins s.prefix (middle ++ t ∷ back)) (are_apart (middle ++ t ∷ back)) h).0;
      is_no_part = not_beginning s.prefix t.prefix below;
    }
two_apart last (f ∷ front) middle back s t a h =
    two_apart f.prefix front middle back s t (and_parts (key_lt last f.prefix) (ascend_from f.prefix (front ++ s ∷ (middle ++ t ∷ back))) a).1
    (and_parts (none_begins f.prefix (front ++ s ∷ (middle ++ t ∷ back))) (are_apart (front ++ s ∷ (middle ++ t ∷ back))) h).1

all_apart : (segments : List Prefixed) → IsAscending segments → are_apart segments ≡ true → AllStandApart segments
all_apart segments a h front middle back s t is =
    two_apart [] front middle back s t (subst (λ (ss : List Prefixed). ascend_from [] ss ≡ true) is a) (subst (λ (ss : List Prefixed). are_apart ss ≡ true) is h)

-- ---- and back

and_from : (a b : Bool) → a ≡ true → b ≡ true → (a && b) ≡ true
and_from true b h k = k
and_from false b h k = absurd cc

is_not : (b : Bool) → b ≡ false → not b ≡ true
is_not true h = absurd cc
is_not false h = refl

none_from : (p : List ℕ) (ss : List Prefixed) → ((middle back : List Prefixed) (t : Prefixed) → ss ≡ middle ++ t ∷ back → begins_with p t.prefix ≡ false) → none_begins p ss ≡ true
none_from p [] h = refl
none_from p (s ∷ ss) h =
    and_from (not (begins_with p s.prefix)) (none_begins p ss) (is_not (begins_with p s.prefix) (h [] ss s refl))
    (none_from p ss (λ middle back t is. h (s ∷ middle) back t (ap (λ (xs : List Prefixed). s ∷ xs) is)))

apart_from : (segments : List Prefixed) → AllStandApart segments → are_apart segments ≡ true
apart_from [] h = refl
apart_from (s ∷ ss) h =
    and_from (none_begins s.prefix ss) (are_apart ss) (none_from s.prefix ss (λ middle back t is. (h [] middle back s t (ap (λ (xs : List Prefixed). s ∷ xs) is)).extends_not))
    (apart_from ss (λ front middle back u t is. h (s ∷ front) middle back u t (ap (λ (xs : List Prefixed). s ∷ xs) is)))

-- ---- the rule

pub exactly : (segments : List Prefixed) → IsAscending segments → prefix_refusal segments ≡ None ↔ AllStandApart segments
exactly segments a = (λ h. all_apart segments a ((apart segments a).0 h), λ h. none_nested segments (apart_from segments h))

pub lawful : (n : ℕ) (old new : Manifest) (right : Right) → IsAscending new.core.segments → manifest_refusal n old new right ≡ None → AllStandApart new.core.segments
lawful n old new right a h = (exactly new.core.segments a).0 (keeps n old new right h).prefixes
