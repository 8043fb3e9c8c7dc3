-- Spans that were sorted and raised have the same numbers, and one look tells whether they have a number.
use Rattle.std.specs.Prelude.{ℕ, ◌-◌, ◌<◌, ◌≤◌, ◌^◌, ◌||◌, ◌&&◌, max, nat_le, Bool, true, false, Result, Ok, Err, IfOk, Vec, List, [], ◌∷◌, length}
use Rattle.std.specs.List.{list_any}
use Rattle.std.specs.declared.alloc.Global.{Global}
use Rattle.slate_ids.specs.declared.out_of_memory.OutOfMemory.{OutOfMemory}
use Rattle.std.specs.List.Sorted.{IsNonDecreasingBy, IsPartitionedBy, IsPartitionPoint}
use Rattle.std.proofs.Common.{zero, suc, ◌≡◌, refl, sym, subst, ◌∙◌, ap, arith, get_or}
use Rattle.std.proofs.lemmas.Bool.Decides.{nat_tests}
use Rattle.slate_ids.specs.Ranges.{is_within}
use Rattle.slate_ids.specs.declared.number_range.NumberRange.{NumberRange}
use Rattle.slate_gc_picks.specs.WalCovers.{Covers, HasNumbers, Span, is_spanned, raised}

-- ---- tests

le_yes : (m n : ℕ) → m ≤ n → nat_le m n ≡ true
le_yes m n h = grind (arith, nat_tests)

le_of : (m n : ℕ) → nat_le m n ≡ true → m ≤ n
le_of m n h = grind (arith, nat_tests)

max_test : (n l t : ℕ) → nat_le n (max l t) ≡ (nat_le n t || nat_le n l)
max_test n l t = grind (arith, nat_tests)

zero_max : (l : ℕ) → max l 0 ≡ l
zero_max l = omega arith

-- ---- ranges

-- the spans have the numbers of the ranges so far, and the ranges that are left have the others
abbrev pub RangesLeft : List Span → List NumberRange → List NumberRange → Type 0
RangesLeft spans rest all = (n : ℕ) → n < 2 ^ 64 → (list_any (is_spanned n) spans || list_any (λ r. is_within r n) rest) ≡ list_any (λ r. is_within r n) all

-- ---- order

abbrev From : (Span → ℕ) → ℕ → List Span → Type 0
From f m [] = Unit {0}
From f m (s ∷ ss) = (m ≤ f s) × From f m ss

abbrev Ascends : (Span → ℕ) → List Span → Type 0
Ascends f [] = Unit {0}
Ascends f (s ∷ ss) = From f (f s) ss × Ascends f ss

from_index : (f : Span → ℕ) (m : ℕ) (ss : List Span) → ((j : ℕ) (d : Span) → j < length ss → m ≤ f (get_or ss j d)) → From f m ss
from_index f m [] h = tt
from_index f m (s ∷ ss) h = (h 0 s (omega arith), from_index f m ss (λ j d lt. h (suc j) d (omega (arith, lt))))

ascends_index : (f : Span → ℕ) (ss : List Span) → IsNonDecreasingBy f ss → Ascends f ss
ascends_index f [] h = tt
ascends_index f (s ∷ ss) h = (
  from_index f (f s) ss (λ j d lt. h 0 (suc j) d (omega arith) (omega (arith, lt))),
  ascends_index f ss (λ i j d le lt. h (suc i) (suc j) d (omega (arith, le)) (omega (arith, lt))),
)

index_from : (f : Span → ℕ) (m : ℕ) (ss : List Span) → From f m ss → (j : ℕ) (d : Span) → j < length ss → m ≤ f (get_or ss j d)
index_from f m [] all j d lt = absurd (omega (arith, lt))
index_from f m (s ∷ ss) all zero d lt = all.0
index_from f m (s ∷ ss) all (suc j) d lt = index_from f m ss all.1 j d (omega (arith, lt))

index_ascends : (f : Span → ℕ) (ss : List Span) → Ascends f ss → (i j : ℕ) (d : Span) → i ≤ j → j < length ss → f (get_or ss i d) ≤ f (get_or ss j d)
index_ascends f [] all i j d le lt = absurd (omega (arith, lt))
index_ascends f (s ∷ ss) all zero zero d le lt = omega arith
index_ascends f (s ∷ ss) all zero (suc j) d le lt = index_from f (f s) ss all.0 j d (omega (arith, lt))
index_ascends f (s ∷ ss) all (suc i) zero d le lt = absurd (omega (arith, le))
index_ascends f (s ∷ ss) all (suc i) (suc j) d le lt = index_ascends f ss all.1 i j d (omega (arith, le)) (omega (arith, lt))

-- ---- raised spans

firsts_from : (m t : ℕ) (ss : List Span) → From (λ (s : Span). s.first) m ss → From (λ (s : Span). s.first) m (raised t ss)
firsts_from m t [] all = tt
firsts_from m t (s ∷ ss) all = (all.0, firsts_from m (max s.last t) ss all.1)

firsts_ascend : (t : ℕ) (ss : List Span) → Ascends (λ (s : Span). s.first) ss → Ascends (λ (s : Span). s.first) (raised t ss)
firsts_ascend t [] all = tt
firsts_ascend t (s ∷ ss) all = (firsts_from s.first (max s.last t) ss all.0, firsts_ascend (max s.last t) ss all.1)

lasts_from : (m t : ℕ) (ss : List Span) → m ≤ t → From (λ (s : Span). s.last) m (raised t ss)
lasts_from m t [] h = tt
lasts_from m t (s ∷ ss) h = (omega (arith, h), lasts_from m (max s.last t) ss (omega (arith, h)))

lasts_ascend : (t : ℕ) (ss : List Span) → Ascends (λ (s : Span). s.last) (raised t ss)
lasts_ascend t [] = tt
lasts_ascend t (s ∷ ss) = (lasts_from (max s.last t) (max s.last t) ss (omega arith), lasts_ascend (max s.last t) ss)

absorbs : (a b c d x : Bool) → (b ≡ true → a ≡ true) → ((a && c) || ((b && (c || d)) || x)) ≡ ((a && c) || ((b && d) || x))
absorbs a false c d x h = refl
absorbs true true true d x h = refl
absorbs true true false d x h = refl
absorbs false true c d x h = absurd (let e : false ≡ true = h refl in cc)

-- what a span before them has doesn't count twice
same_after : (n f t : ℕ) (ss : List Span) → From (λ (s : Span). s.first) f ss → Ascends (λ (s : Span). s.first) ss
    → ((nat_le f n && nat_le n t) || list_any (is_spanned n) (raised t ss)) ≡ ((nat_le f n && nat_le n t) || list_any (is_spanned n) ss)
same_after n f t [] all up = refl
same_after n f t (s ∷ ss) all up =
    let rest = list_any (is_spanned n) ss in
    let before : Bool = nat_le f n && nat_le n t in
    ap (λ (b : Bool). before || b) (same_after n s.first (max s.last t) ss up.0 up.1)
    ∙ ap (λ (b : Bool). before || ((nat_le s.first n && b) || rest)) (max_test n s.last t)
    ∙ absorbs (nat_le f n) (nat_le s.first n) (nat_le n t) (nat_le n s.last) rest (λ h. le_yes f n (omega (arith, all.0, le_of s.first n h)))

same_numbers : (n : ℕ) (ss : List Span) → Ascends (λ (s : Span). s.first) ss → list_any (is_spanned n) (raised 0 ss) ≡ list_any (is_spanned n) ss
same_numbers n [] up = refl
same_numbers n (s ∷ ss) up =
    same_after n s.first (max s.last 0) ss up.0 up.1 ∙ ap (λ (l : ℕ). (nat_le s.first n && nat_le n l) || list_any (is_spanned n) ss) (zero_max s.last)

-- sorted and raised they cover the ranges
pub covered : (spans sorted tops : List Span) (ranges : List NumberRange) → HasNumbers spans ranges → ((n : ℕ) → list_any (is_spanned n) sorted ≡ list_any (is_spanned n) spans)
    → IsNonDecreasingBy (λ (s : Span). s.first) sorted → tops ≡ raised 0 sorted → Covers tops ranges
covered spans sorted tops ranges has same up made =
    let order : Ascends (λ (s : Span). s.first) sorted = ascends_index (λ (s : Span). s.first) sorted up in
    subst (λ (l : List Span). Covers l ranges) (sym made) (record {
      firsts = index_ascends (λ (s : Span). s.first) (raised 0 sorted) (firsts_ascend 0 sorted order);
      lasts = index_ascends (λ (s : Span). s.last) (raised 0 sorted) (lasts_ascend 0 sorted);
      numbers = λ n fits. same_numbers n sorted order ∙ same n ∙ has n fits;
    })

pub all_covered : (spans sorted seen : List Span) (ranges : List NumberRange) (raised_spans : Result (Vec Span Global) OutOfMemory) → HasNumbers spans ranges
    → ((n : ℕ) → list_any (is_spanned n) sorted ≡ list_any (is_spanned n) spans) → IsNonDecreasingBy (λ (s : Span). s.first) sorted → seen ≡ sorted
    → IfOk raised_spans (λ tops. tops.items ≡ raised 0 seen) → IfOk raised_spans (λ cover. Covers cover.items ranges)
all_covered spans sorted seen ranges (Ok tops) has same up whole made = covered spans sorted tops.items ranges has same up (made ∙ ap (λ (l : List Span). raised 0 l) whole)
all_covered spans sorted seen ranges (Err e) has same up whole made = tt

-- ---- one look

neither : (a b c : Bool) → a ≡ false → c ≡ false → ((a && b) || c) ≡ false
neither true b c h k = absurd cc
neither false b c h k = k

here : (a b c : Bool) → a ≡ true → c ≡ false → ((a && b) || c) ≡ b
here true true c h k = refl
here true false c h k = k
here false b c h k = absurd cc

weaker : (n l x : ℕ) → l ≤ x → (nat_le n l || nat_le n x) ≡ nat_le n x
weaker n l x le = grind (arith, nat_tests)

later : (a : Bool) (n l x : ℕ) (c : Bool) → a ≡ true → l ≤ x → c ≡ nat_le n x → ((a && nat_le n l) || c) ≡ nat_le n x
later true n l x c h le k = ap (λ (b : Bool). nat_le n l || b) k ∙ weaker n l x le
later false n l x c h le k = absurd cc

-- a number below all the firsts isn't there
pub below_all : (n : ℕ) (ss : List Span) → ((i : ℕ) (d : Span) → 0 ≤ i → i < length ss → nat_le (get_or ss i d).first n ≡ false) → list_any (is_spanned n) ss ≡ false
below_all n [] h = refl
below_all n (s ∷ ss) h =
    neither (nat_le s.first n) (nat_le n s.last) (list_any (is_spanned n) ss) (h 0 s (omega arith) (omega arith)) (below_all n ss (λ i d le lt. h (suc i) d (omega arith) (omega (arith, lt))))

-- of the spans that begin at or below a number the last one tells
look : (n k : ℕ) (ss : List Span) (d : Span) → Ascends (λ (s : Span). s.last) ss → k < length ss
    → ((i : ℕ) (e : Span) → 0 ≤ i → i < suc k → nat_le (get_or ss i e).first n ≡ true)
    → ((i : ℕ) (e : Span) → suc k ≤ i → i < length ss → nat_le (get_or ss i e).first n ≡ false)
    → list_any (is_spanned n) ss ≡ nat_le n (get_or ss k d).last
look n k [] d up lt before after = absurd (omega (arith, lt))
look n zero (s ∷ ss) d up lt before after =
    here (nat_le s.first n) (nat_le n s.last) (list_any (is_spanned n) ss) (before 0 s (omega arith) (omega arith))
    (below_all n ss (λ i e le below. after (suc i) e (omega arith) (omega (arith, below))))
look n (suc k) (s ∷ ss) d up lt before after =
    later (nat_le s.first n) n s.last (get_or ss k d).last (list_any (is_spanned n) ss) (before 0 s (omega arith) (omega arith))
    (index_from (λ (x : Span). x.last) s.last ss up.0 k d (omega (arith, lt)))
    (look n k ss d up.1 (omega (arith, lt)) (λ i e le below. before (suc i) e (omega arith) (omega (arith, below))) (λ i e le below. after (suc i) e (omega (arith, le)) (omega (arith, below))))

pub looked : (n count : ℕ) (ss : List Span) (d : Span) → IsNonDecreasingBy (λ (s : Span). s.last) ss → 0 < count → count ≤ length ss
    → ((i : ℕ) (e : Span) → 0 ≤ i → i < count → nat_le (get_or ss i e).first n ≡ true)
    → ((i : ℕ) (e : Span) → count ≤ i → i < length ss → nat_le (get_or ss i e).first n ≡ false)
    → list_any (is_spanned n) ss ≡ nat_le n (get_or ss (count - 1) d).last
looked n count ss d up some within before after =
    look n (count - 1) ss d (ascends_index (λ (s : Span). s.last) ss up) (omega (arith, some, within)) (λ i e le below. before i e le (omega (arith, some, below))) (λ i e le below. after i e (omega (arith, some, le)) below)

partitioned : (n : ℕ) (ss : List Span) → IsNonDecreasingBy (λ (s : Span). s.first) ss → IsPartitionedBy (λ (s : Span). nat_le s.first n) ss
partitioned n ss up i j d le lt h = le_yes (get_or ss i d).first n (omega (arith, up i j d le lt, le_of (get_or ss j d).first n h))

-- where a search by halves stops
abbrev pub Place : ℕ → List Span → ℕ → Type 0
Place n ss count = IsPartitionedBy (λ (s : Span). nat_le s.first n) ss → IsPartitionPoint (λ (s : Span). nat_le s.first n ≡ true) (λ (s : Span). nat_le s.first n ≡ false) ss count

pub absent : (n count : ℕ) (ss : List Span) (ranges : List NumberRange) → n < 2 ^ 64 → count ≡ 0 → Place n ss count → Covers ss ranges → false ≡ list_any (λ r. is_within r n) ranges
absent n count ss ranges fits none place covers =
    let point = place (partitioned n ss covers.firsts) in
    sym (below_all n ss (λ i d le lt. point.1 i d (omega (arith, none)) lt)) ∙ covers.numbers n fits

pub present : (n count : ℕ) (ss : List Span) (d : Span) (ranges : List NumberRange) → n < 2 ^ 64 → 0 < count → count ≤ length ss → Place n ss count → Covers ss ranges
    → nat_le n (get_or ss (count - 1) d).last ≡ list_any (λ r. is_within r n) ranges
present n count ss d ranges fits some within place covers =
    let point = place (partitioned n ss covers.firsts) in
    sym (looked n count ss d covers.lasts some within point.0 point.1) ∙ covers.numbers n fits
