-- The views that cover a range stand together: from the first whose slot the range starts in or before, to the last that starts in it.
use Rattle.std.specs.Prelude.{ℕ, zero, suc, ◌+◌, ◌-◌, ◌<◌, ◌≤◌, Bool, true, false, ◌&&◌, nat_lt, nat_le, List, [], ◌∷◌, length, get_or, drop, take, slice_range, slice_get, Option, Some, None}
use Rattle.std.proofs.Common.{◌≡◌, refl, sym, ap, ◌∙◌, subst, arith}
use Rattle.std.proofs.lemmas.Bool.Decides.{nat_tests}
use Rattle.std.specs.declared.ops.Bound.{Bound}
use Rattle.std.specs.declared.ops.Bound.TheVariants.{Unbounded}
use Rattle.slate_ids.specs.Keys.{is_ordered}
use Rattle.slate_ids.specs.KeyRange.{KeyRange, is_proper, ranges_meet}
use Rattle.slate_model_tables.specs.Views.{View, effective_range, shows_key}
use Rattle.slate_model_tables.specs.SortedRuns.{end_at, slot_end, covering, ascend, all_show, ends_before_next, IsPartFor}
use Rattle.slate_model_tables.specs.Slots.{slot_at, Ends}
use Rattle.slate_model_tables.proofs.Projections.{Sides}
use Rattle.slate_model_tables.proofs.Slots.{Begins, begins, own_slot, next_slot, begins_proper, starts_ascend, earlier_start}

first : (a b : Bool) → (a && b) ≡ true → a ≡ true
first true b h = refl
first false b h = h

second : (a b : Bool) → (a && b) ≡ true → b ≡ true
second true b h = h
second false b h = absurd cc

-- views of which each shows a key, and that ascend
pub record InOrder (views : List View) : Type 0 where
  pub shown : all_show views ≡ true
  pub ascending : ascend views ≡ true

rest_in_order : (v : View) (views : List View) → InOrder (v ∷ views) → InOrder views
unfolding all_show ascend
rest_in_order v views h = record { shown = second (shows_key v) (all_show views) h.shown; ascending = second (ends_before_next v views) (ascend views) h.ascending }

first_begins : (v : View) (views : List View) → InOrder (v ∷ views) → Begins (effective_range v)
unfolding all_show
first_begins v views h = begins v (first (shows_key v) (all_show views) h.shown)

first_before_next : (v : View) (views : List View) → InOrder (v ∷ views) → ends_before_next v views ≡ true
unfolding ascend
first_before_next v views h = first (ends_before_next v views) (ascend views) h.ascending

next_begins : (views : List View) → InOrder views → (w : View) (ws : List View) → views ≡ w ∷ ws → Begins (effective_range w)
next_begins views h w ws e = first_begins w ws (subst InOrder e h)

-- a slot ends no later than the next one
reach_next : (s : Bound (List ℕ)) (views : List View) → InOrder views → (i : ℕ) → suc i < length views → is_ordered s (slot_at views i).end ≡ true → is_ordered s (slot_at views (suc i)).end ≡ true
unfolding slot_at
reach_next s [] h i l o = absurd (omega arith)
reach_next s (v ∷ []) h i l o = absurd (omega arith)
reach_next s (v ∷ (w ∷ ws)) h zero l o =
    let rest = rest_in_order v (w ∷ ws) h in
    next_slot s v w ws (first_begins w ws rest) (next_begins ws (rest_in_order w ws rest)) (first_before_next w ws rest) o
reach_next s (v ∷ (w ∷ ws)) h (suc i) l o = reach_next s (w ∷ ws) (rest_in_order v (w ∷ ws) h) i (omega arith) o

reach_more : (s : Bound (List ℕ)) (views : List View) → InOrder views → (i k : ℕ) → i + k < length views → is_ordered s (slot_at views i).end ≡ true → is_ordered s (slot_at views (i + k)).end ≡ true
reach_more s views h i zero l o = let e : i + zero ≡ i = omega arith in rw e o
reach_more s views h i (suc k) l o =
    let e : i + suc k ≡ suc (i + k) = omega arith in
    rw e (reach_next s views h (i + k) (omega arith) (reach_more s views h i k (omega arith) o))

-- what is ordered before the end of a slot is ordered before the end of each later one
pub reach_later : (s : Bound (List ℕ)) (views : List View) → InOrder views → (i j : ℕ) → i ≤ j → j < length views → is_ordered s (slot_at views i).end ≡ true → is_ordered s (slot_at views j).end ≡ true
reach_later s views h i j l m o =
    let e : i + (j - i) ≡ j = omega arith in
    let P : ℕ → Type 0 = λ n. is_ordered s (slot_at views n).end ≡ true in
    subst P e (reach_more s views h i (j - i) (omega arith) o)

-- what isn't ordered before the end of a slot isn't ordered before the end of an earlier one
pub not_reached_earlier : (s : Bound (List ℕ)) (views : List View) → InOrder views → (i j : ℕ) → i ≤ j → j < length views → is_ordered s (slot_at views j).end ≡ false → is_ordered s (slot_at views i).end ≡ false
not_reached_earlier s views h i j l m o = by (is_ordered s (slot_at views i).end) refl
  where
    by : (b : Bool) → is_ordered s (slot_at views i).end ≡ b → b ≡ false
    by true e = sym (reach_later s views h i j l m e) ∙ o
    by false e = refl

-- the slot of a view starts where its effective range does
pub slot_at-start : (views : List View) (i : ℕ) (d : View) → i < length views → (slot_at views i).start ≡ (effective_range (get_or views i d)).start
unfolding slot_at
slot_at-start [] i d l = absurd (omega arith)
slot_at-start (v ∷ views) zero d l = refl
slot_at-start (v ∷ views) (suc i) d l = slot_at-start views i d (omega arith)

-- the end of the slot of a view, by the views after it
pub slot_at-end : (views : List View) (i : ℕ) (d : View) → i < length views → (slot_at views i).end ≡ slot_end (effective_range (get_or views i d)) (drop (suc i) views)
unfolding slot_at
slot_at-end [] i d l = absurd (omega arith)
slot_at-end (v ∷ views) zero d l = refl
slot_at-end (v ∷ views) (suc i) d l = slot_at-end views i d (omega arith)

start_before : (e : Bound (List ℕ)) (views : List View) → InOrder views → (i : ℕ) → suc i < length views → is_ordered (slot_at views (suc i)).start e ≡ true → is_ordered (slot_at views i).start e ≡ true
unfolding slot_at
start_before e [] h i l o = absurd (omega arith)
start_before e (v ∷ []) h i l o = absurd (omega arith)
start_before e (v ∷ (w ∷ ws)) h zero l o =
    let b = first_begins v (w ∷ ws) h in
    let n = first_begins w ws (rest_in_order v (w ∷ ws) h) in
    let kept = earlier_start b.key n.key e (starts_ascend v w b n (first_before_next v (w ∷ ws) h)) (sym (ap (λ s. is_ordered s e) n.start) ∙ o) in
    ap (λ s. is_ordered s e) b.start ∙ kept
start_before e (v ∷ (w ∷ ws)) h (suc i) l o = start_before e (w ∷ ws) (rest_in_order v (w ∷ ws) h) i (omega arith) o

start_more : (e : Bound (List ℕ)) (views : List View) → InOrder views → (i k : ℕ) → i + k < length views → is_ordered (slot_at views (i + k)).start e ≡ true → is_ordered (slot_at views i).start e ≡ true
start_more e views h i zero l o = let q : i + zero ≡ i = omega arith in rw q at o
start_more e views h i (suc k) l o =
    let q : i + suc k ≡ suc (i + k) = omega arith in
    start_more e views h i k (omega arith) (start_before e views h (i + k) (omega arith) (rw q at o))

-- what starts before an end has all earlier views start before it
pub start_earlier : (e : Bound (List ℕ)) (views : List View) → InOrder views → (i j : ℕ) (d : View) → i ≤ j → j < length views → is_ordered (effective_range (get_or views j d)).start e ≡ true → is_ordered (effective_range (get_or views i d)).start e ≡ true
start_earlier e views h i j d l m o =
    let q : i + (j - i) ≡ j = omega arith in
    let P : ℕ → Type 0 = λ n. is_ordered (slot_at views n).start e ≡ true in
    let at_j : is_ordered (slot_at views j).start e ≡ true = ap (λ s. is_ordered s e) (slot_at-start views j d m) ∙ o in
    sym (ap (λ s. is_ordered s e) (slot_at-start views i d (omega arith))) ∙ start_more e views h i (j - i) (omega arith) (subst P (sym q) at_j)

-- a slot is proper
slot_proper : (views : List View) → InOrder views → (i : ℕ) → i < length views → is_proper (slot_at views i) ≡ true
unfolding slot_at
slot_proper [] h i l = absurd (omega arith)
slot_proper (v ∷ views) h zero l =
    let b = first_begins v views h in
    own_slot (effective_range v).start v views b (next_begins views (rest_in_order v views h)) (first_before_next v views h) (begins_proper (effective_range v) b)
slot_proper (v ∷ views) h (suc i) l = slot_proper views (rest_in_order v views h) i (omega arith)

-- a slot goes on to the end of its view's effective range
own_reach : (s : Bound (List ℕ)) (views : List View) → InOrder views → (i : ℕ) (d : View) → i < length views → is_ordered s (effective_range (get_or views i d)).end ≡ true → is_ordered s (slot_at views i).end ≡ true
unfolding slot_at
own_reach s [] h i d l o = absurd (omega arith)
own_reach s (v ∷ views) h zero d l o = own_slot s v views (first_begins v views h) (next_begins views (rest_in_order v views h)) (first_before_next v views h) o
own_reach s (v ∷ views) h (suc i) d l o = own_reach s views (rest_in_order v views h) i d (omega arith) o

-- the views whose places are in a part are the views of that part
covering_part : (r : KeyRange) (views : List View) (from to : ℕ) → from ≤ to → to ≤ length views → ((i : ℕ) → i < length views → ranges_meet (slot_at views i) r ≡ (nat_le from i && nat_lt i to)) → covering r views ≡ slice_range views from to
unfolding covering slot_at
covering_part r [] from to l m h = let e : from ≡ 0 = omega arith in let q : to ≡ 0 = omega arith in rw (e, q) refl
covering_part r (v ∷ views) zero zero l m h = rw (h zero (omega arith)) (covering_part r views zero zero (omega arith) (omega arith) (λ i k. h (suc i) (omega arith) ∙ grind (arith, nat_tests)))
covering_part r (v ∷ views) zero (suc to) l m h =
    let rest = covering_part r views zero to (omega arith) (omega arith) (λ i k. h (suc i) (omega arith) ∙ grind (arith, nat_tests)) in
    let all : suc to - 0 ≡ suc to = omega arith in
    let less : to - 0 ≡ to = omega arith in
    let here : ranges_meet (slot_at (v ∷ views) zero) r ≡ true = h zero (omega arith) ∙ grind (arith, nat_tests) in
    rw (here, all) (ap (λ (t : List View). v ∷ t) (rest ∙ ap (λ n. take n views) less))
covering_part r (v ∷ views) (suc from) zero l m h = absurd (omega arith)
covering_part r (v ∷ views) (suc from) (suc to) l m h =
    let rest = covering_part r views from to (omega arith) (omega arith) (λ i k. h (suc i) (omega arith) ∙ grind (arith, nat_tests)) in
    let less : suc to - suc from ≡ to - from = omega arith in
    let here : ranges_meet (slot_at (v ∷ views) zero) r ≡ false = h zero (omega arith) ∙ grind (arith, nat_tests) in
    rw (here, less) rest

four_true : (a b c d : Bool) → a ≡ true → b ≡ true → (a && b && c && d) ≡ (c && d)
four_true true true c d h k = refl
four_true true false c d h k = absurd cc
four_true false b c d h k = absurd cc

meets_by : (sides : (a b : KeyRange) → Sides a b) (views : List View) (r : KeyRange) → InOrder views → is_proper r ≡ true → (i : ℕ) → i < length views → ranges_meet (slot_at views i) r ≡ (is_ordered (slot_at views i).start r.end && is_ordered r.start (slot_at views i).end)
meets_by sides views r h p i l = sides (slot_at views i) r ∙ four_true (is_proper (slot_at views i)) (is_proper r) (is_ordered (slot_at views i).start r.end) (is_ordered r.start (slot_at views i).end) (slot_proper views h i l) p

lt_of : (a b : ℕ) → nat_lt a b ≡ true → a < b
lt_of a b h = grind (arith, nat_tests)

not_lt_of : (a b : ℕ) → nat_lt a b ≡ false → b ≤ a
not_lt_of a b h = grind (arith, nat_tests)

le_of : (a b : ℕ) → nat_le a b ≡ true → a ≤ b
le_of a b h = grind (arith, nat_tests)

not_le_of : (a b : ℕ) → nat_le a b ≡ false → b < a
not_le_of a b h = grind (arith, nat_tests)

-- a view starts in the range where its place is before the end of the part
started_at : (views : List View) (r : KeyRange) (from to : ℕ) → Ends views r from to → (i : ℕ) → (d : View) → i < length views → is_ordered (slot_at views i).start r.end ≡ nat_lt i to
started_at views r from to e i d l = ap (λ s. is_ordered s r.end) (slot_at-start views i d l) ∙ by (nat_lt i to) refl
  where
    by : (b : Bool) → nat_lt i to ≡ b → is_ordered (effective_range (get_or views i d)).start r.end ≡ b
    by true q = e.started i d (omega arith) (lt_of i to q)
    by false q = e.not_started i d (not_lt_of i to q) l

-- the range starts in a slot or before it where its place is in the part or past it
reached_at : (views : List View) (r : KeyRange) (from to : ℕ) → Ends views r from to → (i : ℕ) → i < length views → is_ordered r.start (slot_at views i).end ≡ nat_le from i
reached_at views r from to e i l = by (nat_le from i) refl
  where
    by : (b : Bool) → nat_le from i ≡ b → is_ordered r.start (slot_at views i).end ≡ b
    by true q = e.reached i (le_of from i q) l
    by false q = e.passed i (not_le_of from i q)

swapped : (a b : Bool) → (a && b) ≡ (b && a)
swapped true true = refl
swapped true false = refl
swapped false true = refl
swapped false false = refl

picked_at : (sides : (a b : KeyRange) → Sides a b) (views : List View) (r : KeyRange) → InOrder views → is_proper r ≡ true → (from to : ℕ) → Ends views r from to → (i : ℕ) → (d : View) → i < length views → ranges_meet (slot_at views i) r ≡ (nat_le from i && nat_lt i to)
picked_at sides views r h p from to e i d l =
    meets_by sides views r h p i l ∙ ap (λ t. t && is_ordered r.start (slot_at views i).end) (started_at views r from to e i d l) ∙ ap (λ t. nat_lt i to && t) (reached_at views r from to e i l) ∙ swapped (nat_lt i to) (nat_le from i)

-- a view whose effective range meets the range is in the part
own_picked : (sides : (a b : KeyRange) → Sides a b) (views : List View) (r : KeyRange) → InOrder views → is_proper r ≡ true → (from to : ℕ) → Ends views r from to → (k : ℕ) (d : View) → k < length views → ranges_meet (effective_range (get_or views k d)) r ≡ true → (nat_le from k && nat_lt k to) ≡ true
own_picked sides views r h p from to e k d l m =
    let v = get_or views k d in
    let all : (is_proper (effective_range v) && is_proper r && is_ordered (effective_range v).start r.end && is_ordered r.start (effective_range v).end) ≡ true = sym (sides (effective_range v) r) ∙ m in
    let starts : is_ordered (effective_range v).start r.end ≡ true = second (is_proper (effective_range v) && is_proper r) (is_ordered (effective_range v).start r.end) (first (is_proper (effective_range v) && is_proper r && is_ordered (effective_range v).start r.end) (is_ordered r.start (effective_range v).end) all) in
    let ends : is_ordered r.start (effective_range v).end ≡ true = second (is_proper (effective_range v) && is_proper r && is_ordered (effective_range v).start r.end) (is_ordered r.start (effective_range v).end) all in
    let slot_starts : is_ordered (slot_at views k).start r.end ≡ true = ap (λ s. is_ordered s r.end) (slot_at-start views k d l) ∙ starts in
    sym (picked_at sides views r h p from to e k d l) ∙ meets_by sides views r h p k l ∙ ap (λ t. t && is_ordered r.start (slot_at views k).end) slot_starts ∙ own_reach r.start views h k d l ends

covering_nothing : (r : KeyRange) → covering r [] ≡ []
unfolding covering
covering_nothing r = refl

-- the views that cover a proper range stand from one place to another
pub covering_found : (sides : (a b : KeyRange) → Sides a b) (views : List View) (r : KeyRange) → InOrder views → is_proper r ≡ true → (from to : ℕ) → Ends views r from to → from < to → covering r views ≡ slice_range views from to
covering_found sides [] r h p from to e l = let w : to ≤ 0 = e.within in absurd (omega arith)
covering_found sides (v ∷ views) r h p from to e l = covering_part r (v ∷ views) from to (omega arith) e.within (λ i k. picked_at sides (v ∷ views) r h p from to e i v k)

-- the views that cover a proper range, where the part isn't empty
pub part_found : (sides : (a b : KeyRange) → Sides a b) (views : List View) (r : KeyRange) → InOrder views → is_proper r ≡ true → (from to : ℕ) → Ends views r from to → from < to → IsPartFor views r (covering r views)
part_found sides [] r h p from to e l = let w : to ≤ 0 = e.within in absurd (omega arith)
part_found sides (v ∷ views) r h p from to e l = record {
  from = from;
  to = to;
  within = (omega arith, e.within);
  is = covering_found sides (v ∷ views) r h p from to e l;
  effective = λ k d n m. (le_of from k (first (nat_le from k) (nat_lt k to) (own_picked sides (v ∷ views) r h p from to e k d n m)), lt_of k to (second (nat_le from k) (nat_lt k to) (own_picked sides (v ∷ views) r h p from to e k d n m)));
}

none_between : (from to i : ℕ) → to ≤ from → (nat_le from i && nat_lt i to) ≡ (nat_le 0 i && nat_lt i 0)
none_between from to i l = grind (arith, nat_tests)

nothing_first : (k : ℕ) → (nat_le 0 k && nat_lt k 0) ≡ true → (0 ≤ k) × (k < 0)
nothing_first k h = absurd (grind (arith, nat_tests))

pub covering_empty : (sides : (a b : KeyRange) → Sides a b) (views : List View) (r : KeyRange) → InOrder views → is_proper r ≡ true → (from to : ℕ) → Ends views r from to → to ≤ from → covering r views ≡ slice_range views 0 0
covering_empty sides [] r h p from to e l = covering_nothing r
covering_empty sides (v ∷ views) r h p from to e l = covering_part r (v ∷ views) 0 0 (omega arith) (omega arith) (λ i k. picked_at sides (v ∷ views) r h p from to e i v k ∙ none_between from to i l)

-- and where it is
pub part_empty : (sides : (a b : KeyRange) → Sides a b) (views : List View) (r : KeyRange) → InOrder views → is_proper r ≡ true → (from to : ℕ) → Ends views r from to → to ≤ from → IsPartFor views r (covering r views)
part_empty sides [] r h p from to e l = record { from = 0; to = 0; within = (omega arith, omega arith); is = covering_nothing r; effective = λ k d n m. absurd (omega arith) }
part_empty sides (v ∷ views) r h p from to e l = record {
  from = 0;
  to = 0;
  within = (omega arith, omega arith);
  is = covering_empty sides (v ∷ views) r h p from to e l;
  effective = λ k d n m. nothing_first k (sym (none_between from to k l) ∙ own_picked sides (v ∷ views) r h p from to e k d n m);
}

four_false : (a b c d : Bool) → b ≡ false → (a && b && c && d) ≡ false
four_false true true c d h = absurd cc
four_false true false c d h = refl
four_false false b c d h = refl

meets_nothing : (sides : (a b : KeyRange) → Sides a b) (a r : KeyRange) → is_proper r ≡ false → ranges_meet a r ≡ false
meets_nothing sides a r p = sides a r ∙ four_false (is_proper a) (is_proper r) (is_ordered a.start r.end) (is_ordered r.start a.end) p

none_here : (i : ℕ) → false ≡ (nat_le 0 i && nat_lt i 0)
none_here i = grind (arith, nat_tests)

pub covering_none : (sides : (a b : KeyRange) → Sides a b) (views : List View) (r : KeyRange) → is_proper r ≡ false → covering r views ≡ slice_range views 0 0
covering_none sides views r p = covering_part r views 0 0 (omega arith) (omega arith) (λ i k. meets_nothing sides (slot_at views i) r p ∙ none_here i)

-- no view covers a range that isn't proper
pub part_of_none : (sides : (a b : KeyRange) → Sides a b) (views : List View) (r : KeyRange) → is_proper r ≡ false → IsPartFor views r (covering r views)
part_of_none sides views r p = record {
  from = 0;
  to = 0;
  within = (omega arith, omega arith);
  is = covering_none sides views r p;
  effective = λ k d n m. let w : true ≡ false = sym m ∙ meets_nothing sides (effective_range (get_or views k d)) r p in absurd cc;
}

-- the end of a slot by the next view, where there is one
abbrev pub end_by : KeyRange → Option View → Bound (List ℕ)
end_by r (Some next) = end_at r (effective_range next).start
end_by r None = Unbounded

first_next : (r : KeyRange) (rest : List View) → slot_end r rest ≡ end_by r (slice_get rest 0)
first_next r [] = refl
first_next r (w ∷ ws) = refl

pub slot_end_by : (views : List View) (i : ℕ) (v : View) (next : Option View) → i < length views → v ≡ get_or views i v → next ≡ slice_get (drop (i + 1) views) 0 → (slot_at views i).end ≡ end_by (effective_range v) next
slot_end_by views i v next l e n =
    let q : suc i ≡ i + 1 = omega arith in
    slot_at-end views i v l ∙ ap (λ w. slot_end (effective_range w) (drop (suc i) views)) (sym e) ∙ ap (λ k. slot_end (effective_range v) (drop k views)) q ∙ first_next (effective_range v) (drop (i + 1) views) ∙ ap (end_by (effective_range v)) (sym n)
