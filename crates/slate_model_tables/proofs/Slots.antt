-- The slots of a run's views: each is proper, holds its view's effective range, and ends no later than the next one.
use Rattle.std.specs.Prelude.{ℕ, Bool, true, false, ◌&&◌, List, [], ◌∷◌, if◌then◌else◌}
use Rattle.std.proofs.Common.{◌≡◌, refl, sym, ap, ◌∙◌}
use Rattle.std.specs.declared.ops.Bound.{Bound}
use Rattle.std.specs.declared.ops.Bound.TheVariants.{Included, Excluded, Unbounded}
use Rattle.slate_ids.specs.Keys.{key_lt, key_le, is_past, is_up_to, is_ordered}
use Rattle.slate_ids.specs.KeyRange.{KeyRange, has_key}
use Rattle.slate_model_tables.specs.Views.{View, effective_range, has_first_key, shows_key}
use Rattle.slate_model_tables.specs.SortedRuns.{end_at, slot_end, slot, ends_by, ends_before_next}
use Rattle.slate_ids.proofs.KeyOrder.{le_trans, le_refl, lt_le, lt_le_trans, le_lt_trans, same_key}

-- a range that has its first key
pub record Begins (r : KeyRange) : Type 0 where
  pub key : List ℕ
  pub start : r.start ≡ Included key
  pub has : is_up_to r.end key ≡ true

begins_by : (r : KeyRange) (s : Bound (List ℕ)) → r.start ≡ s → has_first_key s r.end ≡ true → Begins r
begins_by r (Included k) e h = record { key = k; start = e; has = h }
begins_by r (Excluded k) e h = absurd cc
begins_by r Unbounded e h = absurd cc

pub begins : (v : View) → shows_key v ≡ true → Begins (effective_range v)
begins v h = begins_by (effective_range v) (effective_range v).start refl h

-- any start is ordered before no end
open_end : (s : Bound (List ℕ)) → is_ordered s Unbounded ≡ true
unfolding is_ordered
open_end (Included k) = refl
open_end (Excluded k) = refl
open_end Unbounded = refl

-- a start that is ordered before an end is ordered before a key that the end is at or before, included where it is that key
end_kept : (s e : Bound (List ℕ)) (k : List ℕ) (b : Bool) → ends_by e (Included k) ≡ true → (e ≡ Included k → b ≡ true) → is_ordered s e ≡ true → is_ordered s (if b then Included k else Excluded k) ≡ true
unfolding is_ordered
end_kept Unbounded e k true h own o = refl
end_kept Unbounded e k false h own o = refl
end_kept (Included a) (Included x) k true h own o = le_trans a x k o h
end_kept (Included a) (Included x) k false h own o = past (key_lt x k) refl
  where
    past : (t : Bool) → key_lt x k ≡ t → key_lt a k ≡ true
    past true e = le_lt_trans a x k o e
    past false e = let w : false ≡ true = own (ap (λ (y : List ℕ). Included y) (same_key x k h e)) in absurd cc
end_kept (Included a) (Excluded x) k true h own o = lt_le a k (lt_le_trans a x k o h)
end_kept (Included a) (Excluded x) k false h own o = lt_le_trans a x k o h
end_kept (Included a) Unbounded k b h own o = absurd cc
end_kept (Excluded a) (Included x) k true h own o = lt_le_trans a x k o h
end_kept (Excluded a) (Included x) k false h own o = lt_le_trans a x k o h
end_kept (Excluded a) (Excluded x) k true h own o = lt_le_trans a x k o h
end_kept (Excluded a) (Excluded x) k false h own o = lt_le_trans a x k o h
end_kept (Excluded a) Unbounded k b h own o = absurd cc

-- a range that ends at a key has it where it begins at or before it
own_end : (r : KeyRange) (k : List ℕ) → Begins r → r.end ≡ Included k → has_key r k ≡ true
unfolding is_past is_up_to
own_end r k b e =
    let up : key_le b.key k ≡ true = sym (ap (λ x. is_up_to x b.key) e) ∙ b.has in
    ap (λ s. is_past s k && is_up_to r.end k) b.start ∙ ap (λ t. t && is_up_to r.end k) up ∙ ap (λ x. is_up_to x k) e ∙ le_refl k

-- a range that begins has its first key
pub own_start : (r : KeyRange) (k : List ℕ) → (b : Begins r) → b.key ≡ k → has_key r k ≡ true
unfolding is_past is_up_to
own_start r k b e = ap (has_key r) (sym e) ∙ ap (λ s. is_past s b.key && is_up_to r.end b.key) b.start ∙ ap (λ t. t && is_up_to r.end b.key) (le_refl b.key) ∙ b.has

-- what is ordered before the end of an effective range is ordered before the end of its slot
pub own_slot : (s : Bound (List ℕ)) (v : View) (rest : List View) → Begins (effective_range v) → ((w : View) (ws : List View) → rest ≡ w ∷ ws → Begins (effective_range w)) → ends_before_next v rest ≡ true → is_ordered s (effective_range v).end ≡ true → is_ordered s (slot_end (effective_range v) rest) ≡ true
own_slot s v [] b next h o = open_end s
own_slot s v (w ∷ ws) b next h o =
    let n = next w ws refl in
    let r = effective_range v in
    let kept = end_kept s r.end n.key (has_key r n.key) (ap (ends_by r.end) (sym n.start) ∙ h) (own_end r n.key b) o in
    ap (λ x. is_ordered s (end_at r x)) n.start ∙ kept

-- a start with a key is ordered before an end that the key is up to
pub included_ordered : (key : List ℕ) (e : Bound (List ℕ)) → is_ordered (Included key) e ≡ is_up_to e key
unfolding is_ordered is_up_to
included_ordered key (Included k) = refl
included_ordered key (Excluded k) = refl
included_ordered key Unbounded = refl

-- a range that begins is proper
pub begins_proper : (r : KeyRange) → Begins r → is_ordered r.start r.end ≡ true
begins_proper r b = ap (λ s. is_ordered s r.end) b.start ∙ included_ordered b.key r.end ∙ b.has

-- the key that a range begins with is at or before each key that its end is at or before
first_by : (e : Bound (List ℕ)) (a k : List ℕ) → is_up_to e a ≡ true → ends_by e (Included k) ≡ true → key_le a k ≡ true
unfolding is_up_to
first_by (Included x) a k u h = le_trans a x k u h
first_by (Excluded x) a k u h = le_trans a x k (lt_le a x u) h
first_by Unbounded a k u h = absurd cc

-- the end of a slot is at or before the start that it has, or a later one
slot_by : (b : Bool) (a k : List ℕ) → key_le a k ≡ true → ends_by (if b then Included a else Excluded a) (Included k) ≡ true
slot_by true a k h = h
slot_by false a k h = h

only_included : (b : Bool) (a k : List ℕ) → (if b then Included a else Excluded a) ≡ Included k → a ≡ k
only_included true a k h = cc
only_included false a k h = absurd cc

-- what is ordered before the end of a slot is ordered before the end of the next one
pub next_slot : (s : Bound (List ℕ)) (v w : View) (rest : List View) → Begins (effective_range w) → ((x : View) (xs : List View) → rest ≡ x ∷ xs → Begins (effective_range x)) → ends_before_next w rest ≡ true → is_ordered s (slot_end (effective_range v) (w ∷ rest)) ≡ true → is_ordered s (slot_end (effective_range w) rest) ≡ true
next_slot s v w [] b next h o = open_end s
next_slot s v w (x ∷ xs) b next h o =
    let n = next x xs refl in
    let r = effective_range w in
    let own = has_key (effective_range v) b.key in
    let by : ends_by r.end (Included n.key) ≡ true = ap (ends_by r.end) (sym n.start) ∙ h in
    let before : is_ordered s (if own then Included b.key else Excluded b.key) ≡ true = sym (ap (λ y. is_ordered s (end_at (effective_range v) y)) b.start) ∙ o in
    let kept = end_kept s (if own then Included b.key else Excluded b.key) n.key (has_key r n.key) (slot_by own b.key n.key (first_by r.end b.key n.key b.has by)) (λ e. own_start r n.key b (only_included own b.key n.key e)) before in
    ap (λ y. is_ordered s (end_at r y)) n.start ∙ kept

-- the first keys of views ascend
pub starts_ascend : (v w : View) → (b : Begins (effective_range v)) → (n : Begins (effective_range w)) → ends_by (effective_range v).end (effective_range w).start ≡ true → key_le b.key n.key ≡ true
starts_ascend v w b n h = first_by (effective_range v).end b.key n.key b.has (ap (ends_by (effective_range v).end) (sym n.start) ∙ h)

-- a start with an earlier key is ordered before what a later one is ordered before
pub earlier_start : (a k : List ℕ) (e : Bound (List ℕ)) → key_le a k ≡ true → is_ordered (Included k) e ≡ true → is_ordered (Included a) e ≡ true
unfolding is_ordered
earlier_start a k (Included x) h o = le_trans a k x h o
earlier_start a k (Excluded x) h o = le_lt_trans a k x h o
earlier_start a k Unbounded h o = refl

-- a range that starts at a key has it exactly where the key is up to its end
pub own_first : (r : KeyRange) (k : List ℕ) → Included k ≡ r.start → has_key r k ≡ has_first_key r.start r.end
unfolding is_past
own_first r k e = sym (ap (λ s. is_past s k && is_up_to r.end k) e) ∙ ap (λ t. t && is_up_to r.end k) (le_refl k) ∙ ap (λ s. has_first_key s r.end) e
