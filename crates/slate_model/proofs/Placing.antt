-- A segment put at its place: where it stands, and that the segments ascend as before.
use Rattle.std.specs.Prelude.{ℕ, zero, suc, ◌<◌, ◌≤◌, ◌+◌, ◌&&◌, Bool, true, false, List, [], ◌∷◌, length, slice_set, get_or, Option, Some, None, option_map, is_some, bytes_eq, if◌then◌else◌}
use Rattle.std.specs.List.{insert}
use Rattle.std.proofs.Common.{◌≡◌, refl, sym, ◌∙◌, ap, arith}
use Rattle.std.proofs.lemmas.Bool.{and_parts, and_from}
use Rattle.std.proofs.lemmas.Slice.Eq.{bytes_eq-Decides}
use Rattle.slate_ids.specs.Keys.{key_lt}
use Rattle.slate_ids.proofs.KeyOrder.{chained, not_before_itself, other_way}
use Rattle.slate_model.specs.declared.lsm_tree_state.LsmTreeState.{LsmTreeState}
use Rattle.slate_model.specs.Cores.{empty_tree}
use Rattle.slate_model.specs.Segments.{Prefixed, ascend_from, segment_at, place_of}
use Rattle.slate_model.specs.Insertion.{placed, tree_in, or_empty, tree_at, with_tree_at}
use Rattle.slate_model.proofs.Ascending.{one_more, clash, none_above}

-- the segment of a prefix with this tree
abbrev pub made : List ℕ → LsmTreeState → Prefixed
made p t = record { prefix = p; tree = t }

-- segments that ascend from a key ascend from what stands below it
pub from_below : (last p : List ℕ) (ss : List Prefixed) → key_lt last p ≡ true → ascend_from p ss ≡ true → ascend_from last ss ≡ true
from_below last p [] l a = refl
from_below last p (s ∷ ss) l a =
    let parts = and_parts (key_lt p s.prefix) (ascend_from s.prefix ss) a in
    and_from (key_lt last s.prefix) (ascend_from s.prefix ss) (chained last p s.prefix l parts.0) parts.1

pub placed_ascends : (p last : List ℕ) (t : LsmTreeState) (ss : List Prefixed) → key_lt last p ≡ true → ascend_from last ss ≡ true → ascend_from last (placed p t ss) ≡ true
placed_ascends p last t [] l a = rw l refl
placed_ascends p last t (s ∷ ss) l a = by (λ h k. placed_ascends p s.prefix t ss h k) (key_lt s.prefix p) (bytes_eq s.prefix p) refl refl
  where
    parts : (key_lt last s.prefix ≡ true) × (ascend_from s.prefix ss ≡ true)
    parts = and_parts (key_lt last s.prefix) (ascend_from s.prefix ss) a

    by : (key_lt s.prefix p ≡ true → ascend_from s.prefix ss ≡ true → ascend_from s.prefix (placed p t ss) ≡ true) → (b q : Bool) → key_lt s.prefix p ≡ b → bytes_eq s.prefix p ≡ q → ascend_from last (if b then s ∷ placed p t ss else made p t ∷ (if q then ss else s ∷ ss)) ≡ true
    by more true q e f = and_from (key_lt last s.prefix) (ascend_from s.prefix (placed p t ss)) parts.0 (more e parts.1)
    by more false true e f = and_from (key_lt last p) (ascend_from p ss) l (sym (ap (λ k. ascend_from k ss) ((bytes_eq-Decides s.prefix p).0 f)) ∙ parts.1)
    by more false false e f = and_from (key_lt last p) (ascend_from p (s ∷ ss)) l (and_from (key_lt p s.prefix) (ascend_from s.prefix ss) (other_way s.prefix p e f) parts.1)

-- a segment inserted at the place of its prefix, where none is of it, is put in its place
pub inserted : (p : List ℕ) (t : LsmTreeState) (ss : List Prefixed) → segment_at p ss ≡ None → insert ss (place_of p ss) (made p t) ≡ placed p t ss
inserted p t [] n = refl
inserted p t (s ∷ ss) n = by (λ h. inserted p t ss h) (key_lt s.prefix p) (bytes_eq s.prefix p) n
  where
    by : (segment_at p ss ≡ None → insert ss (place_of p ss) (made p t) ≡ placed p t ss) → (b q : Bool) → (if q then Some s else segment_at p ss) ≡ None → insert (s ∷ ss) (if b then 1 + place_of p ss else 0) (made p t) ≡ (if b then s ∷ placed p t ss else made p t ∷ (if q then ss else s ∷ ss))
    by more b true m = absurd cc
    by more true false m = sym (ap (λ i. insert (s ∷ ss) i (made p t)) (one_more (place_of p ss))) ∙ ap (λ (r : List Prefixed). s ∷ r) (more m)
    by more false false m = refl

-- the tree put at a prefix is the tree at its place
pub placed_there : (p : List ℕ) (t : LsmTreeState) (ss : List Prefixed) → tree_at (place_of p ss) (placed p t ss) ≡ Some t
placed_there p t [] = refl
placed_there p t (s ∷ ss) = by (placed_there p t ss) (key_lt s.prefix p)
  where
    by : tree_at (place_of p ss) (placed p t ss) ≡ Some t → (b : Bool) → tree_at (if b then 1 + place_of p ss else 0) (if b then s ∷ placed p t ss else made p t ∷ (if bytes_eq s.prefix p then ss else s ∷ ss)) ≡ Some t
    by more true = sym (ap (λ i. tree_at i (s ∷ placed p t ss)) (one_more (place_of p ss))) ∙ more
    by more false = refl

-- another tree at that place is the other tree put at the prefix
pub placed_again : (p : List ℕ) (t w : LsmTreeState) (ss : List Prefixed) → with_tree_at (place_of p ss) (placed p t ss) w ≡ placed p w ss
placed_again p t w [] = refl
placed_again p t w (s ∷ ss) = by (placed_again p t w ss) (key_lt s.prefix p)
  where
    by : with_tree_at (place_of p ss) (placed p t ss) w ≡ placed p w ss → (b : Bool) → with_tree_at (if b then 1 + place_of p ss else 0) (if b then s ∷ placed p t ss else made p t ∷ (if bytes_eq s.prefix p then ss else s ∷ ss)) w ≡ (if b then s ∷ placed p w ss else made p w ∷ (if bytes_eq s.prefix p then ss else s ∷ ss))
    by more true = sym (ap (λ i. with_tree_at i (s ∷ placed p t ss) w) (one_more (place_of p ss))) ∙ ap (λ (r : List Prefixed). s ∷ r) more
    by more false = refl

-- the place of a prefix is among the segments with it
pub placed_within : (p : List ℕ) (t : LsmTreeState) (ss : List Prefixed) → place_of p ss < length (placed p t ss)
placed_within p t [] = omega arith
placed_within p t (s ∷ ss) = by (placed_within p t ss) (key_lt s.prefix p)
  where
    by : place_of p ss < length (placed p t ss) → (b : Bool) → (if b then 1 + place_of p ss else 0) < length (if b then s ∷ placed p t ss else made p t ∷ (if bytes_eq s.prefix p then ss else s ∷ ss))
    by more true = omega (arith, more)
    by more false = omega arith

pub place_within : (p : List ℕ) (ss : List Prefixed) → place_of p ss ≤ length ss
place_within p [] = omega arith
place_within p (s ∷ ss) = by (place_within p ss) (key_lt s.prefix p)
  where
    by : place_of p ss ≤ length ss → (b : Bool) → (if b then 1 + place_of p ss else 0) ≤ length (s ∷ ss)
    by more true = omega (arith, more)
    by more false = omega arith

some_there : (s : Prefixed) (ss : List Prefixed) (p : List ℕ) (t : LsmTreeState) → bytes_eq s.prefix p ≡ true → option_map (λ x. x.tree) (if bytes_eq s.prefix p then Some s else segment_at p ss) ≡ Some t → s ≡ made p t
some_there s ss p t q h =
    let same : s.prefix ≡ p = (bytes_eq-Decides s.prefix p).0 q in
    let tree : Some s.tree ≡ Some t = sym (ap (λ b. option_map (λ x. x.tree) (if b then Some s else segment_at p ss)) q) ∙ h in
    let there : s.tree ≡ t = cc in
    rw (← same, ← there) refl

-- a prefix that has a segment keeps all as it is with the tree that it has
pub placed_same : (p last : List ℕ) (t : LsmTreeState) (ss : List Prefixed) → ascend_from last ss ≡ true → tree_in p ss ≡ Some t → placed p t ss ≡ ss
placed_same p last t [] a h = absurd cc
placed_same p last t (s ∷ ss) a h = by (λ k m. placed_same p s.prefix t ss k m) (key_lt s.prefix p) (bytes_eq s.prefix p) refl refl
  where
    rest : ascend_from s.prefix ss ≡ true
    rest = (and_parts (key_lt last s.prefix) (ascend_from s.prefix ss) a).1

    later : bytes_eq s.prefix p ≡ false → tree_in p ss ≡ Some t
    later f = sym (ap (λ b. option_map (λ x. x.tree) (if b then Some s else segment_at p ss)) f) ∙ h

    by : (ascend_from s.prefix ss ≡ true → tree_in p ss ≡ Some t → placed p t ss ≡ ss) → (b q : Bool) → key_lt s.prefix p ≡ b → bytes_eq s.prefix p ≡ q → (if b then s ∷ placed p t ss else made p t ∷ (if q then ss else s ∷ ss)) ≡ s ∷ ss
    by more true true e f = absurd (clash (key_lt p p) (sym (ap (λ k. key_lt k p) ((bytes_eq-Decides s.prefix p).0 f)) ∙ e) (not_before_itself p))
    by more true false e f = ap (λ (r : List Prefixed). s ∷ r) (more rest (later f))
    by more false true e f = ap (λ (x : Prefixed). x ∷ ss) (sym (some_there s ss p t f h))
    by more false false e f = absurd (let n : None ≡ Some t = sym (ap (option_map (λ x. x.tree)) (none_above p s.prefix ss rest e)) ∙ later f in cc)

-- the order of prefixes doesn't read trees
pub with_tree_ascends : (last : List ℕ) (i : ℕ) (w : LsmTreeState) (ss : List Prefixed) → ascend_from last (with_tree_at i ss w) ≡ ascend_from last ss
with_tree_ascends last i w [] = refl
with_tree_ascends last zero w (s ∷ ss) = refl
with_tree_ascends last (suc i) w (s ∷ ss) = ap (λ b. key_lt last s.prefix && b) (with_tree_ascends s.prefix i w ss)

-- a segment of another tree, written at its place
pub written : (i : ℕ) (w : LsmTreeState) (ss : List Prefixed) (d : Prefixed) → slice_set ss i (made (get_or ss i d).prefix w) ≡ with_tree_at i ss w
written i w [] d = refl
written zero w (s ∷ ss) d = refl
written (suc i) w (s ∷ ss) d = ap (λ (r : List Prefixed). s ∷ r) (written i w ss d)

pub tree_there : (i : ℕ) (ss : List Prefixed) (d : Prefixed) → i < length ss → tree_at i ss ≡ Some (get_or ss i d).tree
tree_there i [] d l = absurd (omega arith)
tree_there zero (s ∷ ss) d l = refl
tree_there (suc i) (s ∷ ss) d l = tree_there i ss d (omega arith)

-- the same of what was read there
pub rewritten : (i : ℕ) (x : Prefixed) (w : LsmTreeState) (ss ts : List Prefixed) → x ≡ get_or ss i x → ss ≡ ts → slice_set ss i (made x.prefix w) ≡ with_tree_at i ts w
rewritten i x w ss ts e same = ap (λ (y : Prefixed). slice_set ss i (made y.prefix w)) e ∙ written i w ss x ∙ ap (λ (l : List Prefixed). with_tree_at i l w) same

pub still_ascends : (i : ℕ) (x : Prefixed) (w : LsmTreeState) (ss : List Prefixed) → x ≡ get_or ss i x → ascend_from [] ss ≡ true → ascend_from [] (slice_set ss i (made x.prefix w)) ≡ true
still_ascends i x w ss e a = ap (ascend_from []) (rewritten i x w ss ss e refl) ∙ with_tree_ascends [] i w ss ∙ a

pub read_there : (i : ℕ) (x : Prefixed) (ss ts : List Prefixed) → x ≡ get_or ss i x → ss ≡ ts → i < length ts → Some x.tree ≡ tree_at i ts
read_there i x ss ts e same l = ap (λ (y : Prefixed). Some y.tree) (e ∙ ap (λ (l : List Prefixed). get_or l i x) same) ∙ sym (tree_there i ts x l)

-- a prefix that isn't empty stands above the empty one
pub first_stands_above : (p : List ℕ) → 0 < length p → key_lt [] p ≡ true
first_stands_above [] l = absurd (omega arith)
first_stands_above (b ∷ p) l = refl

-- a segment without tables, inserted at the place of its prefix
pub filled : (p : List ℕ) (x : Prefixed) (i : ℕ) (ss ts : List Prefixed) → x ≡ made p empty_tree → i ≡ place_of p ts → ss ≡ ts → segment_at p ts ≡ None → insert ss i x ≡ placed p empty_tree ts
filled p x i ss ts e f same n = rw (e, f, same) (inserted p empty_tree ts n)

pub filled_ascends : (p : List ℕ) (x : Prefixed) (i : ℕ) (ss ts : List Prefixed) → x ≡ made p empty_tree → i ≡ place_of p ts → ss ≡ ts → segment_at p ts ≡ None → 0 < length p → ascend_from [] ss ≡ true → ascend_from [] (insert ss i x) ≡ true
filled_ascends p x i ss ts e f same n l a = ap (ascend_from []) (filled p x i ss ts e f same n) ∙ placed_ascends p [] empty_tree ts (first_stands_above p l) (sym (ap (ascend_from []) same) ∙ a)

pub fits : (p : List ℕ) (i n : ℕ) (ss ts : List Prefixed) → i ≡ place_of p ts → ss ≡ ts → n ≡ length ss → i ≤ n
fits p i n ss ts e same l = rw (e, l, same) (place_within p ts)

-- what is put at a prefix's place in segments that have its tree there
pub lent_back : (p : List ℕ) (t w : LsmTreeState) (i : ℕ) (ss ts : List Prefixed) → i ≡ place_of p ss → ts ≡ placed p t ss → with_tree_at i ts w ≡ placed p w ss
lent_back p t w i ss ts e f = rw (e, f) (placed_again p t w ss)

pub lent_within : (p : List ℕ) (t : LsmTreeState) (i : ℕ) (ss ts : List Prefixed) → i ≡ place_of p ss → ts ≡ placed p t ss → i < length ts
lent_within p t i ss ts e f = rw (e, f) (placed_within p t ss)

pub lent_tree : (p : List ℕ) (t r : LsmTreeState) (i : ℕ) (ss ts : List Prefixed) → i ≡ place_of p ss → ts ≡ placed p t ss → Some r ≡ tree_at i ts → r ≡ t
lent_tree p t r i ss ts e f h = let there : Some r ≡ Some t = h ∙ rw (e, f) (placed_there p t ss) in cc

-- segments that have a tree of the prefix
pub had : (p : List ℕ) (ss : List Prefixed) → ascend_from [] ss ≡ true → is_some (segment_at p ss) ≡ true → ss ≡ placed p (or_empty (tree_in p ss)) ss
had p ss a h = by (segment_at p ss) refl h
  where
    by : (o : Option Prefixed) → segment_at p ss ≡ o → is_some o ≡ true → ss ≡ placed p (or_empty (tree_in p ss)) ss
    by None e k = absurd cc
    by (Some s) e k = rw e (sym (placed_same p [] s.tree ss a (ap (option_map (λ x. x.tree)) e)))
