-- Segments whose prefixes ascend: what stands above a prefix, and what is found at one.
use Rattle.std.specs.Prelude.{ℕ, Bool, true, false, ◌&&◌, List, [], ◌∷◌, map, filter, Some, None, bytes_eq, if◌then◌else◌}
use Rattle.std.proofs.Common.{◌≡◌, refl, sym, ap, ◌∙◌}
use Rattle.std.proofs.lemmas.Bool.{and_parts, false_from_ne_true}
use Rattle.std.proofs.lemmas.Slice.Eq.{bytes_eq-Decides}
use Rattle.std.specs.Ordering.{nat_cmp, is_le, is_lt}
use Rattle.std.specs.Cmp.Lexicographic.{slice_cmp}
use Rattle.std.specs.declared.cmp.Ordering.TheVariants.{Equal, Greater}
use Rattle.slate_ids.specs.Keys.{key_lt, key_le}
use Rattle.slate_ids.proofs.KeyOrder.{le_lt_trans, lt_le, one_way, chained, not_before_itself, other_way, not_le, same_key}
use Rattle.slate_model.specs.declared.lsm_tree_state.LsmTreeState.{LsmTreeState}
use Rattle.slate_model.specs.Segments.{Prefixed, ascend_from, segment_at}
use Rattle.slate_model.specs.Insertion.{placed}
use Rattle.slate_state_merges.specs.SegmentMerging.{Ascends, merged_with}
use Rattle.slate_state_merges.specs.SideBySide.{stands_first}

-- ---- keys

pub greater : (a b : List ℕ) → slice_cmp nat_cmp a b ≡ Greater → key_lt b a ≡ true
greater a b e = not_le a b (ap is_le e)

pub equal : (a b : List ℕ) → slice_cmp nat_cmp a b ≡ Equal → a ≡ b
equal a b e = same_key a b (ap is_le e) (ap is_lt e)

clash : (b : Bool) → b ≡ true → b ≡ false → ⊥
clash b t f = let e : true ≡ false = sym t ∙ f in cc

and_from : (a b : Bool) → a ≡ true → b ≡ true → (a && b) ≡ true
and_from a b h k = ap (λ x. x && b) h ∙ k

-- a key is itself
pub same_bytes : (k : List ℕ) → bytes_eq k k ≡ true
same_bytes k = (bytes_eq-Decides k k).1 refl

-- a key that stands before another isn't it
pub is_lower : (k p : List ℕ) → key_lt k p ≡ true → bytes_eq k p ≡ false
is_lower k p h = false_from_ne_true (bytes_eq k p) (λ e. clash (key_lt k p) h (ap (key_lt k) (sym ((bytes_eq-Decides k p).0 e)) ∙ not_before_itself k))

-- nor is one that stands after it
pub is_higher : (k p : List ℕ) → key_lt p k ≡ true → bytes_eq k p ≡ false
is_higher k p h = false_from_ne_true (bytes_eq k p) (λ e. clash (key_lt p k) h (ap (λ (x : List ℕ). key_lt p x) ((bytes_eq-Decides k p).0 e) ∙ not_before_itself p))

-- ---- ascents

-- what ascends from above a key does so from above a lower one
pub from_below : (low last : List ℕ) (ss : List Prefixed) → key_lt low last ≡ true → ascend_from last ss ≡ true → ascend_from low ss ≡ true
from_below low last [] l a = refl
from_below low last (s ∷ ss) l a = let parts = and_parts (key_lt last s.prefix) (ascend_from s.prefix ss) a in and_from (key_lt low s.prefix) (ascend_from s.prefix ss) (chained low last s.prefix l parts.0) parts.1

-- the others ascend by themselves
pub others_ascend : (last : List ℕ) (ss : List Prefixed) → ascend_from last ss ≡ true → Ascends ss
others_ascend last [] a = refl
others_ascend last (s ∷ ss) a = (and_parts (key_lt last s.prefix) (ascend_from s.prefix ss) a).1

-- a segment that stands before the first of others that ascend stands before all of them
pub before_all : (s : Prefixed) (ss : List Prefixed) → stands_first s ss ≡ true → Ascends ss → ascend_from s.prefix ss ≡ true
before_all s [] h a = refl
before_all s (t ∷ ss) h a = and_from (key_lt s.prefix t.prefix) (ascend_from t.prefix ss) h a

-- nothing above a key is found at it
pub none_at : (p last : List ℕ) (ss : List Prefixed) → key_le p last ≡ true → ascend_from last ss ≡ true → segment_at p ss ≡ None
none_at p last [] l a = refl
none_at p last (s ∷ ss) l a =
    let parts = and_parts (key_lt last s.prefix) (ascend_from s.prefix ss) a in
    let up : key_lt p s.prefix ≡ true = le_lt_trans p last s.prefix l parts.0 in
    ap (λ b. if b then Some s else segment_at p ss) (is_higher s.prefix p up) ∙ none_at p s.prefix ss (lt_le p s.prefix up) parts.1

-- a segment of another prefix is passed
pub passed : (p : List ℕ) (s : Prefixed) (ss : List Prefixed) → bytes_eq s.prefix p ≡ false → segment_at p (s ∷ ss) ≡ segment_at p ss
passed p s ss h = ap (λ b. if b then Some s else segment_at p ss) h

-- and one of the prefix is found
pub found : (p : List ℕ) (s : Prefixed) (ss : List Prefixed) → s.prefix ≡ p → segment_at p (s ∷ ss) ≡ Some s
found p s ss h = ap (λ b. if b then Some s else segment_at p ss) ((bytes_eq-Decides s.prefix p).1 h)

-- ---- a tree put in its place

made : List ℕ → LsmTreeState → Prefixed
made p t = record { prefix = p; tree = t }

-- above a lower key all still ascends
pub placed_ascends : (p last : List ℕ) (t : LsmTreeState) (ss : List Prefixed) → key_lt last p ≡ true → ascend_from last ss ≡ true → ascend_from last (placed p t ss) ≡ true
placed_ascends p last t [] l a = and_from (key_lt last p) true l refl
placed_ascends p last t (s ∷ ss) l a = by (λ h k. placed_ascends p s.prefix t ss h k) (key_lt s.prefix p) (bytes_eq s.prefix p) refl refl
  where
    parts : (key_lt last s.prefix ≡ true) × (ascend_from s.prefix ss ≡ true)
    parts = and_parts (key_lt last s.prefix) (ascend_from s.prefix ss) a

    by : (key_lt s.prefix p ≡ true → ascend_from s.prefix ss ≡ true → ascend_from s.prefix (placed p t ss) ≡ true) → (b q : Bool) → key_lt s.prefix p ≡ b → bytes_eq s.prefix p ≡ q → ascend_from last (if b then s ∷ placed p t ss else record { prefix = p; tree = t } ∷ (if q then ss else s ∷ ss)) ≡ true
    by more true q e f = and_from (key_lt last s.prefix) (ascend_from s.prefix (placed p t ss)) parts.0 (more e parts.1)
    by more false true e f = and_from (key_lt last p) (ascend_from p ss) l (ap (λ (k : List ℕ). ascend_from k ss) (sym ((bytes_eq-Decides s.prefix p).0 f)) ∙ parts.1)
    by more false false e f = and_from (key_lt last p) (ascend_from p (s ∷ ss)) l (and_from (key_lt p s.prefix) (ascend_from s.prefix ss) (other_way s.prefix p e f) parts.1)

-- by themselves too
pub placed_ascend : (p : List ℕ) (t : LsmTreeState) (ss : List Prefixed) → Ascends ss → Ascends (placed p t ss)
placed_ascend p t [] a = refl
placed_ascend p t (s ∷ ss) a = by (key_lt s.prefix p) (bytes_eq s.prefix p) refl refl
  where
    by : (b q : Bool) → key_lt s.prefix p ≡ b → bytes_eq s.prefix p ≡ q → Ascends (if b then s ∷ placed p t ss else record { prefix = p; tree = t } ∷ (if q then ss else s ∷ ss))
    by true q e f = placed_ascends p s.prefix t ss e a
    by false true e f = ap (λ (k : List ℕ). ascend_from k ss) (sym ((bytes_eq-Decides s.prefix p).0 f)) ∙ a
    by false false e f = and_from (key_lt p s.prefix) (ascend_from s.prefix ss) (other_way s.prefix p e f) a

-- before segments that stand above its prefix it comes first
pub placed_first : (p : List ℕ) (t : LsmTreeState) (ss : List Prefixed) → ascend_from p ss ≡ true → placed p t ss ≡ record { prefix = p; tree = t } ∷ ss
placed_first p t [] a = refl
placed_first p t (s ∷ ss) a =
    let up : key_lt p s.prefix ≡ true = (and_parts (key_lt p s.prefix) (ascend_from s.prefix ss) a).0 in
    ap (λ b. if b then s ∷ placed p t ss else record { prefix = p; tree = t } ∷ (if bytes_eq s.prefix p then ss else s ∷ ss)) (one_way p s.prefix up)
    ∙ ap (λ b. record { prefix = p; tree = t } ∷ (if b then ss else s ∷ ss)) (is_higher s.prefix p up)

-- after a segment that stands below its prefix it is put among the others
pub placed_after : (p : List ℕ) (t : LsmTreeState) (s : Prefixed) (ss : List Prefixed) → key_lt s.prefix p ≡ true → placed p t (s ∷ ss) ≡ s ∷ placed p t ss
placed_after p t s ss h = ap (λ b. if b then s ∷ placed p t ss else record { prefix = p; tree = t } ∷ (if bytes_eq s.prefix p then ss else s ∷ ss)) h

-- in place of the tree of its own prefix
pub placed_here : (p : List ℕ) (t : LsmTreeState) (s : Prefixed) (ss : List Prefixed) → s.prefix ≡ p → placed p t (s ∷ ss) ≡ record { prefix = p; tree = t } ∷ ss
placed_here p t s ss h =
    ap (λ b. if b then s ∷ placed p t ss else record { prefix = p; tree = t } ∷ (if bytes_eq s.prefix p then ss else s ∷ ss)) (ap (λ (k : List ℕ). key_lt k p) h ∙ not_before_itself p)
    ∙ ap (λ b. record { prefix = p; tree = t } ∷ (if b then ss else s ∷ ss)) ((bytes_eq-Decides s.prefix p).1 h)

-- ---- segments with other trees, and some of them

-- with merged trees all still ascends
pub merged_ascends : (c : List Prefixed) (last : List ℕ) (ss : List Prefixed) → ascend_from last ss ≡ true → ascend_from last (map (merged_with c) ss) ≡ true
merged_ascends c last [] a = refl
merged_ascends c last (s ∷ ss) a = let parts = and_parts (key_lt last s.prefix) (ascend_from s.prefix ss) a in and_from (key_lt last s.prefix) (ascend_from s.prefix (map (merged_with c) ss)) parts.0 (merged_ascends c s.prefix ss parts.1)

pub merged_ascend : (c : List Prefixed) (ss : List Prefixed) → Ascends ss → Ascends (map (merged_with c) ss)
merged_ascend c [] a = refl
merged_ascend c (s ∷ ss) a = merged_ascends c s.prefix ss a

-- some of them too
pub some_ascends : (test : Prefixed → Bool) (last : List ℕ) (ss : List Prefixed) → ascend_from last ss ≡ true → ascend_from last (filter test ss) ≡ true
some_ascends test last [] a = refl
some_ascends test last (s ∷ ss) a = by (λ low h. some_ascends test low ss h) (test s)
  where
    parts : (key_lt last s.prefix ≡ true) × (ascend_from s.prefix ss ≡ true)
    parts = and_parts (key_lt last s.prefix) (ascend_from s.prefix ss) a

    by : ((low : List ℕ) → ascend_from low ss ≡ true → ascend_from low (filter test ss) ≡ true) → (b : Bool) → ascend_from last (if b then s ∷ filter test ss else filter test ss) ≡ true
    by more true = and_from (key_lt last s.prefix) (ascend_from s.prefix (filter test ss)) parts.0 (more s.prefix parts.1)
    by more false = more last (from_below last s.prefix ss parts.0 parts.1)

pub some_ascend : (test : Prefixed → Bool) (ss : List Prefixed) → Ascends ss → Ascends (filter test ss)
some_ascend test [] a = refl
some_ascend test (s ∷ ss) a = by (test s)
  where
    by : (b : Bool) → Ascends (if b then s ∷ filter test ss else filter test ss)
    by true = some_ascends test s.prefix ss a
    by false = others_ascend s.prefix (filter test ss) (some_ascends test s.prefix ss a)
