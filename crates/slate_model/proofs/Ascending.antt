-- Segments that ascend: those before a prefix stand first, and the one of the prefix right after them.
use Rattle.std.specs.Prelude.{ℕ, ◌+◌, Bool, true, false, ◌&&◌, ◌<◌, ◌≤◌, List, [], ◌∷◌, length, get_or, slice_get, Some, None, bytes_eq, if◌then◌else◌}
use Rattle.std.specs.List.Sorted.{IsPartitionedBy, IsPartitionPoint}
use Rattle.std.proofs.Common.{◌≡◌, zero, suc, refl, sym, ◌∙◌, ap, arith}
use Rattle.std.proofs.lemmas.Bool.{and_parts, false_from_ne_true}
use Rattle.std.proofs.lemmas.List.Sums.{prefix_len_is}
use Rattle.std.proofs.lemmas.Slice.Eq.{bytes_eq-Decides}
use Rattle.slate_ids.specs.Keys.{key_lt}
use Rattle.slate_ids.proofs.KeyOrder.{order, one_way, chained, not_before_itself}
use Rattle.slate_model.specs.Cores.{empty_tree}
use Rattle.slate_model.specs.Segments.{Prefixed, ascend_from, exactly, segment_at, place_of}

pub clash : (b : Bool) → b ≡ true → b ≡ false → ⊥
clash b t f = let e : true ≡ false = sym t ∙ f in cc

-- what stands above one that isn't below a key isn't either
stays_above : (last next p : List ℕ) → key_lt last next ≡ true → key_lt last p ≡ false → key_lt next p ≡ false
stays_above last next p h l = order.chain next last p (one_way last next h) l

-- what stands above one that isn't below a key isn't the key
is_other : (last next p : List ℕ) → key_lt last next ≡ true → key_lt last p ≡ false → bytes_eq next p ≡ false
is_other last next p h l = false_from_ne_true (bytes_eq next p) (λ e. clash (key_lt last p) (sym (ap (key_lt last) ((bytes_eq-Decides next p).0 e)) ∙ h) l)

-- what stands below a key isn't the key
is_lower : (k p : List ℕ) → key_lt k p ≡ true → bytes_eq k p ≡ false
is_lower k p h = false_from_ne_true (bytes_eq k p) (λ e. let same : k ≡ p = (bytes_eq-Decides k p).0 e in let here : key_lt p p ≡ true = sym (ap (λ x. key_lt x p) same) ∙ h in clash (key_lt p p) here (not_before_itself p))

-- whether a segment stands before a key
abbrev pub before : List ℕ → Prefixed → Bool
before p s = key_lt s.prefix p

above : (p last : List ℕ) (ss : List Prefixed) → ascend_from last ss ≡ true → (j : ℕ) (d : Prefixed) → j < length ss → before p (get_or ss j d) ≡ true → key_lt last p ≡ true
above p last [] a j d h e = absurd (omega arith)
above p last (s ∷ ss) a zero d h e = chained last s.prefix p (and_parts (key_lt last s.prefix) (ascend_from s.prefix ss) a).0 e
above p last (s ∷ ss) a (suc j) d h e = let parts : (key_lt last s.prefix ≡ true) × (ascend_from s.prefix ss ≡ true) = and_parts (key_lt last s.prefix) (ascend_from s.prefix ss) a in chained last s.prefix p parts.0 (above p s.prefix ss parts.1 j d (omega arith) e)

pub parted : (p last : List ℕ) (ss : List Prefixed) → ascend_from last ss ≡ true → IsPartitionedBy (before p) ss
parted p last [] a i j d o h e = absurd (omega arith)
parted p last (s ∷ ss) a zero zero d o h e = e
parted p last (s ∷ ss) a zero (suc j) d o h e = above p s.prefix ss (and_parts (key_lt last s.prefix) (ascend_from s.prefix ss) a).1 j d (omega arith) e
parted p last (s ∷ ss) a (suc i) zero d o h e = absurd (omega arith)
parted p last (s ∷ ss) a (suc i) (suc j) d o h e = parted p s.prefix ss (and_parts (key_lt last s.prefix) (ascend_from s.prefix ss) a).1 i j d (omega arith) (omega arith) e

-- a segment to ask lists with
pub someone : Prefixed
someone = record { prefix = []; tree = empty_tree }

-- where a search ends is the place
pub place_is : (p : List ℕ) (ss : List Prefixed) (i : ℕ) → i ≤ length ss → IsPartitionPoint (λ s. before p s ≡ true) (λ s. before p s ≡ false) ss i → i ≡ place_of p ss
place_is p ss i h point = sym (prefix_len_is (before p) ss i someone h (λ k l. point.0 k someone (omega arith) l) (λ l. point.1 i someone (omega arith) l))

-- none of the segments above one that isn't below a key is of the key
pub none_above : (p last : List ℕ) (ss : List Prefixed) → ascend_from last ss ≡ true → key_lt last p ≡ false → segment_at p ss ≡ None
none_above p last [] a l = refl
none_above p last (s ∷ ss) a l =
    let parts : (key_lt last s.prefix ≡ true) × (ascend_from s.prefix ss ≡ true) = and_parts (key_lt last s.prefix) (ascend_from s.prefix ss) a in
    ap (λ b. if b then Some s else segment_at p ss) (is_other last s.prefix p parts.0 l) ∙ none_above p s.prefix ss parts.1 (stays_above last s.prefix p parts.0 l)

pub one_more : (n : ℕ) → suc n ≡ 1 + n
one_more n = omega arith

pub found : (p last : List ℕ) (ss : List Prefixed) → ascend_from last ss ≡ true → segment_at p ss ≡ exactly p (slice_get ss (place_of p ss))
found p last [] a = refl
found p last (s ∷ ss) a = by (key_lt s.prefix p) refl (found p s.prefix ss rest)
  where
    rest : ascend_from s.prefix ss ≡ true
    rest = (and_parts (key_lt last s.prefix) (ascend_from s.prefix ss) a).1

    by : (b : Bool) → key_lt s.prefix p ≡ b → segment_at p ss ≡ exactly p (slice_get ss (place_of p ss)) → segment_at p (s ∷ ss) ≡ exactly p (slice_get (s ∷ ss) (if b then 1 + place_of p ss else 0))
    by true e later = ap (λ b. if b then Some s else segment_at p ss) (is_lower s.prefix p e) ∙ later ∙ ap (λ i. exactly p (slice_get (s ∷ ss) i)) (one_more (place_of p ss))
    by false e later = ap (λ o. if bytes_eq s.prefix p then Some s else o) (none_above p s.prefix ss rest e)
