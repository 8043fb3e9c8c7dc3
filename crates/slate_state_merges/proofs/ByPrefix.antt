-- What a writer's merge of a compactor's segments has at each prefix.
use Rattle.std.specs.Prelude.{ℕ, Bool, true, false, List, [], ◌∷◌, map, filter, Option, Some, None, bytes_eq, if◌then◌else◌}
use Rattle.std.proofs.Common.{◌≡◌, refl, sym, ap, ◌∙◌}
use Rattle.std.specs.Option.{option_map}
use Rattle.std.proofs.lemmas.Slice.Eq.{bytes_eq-Decides}
use Rattle.slate_ids.specs.Keys.{key_lt}
use Rattle.slate_ids.proofs.KeyOrder.{le_refl}
use Rattle.slate_model.specs.declared.lsm_tree_state.LsmTreeState.{LsmTreeState}
use Rattle.slate_model.specs.Segments.{Prefixed, segment_at}
use Rattle.slate_model.specs.Insertion.{tree_in, or_empty, placed}
use Rattle.slate_model.specs.Cores.{empty_tree}
use Rattle.slate_state_merges.specs.Merging.{merged}
use Rattle.slate_state_merges.specs.SegmentMerging.{Ascends, holds_tables, merged_with, with_prefixes, from_compactor, kept_tree, IsMergeByPrefix}
use Rattle.slate_state_merges.proofs.Ascents.{none_at, is_lower, merged_ascend, passed, found, others_ascend}
use Rattle.slate_state_merges.proofs.CompactorTurns.{with_prefixes_ascend}

-- the tree of a segment, where its prefix is this one, and else another
abbrev here_or : (b : Bool) → LsmTreeState → Option LsmTreeState → Option LsmTreeState
here_or b tree other = if b then Some tree else other

tree_step : (p : List ℕ) (s : Prefixed) (ss : List Prefixed) → tree_in p (s ∷ ss) ≡ here_or (bytes_eq s.prefix p) s.tree (tree_in p ss)
tree_step p s ss = by (bytes_eq s.prefix p)
  where
    by : (b : Bool) → option_map (λ x. x.tree) (if b then Some s else segment_at p ss) ≡ here_or b s.tree (tree_in p ss)
    by true = refl
    by false = refl

-- at its own prefix stands the tree that was put there
placed_at : (p : List ℕ) (t : LsmTreeState) (ss : List Prefixed) → tree_in p (placed p t ss) ≡ Some t
placed_at p t [] = ap (λ (o : Option Prefixed). option_map (λ x. x.tree) o) (found p (record { prefix = p; tree = t }) [] refl)
placed_at p t (s ∷ ss) = by (placed_at p t ss) (key_lt s.prefix p) refl
  where
    here : (r : List Prefixed) → tree_in p (record { prefix = p; tree = t } ∷ r) ≡ Some t
    here r = ap (λ (o : Option Prefixed). option_map (λ x. x.tree) o) (found p (record { prefix = p; tree = t }) r refl)

    by : tree_in p (placed p t ss) ≡ Some t → (b : Bool) → key_lt s.prefix p ≡ b → tree_in p (if b then s ∷ placed p t ss else record { prefix = p; tree = t } ∷ (if bytes_eq s.prefix p then ss else s ∷ ss)) ≡ Some t
    by more true e = ap (λ (o : Option Prefixed). option_map (λ x. x.tree) o) (passed p s (placed p t ss) (is_lower s.prefix p e)) ∙ more
    by more false e = here (if bytes_eq s.prefix p then ss else s ∷ ss)

-- and at others what stood there
placed_elsewhere : (q p : List ℕ) (t : LsmTreeState) (ss : List Prefixed) → bytes_eq p q ≡ false → tree_in q (placed p t ss) ≡ tree_in q ss
placed_elsewhere q p t [] n = ap (λ (o : Option Prefixed). option_map (λ x. x.tree) o) (passed q (record { prefix = p; tree = t }) [] n)
placed_elsewhere q p t (s ∷ ss) n = by (placed_elsewhere q p t ss n) (key_lt s.prefix p) (bytes_eq s.prefix p) refl
  where
    past : (r : List Prefixed) → tree_in q (record { prefix = p; tree = t } ∷ r) ≡ tree_in q r
    past r = ap (λ (o : Option Prefixed). option_map (λ x. x.tree) o) (passed q (record { prefix = p; tree = t }) r n)

    by : tree_in q (placed p t ss) ≡ tree_in q ss → (b e : Bool) → bytes_eq s.prefix p ≡ e → tree_in q (if b then s ∷ placed p t ss else record { prefix = p; tree = t } ∷ (if e then ss else s ∷ ss)) ≡ tree_in q (s ∷ ss)
    by more true e f = tree_step q s (placed p t ss) ∙ ap (here_or (bytes_eq s.prefix q) s.tree) more ∙ sym (tree_step q s ss)
    by more false true f =
        let other : bytes_eq s.prefix q ≡ false = ap (λ (k : List ℕ). bytes_eq k q) ((bytes_eq-Decides s.prefix p).0 f) ∙ n in
        past ss ∙ sym (ap (λ (o : Option Prefixed). option_map (λ x. x.tree) o) (passed q s ss other))
    by more false false f = past (s ∷ ss)

-- with the prefixes of others, a segment of a prefix stands where either side has one: with the tree that was there, or without tables
abbrev either : Option LsmTreeState → Option LsmTreeState → Option LsmTreeState
either (Some tree) other = Some tree
either None (Some other) = Some empty_tree
either None None = None

either_here : (o : Option LsmTreeState) (t : LsmTreeState) → Some (or_empty o) ≡ either o (Some t)
either_here (Some tree) t = refl
either_here None t = refl

with_prefixes_at : (p : List ℕ) (cs ss : List Prefixed) → tree_in p (with_prefixes cs ss) ≡ either (tree_in p ss) (tree_in p cs)
with_prefixes_at p [] ss = by (tree_in p ss)
  where
    by : (o : Option LsmTreeState) → o ≡ either o None
    by (Some tree) = refl
    by None = refl
with_prefixes_at p (t ∷ cs) ss = by (with_prefixes_at p cs ss) (bytes_eq t.prefix p) refl
  where
    rest : List Prefixed
    rest = with_prefixes cs ss

    by : tree_in p (with_prefixes cs ss) ≡ either (tree_in p ss) (tree_in p cs) → (b : Bool) → bytes_eq t.prefix p ≡ b → tree_in p (with_prefixes (t ∷ cs) ss) ≡ either (tree_in p ss) (tree_in p (t ∷ cs))
    by more true e =
        let same : t.prefix ≡ p = (bytes_eq-Decides t.prefix p).0 e in
        ap (λ (k : List ℕ). tree_in p (placed k (or_empty (tree_in k ss)) (with_prefixes cs ss))) same
        ∙ placed_at p (or_empty (tree_in p ss)) (with_prefixes cs ss)
        ∙ either_here (tree_in p ss) t.tree
        ∙ ap (either (tree_in p ss)) (sym (tree_step p t cs ∙ ap (λ b. here_or b t.tree (tree_in p cs)) e))
    by more false e =
        placed_elsewhere p t.prefix (or_empty (tree_in t.prefix ss)) (with_prefixes cs ss) e
        ∙ more
        ∙ ap (either (tree_in p ss)) (sym (tree_step p t cs ∙ ap (λ b. here_or b t.tree (tree_in p cs)) e))

-- the merges of segments, at a prefix
merged_at : (p : List ℕ) (c ss : List Prefixed) → tree_in p (map (merged_with c) ss) ≡ option_map (λ t. merged t (or_empty (tree_in p c))) (tree_in p ss)
merged_at p c [] = refl
merged_at p c (s ∷ ss) = by (merged_at p c ss) (bytes_eq s.prefix p) refl
  where
    by : tree_in p (map (merged_with c) ss) ≡ option_map (λ t. merged t (or_empty (tree_in p c))) (tree_in p ss) → (b : Bool) → bytes_eq s.prefix p ≡ b → tree_in p (merged_with c s ∷ map (merged_with c) ss) ≡ option_map (λ t. merged t (or_empty (tree_in p c))) (tree_in p (s ∷ ss))
    by more true e =
        tree_step p (merged_with c s) (map (merged_with c) ss)
        ∙ ap (λ b. here_or b (merged s.tree (or_empty (tree_in s.prefix c))) (tree_in p (map (merged_with c) ss))) e
        ∙ ap (λ (k : List ℕ). Some (merged s.tree (or_empty (tree_in k c)))) ((bytes_eq-Decides s.prefix p).0 e)
        ∙ ap (option_map (λ t. merged t (or_empty (tree_in p c)))) (sym (tree_step p s ss ∙ ap (λ b. here_or b s.tree (tree_in p ss)) e))
    by more false e =
        tree_step p (merged_with c s) (map (merged_with c) ss)
        ∙ ap (λ b. here_or b (merged s.tree (or_empty (tree_in s.prefix c))) (tree_in p (map (merged_with c) ss))) e
        ∙ more
        ∙ ap (option_map (λ t. merged t (or_empty (tree_in p c)))) (sym (tree_step p s ss ∙ ap (λ b. here_or b s.tree (tree_in p ss)) e))

-- a tree that is there, where it holds tables
abbrev kept_of : Option LsmTreeState → Option LsmTreeState
kept_of (Some tree) = kept_tree tree
kept_of None = None

abbrev kept : List Prefixed → List Prefixed
kept ss = filter (λ s. holds_tables s.tree) ss

-- of segments that ascend, at a prefix stands the one of it, where it holds tables
kept_at : (p : List ℕ) (ss : List Prefixed) → Ascends ss → tree_in p (kept ss) ≡ kept_of (tree_in p ss)
kept_at p [] up = refl
kept_at p (s ∷ ss) up = by (kept_at p ss (others_ascend s.prefix ss up)) (bytes_eq s.prefix p) (holds_tables s.tree) refl refl
  where
    by : tree_in p (kept ss) ≡ kept_of (tree_in p ss) → (b h : Bool) → bytes_eq s.prefix p ≡ b → holds_tables s.tree ≡ h → tree_in p (if h then s ∷ kept ss else kept ss) ≡ kept_of (tree_in p (s ∷ ss))
    by more true true e f =
        tree_step p s (kept ss) ∙ ap (λ b. here_or b s.tree (tree_in p (kept ss))) e
        ∙ sym (ap (λ x. if x then Some s.tree else None) f)
        ∙ ap kept_of (sym (tree_step p s ss ∙ ap (λ b. here_or b s.tree (tree_in p ss)) e))
    by more true false e f =
        let none : tree_in p ss ≡ None = ap (λ (k : List ℕ). tree_in k ss) (sym ((bytes_eq-Decides s.prefix p).0 e)) ∙ ap (λ (o : Option Prefixed). option_map (λ x. x.tree) o) (none_at s.prefix s.prefix ss (le_refl s.prefix) up) in
        more ∙ ap kept_of none
        ∙ sym (ap (λ x. if x then Some s.tree else None) f)
        ∙ ap kept_of (sym (tree_step p s ss ∙ ap (λ b. here_or b s.tree (tree_in p ss)) e))
    by more false true e f =
        tree_step p s (kept ss) ∙ ap (λ b. here_or b s.tree (tree_in p (kept ss))) e
        ∙ more
        ∙ ap kept_of (sym (tree_step p s ss ∙ ap (λ b. here_or b s.tree (tree_in p ss)) e))
    by more false false e f =
        more ∙ ap kept_of (sym (tree_step p s ss ∙ ap (λ b. here_or b s.tree (tree_in p ss)) e))

-- a merge has at each prefix the merge of what either side has there
combined : (ours theirs : Option LsmTreeState) → kept_of (option_map (λ t. merged t (or_empty theirs)) (either ours theirs)) ≡ kept_tree (merged (or_empty ours) (or_empty theirs))
combined (Some tree) theirs = refl
combined None (Some other) = refl
combined None None = refl

pub merge_by_prefix : (w c : List Prefixed) → Ascends w → IsMergeByPrefix w c (from_compactor w c)
merge_by_prefix w c a = λ p.
    kept_at p (map (merged_with c) (with_prefixes c w)) (merged_ascend c (with_prefixes c w) (with_prefixes_ascend c w a))
    ∙ ap kept_of (merged_at p c (with_prefixes c w))
    ∙ ap (λ (o : Option LsmTreeState). kept_of (option_map (λ t. merged t (or_empty (tree_in p c))) o)) (with_prefixes_at p c w)
    ∙ combined (tree_in p w) (tree_in p c)
