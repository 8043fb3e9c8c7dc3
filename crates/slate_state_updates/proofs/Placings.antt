-- A segment of a prefix that nests with another is put in its place.
use Rattle.std.specs.Prelude.{ℕ, ◌+◌, ◌==◌, Bool, true, false, List, [], ◌∷◌, length, insert, Option, Some, None, is_some, bytes_eq, if◌then◌else◌}
use Rattle.std.proofs.Common.{◌≡◌, suc, refl, sym, ap, ◌∙◌, subst, arith}
use Rattle.std.specs.Option.{option_map}
use Rattle.slate_ids.specs.Keys.{key_lt}
use Rattle.slate_ids.specs.declared.error.SlateDBError.{SlateDBError}
use Rattle.slate_ids.specs.declared.error.SlateDBError.TheVariants.{InvalidSegmentPrefix}
use Rattle.slate_model.specs.declared.lsm_tree_state.LsmTreeState.{LsmTreeState}
use Rattle.slate_model.specs.Cores.{Core, empty_tree}
use Rattle.slate_model.specs.Segments.{Prefixed, IsAscending, segment_at, place_of}
use Rattle.slate_model.specs.Insertion.{insertion_refusal, tree_in, tree_for, or_empty, placed, with_tree}
use Rattle.slate_model.specs.Nesting.{nesting_refusal, nested}
use Rattle.slate_state_merges.proofs.Ascents.{placed_ascends}

one_more : (n : ℕ) → suc n ≡ 1 + n
one_more n = omega arith

made : List ℕ → LsmTreeState → Prefixed
made p t = record { prefix = p; tree = t }

-- a segment inserted at the place of its prefix, where none is of it, is put in its place
pub inserted : (p : List ℕ) (t : LsmTreeState) (ss : List Prefixed) → segment_at p ss ≡ None → insert ss (place_of p ss) (record { prefix = p; tree = t }) ≡ placed p t ss
inserted p t [] n = refl
inserted p t (s ∷ ss) n = by (λ h. inserted p t ss h) (key_lt s.prefix p) (bytes_eq s.prefix p) n
  where
    by : (segment_at p ss ≡ None → insert ss (place_of p ss) (record { prefix = p; tree = t }) ≡ placed p t ss) → (b q : Bool) → (if q then Some s else segment_at p ss) ≡ None
        → insert (s ∷ ss) (if b then 1 + place_of p ss else 0) (record { prefix = p; tree = t }) ≡ (if b then s ∷ placed p t ss else record { prefix = p; tree = t } ∷ (if q then ss else s ∷ ss))
    by more b true m = absurd cc
    by more true false m = sym (ap (λ i. insert (s ∷ ss) i (record { prefix = p; tree = t })) (one_more (place_of p ss))) ∙ ap (λ (r : List Prefixed). s ∷ r) (more m)
    by more false false m = refl

-- a prefix that nests with another isn't empty, and has no segment
pub record IsNested (p : List ℕ) (core : Core) : Type 0 where
  pub some : (length p == 0) ≡ false
  pub absent : segment_at p core.segments ≡ None

pub is_nested : (p : List ℕ) (core : Core) → is_some (insertion_refusal p core) ≡ true → IsNested p core
is_nested p core h = by (length p == 0) refl h
  where
    by_segment : (o : Option Prefixed) → segment_at p core.segments ≡ o → is_some (option_map (InvalidSegmentPrefix p) (if is_some o then None else nested p core.segments)) ≡ true → segment_at p core.segments ≡ None
    by_segment None e h = e
    by_segment (Some s) e h = absurd cc

    by : (b : Bool) → (length p == 0) ≡ b → is_some (if b then None else nesting_refusal p core.segments) ≡ true → IsNested p core
    by true e h = absurd cc
    by false e h = record { some = e; absent = by_segment (segment_at p core.segments) refl h }

-- so what is put at it is a new segment
pub nested_tree : (p : List ℕ) (core : Core) → IsNested p core → or_empty (tree_for p core) ≡ empty_tree
nested_tree p core n = ap (λ b. or_empty (if b then Some core.tree else tree_in p core.segments)) n.some ∙ ap (λ (o : Option Prefixed). or_empty (option_map (λ s. s.tree) o)) n.absent

pub nested_put : (p : List ℕ) (core : Core) (t : LsmTreeState) → IsNested p core → with_tree p core t ≡ record core { segments = placed p t core.segments }
nested_put p core t n = ap (λ b. if b then record core { tree = t } else record core { segments = placed p t core.segments }) n.some

above_empty : (p : List ℕ) → (length p == 0) ≡ false → key_lt [] p ≡ true
above_empty [] h = absurd cc
above_empty (b ∷ p) h = refl

nested_ascends : (p : List ℕ) (core : Core) (t : LsmTreeState) → IsNested p core → IsAscending core.segments → IsAscending (placed p t core.segments)
nested_ascends p core t n a = placed_ascends p [] t core.segments (above_empty p n.some) a

pub nested_segments : (p : List ℕ) (core : Core) (t : LsmTreeState) (old new : List Prefixed) → IsNested p core → old ≡ core.segments → IsAscending core.segments → new ≡ placed p t old → IsAscending new
nested_segments p core t old new n is a put = subst IsAscending (sym (put ∙ ap (placed p t) is)) (nested_ascends p core t n a)
