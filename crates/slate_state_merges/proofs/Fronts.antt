-- The front of a list of views.
use Rattle.std.specs.Prelude.{Bool, true, false, ◌||◌, List, [], ◌∷◌, if◌then◌else◌}
use Rattle.std.proofs.Common.{◌≡◌, refl, ap, ◌∙◌}
use Rattle.std.specs.List.{list_any}
use Rattle.slate_model_tables.specs.Views.{View}
use Rattle.slate_model.specs.declared.lsm_tree_state.LsmTreeState.{LsmTreeState}
use Rattle.slate_state_merges.specs.Merging.{is_at_marker, front, merged, IsFront}

-- the front of a front is all of it
front_twice : (c : LsmTreeState) (vs : List View) → front c (front c vs) ≡ front c vs
front_twice c [] = refl
front_twice c (v ∷ vs) = by (front_twice c vs) (is_at_marker c v) refl
  where
    by : front c (front c vs) ≡ front c vs → (b : Bool) → is_at_marker c v ≡ b → front c (if b then [] else v ∷ front c vs) ≡ (if b then [] else v ∷ front c vs)
    by again true e = refl
    by again false e = ap (λ x. if x then [] else v ∷ front c (front c vs)) e ∙ ap (λ (r : List View). v ∷ r) again

-- a merge has the markers of its compactor, so merging it again takes the front of its L0
pub merged_twice : (w c : LsmTreeState) → merged (merged w c) c ≡ merged w c
merged_twice w c = ap (λ (l : List View). record c { l0 = l }) (front_twice c w.l0)

-- a front is one
pub is_front : (c : LsmTreeState) (vs : List View) → IsFront c vs (front c vs)
is_front c [] = record { dropped = []; whole = refl; unmarked = refl; marked = tt }
is_front c (v ∷ vs) = by (is_front c vs) (is_at_marker c v) refl
  where
    by : IsFront c vs (front c vs) → (b : Bool) → is_at_marker c v ≡ b → IsFront c (v ∷ vs) (if b then [] else v ∷ front c vs)
    by more true e = record { dropped = v ∷ vs; whole = refl; unmarked = refl; marked = e }
    by more false e = record {
      dropped = more.dropped;
      whole = ap (λ (r : List View). v ∷ r) more.whole;
      unmarked = ap (λ b. b || list_any (is_at_marker c) (front c vs)) e ∙ more.unmarked;
      marked = more.marked;
    }
