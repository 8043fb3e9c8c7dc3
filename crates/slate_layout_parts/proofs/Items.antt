-- Values that are read one after the other.
use Rattle.std.proofs.Common.{◌≡◌, ◌<◌, ◌+◌, ◌-◌, ℕ, suc, List, [], ◌∷◌, ◌++◌, Option, Some, None, refl, ap, sym, ◌∙◌, arith}
use Rattle.std.proofs.lemmas.List.{append_assoc}
use Rattle.slate_layout_parts.specs.Reading.{◌>>=◌, items_in}

-- what was read before, and what is still read
abbrev pub with_front : {X : Type 0} → List X → Option (List X × List ℕ) → Option (List X × List ℕ)
with_front front read = read >>= λ items. Some (front ++ items.0, items.1)

module _ {X : Type 0} (read : List ℕ → Option (X × List ℕ)) where
  found_with : List ℕ → List X → Option (List X × List ℕ)
  found_with rest items = Some (items, rest)

  joined_more : (front : List X) (item : X) (found : Option (List X × List ℕ)) → with_front (front ++ item ∷ []) found ≡ with_front front (found >>= λ items. Some (item ∷ items.0, items.1))
  unfolding found_with
  joined_more front item None = refl
  joined_more front item (Some found) = ap (λ (l : List X). found_with found.1 l) (append_assoc front (item ∷ []) found.0)

  -- one value more was read
  pub read_more : (front : List X) (item : X) (left rest : List ℕ) (count i : ℕ) → i < count → read left ≡ Some (item, rest) → with_front (front ++ item ∷ []) (items_in read (count - (i + 1)) rest) ≡ with_front front (items_in read (count - i) left)
  read_more front item left rest count i within h =
      let step : count - i ≡ suc (count - (i + 1)) = omega arith in
      joined_more front item (items_in read (count - (i + 1)) rest)
      ∙ ap (λ (o : Option (X × List ℕ)). with_front front (o >>= λ p. items_in read (count - (i + 1)) p.1 >>= λ items. Some (p.0 ∷ items.0, items.1))) (sym h)
      ∙ ap (λ (n : ℕ). with_front front (items_in read n left)) (sym step)

  -- nothing was read
  pub read_stops : (front : List X) (left : List ℕ) (count i : ℕ) → i < count → read left ≡ None → with_front front (items_in read (count - i) left) ≡ None
  read_stops front left count i within h =
      let step : count - i ≡ suc (count - (i + 1)) = omega arith in
      ap (λ (n : ℕ). with_front front (items_in read n left)) step
      ∙ ap (λ (o : Option (X × List ℕ)). with_front front (o >>= λ p. items_in read (count - (i + 1)) p.1 >>= λ items. Some (p.0 ∷ items.0, items.1))) h
