-- Markers from the last to the first: the prefixes that were seen are those of the markers behind.
use Rattle.std.specs.Prelude.{ℕ, ◌+◌, ◌<◌, ◌&&◌, ◌||◌, not, cond, Bool, true, false, List, [], ◌∷◌, length, bytes_eq}
use Rattle.std.specs.List.{list_any}
use Rattle.std.specs.Ordering.{nat_cmp, is_eq}
use Rattle.std.specs.Cmp.Lexicographic.{slice_cmp}
use Rattle.std.proofs.Common.{◌≡◌, suc, zero, refl, sym, ◌∙◌, ap, drop, get_or}
use Rattle.std.proofs.lemmas.List.{drop_more}
use Rattle.std.proofs.lemmas.Map.Text.{is_eq-slice_cmp}
use Rattle.slate_script_databases.specs.declared.tree_items.MarkerItem.{MarkerItem}
use Rattle.slate_script_databases.specs.Databases.{is_marker_of}
use Rattle.slate_script_databases.specs.DatabaseFields.{one_each}

-- what was seen is the prefixes of these markers
abbrev pub Seen : (List ℕ → Bool) → List MarkerItem → Type 0
Seen has ms = (q : List ℕ) → has q ≡ list_any (is_marker_of q) ms

turned : (b x : Bool) → cond b true x ≡ (b || x)
turned true x = refl
turned false x = refl

seen_more : (k q : List ℕ) (x y : Bool) → x ≡ y → cond (is_eq (slice_cmp nat_cmp k q)) true x ≡ (bytes_eq k q || y)
seen_more k q x y h = ap (λ b. cond b true x) (is_eq-slice_cmp k q) ∙ turned (bytes_eq k q) x ∙ ap (λ z. bytes_eq k q || z) h

and_true : (a b : Bool) → a ≡ true → b ≡ true → (a && b) ≡ true
and_true a b h k = rw (h, k) refl

and_false : (a b : Bool) → b ≡ false → (a && b) ≡ false
and_false true b h = h
and_false false b h = refl

-- where the last markers have a prefix twice, all have
twice_behind : (j : ℕ) (ms : List MarkerItem) → one_each (drop j ms) ≡ false → one_each ms ≡ false
twice_behind zero ms h = h
twice_behind (suc j) [] h = h
twice_behind (suc j) (m ∷ ms) h = and_false (not (list_any (is_marker_of m.prefix) ms)) (one_each ms) (twice_behind j ms h)

module _ (ms : List MarkerItem) (i j : ℕ) (m : MarkerItem) (k : List ℕ) (has : List ℕ → Bool) (is_new : Bool) (next : i ≡ j + 1) (lt : j < length ms) (at : m ≡ get_or ms j m) (copied : k ≡ (get_or ms j m).prefix) (seen : Seen has (drop i ms)) (test : is_new ≡ not (has k)) where
  same : k ≡ m.prefix
  same = copied ∙ ap (λ x. x.prefix) (sym at)

  from_here : drop j ms ≡ m ∷ drop i ms
  from_here = drop_more ms j m lt ∙ ap (λ x. x ∷ drop (j + 1) ms) (sym at) ∙ ap (λ n. m ∷ drop n ms) (sym next)

  tested : is_new ≡ not (list_any (is_marker_of m.prefix) (drop i ms))
  tested = test ∙ ap not (ap has same ∙ seen m.prefix)

  -- one more marker was seen
  pub seen_from_here : (new : List ℕ → Bool) → ((q : List ℕ) → new q ≡ cond (is_eq (slice_cmp nat_cmp k q)) true (has q)) → Seen new (drop j ms)
  seen_from_here new made q = made q ∙ ap (λ p. cond (is_eq (slice_cmp nat_cmp p q)) true (has q)) same ∙ seen_more m.prefix q (has q) _ (seen q) ∙ ap (list_any (is_marker_of q)) (sym from_here)

  -- it has a prefix of its own
  pub once_from_here : is_new ≡ true → one_each (drop i ms) ≡ true → one_each (drop j ms) ≡ true
  once_from_here is once = ap one_each from_here ∙ and_true _ _ (sym tested ∙ is) once

  -- its prefix comes again behind it
  pub twice : is_new ≡ false → one_each ms ≡ false
  twice is = twice_behind j ms (ap one_each from_here ∙ ap (λ b. b && one_each (drop i ms)) (sym tested ∙ is))
