-- Each id once: the ids that were seen are those that were kept.
use Rattle.std.specs.Prelude.{ℕ, ◌+◌, ◌<◌, ◌||◌, not, cond, Bool, true, false, List, [], ◌∷◌, ◌++◌, length, if◌then◌else◌}
use Rattle.std.specs.List.{fold, list_any}
use Rattle.std.specs.Ordering.{nat_cmp, is_eq}
use Rattle.std.specs.declared.cmp.Ordering.{Ordering}
use Rattle.std.specs.declared.cmp.Ordering.TheVariants.{Less, Equal, Greater}
use Rattle.std.proofs.Common.{◌≡◌, refl, sym, ◌∙◌, ap, arith, drop, get_or}
use Rattle.std.proofs.lemmas.Bool.Decides.{nat_tests}
use Rattle.std.proofs.lemmas.List.{at_drop_more}
use Rattle.std.proofs.lemmas.List.Folds.{list_any-append}
use Rattle.std.proofs.lemmas.Map.Lookups.{exact_pairs, exact_unsigned}
use Rattle.slate_script_databases.specs.Databases.{with_id}
use Rattle.slate_ids.specs.Ulids.{same_id, id_cmp}

-- what was seen is what is among these ids
abbrev pub Seen : (ℕ × ℕ → Bool) → List (ℕ × ℕ) → Type 0
Seen has ids = (q : ℕ × ℕ) → has q ≡ list_any (same_id q) ids

is_at_is : (a b : ℕ × ℕ) → is_eq (id_cmp a b) ≡ same_id b a
is_at_is a b = grind (arith, nat_tests)

equal_by : (o : Ordering) → is_eq o ≡ true → o ≡ Equal
equal_by Less h = absurd cc
equal_by Equal h = refl
equal_by Greater h = absurd cc

exact : (a b : ℕ × ℕ) → is_eq (id_cmp a b) ≡ true → a ≡ b
exact a b h = exact_pairs nat_cmp nat_cmp exact_unsigned exact_unsigned a b (equal_by (id_cmp a b) h)

-- an id that was seen already changes nothing
still : (has : ℕ × ℕ → Bool) (id q : ℕ × ℕ) → has id ≡ true → cond (is_eq (id_cmp id q)) true (has q) ≡ has q
still has id q h = by (is_eq (id_cmp id q)) refl
  where
    by : (b : Bool) → is_eq (id_cmp id q) ≡ b → cond b true (has q) ≡ has q
    by true e = sym (ap has (sym (exact id q e)) ∙ h)
    by false e = refl

turned : (b x : Bool) → cond b true x ≡ (x || (b || false))
turned true true = refl
turned true false = refl
turned false true = refl
turned false false = refl

-- a new id is among them then
added : (ids : List (ℕ × ℕ)) (id q : ℕ × ℕ) (x : Bool) → x ≡ list_any (same_id q) ids → cond (is_eq (id_cmp id q)) true x ≡ list_any (same_id q) (ids ++ id ∷ [])
added ids id q x h = ap (λ b. cond b true x) (is_at_is id q) ∙ turned (same_id q id) x ∙ ap (λ y. y || (same_id q id || false)) h ∙ sym (list_any-append (same_id q) ids (id ∷ []))

module _ (has new : ℕ × ℕ → Bool) (ids now : List (ℕ × ℕ)) (id : ℕ × ℕ) (is_new : Bool) (seen : Seen has ids) (made : (q : ℕ × ℕ) → new q ≡ cond (is_eq (id_cmp id q)) true (has q)) (test : is_new ≡ not (has id)) (pushed : now ≡ (if is_new then ids ++ id ∷ [] else ids)) where
  by_test : (b : Bool) → has id ≡ b → now ≡ (if not b then ids ++ id ∷ [] else ids) → (now ≡ with_id ids id) × Seen new now
  by_test true e h = (h ∙ sym (ap (λ (t : Bool). if t then ids else ids ++ id ∷ []) (sym (seen id) ∙ e)), λ q. made q ∙ still has id q e ∙ seen q ∙ ap (list_any (same_id q)) (sym h))
  by_test false e h = (h ∙ sym (ap (λ (t : Bool). if t then ids else ids ++ id ∷ []) (sym (seen id) ∙ e)), λ q. made q ∙ added ids id q (has q) (seen q) ∙ ap (list_any (same_id q)) (sym h))

  -- the ids after one more, and that they were seen
  pub one_more : (now ≡ with_id ids id) × Seen new now
  one_more = by_test (has id) refl (pushed ∙ ap (λ (t : Bool). if t then ids ++ id ∷ [] else ids) test)

-- the ids that are left, without this one
pub left_over : (ids now named : List (ℕ × ℕ)) (i : ℕ) (id : ℕ × ℕ) (all : List (ℕ × ℕ)) → i < length named → id ≡ get_or named i id → now ≡ with_id ids id → fold with_id ids (drop i named) ≡ all → fold with_id now (drop (i + 1) named) ≡ all
left_over ids now named i id all lt at h so_far = ap (λ (xs : List (ℕ × ℕ)). fold with_id xs (drop (i + 1) named)) h ∙ (sym (at_drop_more (fold with_id ids) named i id lt ∙ ap (λ (x : ℕ × ℕ). fold with_id ids (x ∷ drop (i + 1) named)) (sym at)) ∙ so_far)
