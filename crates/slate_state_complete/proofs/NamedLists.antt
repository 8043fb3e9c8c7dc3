-- The numbers that checkpoints name, and what a map of versions finds after an insert.
use Rattle.std.proofs.Common.{◌≡◌, ◌≢◌, ℕ, Bool, true, false, List, [], ◌∷◌, ◌++◌, Some, None, if◌then◌else◌, cond, refl, sym, ap, ◌∙◌, subst, arith}
use Rattle.std.specs.Prelude.{◌&&◌, ◌||◌, ◌==◌, not}
use Rattle.std.specs.BTreeMap.{is_at, insert_entry}
use Rattle.std.specs.List.{list_any}
use Rattle.std.specs.Ordering.{is_eq, match_ordering, nat_cmp}
use Rattle.std.specs.declared.cmp.Ordering.{Ordering}
use Rattle.std.specs.declared.cmp.Ordering.TheVariants.{Less, Equal, Greater}
use Rattle.std.proofs.lemmas.Bool.Decides.{nat_tests}
use Rattle.std.proofs.lemmas.List.Folds.{list_any-append}
use Rattle.slate_model.specs.declared.checkpoint.Checkpoint.{Checkpoint}
use Rattle.slate_model.specs.declared.manifest.Manifest.{Manifest}
use Rattle.slate_state_updates.specs.Checkpoints.{is_named}
use Rattle.slate_state_referenced.specs.Named.{with_name, named_from}
use Rattle.slate_state_referenced.specs.Referenced.{Versions}
use Rattle.slate_state_complete.specs.ReadingNamed.{at_number}

pub same_told : (a b : ℕ) → (a == b) ≡ true → a ≡ b
same_told a b h = grind (arith, nat_tests, h)

pub other_told : (a b : ℕ) → (a == b) ≡ false → a ≢ b
other_told a b h e = grind (arith, nat_tests, h, e)

pub same_number : (a : ℕ) → (a == a) ≡ true
same_number a = grind (arith, nat_tests)

pub not_same : (a b : ℕ) → a ≢ b → (a == b) ≡ false
not_same a b ne = test (a == b) (same_told a b)
  where
    test : (t : Bool) → (t ≡ true → a ≡ b) → t ≡ false
    test true f = absurd (ne (f refl))
    test false f = refl

-- ---- the numbers

-- whether a number is in a list
abbrev pub has_number : ℕ → List ℕ → Bool
has_number k ns = list_any (λ (j : ℕ). j == k) ns

-- whether a checkpoint's version counts as k, with this own number
abbrev counts : ℕ → ℕ → ℕ → Bool
counts own k n = (n == k) && not (k == own)

or_false : (a : Bool) → (a || false) ≡ a
or_false true = refl
or_false false = refl

or_spread : (a b c q : Bool) → ((a || (b && q)) || (c && q)) ≡ (a || ((b || c) && q))
or_spread true b c q = refl
or_spread false true c true = refl
or_spread false true true false = refl
or_spread false true false false = refl
or_spread false false c q = refl

-- one number more
module _ (own k : ℕ) (kept : List ℕ) (n : ℕ) where
  abbrev goal : Bool → Type 0
  goal b = has_number k (if b then kept else kept ++ n ∷ []) ≡ (has_number k kept || counts own k n)

  is_own : n ≡ own → counts own k n ≡ false
  is_own e = test (n == k) refl
    where
      test : (t : Bool) → (n == k) ≡ t → (t && not (k == own)) ≡ false
      test true at = ap not (subst (λ (j : ℕ). (j == own) ≡ true) (same_told n k at) (subst (λ (o : ℕ). (n == o) ≡ true) e (same_number n)))
      test false at = refl

  is_kept : has_number n kept ≡ true → has_number k kept ≡ (has_number k kept || counts own k n)
  is_kept h = test (n == k) refl
    where
      test : (t : Bool) → (n == k) ≡ t → has_number k kept ≡ (has_number k kept || (t && not (k == own)))
      test true at =
          let has : has_number k kept ≡ true = subst (λ (j : ℕ). has_number j kept ≡ true) (same_told n k at) h in
          has ∙ sym (ap (λ (b : Bool). b || not (k == own)) has)
      test false at = sym (or_false (has_number k kept))

  is_new : (n == own) ≡ false → has_number k (kept ++ n ∷ []) ≡ (has_number k kept || counts own k n)
  is_new ne = list_any-append (λ (j : ℕ). j == k) kept (n ∷ []) ∙ ap (λ (b : Bool). has_number k kept || b) (test (n == k) refl)
    where
      test : (t : Bool) → (n == k) ≡ t → (t || false) ≡ (t && not (k == own))
      test true at = sym (ap not (subst (λ (j : ℕ). (j == own) ≡ false) (same_told n k at) ne))
      test false at = refl

  by_own : (b : Bool) → (n == own) ≡ b → (h : Bool) → has_number n kept ≡ h → goal (b || h)
  by_own true at h is = sym (ap (λ (b : Bool). has_number k kept || b) (is_own (same_told n own at)) ∙ or_false (has_number k kept))
  by_own false at true is = is_kept is
  by_own false at false is = is_new at

  pub with_one : has_number k (with_name own kept n) ≡ (has_number k kept || counts own k n)
  with_one = by_own (n == own) refl (has_number n kept) refl

-- the numbers that are named: those that are kept, and those of checkpoints other than the own one
pub named_tell : (own k : ℕ) (kept : List ℕ) (cs : List Checkpoint) → has_number k (named_from own kept cs) ≡ (has_number k kept || (is_named k cs && not (k == own)))
named_tell own k kept [] = sym (or_false (has_number k kept))
named_tell own k kept (c ∷ cs) =
    named_tell own k (with_name own kept c.manifest_id) cs
    ∙ ap (λ (b : Bool). b || (is_named k cs && not (k == own))) (with_one own k kept c.manifest_id)
    ∙ or_spread (has_number k kept) (c.manifest_id == k) (is_named k cs) (not (k == own))

-- ---- the map

test_is : (k j : ℕ) → is_at (nat_cmp k) j ≡ (k == j)
test_is k j = same k j
  where
    same : (a b : ℕ) → is_eq (nat_cmp a b) ≡ (a == b)
    same a b = grind (arith, nat_tests)

finds : (k : ℕ) → is_at (nat_cmp k) k ≡ true
finds k = test_is k k ∙ same_number k

passes_by : (k j : ℕ) → k ≢ j → is_at (nat_cmp k) j ≡ false
passes_by k j ne = test_is k j ∙ not_same k j ne

one_number : (k j : ℕ) → nat_cmp k j ≡ Equal → k ≡ j
one_number k j e = same_told k j (sym (test_is k j) ∙ ap is_eq e)

module _ (p : ℕ) (v : Manifest) where
  -- what was put is found
  pub found_put : (es : Versions) → at_number p (insert_entry nat_cmp es p v) ≡ Some v
  found_put [] = ap (λ b. cond b (Some v) None) (finds p)
  found_put (e ∷ es) = step (nat_cmp p e.0) refl (found_put es)
    where
      step : (o : Ordering) → nat_cmp p e.0 ≡ o → at_number p (insert_entry nat_cmp es p v) ≡ Some v → at_number p (match_ordering o ((p, v) ∷ e ∷ es) ((e.0, v) ∷ es) (e ∷ insert_entry nat_cmp es p v)) ≡ Some v
      step Less at rest = ap (λ b. cond b (Some v) (at_number p (e ∷ es))) (finds p)
      step Equal at rest = ap (λ r. cond (is_eq r) (Some v) (at_number p es)) at
      step Greater at rest = ap (λ r. cond (is_eq r) (Some e.1) (at_number p (insert_entry nat_cmp es p v))) at ∙ rest

  -- at another number nothing changes
  pub found_else : (q : ℕ) → q ≢ p → (es : Versions) → at_number q (insert_entry nat_cmp es p v) ≡ at_number q es
  found_else q ne [] = ap (λ b. cond b (Some v) None) (passes_by q p ne)
  found_else q ne (e ∷ es) = step (nat_cmp p e.0) refl (found_else q ne es)
    where
      step : (o : Ordering) → nat_cmp p e.0 ≡ o → at_number q (insert_entry nat_cmp es p v) ≡ at_number q es → at_number q (match_ordering o ((p, v) ∷ e ∷ es) ((e.0, v) ∷ es) (e ∷ insert_entry nat_cmp es p v)) ≡ at_number q (e ∷ es)
      step Less at rest = ap (λ b. cond b (Some v) (at_number q (e ∷ es))) (passes_by q p ne)
      step Equal at rest =
          let off = passes_by q e.0 (λ same. ne (same ∙ sym (one_number p e.0 at))) in
          ap (λ b. cond b (Some v) (at_number q es)) off ∙ sym (ap (λ b. cond b (Some e.1) (at_number q es)) off)
      step Greater at rest = ap (λ r. cond (is_at (nat_cmp q) e.0) (Some e.1) r) rest
