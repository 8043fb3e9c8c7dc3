-- Look-ups in lists of entries that are kept in order, after a change.
use Rattle.std.proofs.Common.{◌≡◌, ◌≢◌, Bool, true, false, List, [], ◌∷◌, Some, None, refl, sym, ap, ◌∙◌, cond, arith}
use Rattle.std.proofs.lemmas.Bool.Decides.{nat_tests}
use Rattle.std.specs.Map.{lookup, set_value}
use Rattle.std.specs.BTreeMap.{is_at, insert_entry}
use Rattle.std.specs.Ordering.{nat_cmp, is_eq, match_ordering}
use Rattle.std.specs.Cmp.Lexicographic.{slice_cmp}
use Rattle.std.specs.declared.cmp.Ordering.{Ordering}
use Rattle.std.specs.declared.cmp.Ordering.TheVariants.{Less, Equal, Greater}
use Rattle.std.proofs.lemmas.Map.Text.{is_eq-slice_cmp}
use Rattle.slate_store.proofs.LookUps.{same_bytes, bytes_same}

-- an order in which keys are equal where they are one
pub record IsKeyOrder {K : Type 0} (cmp : K → K → Ordering) : Type 0 where
  pub itself : (a : K) → is_at (cmp a) a ≡ true
  pub one : (a b : K) → is_at (cmp a) b ≡ true → a ≡ b

pub number_order : IsKeyOrder nat_cmp
number_order = record { itself = λ a. grind (arith, nat_tests); one = λ a b h. grind (arith, nat_tests) }

pub name_order : IsKeyOrder (slice_cmp nat_cmp)
name_order = record { itself = λ a. is_eq-slice_cmp a a ∙ bytes_same a; one = λ a b h. same_bytes a b (sym (is_eq-slice_cmp a b) ∙ h) }

off : {K : Type 0} (cmp : K → K → Ordering) (order : IsKeyOrder cmp) (q k : K) → q ≢ k → is_at (cmp q) k ≡ false
off cmp order q k ne = test (is_at (cmp q) k) (order.one q k)
  where
    test : (b : Bool) → (b ≡ true → q ≡ k) → b ≡ false
    test true f = absurd (ne (f refl))
    test false f = refl

module _ {K X : Type 0} (cmp : K → K → Ordering) (order : IsKeyOrder cmp) where
  -- a value that was set is found
  pub set_here : (k : K) (v w : X) (es : List (K × X)) → lookup (is_at (cmp k)) es ≡ Some w → lookup (is_at (cmp k)) (set_value (is_at (cmp k)) es v) ≡ Some v
  set_here k v w [] h = absurd cc
  set_here k v w (e ∷ es) h = test (is_at (cmp k) e.0) refl h (set_here k v w es)
    where
      test : (b : Bool) → is_at (cmp k) e.0 ≡ b → cond b (Some e.1) (lookup (is_at (cmp k)) es) ≡ Some w
          → (lookup (is_at (cmp k)) es ≡ Some w → lookup (is_at (cmp k)) (set_value (is_at (cmp k)) es v) ≡ Some v)
          → lookup (is_at (cmp k)) (cond b ((e.0, v) ∷ es) (e ∷ set_value (is_at (cmp k)) es v)) ≡ Some v
      test true is h rest = ap (λ b. cond b (Some v) (lookup (is_at (cmp k)) es)) is
      test false is h rest = ap (λ b. cond b (Some e.1) (lookup (is_at (cmp k)) (set_value (is_at (cmp k)) es v))) is ∙ rest h

  -- and nothing changes elsewhere
  pub set_else : (k q : K) (v : X) (es : List (K × X)) → q ≢ k → lookup (is_at (cmp q)) (set_value (is_at (cmp k)) es v) ≡ lookup (is_at (cmp q)) es
  set_else k q v [] ne = refl
  set_else k q v (e ∷ es) ne = test (is_at (cmp k) e.0) refl (set_else k q v es ne)
    where
      test : (b : Bool) → is_at (cmp k) e.0 ≡ b → lookup (is_at (cmp q)) (set_value (is_at (cmp k)) es v) ≡ lookup (is_at (cmp q)) es
          → lookup (is_at (cmp q)) (cond b ((e.0, v) ∷ es) (e ∷ set_value (is_at (cmp k)) es v)) ≡ lookup (is_at (cmp q)) (e ∷ es)
      test true is rest =
          let away = off cmp order q e.0 (λ (same : q ≡ e.0). ne (same ∙ sym (order.one k e.0 is))) in
          ap (λ b. cond b (Some v) (lookup (is_at (cmp q)) es)) away ∙ sym (ap (λ b. cond b (Some e.1) (lookup (is_at (cmp q)) es)) away)
      test false is rest = ap (λ r. cond (is_at (cmp q) e.0) (Some e.1) r) rest

  -- an entry that was inserted is found
  pub insert_here : (k : K) (v : X) (es : List (K × X)) → lookup (is_at (cmp k)) (insert_entry cmp es k v) ≡ Some v
  insert_here k v [] = ap (λ b. cond b (Some v) None) (order.itself k)
  insert_here k v (e ∷ es) = step (cmp k e.0) refl (insert_here k v es)
    where
      step : (o : Ordering) → cmp k e.0 ≡ o → lookup (is_at (cmp k)) (insert_entry cmp es k v) ≡ Some v → lookup (is_at (cmp k)) (match_ordering o ((k, v) ∷ e ∷ es) ((e.0, v) ∷ es) (e ∷ insert_entry cmp es k v)) ≡ Some v
      step Less at rest = ap (λ b. cond b (Some v) (lookup (is_at (cmp k)) (e ∷ es))) (order.itself k)
      step Equal at rest = ap (λ r. cond (is_eq r) (Some v) (lookup (is_at (cmp k)) es)) at
      step Greater at rest = ap (λ r. cond (is_eq r) (Some e.1) (lookup (is_at (cmp k)) (insert_entry cmp es k v))) at ∙ rest

  pub insert_else : (k q : K) (v : X) (es : List (K × X)) → q ≢ k → lookup (is_at (cmp q)) (insert_entry cmp es k v) ≡ lookup (is_at (cmp q)) es
  insert_else k q v [] ne = ap (λ b. cond b (Some v) None) (off cmp order q k ne)
  insert_else k q v (e ∷ es) ne = step (cmp k e.0) refl (insert_else k q v es ne)
    where
      step : (o : Ordering) → cmp k e.0 ≡ o → lookup (is_at (cmp q)) (insert_entry cmp es k v) ≡ lookup (is_at (cmp q)) es → lookup (is_at (cmp q)) (match_ordering o ((k, v) ∷ e ∷ es) ((e.0, v) ∷ es) (e ∷ insert_entry cmp es k v)) ≡ lookup (is_at (cmp q)) (e ∷ es)
      step Less at rest = ap (λ b. cond b (Some v) (lookup (is_at (cmp q)) (e ∷ es))) (off cmp order q k ne)
      step Equal at rest =
          let away = off cmp order q e.0 (λ (same : q ≡ e.0). ne (same ∙ sym (order.one k e.0 (ap is_eq at)))) in
          ap (λ b. cond b (Some v) (lookup (is_at (cmp q)) es)) away ∙ sym (ap (λ b. cond b (Some e.1) (lookup (is_at (cmp q)) es)) away)
      step Greater at rest = ap (λ r. cond (is_at (cmp q) e.0) (Some e.1) r) rest
