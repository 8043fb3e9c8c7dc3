-- Entries that are as they were: one put in is removed again, one put over another is set back.
use Rattle.std.proofs.Common.{◌≡◌, Bool, true, false, List, [], ◌∷◌, Some, None, refl, ap, ◌∙◌, cond}
use Rattle.std.specs.List.{AllByRecursion}
use Rattle.std.specs.List.Sorted.{IsStrictlySortedBy}
use Rattle.std.specs.Map.{keys_of, lookup, remove_entry, set_value}
use Rattle.std.specs.BTreeMap.{is_at, insert_entry}
use Rattle.std.specs.Ordering.{is_eq, match_ordering}
use Rattle.std.specs.declared.cmp.Ordering.{Ordering}
use Rattle.std.specs.declared.cmp.Ordering.TheVariants.{Less, Equal, Greater}

-- an entry that was put in and is removed again leaves the entries as they were
module _ {K X : Type 0} (cmp : K → K → Ordering) (k : K) (v : X) (itself : is_eq (cmp k k) ≡ true) where
  pub taken_back : (es : List (K × X)) → lookup (is_at (cmp k)) es ≡ None → remove_entry (is_at (cmp k)) (insert_entry cmp es k v) ≡ es
  taken_back [] h = ap (λ b. cond b [] ((k, v) ∷ [])) itself
  taken_back (e ∷ es) h = step (cmp k e.0) refl (taken_back es)
    where
      absent : (b : Bool) → cond b (Some e.1) (lookup (is_at (cmp k)) es) ≡ None → (b ≡ false) × (lookup (is_at (cmp k)) es ≡ None)
      absent true h = absurd cc
      absent false h = (refl, h)

      step : (o : Ordering) → cmp k e.0 ≡ o → (lookup (is_at (cmp k)) es ≡ None → remove_entry (is_at (cmp k)) (insert_entry cmp es k v) ≡ es)
          → remove_entry (is_at (cmp k)) (match_ordering o ((k, v) ∷ e ∷ es) ((e.0, v) ∷ es) (e ∷ insert_entry cmp es k v)) ≡ e ∷ es
      step Less at f = ap (λ b. cond b (e ∷ es) ((k, v) ∷ remove_entry (is_at (cmp k)) (e ∷ es))) itself
      step Equal at f = absurd (cc (ap is_eq at, (absent (is_at (cmp k) e.0) h).0))
      step Greater at f =
          let a = absent (is_at (cmp k) e.0) h in
          ap (λ b. cond b (insert_entry cmp es k v) (e ∷ remove_entry (is_at (cmp k)) (insert_entry cmp es k v))) a.0 ∙ ap (λ (xs : List (K × X)). e ∷ xs) (f a.1)

-- where there is no value, none is set
pub none_set : {K X : Type 0} (is : K → Bool) (es : List (K × X)) (new : X) → lookup is es ≡ None → set_value is es new ≡ es
none_set is [] new h = refl
none_set {K} {X} is (e ∷ es) new h = by (is e.0) h (none_set is es new)
  where
    by : (b : Bool) → cond b (Some e.1) (lookup is es) ≡ None → (lookup is es ≡ None → set_value is es new ≡ es) → cond b ((e.0, new) ∷ es) (e ∷ set_value is es new) ≡ e ∷ es
    by true found rest = absurd cc
    by false found rest = ap (λ (xs : List (K × X)). e ∷ xs) (rest found)

-- no key is at one that is below all of them
none_above : {K X : Type 0} (cmp : K → K → Ordering) (k : K) (es : List (K × X)) → AllByRecursion (λ q. cmp k q ≡ Less) (keys_of es) → lookup (is_at (cmp k)) es ≡ None
none_above cmp k [] h = refl
none_above cmp k (e ∷ es) h = ap (λ o. cond (is_eq o) (Some e.1) (lookup (is_at (cmp k)) es)) h.0 ∙ none_above cmp k es h.1

-- an entry that was put over another in order, and whose value is set as it was, leaves the entries as they were
pub put_back : {K X : Type 0} (cmp : K → K → Ordering) (k : K) (old new : X) (es : List (K × X)) → IsStrictlySortedBy cmp (keys_of (insert_entry cmp es k new)) → lookup (is_at (cmp k)) es ≡ Some old
    → set_value (is_at (cmp k)) (insert_entry cmp es k new) old ≡ es
unfolding IsStrictlySortedBy
put_back cmp k old new [] sorted h = absurd cc
put_back {K} {X} cmp k old new (e ∷ es) sorted h = by (cmp k e.0) refl sorted h (put_back cmp k old new es)
  where
    by : (o : Ordering) → cmp k e.0 ≡ o → IsStrictlySortedBy cmp (keys_of (match_ordering o ((k, new) ∷ e ∷ es) ((e.0, new) ∷ es) (e ∷ insert_entry cmp es k new)))
        → cond (is_eq o) (Some e.1) (lookup (is_at (cmp k)) es) ≡ Some old
        → (IsStrictlySortedBy cmp (keys_of (insert_entry cmp es k new)) → lookup (is_at (cmp k)) es ≡ Some old → set_value (is_at (cmp k)) (insert_entry cmp es k new) old ≡ es)
        → set_value (is_at (cmp k)) (match_ordering o ((k, new) ∷ e ∷ es) ((e.0, new) ∷ es) (e ∷ insert_entry cmp es k new)) old ≡ e ∷ es
    by Less at s found rest = absurd (cc (none_above cmp k es s.0.1, found))
    by Equal at s found rest = ap (λ o. cond (is_eq o) ((e.0, old) ∷ es) ((e.0, new) ∷ set_value (is_at (cmp k)) es old)) at ∙ ap (λ (x : X). (e.0, x) ∷ es) (the_same e.1 old found)
      where
        the_same : (a b : X) → Some a ≡ Some b → b ≡ a
        the_same a b h = cc
    by Greater at s found rest =
        ap (λ o. cond (is_eq o) ((e.0, old) ∷ insert_entry cmp es k new) (e ∷ set_value (is_at (cmp k)) (insert_entry cmp es k new) old)) at
        ∙ ap (λ (xs : List (K × X)). e ∷ xs) (rest s.1 found)
