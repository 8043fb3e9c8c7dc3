-- Objects stand at paths that are fine, after a put and after a removal, which leaves look-ups at other texts.
use Rattle.std.proofs.Common.{◌≡◌, ◌≢◌, ℕ, Bool, true, false, List, [], ◌∷◌, Some, ◌⊎◌, inl, inr, refl, sym, ap, ◌∙◌, cond}
use Rattle.std.specs.Map.{remove_entry}
use Rattle.std.specs.BTreeMap.{is_at, insert_entry}
use Rattle.std.specs.Ordering.{match_ordering}
use Rattle.std.specs.Str.{bytes_eq}
use Rattle.std.specs.declared.cmp.Ordering.{Ordering}
use Rattle.std.specs.declared.cmp.Ordering.TheVariants.{Less, Equal, Greater}
use Rattle.slate_ids.specs.FinePath.{IsFine}
use Rattle.slate_ids.specs.PathText.{path_text, path_cmp}
use Rattle.slate_ids.specs.declared.object_path.ObjectPath.{ObjectPath}
use Rattle.slate_store.proofs.LookUps.{Entries, same_bytes, bytes_same, passes_by, same_found, look}
use Rattle.slate_store.specs.Store.{Store, object_at, removed}
use Rattle.slate_store.specs.declared.object.StoredObject.{StoredObject}

-- names are told apart
pub decides : (d db : List ℕ) → (bytes_eq d db ≡ true → d ≡ db) × (bytes_eq d db ≡ false → d ≢ db)
decides d db = (same_bytes d db, λ f e. absurd (cc (f, bytes_same d, e)))

pub same_name : (d db : List ℕ) → (d ≡ db) ⊎ (d ≢ db)
same_name d db = test (bytes_eq d db) refl
  where
    test : (b : Bool) → bytes_eq d db ≡ b → (d ≡ db) ⊎ (d ≢ db)
    test true e = inl ((decides d db).0 e)
    test false e = inr ((decides d db).1 e)

-- each object is at a path that is fine
abbrev pub IsTidy : Entries → Type 0
IsTidy [] = Unit {0}
IsTidy (e ∷ es) = IsFine e.0 × IsTidy es

pub tidy_put : (p : ObjectPath) (v : StoredObject) → IsFine p → (es : Entries) → IsTidy es → IsTidy (insert_entry path_cmp es p v)
tidy_put p v fine [] h = (fine, tt)
tidy_put p v fine (e ∷ es) h = step (path_cmp p e.0) (tidy_put p v fine es h.1)
  where
    step : (o : Ordering) → IsTidy (insert_entry path_cmp es p v) → IsTidy (match_ordering o ((p, v) ∷ e ∷ es) ((e.0, v) ∷ es) (e ∷ insert_entry path_cmp es p v))
    step Less rest = (fine, h)
    step Equal rest = h
    step Greater rest = (h.0, rest)

-- ---- after a removal

module _ (p : ObjectPath) where
  -- at another text nothing changes
  left_else : (q : ObjectPath) → path_text q ≢ path_text p → (es : Entries) → look q (remove_entry (is_at (path_cmp p)) es) ≡ look q es
  left_else q ne [] = refl
  left_else q ne (e ∷ es) = test (is_at (path_cmp p) e.0) refl (left_else q ne es)
    where
      test : (b : Bool) → is_at (path_cmp p) e.0 ≡ b → look q (remove_entry (is_at (path_cmp p)) es) ≡ look q es → look q (cond b es (e ∷ remove_entry (is_at (path_cmp p)) es)) ≡ look q (e ∷ es)
      test true is rest =
          let off = passes_by q e.0 (λ same. ne (same ∙ sym (same_found p e.0 is))) in
          sym (ap (λ b. cond b (Some e.1) (look q es)) off)
      test false is rest = ap (λ r. cond (is_at (path_cmp q) e.0) (Some e.1) r) rest

  pub tidy_left : (es : Entries) → IsTidy es → IsTidy (remove_entry (is_at (path_cmp p)) es)
  tidy_left [] h = tt
  tidy_left (e ∷ es) h = test (is_at (path_cmp p) e.0) (tidy_left es h.1)
    where
      test : (b : Bool) → IsTidy (remove_entry (is_at (path_cmp p)) es) → IsTidy (cond b es (e ∷ remove_entry (is_at (path_cmp p)) es))
      test true rest = h.1
      test false rest = (h.0, rest)

  pub at_left : (q : ObjectPath) (s : Store) → path_text q ≢ path_text p → object_at q (removed p s) ≡ object_at q s
  at_left q s ne = left_else q ne s.objects
