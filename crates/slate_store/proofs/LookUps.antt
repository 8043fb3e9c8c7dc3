-- What a look-up finds after a put.
use Rattle.std.proofs.Common.{◌≡◌, ◌≢◌, ℕ, ℤ, ◌+◌, Bool, true, false, List, [], ◌∷◌, Option, Some, None, refl, sym, ap, ◌∙◌, cond}
use Rattle.std.specs.Map.{lookup}
use Rattle.std.specs.BTreeMap.{is_at, insert_entry}
use Rattle.std.specs.Ordering.{is_eq, match_ordering}
use Rattle.std.specs.Str.{bytes_eq}
use Rattle.std.specs.declared.cmp.Ordering.{Ordering}
use Rattle.std.specs.declared.cmp.Ordering.TheVariants.{Less, Equal, Greater}
use Rattle.std.proofs.lemmas.Map.Text.{is_eq-slice_cmp}
use Rattle.std.proofs.lemmas.Slice.Eq.{bytes_eq-Decides}
use Rattle.slate_ids.specs.PathText.{path_text, path_cmp}
use Rattle.slate_ids.specs.declared.object_path.ObjectPath.{ObjectPath}
use Rattle.slate_store.specs.Store.{Store, object_at, stored}
use Rattle.slate_store.specs.declared.object.StoredObject.{StoredObject}

abbrev pub Entries : Type 0
Entries = List (ObjectPath × StoredObject)

pub same_bytes : (xs ys : List ℕ) → bytes_eq xs ys ≡ true → xs ≡ ys
same_bytes xs ys h = (bytes_eq-Decides xs ys).0 h

pub bytes_same : (xs : List ℕ) → bytes_eq xs xs ≡ true
bytes_same xs = (bytes_eq-Decides xs xs).1 refl

pub no_bytes : (xs ys : List ℕ) → xs ≢ ys → bytes_eq xs ys ≡ false
no_bytes xs ys ne = test (bytes_eq xs ys) (same_bytes xs ys)
  where
    test : (b : Bool) → (b ≡ true → xs ≡ ys) → b ≡ false
    test true f = absurd (ne (f refl))
    test false f = refl

-- the test of a look-up compares texts
pub test_is : (p q : ObjectPath) → is_at (path_cmp p) q ≡ bytes_eq (path_text p) (path_text q)
test_is p q = is_eq-slice_cmp (path_text p) (path_text q)

pub finds : (p : ObjectPath) → is_at (path_cmp p) p ≡ true
finds p = test_is p p ∙ bytes_same (path_text p)

pub passes_by : (p q : ObjectPath) → path_text p ≢ path_text q → is_at (path_cmp p) q ≡ false
passes_by p q ne = test_is p q ∙ no_bytes (path_text p) (path_text q) ne

pub same_found : (p q : ObjectPath) → is_at (path_cmp p) q ≡ true → path_text p ≡ path_text q
same_found p q h = same_bytes (path_text p) (path_text q) (sym (test_is p q) ∙ h)

pub one_text : (p q : ObjectPath) → path_cmp p q ≡ Equal → path_text p ≡ path_text q
one_text p q e = same_found p q (ap is_eq e)

abbrev pub look : ObjectPath → Entries → Option StoredObject
look q es = lookup (is_at (path_cmp q)) es

module _ (p : ObjectPath) (v : StoredObject) where
  -- what was put is found
  found_put : (es : Entries) → look p (insert_entry path_cmp es p v) ≡ Some v
  found_put [] = ap (λ b. cond b (Some v) None) (finds p)
  found_put (e ∷ es) = step (path_cmp p e.0) refl (found_put es)
    where
      step : (o : Ordering) → path_cmp p e.0 ≡ o → look p (insert_entry path_cmp es p v) ≡ Some v → look p (match_ordering o ((p, v) ∷ e ∷ es) ((e.0, v) ∷ es) (e ∷ insert_entry path_cmp es p v)) ≡ Some v
      step Less at rest = ap (λ b. cond b (Some v) (look p (e ∷ es))) (finds p)
      step Equal at rest = ap (λ r. cond (is_eq r) (Some v) (look p es)) at
      step Greater at rest = ap (λ r. cond (is_eq r) (Some e.1) (look p (insert_entry path_cmp es p v))) at ∙ rest

  -- at another text nothing changes
  found_else : (q : ObjectPath) → path_text q ≢ path_text p → (es : Entries) → look q (insert_entry path_cmp es p v) ≡ look q es
  found_else q ne [] = ap (λ b. cond b (Some v) None) (passes_by q p ne)
  found_else q ne (e ∷ es) = step (path_cmp p e.0) refl (found_else q ne es)
    where
      step : (o : Ordering) → path_cmp p e.0 ≡ o → look q (insert_entry path_cmp es p v) ≡ look q es → look q (match_ordering o ((p, v) ∷ e ∷ es) ((e.0, v) ∷ es) (e ∷ insert_entry path_cmp es p v)) ≡ look q (e ∷ es)
      step Less at rest = ap (λ b. cond b (Some v) (look q (e ∷ es))) (passes_by q p ne)
      step Equal at rest =
          let off = passes_by q e.0 (λ same. ne (same ∙ sym (one_text p e.0 at))) in
          ap (λ b. cond b (Some v) (look q es)) off ∙ sym (ap (λ b. cond b (Some e.1) (look q es)) off)
      step Greater at rest = ap (λ r. cond (is_at (path_cmp q) e.0) (Some e.1) r) rest

-- the object that a put leaves at its path
abbrev pub put_object : Store → List ℕ → ℤ → StoredObject
put_object s bytes moment = record { bytes = bytes; last_modified = moment; e_tag = s.last_tag + 1 }

pub at_put : (p : ObjectPath) (bytes : List ℕ) (moment : ℤ) (s : Store) → object_at p (stored p bytes moment s) ≡ Some (put_object s bytes moment)
at_put p bytes moment s = found_put p (put_object s bytes moment) s.objects

pub at_else : (p q : ObjectPath) (bytes : List ℕ) (moment : ℤ) (s : Store) → path_text q ≢ path_text p → object_at q (stored p bytes moment s) ≡ object_at q s
at_else p q bytes moment s ne = found_else p (put_object s bytes moment) q ne s.objects
