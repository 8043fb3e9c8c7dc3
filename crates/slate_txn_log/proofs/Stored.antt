-- What a look-up finds at the path of a write.
use Rattle.std.proofs.Common.{◌≡◌, ℕ, ℤ, ◌+◌, true, List, [], ◌∷◌, Option, Some, None, refl, ap, ◌∙◌, cond}
use Rattle.std.specs.Map.{lookup}
use Rattle.std.specs.BTreeMap.{is_at, insert_entry}
use Rattle.std.specs.Ordering.{is_eq, match_ordering}
use Rattle.std.specs.declared.cmp.Ordering.{Ordering}
use Rattle.std.specs.declared.cmp.Ordering.TheVariants.{Less, Equal, Greater}
use Rattle.std.proofs.lemmas.Map.Text.{is_eq-slice_cmp}
use Rattle.std.proofs.lemmas.Slice.Eq.{bytes_eq-Decides}
use Rattle.slate_ids.specs.PathText.{path_text, path_cmp}
use Rattle.slate_ids.specs.declared.object_path.ObjectPath.{ObjectPath}
use Rattle.slate_store.specs.Store.{Store, object_at, stored}
use Rattle.slate_store.specs.declared.object.StoredObject.{StoredObject}

-- a path is found by itself
finds : (p : ObjectPath) → is_at (path_cmp p) p ≡ true
finds p = is_eq-slice_cmp (path_text p) (path_text p) ∙ (bytes_eq-Decides (path_text p) (path_text p)).1 refl

abbrev look : ObjectPath → List (ObjectPath × StoredObject) → Option StoredObject
look p es = lookup (is_at (path_cmp p)) es

-- what was put is found
found_put : (p : ObjectPath) (v : StoredObject) (es : List (ObjectPath × StoredObject)) → look p (insert_entry path_cmp es p v) ≡ Some v
found_put p v [] = ap (λ b. cond b (Some v) None) (finds p)
found_put p v (e ∷ es) = step (path_cmp p e.0) refl (found_put p v es)
  where
    step : (o : Ordering) → path_cmp p e.0 ≡ o → look p (insert_entry path_cmp es p v) ≡ Some v → look p (match_ordering o ((p, v) ∷ e ∷ es) ((e.0, v) ∷ es) (e ∷ insert_entry path_cmp es p v)) ≡ Some v
    step Less at rest = ap (λ b. cond b (Some v) (look p (e ∷ es))) (finds p)
    step Equal at rest = ap (λ r. cond (is_eq r) (Some v) (look p es)) at
    step Greater at rest = ap (λ r. cond (is_eq r) (Some e.1) (look p (insert_entry path_cmp es p v))) at ∙ rest

-- the object that a write leaves at its path
pub at_stored : (p : ObjectPath) (bytes : List ℕ) (moment : ℤ) (s : Store) → object_at p (stored p bytes moment s) ≡ Some (record { bytes = bytes; last_modified = moment; e_tag = s.last_tag + 1 })
at_stored p bytes moment s = found_put p (record { bytes = bytes; last_modified = moment; e_tag = s.last_tag + 1 }) s.objects
