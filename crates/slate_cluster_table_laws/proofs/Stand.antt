-- What stands in a store: a step leaves it, or takes it away.
use Rattle.std.proofs.Common.{◌≡◌, ℕ, ℤ, Bool, true, false, not, ◌&&◌, ◌++◌, List, [], ◌∷◌, Option, Some, None, is_some, ◌⊎◌, inl, inr, ⊎_elim, refl, sym, ap, ◌∙◌, cond}
use Rattle.std.specs.Prelude.{◌||◌}
use Rattle.std.specs.Map.{lookup}
use Rattle.std.specs.BTreeMap.{is_at, insert_entry}
use Rattle.std.specs.Ordering.{match_ordering}
use Rattle.std.specs.Str.{bytes_eq}
use Rattle.std.specs.declared.cmp.Ordering.{Ordering}
use Rattle.std.specs.declared.cmp.Ordering.TheVariants.{Less, Equal, Greater}
use Rattle.slate_ids.specs.PathText.{path_text, path_cmp}
use Rattle.slate_ids.specs.declared.object_path.ObjectPath.{ObjectPath}
use Rattle.slate_ids.specs.declared.object_path.ObjectPath.TheVariants as paths
use Rattle.slate_store.proofs.LookUps.{Entries, at_put, bytes_same, look, put_object, same_found, test_is}
use Rattle.slate_store.specs.Store.{Store, effect, has_tag, object_at, put_new, removed, replace, stands_at, stored, taken, under, whole}
use Rattle.slate_store.specs.declared.mark.Mark.{Mark}
use Rattle.slate_store.specs.declared.mark.Mark.TheVariants.{Good, Fail, Lost}
use Rattle.slate_store.specs.declared.object.StoredObject.{StoredObject}
use Rattle.slate_store.specs.declared.store_answer.StoreAnswer.TheVariants.{Written}
use Rattle.slate_store.specs.declared.store_call.StoreCall.{StoreCall}
use Rattle.slate_store.specs.declared.store_call.StoreCall.TheVariants.{List as ListCall, Get, PutNew, Replace, Put, Delete}
use Rattle.slate_cluster_protocol.specs.Safe.{path_if, removed_by_call}
use Rattle.slate_cluster_protocol.specs.Specs.{First, store_from}
use Rattle.slate_cluster_laws.proofs.Stores.{at_left}
use Rattle.slate_cluster_table_laws.specs.Presence.{WasPut, is_gone}

-- ---- one text

same_test : (p q r : ObjectPath) → path_text p ≡ path_text q → is_at (path_cmp p) r ≡ is_at (path_cmp q) r
same_test p q r same = test_is p r ∙ (ap (λ (t : List ℕ). bytes_eq t (path_text r)) same ∙ sym (test_is q r))

same_look : (p q : ObjectPath) → path_text p ≡ path_text q → (es : Entries) → look p es ≡ look q es
same_look p q same [] = refl
same_look p q same (e ∷ es) = ap (λ (b : Bool). cond b (Some e.1) (look p es)) (same_test p q e.0 same) ∙ ap (λ (o : Option StoredObject). cond (is_at (path_cmp q) e.0) (Some e.1) o) (same_look p q same es)

-- ---- a put

or_some : {X : Type 0} (b : Bool) (x : X) (o : Option X) → is_some o ≡ true → is_some (cond b (Some x) o) ≡ true
or_some true x o h = refl
or_some false x o h = h

module _ (q p : ObjectPath) (v : StoredObject) where
  insert_stands : (es : Entries) → is_some (look q es) ≡ true → is_some (look q (insert_entry path_cmp es p v)) ≡ true
  insert_stands [] h = absurd cc
  insert_stands (e ∷ es) h = step (path_cmp p e.0) (insert_stands es)
    where
      other : (b : Bool) → is_some (cond b (Some e.1) (look q es)) ≡ true → is_some (cond b (Some v) (look q es)) ≡ true
      other true k = refl
      other false k = k

      later : (b : Bool) → is_some (cond b (Some e.1) (look q es)) ≡ true → (is_some (look q es) ≡ true → is_some (look q (insert_entry path_cmp es p v)) ≡ true) → is_some (cond b (Some e.1) (look q (insert_entry path_cmp es p v))) ≡ true
      later true k rest = refl
      later false k rest = rest k

      step : (o : Ordering) → (is_some (look q es) ≡ true → is_some (look q (insert_entry path_cmp es p v)) ≡ true) → is_some (look q (match_ordering o ((p, v) ∷ e ∷ es) ((e.0, v) ∷ es) (e ∷ insert_entry path_cmp es p v))) ≡ true
      step Less rest = or_some (is_at (path_cmp q) p) v (look q (e ∷ es)) h
      step Equal rest = other (is_at (path_cmp q) e.0) h
      step Greater rest = later (is_at (path_cmp q) e.0) h rest

stored_stands : (path p : ObjectPath) (bytes : List ℕ) (moment : ℤ) (s : Store) → stands_at path s ≡ true → stands_at path (stored p bytes moment s) ≡ true
stored_stands path p bytes moment s h = insert_stands path p (put_object s bytes moment) s.objects h

-- at its own path, by its text
put_stands : (path p : ObjectPath) (bytes : List ℕ) (moment : ℤ) (s : Store) → path_text path ≡ path_text p → stands_at path (stored p bytes moment s) ≡ true
put_stands path p bytes moment s same = ap is_some (same_look path p same (stored p bytes moment s).objects ∙ at_put p bytes moment s)

-- a put that is answered as written has its object
module _ (path : ObjectPath) (bytes : List ℕ) (moment : ℤ) (s : Store) (tag : ℕ) where
  under_written : (m : Mark) → (under m (whole (Put path bytes) moment s) s).answer ≡ Written tag → stands_at path (under m (whole (Put path bytes) moment s) s).store ≡ true
  under_written Good h = put_stands path path bytes moment s refl
  under_written Fail h = absurd (cc h)
  under_written Lost h = absurd (cc h)

  pub written_stands : (mark : Mark) → (effect mark (Put path bytes) moment s).answer ≡ Written tag → stands_at path (effect mark (Put path bytes) moment s).store ≡ true
  written_stands mark h = under_written (taken mark (Put path bytes) s) h

-- ---- a delete

module _ (path q : ObjectPath) (s : Store) (h : stands_at path s ≡ true) where
  took : (a b : Bool) → a ≡ true → b ≡ false → is_at (path_cmp path) q ≡ true → is_gone path (path_if (a && not b) q) ≡ true
  took true false is no_more at = first (is_at (path_cmp path) q) at
    where
      first : (x : Bool) → x ≡ true → (x || false) ≡ true
      first true k = refl
      first false k = absurd cc
  took true true is no_more at = absurd cc
  took false b is no_more at = absurd cc

  by_stand : is_at (path_cmp path) q ≡ true → (b : Bool) → stands_at q (removed q s) ≡ b → (stands_at path (removed q s) ≡ true) ⊎ (is_gone path (path_if (stands_at q s && not (stands_at q (removed q s))) q) ≡ true)
  by_stand at true is = inl (ap is_some (same_look path q (same_found path q at) (removed q s).objects) ∙ is)
  by_stand at false is = inr (took (stands_at q s) (stands_at q (removed q s)) (ap is_some (sym (same_look path q (same_found path q at) s.objects)) ∙ h) is at)

  by_text : (b : Bool) → is_at (path_cmp path) q ≡ b → (stands_at path (removed q s) ≡ true) ⊎ (is_gone path (path_if (stands_at q s && not (stands_at q (removed q s))) q) ≡ true)
  by_text true at = by_stand at (stands_at q (removed q s)) refl
  by_text false at =
      inl (ap is_some (at_left q path s (λ (same : path_text path ≡ path_text q).
      absurd (cc (at, test_is path q ∙ (ap (λ (t : List ℕ). bytes_eq t (path_text q)) same ∙ bytes_same (path_text q))))))
      ∙ h)

-- ---- a call

-- it stands, or this call took it away
abbrev StaysBy : ObjectPath → StoreCall → Store → Store → Type 0
StaysBy path call s t = (stands_at path t ≡ true) ⊎ (is_gone path (removed_by_call call s t) ≡ true)

module _ (path : ObjectPath) (moment : ℤ) (s : Store) (h : stands_at path s ≡ true) where
  new_stands : (o : Option StoredObject) (p : ObjectPath) (bytes : List ℕ) → stands_at path (put_new o p bytes moment s).store ≡ true
  new_stands (Some object) p bytes = h
  new_stands None p bytes = stored_stands path p bytes moment s h

  replace_stands : (b : Bool) (p : ObjectPath) (bytes : List ℕ) → stands_at path (replace b p bytes moment s).store ≡ true
  replace_stands false p bytes = h
  replace_stands true p bytes = stored_stands path p bytes moment s h

  whole_stays : (call : StoreCall) → StaysBy path call s (whole call moment s).store
  whole_stays (ListCall dir) = inl h
  whole_stays (Get p) = inl h
  whole_stays (PutNew p bytes) = inl (new_stands (object_at p s) p bytes)
  whole_stays (Replace p tag bytes) = inl (replace_stands (has_tag tag (object_at p s)) p bytes)
  whole_stays (Put p bytes) = inl (stored_stands path p bytes moment s h)
  whole_stays (Delete q) = by_text path q s h (is_at (path_cmp path) q) refl

  under_stays : (m : Mark) (call : StoreCall) → StaysBy path call s (under m (whole call moment s) s).store
  under_stays Good call = whole_stays call
  under_stays Lost call = whole_stays call
  under_stays Fail call = inl h

-- ---- what was put

gone_front : (path : ObjectPath) (xs ys : List ObjectPath) → is_gone path xs ≡ true → is_gone path (xs ++ ys) ≡ true
gone_front path [] ys h = absurd cc
gone_front path (x ∷ xs) ys h = by (is_at (path_cmp path) x) h (gone_front path xs ys)
  where
    by : (b : Bool) → (b || is_gone path xs) ≡ true → (is_gone path xs ≡ true → is_gone path (xs ++ ys) ≡ true) → (b || is_gone path (xs ++ ys)) ≡ true
    by true k rest = refl
    by false k rest = rest k

gone_back : (path : ObjectPath) (xs ys : List ObjectPath) → is_gone path ys ≡ true → is_gone path (xs ++ ys) ≡ true
gone_back path [] ys h = h
gone_back path (x ∷ xs) ys h = by (is_at (path_cmp path) x) (gone_back path xs ys h)
  where
    by : (b : Bool) → is_gone path (xs ++ ys) ≡ true → (b || is_gone path (xs ++ ys)) ≡ true
    by true k = refl
    by false k = k

-- what was put was put also after a call
pub put_stays : (gone : List ObjectPath) (mark : Mark) (call : StoreCall) (moment : ℤ) (s : Store) (db : List ℕ) (id : ℕ × ℕ) → WasPut gone s db id
    → WasPut (gone ++ removed_by_call call s (effect mark call moment s).store) (effect mark call moment s).store db id
put_stays gone mark call moment s db id (inr before) = inr (gone_front (paths.Table db id) gone (removed_by_call call s (effect mark call moment s).store) before)
put_stays gone mark call moment s db id (inl stands) =
    let path = paths.Table db id in
    ⊎_elim
    (λ (k : stands_at path (effect mark call moment s).store ≡ true). inl k)
    (λ (k : is_gone path (removed_by_call call s (effect mark call moment s).store) ≡ true). inr (gone_back path gone (removed_by_call call s (effect mark call moment s).store) k))
    (under_stays path moment s stands (taken mark call s) call)

-- ---- objects put one after the other

from_stands : (path : ObjectPath) (os : List (ObjectPath × First)) (s : Store) → stands_at path s ≡ true → stands_at path (store_from s os) ≡ true
from_stands path [] s h = h
from_stands path (o ∷ os) s h = from_stands path os (stored o.0 o.1.0 o.1.1 s) (stored_stands path o.0 o.1.0 o.1.1 s h)

pub there_stands : (path : ObjectPath) (os : List (ObjectPath × First)) (s : Store) → is_some (lookup (is_at (path_cmp path)) os) ≡ true → stands_at path (store_from s os) ≡ true
there_stands path [] s h = absurd cc
there_stands path (o ∷ os) s h = by (is_at (path_cmp path) o.0) refl h (there_stands path os (stored o.0 o.1.0 o.1.1 s))
  where
    by : (b : Bool) → is_at (path_cmp path) o.0 ≡ b → is_some (cond b (Some o.1) (lookup (is_at (path_cmp path)) os)) ≡ true
        → (is_some (lookup (is_at (path_cmp path)) os) ≡ true → stands_at path (store_from (stored o.0 o.1.0 o.1.1 s) os) ≡ true) → stands_at path (store_from (stored o.0 o.1.0 o.1.1 s) os) ≡ true
    by true at k rest = from_stands path os (stored o.0 o.1.0 o.1.1 s) (put_stands path o.0 o.1.0 o.1.1 s (same_found path o.0 at))
    by false at k rest = rest k
