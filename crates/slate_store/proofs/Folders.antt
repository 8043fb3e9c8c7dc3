-- The paths of a folder stand between its bounds.
use Rattle.std.specs.Prelude.{List, bytes_eq, filter}
use Rattle.std.specs.declared.cmp.Ordering.{Ordering}
use Rattle.std.specs.declared.cmp.Ordering.TheVariants.{Equal}
use Rattle.std.specs.BTreeMap.Range.{IsLeBy, IsLtBy, range_contains, entries_between}
use Rattle.std.specs.Ordering.{nat_cmp, ordering_then, is_eq, is_le, is_gt}
use Rattle.std.specs.Range.Bound.{IsForward}
use Rattle.std.specs.Cmp.Lexicographic.{slice_cmp}
use Rattle.std.proofs.Common.{◌≡◌, ℕ, Bool, true, false, ◌++◌, [], ◌∷◌, refl, sym, ap, ◌∙◌, arith}
use Rattle.std.proofs.lemmas.Bool.Decides.{nat_tests}
use Rattle.std.proofs.lemmas.Map.Text.{is_eq-slice_cmp}
use Rattle.std.proofs.lemmas.Slice.Eq.{bytes_eq-Decides}
use Rattle.slate_ids.specs.PathKind.{is_rest, kind_of, number_in_folder, middle, strip_front, strip_end, table_of, single_of}
use Rattle.slate_ids.specs.PathText.{front_of, past_of, suffix_of, in_folder, behind, path_text, path_cmp, twenty}
use Rattle.slate_ids.specs.UlidText.{ulid_text}
use Rattle.slate_ids.specs.declared.folder.Folder.{Folder}
use Rattle.slate_ids.specs.declared.folder.Folder.TheVariants as folders
use Rattle.slate_ids.specs.declared.object_path.ObjectPath.{ObjectPath}
use Rattle.slate_ids.specs.declared.object_path.ObjectPath.TheVariants.{Manifest, Record, Table, Wal, Other}
use Rattle.slate_store.specs.Folders.{is_in, from_to, bounds_of}
use Rattle.slate_store.specs.declared.list_dir.ListDir.{ListDir}
use Rattle.slate_store.specs.declared.list_dir.ListDir.TheVariants.{Manifests, Records, Tables, Wals, All}
use Rattle.slate_store.specs.declared.object.StoredObject.{StoredObject}

-- names are equal where their order says so
pub same_name : (a b : List ℕ) → is_eq (slice_cmp nat_cmp a b) ≡ bytes_eq a b
same_name = is_eq-slice_cmp

-- the bounds of a folder have the form of no kind

pub front_is_rest : (folder : Folder) → is_rest (front_of folder) ≡ true
unfolding is_rest kind_of number_in_folder middle strip_front strip_end table_of single_of
front_is_rest folders.Manifests = refl
front_is_rest folders.Records = refl
front_is_rest folders.Tables = refl
front_is_rest folders.Wals = refl

pub past_is_rest : (folder : Folder) → is_rest (past_of folder) ≡ true
unfolding is_rest kind_of number_in_folder middle strip_front strip_end table_of single_of
past_is_rest folders.Manifests = refl
past_is_rest folders.Records = refl
past_is_rest folders.Tables = refl
past_is_rest folders.Wals = refl

same_digit : (x : ℕ) (o : Ordering) → ordering_then (nat_cmp x x) o ≡ o
same_digit x o = ap (λ c. ordering_then c o) (itself x)
  where
    itself : (y : ℕ) → nat_cmp y y ≡ Equal
    itself y = grind (arith, nat_tests)

-- what two texts begin with alike doesn't count
pub same_front : (front xs ys : List ℕ) → slice_cmp nat_cmp (front ++ xs) (front ++ ys) ≡ slice_cmp nat_cmp xs ys
same_front [] xs ys = refl
same_front (x ∷ front) xs ys = same_digit x (slice_cmp nat_cmp (front ++ xs) (front ++ ys)) ∙ same_front front xs ys

-- paths of a database order by what follows it
after_db : (db from text : List ℕ) (path : ObjectPath) → path_text path ≡ behind db text → path_cmp (Other db from) path ≡ slice_cmp nat_cmp from text
after_db db from text path e = ap (slice_cmp nat_cmp (behind db from)) e ∙ same_front db (47 ∷ from) (47 ∷ text)

front_first : (folder : Folder) → is_gt (slice_cmp nat_cmp (front_of folder) (past_of folder)) ≡ false
front_first folders.Manifests = refl
front_first folders.Records = refl
front_first folders.Tables = refl
front_first folders.Wals = refl

from_front : (db : List ℕ) (folder : Folder) → IsForward (IsLeBy path_cmp) (IsLtBy path_cmp) (from_to db folder).0 (from_to db folder).1
from_front db folder = ap is_gt (after_db db (front_of folder) (past_of folder) (Other db (past_of folder)) refl) ∙ front_first folder

-- the bounds of a list run forward
pub forward : (dir : ListDir) → IsForward (IsLeBy path_cmp) (IsLtBy path_cmp) (bounds_of dir).0 (bounds_of dir).1
forward (Manifests db) = from_front db folders.Manifests
forward (Records db) = from_front db folders.Records
forward (Tables db) = from_front db folders.Tables
forward (Wals db) = from_front db folders.Wals
forward (All db) = tt

from_nothing : (text : List ℕ) → is_le (slice_cmp nat_cmp [] text) ≡ true
from_nothing [] = refl
from_nothing (c ∷ text) = refl

-- a name in a folder stands between its bounds
name_between : (folder : Folder) (name : List ℕ) → (is_le (slice_cmp nat_cmp (front_of folder) (in_folder folder name)) ≡ true) × (is_le (slice_cmp nat_cmp (past_of folder) (in_folder folder name)) ≡ false)
name_between folders.Manifests name = (from_nothing (name ++ suffix_of folders.Manifests), refl)
name_between folders.Records name = (from_nothing (name ++ suffix_of folders.Records), refl)
name_between folders.Tables name = (from_nothing (name ++ suffix_of folders.Tables), refl)
name_between folders.Wals name = (from_nothing (name ++ suffix_of folders.Wals), refl)

between : (db other : List ℕ) (folder : Folder) (name : List ℕ) (path : ObjectPath) → bytes_eq db other ≡ true → path_text path ≡ behind other (in_folder folder name)
    → range_contains path_cmp (from_to db folder).0 (from_to db folder).1 path ≡ true
between db other folder name path same text =
    let here : path_text path ≡ behind db (in_folder folder name) = text ∙ ap (λ (d : List ℕ). behind d (in_folder folder name)) (sym ((bytes_eq-Decides db other).0 same)) in
    let named = name_between folder name in
    rw (after_db db (front_of folder) (in_folder folder name) path here, after_db db (past_of folder) (in_folder folder name) path here, named.0, named.1)

-- what is listed is between the bounds
inside : (dir : ListDir) (path : ObjectPath) → is_in dir path ≡ true → range_contains path_cmp (bounds_of dir).0 (bounds_of dir).1 path ≡ true
inside (Manifests db) (Manifest of n) h = between db of folders.Manifests (twenty n) (Manifest of n) h refl
inside (Records db) (Record of n) h = between db of folders.Records (twenty n) (Record of n) h refl
inside (Tables db) (Table of id) h = between db of folders.Tables (ulid_text id) (Table of id) h refl
inside (Wals db) (Wal of n) h = between db of folders.Wals (twenty n) (Wal of n) h refl
inside (All db) path h = refl
inside _ _ h = absurd cc

-- a filter after one that lets more through
narrower : {X : Type 0} (p q : X → Bool) → ((x : X) → p x ≡ true → q x ≡ true) → (xs : List X) → filter p (filter q xs) ≡ filter p xs
narrower p q h [] = refl
narrower {X} p q h (x ∷ xs) = by (p x) (q x) refl refl (narrower p q h xs)
  where
    by : (a b : Bool) → p x ≡ a → q x ≡ b → filter p (filter q xs) ≡ filter p xs → filter p (filter q (x ∷ xs)) ≡ filter p (x ∷ xs)
    by true true e f rec = rw (f, e, rec)
    by true false e f rec = absurd (let t = h x e in cc)
    by false true e f rec = rw (f, e, rec)
    by false false e f rec = rw (f, e, rec)

-- a folder lists what it lists of the objects between its bounds
pub within : (dir : ListDir) (es : List (ObjectPath × StoredObject)) → filter (λ o. is_in dir o.0) (entries_between path_cmp (bounds_of dir).0 (bounds_of dir).1 es) ≡ filter (λ o. is_in dir o.0) es
within dir es = narrower (λ o. is_in dir o.0) (λ o. range_contains path_cmp (bounds_of dir).0 (bounds_of dir).1 o.0) (λ o h. inside dir o.0 h) es
