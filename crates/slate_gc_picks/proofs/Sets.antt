-- A set takes objects, or tables, one by one.
use Rattle.std.specs.Prelude.{ℕ, ◌+◌, ◌<◌, ◌||◌, ◌&&◌, ◌==◌, cond, Bool, true, false, List, [], ◌∷◌, ◌++◌, length}
use Rattle.std.specs.List.{list_any}
use Rattle.std.specs.BTreeSet.{BTreeSet, contains}
use Rattle.std.specs.Ordering.{nat_cmp, is_eq, ordering_then}
use Rattle.std.specs.declared.cmp.Ordering.{Ordering}
use Rattle.std.specs.declared.cmp.Ordering.TheVariants.{Less, Equal, Greater}
use Rattle.std.proofs.Common.{◌≡◌, refl, sym, ◌∙◌, ap, arith, drop, get_or}
use Rattle.std.proofs.lemmas.Bool.Decides.{nat_tests}
use Rattle.std.proofs.lemmas.List.{at_drop_more}
use Rattle.slate_ids.proofs.IdOrder.{is_at_is}
use Rattle.slate_model.specs.Externals.{same_table}
use Rattle.slate_gc_picks.specs.Filter.{is_one_of, same_object}
use Rattle.slate_gc_picks.specs.ListedKeys.{key_cmp, key_of}
use Rattle.slate_gc_picks.specs.declared.object_key.ObjectKey.{ObjectKey}
use Rattle.slate_store.specs.declared.object.ObjectMetadata.{ObjectMetadata}
use Rattle.slate_model_tables.specs.declared.ss_table_id.SsTableId.{SsTableId}
use Rattle.slate_model_tables.specs.declared.ss_table_id.SsTableId.TheVariants.{Wal, Compacted}
use Rattle.slate_state_updates.specs.TableSets.{has_table, is_among, table_cmp, IsTableSet}

-- one more of what was left is in the set
next : (had has same rest all : Bool) → has ≡ cond same true had → (had || (same || rest)) ≡ all → (has || rest) ≡ all
next true has true rest all made left = ap (λ (b : Bool). b || rest) made ∙ left
next true has false rest all made left = ap (λ (b : Bool). b || rest) made ∙ left
next false has true rest all made left = ap (λ (b : Bool). b || rest) made ∙ left
next false has false rest all made left = ap (λ (b : Bool). b || rest) made ∙ left

-- ---- objects

same_number : (a b : ℕ) → is_eq (nat_cmp a b) ≡ (a == b)
same_number a b = grind (arith, nat_tests)

then_eq : (a b : Ordering) → is_eq (ordering_then a b) ≡ (is_eq a && is_eq b)
then_eq Less b = refl
then_eq Equal b = refl
then_eq Greater b = refl

-- keys are equal where what they are of is the same
same_key : (o m : ObjectMetadata) → is_eq (key_cmp (key_of o) (key_of m)) ≡ same_object o m
same_key o m = search (then_eq, same_number)

-- what the set has, or one of those that are left is, is one of all
abbrev pub ObjectsLeft : BTreeSet ObjectKey → List ObjectMetadata → List ObjectMetadata → Type 0
ObjectsLeft set rest all = (m : ObjectMetadata) → (contains key_cmp set (key_of m) || is_one_of rest m) ≡ is_one_of all m

-- one more object is in the set
pub one_object : (set new : BTreeSet ObjectKey) (objects all : List ObjectMetadata) (i : ℕ) (o : ObjectMetadata) → i < length objects → o ≡ get_or objects i o
    → ((q : ObjectKey) → contains key_cmp new q ≡ cond (is_eq (key_cmp (key_of o) q)) true (contains key_cmp set q)) → ObjectsLeft set (drop i objects) all → ObjectsLeft new (drop (i + 1) objects) all
one_object set new objects all i o lt at made left m =
    let here : is_one_of (drop i objects) m ≡ (same_object o m || is_one_of (drop (i + 1) objects) m) =
    at_drop_more (λ (x : List ObjectMetadata). is_one_of x m) objects i o lt ∙ ap (λ (x : ObjectMetadata). is_one_of (x ∷ drop (i + 1) objects) m) (sym at) in
    next (contains key_cmp set (key_of m)) (contains key_cmp new (key_of m)) (same_object o m) (is_one_of (drop (i + 1) objects) m) (is_one_of all m)
    (made (key_of m) ∙ ap (λ (b : Bool). cond b true (contains key_cmp set (key_of m))) (same_key o m))
    (ap (λ (b : Bool). contains key_cmp set (key_of m) || b) (sym here) ∙ left m)

-- ---- tables

swapped : (a b : ℕ) → is_eq (nat_cmp a b) ≡ (b == a)
swapped a b = grind (arith, nat_tests)

same_id_at : (a b : SsTableId) → is_eq (table_cmp a b) ≡ same_table b a
same_id_at (Wal a) (Wal b) = swapped a b
same_id_at (Wal a) (Compacted b) = refl
same_id_at (Compacted a) (Wal b) = refl
same_id_at (Compacted a) (Compacted b) = is_at_is a b

-- what the new set has, or one of those that are left is, is what the old one has or one of all is
abbrev pub TablesLeft : BTreeSet SsTableId → BTreeSet SsTableId → List SsTableId → List SsTableId → Type 0
TablesLeft old new rest all = (id : SsTableId) → (has_table new id || is_among rest id) ≡ (has_table old id || is_among all id)

-- one more table is in the set
pub one_table : (old set new : BTreeSet SsTableId) (rest all : List SsTableId) (id : SsTableId)
    → ((q : SsTableId) → has_table new q ≡ cond (is_eq (table_cmp id q)) true (has_table set q)) → TablesLeft old set (id ∷ rest) all → TablesLeft old new rest all
one_table old set new rest all id made left q =
    next (has_table set q) (has_table new q) (same_table q id) (is_among rest q) (has_table old q || is_among all q)
    (made q ∙ ap (λ (b : Bool). cond b true (has_table set q)) (same_id_at id q)) (left q)

any_append : (f : SsTableId → Bool) (xs ys : List SsTableId) → list_any f (xs ++ ys) ≡ (list_any f xs || list_any f ys)
any_append f [] ys = refl
any_append f (x ∷ xs) ys = by_first (f x) (any_append f xs ys)
  where
    by_first : (b : Bool) → list_any f (xs ++ ys) ≡ (list_any f xs || list_any f ys) → (b || list_any f (xs ++ ys)) ≡ ((b || list_any f xs) || list_any f ys)
    by_first true e = refl
    by_first false e = e

or_false : (b : Bool) → (b || false) ≡ b
or_false true = refl
or_false false = refl

-- all tables are in the set, besides those that it had
pub all_tables : (old new : BTreeSet SsTableId) (all known : List SsTableId) → TablesLeft old new [] all → IsTableSet old known → IsTableSet new (known ++ all)
all_tables old new all known left is id =
    sym (or_false (has_table new id)) ∙ left id ∙ ap (λ (b : Bool). b || is_among all id) (is id) ∙ sym (any_append (same_table id) known all)

-- the set has some tables, and with those that are left these are all
pub record IsSetThen (set : BTreeSet SsTableId) (rest all : List SsTableId) : Type 0 where
  pub known : List SsTableId
  pub has : IsTableSet set known
  pub whole : known ++ rest ≡ all
