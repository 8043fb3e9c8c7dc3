-- The greatest number that a list of a log gives is the greatest committed one.
use Rattle.std.proofs.Common.{◌≡◌, ℕ, ◌<◌, ◌≤◌, ◌^◌, Bool, true, false, List, [], ◌∷◌, map, filter, Option, Some, None, IfSome, is_some, ◌⊎◌, ⊎_elim, inl, inr, refl, sym, ap, ◌∙◌, subst, cond, arith}
use Rattle.std.specs.Map.{lookup}
use Rattle.std.specs.BTreeMap.{is_at}
use Rattle.slate_ids.specs.FinePath.{IsFine}
use Rattle.slate_ids.specs.Ids.{is_db_path}
use Rattle.slate_ids.specs.PathText.{path_cmp}
use Rattle.slate_ids.specs.declared.object_path.ObjectPath.{ObjectPath}
use Rattle.slate_ids.specs.declared.object_path.ObjectPath.TheVariants as paths
use Rattle.slate_ids.proofs.PathsApart.{same_path}
use Rattle.slate_store.specs.Folders.{is_in}
use Rattle.slate_store.specs.Store.{Store, object_at, metadata, listed}
use Rattle.slate_store.specs.declared.object.ObjectMetadata.{ObjectMetadata}
use Rattle.slate_store.specs.declared.object.StoredObject.{StoredObject}
use Rattle.slate_txn_log.specs.Boundary.{greater, greatest_from, greatest}
use Rattle.slate_txn_log.specs.LogPaths.{folder, number_of, version_path}
use Rattle.slate_txn_log.specs.declared.log_kind.LogKind.{LogKind}
use Rattle.slate_txn_log.specs.declared.log_kind.LogKind.TheVariants.{Manifest, Compactions}
use Rattle.slate_cluster_protocol.specs.Chains.{Link, Log, link_at, top, bytes_of, link_bytes}
use Rattle.slate_store.proofs.LookUps.{same_bytes, bytes_same, finds, same_found}
use Rattle.slate_cluster_laws.proofs.Stores.{IsTidy}
use Rattle.slate_cluster_chain_laws.proofs.Links.{at_most, some_below, le_or_lt}
use Rattle.slate_cluster_laws.proofs.Lists.{EachNumber, greatest_has}
use Rattle.slate_cluster_laws.proofs.Facts.{IsSound}
use Rattle.slate_cluster_laws.proofs.Paths.{version_fine}

abbrev Entries : Type 0
Entries = List (ObjectPath × StoredObject)

abbrev look : ObjectPath → Entries → Option StoredObject
look q es = lookup (is_at (path_cmp q)) es

abbrev numbers : LogKind → List ℕ → Entries → List ObjectMetadata
numbers k db es = map metadata (filter (λ o. is_in (folder k db) o.0) es)

-- ---- the versions of a log

-- the number of a version's path
pub number_back : (k : LogKind) (db : List ℕ) (n : ℕ) → number_of k (version_path k db n) ≡ Some n
number_back Manifest db n = refl
number_back Compactions db n = refl

is_listed : (k : LogKind) (db : List ℕ) (n : ℕ) → is_in (folder k db) (version_path k db n) ≡ true
is_listed Manifest db n = bytes_same db
is_listed Compactions db n = bytes_same db

-- what a folder of versions lists
pub record IsListed (k : LogKind) (db : List ℕ) (p : ObjectPath) : Type 0 where
  pub number : ℕ
  pub is : p ≡ version_path k db number

pub listed_is : (k : LogKind) (db : List ℕ) (p : ObjectPath) → is_in (folder k db) p ≡ true → IsListed k db p
listed_is Manifest db (paths.Manifest of n) h = record { number = n; is = ap (λ d. paths.Manifest d n) (sym (same_bytes db of h)) }
listed_is Manifest db _ h = absurd cc
listed_is Compactions db (paths.Record of n) h = record { number = n; is = ap (λ d. paths.Record d n) (sym (same_bytes db of h)) }
listed_is Compactions db _ h = absurd cc

small_there : (k : LogKind) (db : List ℕ) (n : ℕ) → IsFine (version_path k db n) → n < 2 ^ 64
small_there Manifest db n h = h.1
small_there Compactions db n h = h.1

-- ---- a number of the list is at most the greatest

abbrev at_least : ℕ → Option ℕ → Type 0
at_least k None = ⊥
at_least k (Some n) = k ≤ n

least_more : (k : ℕ) (a b : Option ℕ) → at_least k a → at_least k (greater a b)
least_more k None b h = absurd h
least_more k (Some a) None h = h
least_more k (Some a) (Some b) h = grind arith

least_from : (k : ℕ) (log : LogKind) (best : Option ℕ) (ms : List ObjectMetadata) → at_least k best → at_least k (greatest_from log best ms)
least_from k log best [] h = h
least_from k log best (m ∷ ms) h = least_from k log (greater best (number_of log m.location)) ms (least_more k best (number_of log m.location) h)

least_new : (k : ℕ) (best : Option ℕ) → at_least k (greater best (Some k))
least_new k None = omega arith
least_new k (Some b) = grind arith

-- a list that has the number
abbrev Has : LogKind → ℕ → List ObjectMetadata → Type 0
Has log k [] = ⊥
Has log k (m ∷ ms) = (number_of log m.location ≡ Some k) ⊎ Has log k ms

has_least : (log : LogKind) (k : ℕ) (best : Option ℕ) (ms : List ObjectMetadata) → Has log k ms → at_least k (greatest_from log best ms)
has_least log k best [] h = absurd h
has_least log k best (m ∷ ms) h =
    ⊎_elim
    (λ (e : number_of log m.location ≡ Some k). least_from k log (greater best (number_of log m.location)) ms (subst (λ (o : Option ℕ). at_least k (greater best o)) (sym e) (least_new k best)))
    (λ (t : Has log k ms). has_least log k (greater best (number_of log m.location)) ms t)
    h

module _ (log : LogKind) (db : List ℕ) (named : is_db_path db ≡ true) where
  -- what is found at a version's path is listed
  found_listed : (k : ℕ) (o : StoredObject) (es : Entries) → k < 2 ^ 64 → IsTidy es → look (version_path log db k) es ≡ Some o → Has log k (numbers log db es)
  found_listed k o [] small tidy h = absurd cc
  found_listed k o (e ∷ es) small tidy h = test (is_at (path_cmp (version_path log db k)) e.0) refl h (found_listed k o es small tidy.1)
    where
      kept : (b : Bool) → Has log k (numbers log db es) → Has log k (map metadata (cond b (e ∷ filter (λ o. is_in (folder log db) o.0) es) (filter (λ o. is_in (folder log db) o.0) es)))
      kept true t = inr t
      kept false t = t

      here : version_path log db k ≡ e.0 → Has log k (numbers log db (e ∷ es))
      here same =
          let listed : is_in (folder log db) e.0 ≡ true = ap (is_in (folder log db)) (sym same) ∙ is_listed log db k in
          subst (λ (b : Bool). Has log k (map metadata (cond b (e ∷ filter (λ o. is_in (folder log db) o.0) es) (filter (λ o. is_in (folder log db) o.0) es)))) (sym listed) (inl (ap (number_of log) (sym same) ∙ number_back log db k))

      test : (b : Bool) → is_at (path_cmp (version_path log db k)) e.0 ≡ b → cond b (Some e.1) (look (version_path log db k) es) ≡ Some o → (look (version_path log db k) es ≡ Some o → Has log k (numbers log db es)) → Has log k (numbers log db (e ∷ es))
      test true is h f = here (same_path (version_path log db k) e.0 (version_fine db named log k small) tidy.0 (same_found (version_path log db k) e.0 is))
      test false is h f = kept (is_in (folder log db) e.0) (f h)

-- ---- a listed version is committed

abbrev Found : Entries → Entries → Type 0
Found all [] = Unit {0}
Found all (e ∷ es) = (is_some (look e.0 all) ≡ true) × Found all es

still_found : (p : ObjectPath) (e : ObjectPath × StoredObject) (es : Entries) → is_some (look p es) ≡ true → is_some (look p (e ∷ es)) ≡ true
still_found p e es h = test (is_at (path_cmp p) e.0)
  where
    test : (b : Bool) → is_some (cond b (Some e.1) (look p es)) ≡ true
    test true = refl
    test false = h

all_still : (e : ObjectPath × StoredObject) (all es : Entries) → Found all es → Found (e ∷ all) es
all_still e all [] h = tt
all_still e all (x ∷ es) h = (still_found x.0 e all h.0, all_still e all es h.1)

all_found : (es : Entries) → Found es es
all_found [] = tt
all_found (e ∷ es) = (ap is_some (ap (λ (b : Bool). cond b (Some e.1) (look e.0 es)) (finds e.0)), all_still e es es (all_found es))

-- what is listed of a store has what each standing version has
module _ (P : ℕ → Type 0) (log : LogKind) (db : List ℕ) (s : Store) (each : (n : ℕ) → n < 2 ^ 64 → is_some (object_at (version_path log db n) s) ≡ true → P n) where
  path_has : (p : ObjectPath) → IsFine p → is_in (folder log db) p ≡ true → is_some (object_at p s) ≡ true → IfSome (number_of log p) P
  path_has p fine listed found =
      let v = listed_is log db p listed in
      subst (λ (o : Option ℕ). IfSome o P) (sym (ap (number_of log) v.is ∙ number_back log db v.number))
      (each v.number (small_there log db v.number (subst IsFine v.is fine)) (subst (λ (q : ObjectPath). is_some (object_at q s) ≡ true) v.is found))

  each_has : (es : Entries) → IsTidy es → Found s.objects es → EachNumber P log (numbers log db es)
  each_has [] tidy h = tt
  each_has (e ∷ es) tidy h = test (is_in (folder log db) e.0) refl (each_has es tidy.1 h.1)
    where
      test : (b : Bool) → is_in (folder log db) e.0 ≡ b → EachNumber P log (numbers log db es)
          → EachNumber P log (map metadata (cond b (e ∷ filter (λ o. is_in (folder log db) o.0) es) (filter (λ o. is_in (folder log db) o.0) es)))
      test true is rest = (path_has e.0 tidy.0 is h.0, rest)
      test false is rest = rest

  pub list_has : IsTidy s.objects → IfSome (greatest log (listed (folder log db) s)) P
  list_has tidy = greatest_has P log (listed (folder log db) s) (each_has s.objects tidy (all_found s.objects))

module _ {V A : Type 0} (log : Log V A) (db : List ℕ) (named : is_db_path db ≡ true) (s : Store) (c : List (Link V A)) (i : IsSound log db s c) where
  -- an object stands at a committed number, or at or below the boundary
  stands_most : (n : ℕ) → n < 2 ^ 64 → is_some (object_at (version_path log.kind db n) s) ≡ true → n ≤ top c
  stands_most n small h =
      ⊎_elim
      (λ (le : n ≤ i.bound). ⊎_elim (λ (no : i.bound ≤ 0). omega arith) (λ (pos : 0 < i.bound). let lt = i.below pos in omega arith) (le_or_lt i.bound 0))
      (λ (lt : i.bound < n). by_object (object_at (version_path log.kind db n) s) refl h (i.above n lt small))
      (le_or_lt n i.bound)
    where
      by_link : (o : Option (Link V A)) (bytes : List ℕ) → link_at n c ≡ o → Some bytes ≡ link_bytes o → n ≤ top c
      by_link None bytes e h = absurd cc
      by_link (Some l) bytes e h = at_most log n l c i.chain e

      by_object : (o : Option StoredObject) → object_at (version_path log.kind db n) s ≡ o → is_some o ≡ true → bytes_of (object_at (version_path log.kind db n) s) ≡ link_bytes (link_at n c) → n ≤ top c
      by_object None e h stands = absurd cc
      by_object (Some object) e h stands = by_link (link_at n c) object.bytes refl (sym (ap bytes_of e) ∙ stands)

  -- no number of the list is above the greatest committed one
  pub listed_most : IsTidy s.objects → IfSome (greatest log.kind (listed (folder log.kind db) s)) (λ n. n ≤ top c)
  listed_most tidy = list_has (λ n. n ≤ top c) log.kind db s stands_most tidy

  -- the boundary is below the greatest version, where there is one
  pub bound_below : 0 < top c → i.bound < top c
  bound_below some = ⊎_elim (λ (no : i.bound ≤ 0). omega arith) (λ (pos : 0 < i.bound). i.below pos) (le_or_lt i.bound 0)

  -- the greatest committed version stands
  top_found : 0 < top c → IsTidy s.objects → Has log.kind (top c) (numbers log.kind db s.objects)
  top_found some tidy = by_link (link_at (top c) c) refl (i.above (top c) (bound_below some) i.small)
    where
      by_object : (o : Option StoredObject) (bytes : List ℕ) → object_at (version_path log.kind db (top c)) s ≡ o → bytes_of o ≡ Some bytes → Has log.kind (top c) (numbers log.kind db s.objects)
      by_object None bytes e h = absurd cc
      by_object (Some object) bytes e h = found_listed log.kind db named (top c) object s.objects i.small tidy e

      by_link : (o : Option (Link V A)) → link_at (top c) c ≡ o → bytes_of (object_at (version_path log.kind db (top c)) s) ≡ link_bytes (link_at (top c) c) → Has log.kind (top c) (numbers log.kind db s.objects)
      by_link None e stands = absurd (some_below log (top c) c i.chain some (omega arith) e)
      by_link (Some l) e stands = by_object (object_at (version_path log.kind db (top c)) s) l.bytes refl (stands ∙ ap link_bytes e)

  -- the greatest number of the list is the greatest committed one, where there is one
  pub list_top : 0 < top c → IsTidy s.objects → greatest log.kind (listed (folder log.kind db) s) ≡ Some (top c)
  list_top some tidy =
      exact (greatest log.kind (listed (folder log.kind db) s)) (listed_most tidy) (has_least log.kind (top c) None (listed (folder log.kind db) s) (top_found some tidy))
    where
      both : (a b : ℕ) → a ≤ b → b ≤ a → a ≡ b
      both a b h k = omega arith

      exact : (o : Option ℕ) → IfSome o (λ n. n ≤ top c) → at_least (top c) o → o ≡ Some (top c)
      exact None h k = absurd k
      exact (Some n) h k = ap (λ (x : ℕ). Some x) (both n (top c) h k)

  -- nothing is listed where there is none, and nothing stands at the number 0
  pub list_none : top c ≡ 0 → object_at (version_path log.kind db 0) s ≡ None → IsTidy s.objects → greatest log.kind (listed (folder log.kind db) s) ≡ None
  list_none empty zero tidy = exact (greatest log.kind (listed (folder log.kind db) s)) (list_has (λ n. ⊥) log.kind db s none_stands tidy)
    where
      is_zero : (a b : ℕ) → a ≤ b → b ≡ 0 → a ≡ 0
      is_zero a b h k = omega arith

      none_stands : (n : ℕ) → n < 2 ^ 64 → is_some (object_at (version_path log.kind db n) s) ≡ true → ⊥
      none_stands n small h =
          let e = is_zero n (top c) (stands_most n small h) empty in
          cc (subst (λ k. is_some (object_at (version_path log.kind db k) s) ≡ true) e h, zero)

      exact : (o : Option ℕ) → IfSome o (λ n. ⊥) → o ≡ None
      exact None h = refl
      exact (Some n) h = absurd h
