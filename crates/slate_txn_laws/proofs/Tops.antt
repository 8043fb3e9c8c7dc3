-- The greatest number of a log, and what a put makes of it.
use Rattle.std.proofs.Common.{◌≡◌, ℕ, ℤ, ◌<◌, ◌≤◌, ◌^◌, max, Bool, true, false, List, [], ◌∷◌, map, filter, Option, Some, None, IfSome, is_some, ◌⊎◌, ⊎_elim, refl, sym, ap, ◌∙◌, subst, cond, arith}
use Rattle.std.specs.BTreeMap.{is_at, insert_entry}
use Rattle.std.specs.Ordering.{is_eq, match_ordering}
use Rattle.std.specs.declared.cmp.Ordering.{Ordering}
use Rattle.std.specs.declared.cmp.Ordering.TheVariants.{Less, Equal, Greater}
use Rattle.slate_ids.specs.FinePath.{IsFine}
use Rattle.slate_ids.specs.Ids.{is_db_path}
use Rattle.slate_ids.specs.PathText.{path_cmp}
use Rattle.slate_ids.specs.declared.object_path.ObjectPath.{ObjectPath}
use Rattle.slate_ids.specs.declared.object_path.ObjectPath.TheVariants as paths
use Rattle.slate_ids.proofs.PathsApart.{same_path}
use Rattle.slate_store.specs.Folders.{is_in}
use Rattle.slate_store.specs.Store.{Store, object_at, stored, metadata}
use Rattle.slate_store.specs.declared.object.ObjectMetadata.{ObjectMetadata}
use Rattle.slate_store.specs.declared.object.StoredObject.{StoredObject}
use Rattle.slate_txn_log.specs.Boundary.{greater, greatest_from}
use Rattle.slate_txn_log.specs.LogPaths.{folder, number_of, version_path}
use Rattle.slate_txn_log.specs.declared.log_kind.LogKind.{LogKind}
use Rattle.slate_txn_log.specs.declared.log_kind.LogKind.TheVariants.{Manifest, Compactions}
use Rattle.slate_txn_laws.specs.Ready.{AreFine, top_of}
use Rattle.slate_store.proofs.LookUps.{Entries, look, same_bytes, bytes_same, finds, same_found, put_object}
use Rattle.slate_txn_laws.proofs.Entries.{version_fine}

abbrev pub numbers : LogKind → List ℕ → Entries → List ObjectMetadata
numbers k db es = map metadata (filter (λ o. is_in (folder k db) o.0) es)

-- ---- the versions that a folder lists

pub number_back : (k : LogKind) (db : List ℕ) (n : ℕ) → number_of k (version_path k db n) ≡ Some n
number_back Manifest db n = refl
number_back Compactions db n = refl

pub is_listed : (k : LogKind) (db : List ℕ) (n : ℕ) → is_in (folder k db) (version_path k db n) ≡ true
is_listed Manifest db n = bytes_same db
is_listed Compactions db n = bytes_same db

pub record IsListed (k : LogKind) (db : List ℕ) (p : ObjectPath) : Type 0 where
  pub number : ℕ
  pub is : p ≡ version_path k db number

pub listed_is : (k : LogKind) (db : List ℕ) (p : ObjectPath) → is_in (folder k db) p ≡ true → IsListed k db p
listed_is Manifest db (paths.Manifest of n) h = record { number = n; is = ap (λ d. paths.Manifest d n) (sym (same_bytes db of h)) }
listed_is Manifest db _ h = absurd cc
listed_is Compactions db (paths.Record of n) h = record { number = n; is = ap (λ d. paths.Record d n) (sym (same_bytes db of h)) }
listed_is Compactions db _ h = absurd cc

-- ---- the greatest has what each has

abbrev EachNumber : (ℕ → Type 0) → LogKind → List ObjectMetadata → Type 0
EachNumber P log [] = Unit {0}
EachNumber P log (m ∷ ms) = IfSome (number_of log m.location) P × EachNumber P log ms

one_of : (a b : ℕ) → (max a b ≡ a) ⊎ (max a b ≡ b)
one_of a b = grind arith

greater_has : (P : ℕ → Type 0) (a b : Option ℕ) → IfSome a P → IfSome b P → IfSome (greater a b) P
greater_has P None b h k = k
greater_has P (Some a) None h k = h
greater_has P (Some a) (Some b) h k = ⊎_elim (λ (e : max a b ≡ a). subst P (sym e) h) (λ (e : max a b ≡ b). subst P (sym e) k) (one_of a b)

from_has : (P : ℕ → Type 0) (log : LogKind) (best : Option ℕ) (ms : List ObjectMetadata) → IfSome best P → EachNumber P log ms → IfSome (greatest_from log best ms) P
from_has P log best [] h each = h
from_has P log best (m ∷ ms) h each = from_has P log (greater best (number_of log m.location)) ms (greater_has P best (number_of log m.location) h each.0) each.1

if_map : (P Q : ℕ → Type 0) (o : Option ℕ) → ((n : ℕ) → P n → Q n) → IfSome o P → IfSome o Q
if_map P Q None f h = tt
if_map P Q (Some n) f h = f n h

each_map : (P Q : ℕ → Type 0) (log : LogKind) (ms : List ObjectMetadata) → ((n : ℕ) → P n → Q n) → EachNumber P log ms → EachNumber Q log ms
each_map P Q log [] f h = tt
each_map P Q log (m ∷ ms) f h = (if_map P Q (number_of log m.location) f h.0, each_map P Q log ms f h.1)

module _ (log : LogKind) (db : List ℕ) where
  -- a number of 64 bits at which an object stands
  record Stands (es : Entries) (n : ℕ) : Type 0 where
    pub at : is_some (look (version_path log db n) es) ≡ true
    pub small : n < 2 ^ 64

  still : (b : Bool) (x : StoredObject) (o : Option StoredObject) → is_some o ≡ true → is_some (cond b (Some x) o) ≡ true
  still true x o h = refl
  still false x o h = h

  fine_small : (k : LogKind) (n : ℕ) → IsFine (version_path k db n) → n < 2 ^ 64
  fine_small Manifest n h = h.1
  fine_small Compactions n h = h.1

  here_stands : (p : ObjectPath) (x : StoredObject) (es : Entries) → IsFine p → is_in (folder log db) p ≡ true → IfSome (number_of log p) (Stands ((p, x) ∷ es))
  here_stands p x es fine h =
      let is = listed_is log db p h in
      let at : is_some (look (version_path log db is.number) ((version_path log db is.number, x) ∷ es)) ≡ true = ap (λ b. is_some (cond b (Some x) (look (version_path log db is.number) es))) (finds (version_path log db is.number)) in
      let small = fine_small log is.number (subst IsFine is.is fine) in
      subst (λ (p : ObjectPath). IfSome (number_of log p) (Stands ((p, x) ∷ es))) (sym is.is)
      (subst (λ (o : Option ℕ). IfSome o (Stands ((version_path log db is.number, x) ∷ es))) (sym (number_back log db is.number)) (record { at = at; small = small }))

  each_stands : (es : Entries) → AreFine es → EachNumber (Stands es) log (numbers log db es)
  each_stands [] h = tt
  each_stands (e ∷ es) h = test (is_in (folder log db) e.0) (here_stands e.0 e.1 es h.0) (each_map (Stands es) (Stands (e ∷ es)) log (numbers log db es) more (each_stands es h.1))
    where
      more : (n : ℕ) → Stands es n → Stands (e ∷ es) n
      more n w = record { at = still (is_at (path_cmp (version_path log db n)) e.0) e.1 (look (version_path log db n) es) w.at; small = w.small }

      test : (b : Bool) → (b ≡ true → IfSome (number_of log e.0) (Stands (e ∷ es))) → EachNumber (Stands (e ∷ es)) log (numbers log db es) → EachNumber (Stands (e ∷ es)) log (map metadata (cond b (e ∷ filter (λ o. is_in (folder log db) o.0) es) (filter (λ o. is_in (folder log db) o.0) es)))
      test true here rest = (here refl, rest)
      test false here rest = rest

  -- the greatest number has an object
  pub record HasObject (s : Store) (n : ℕ) : Type 0 where
    pub object : StoredObject
    pub at : object_at (version_path log db n) s ≡ Some object
    pub small : n < 2 ^ 64

  has_object : (s : Store) (n : ℕ) (o : Option StoredObject) → object_at (version_path log db n) s ≡ o → is_some o ≡ true → n < 2 ^ 64 → HasObject s n
  has_object s n None at h small = absurd cc
  has_object s n (Some object) at h small = record { object = object; at = at; small = small }

  pub top_object : (s : Store) (n : ℕ) → AreFine s.objects → top_of db log s ≡ Some n → HasObject s n
  top_object s n fine top =
      let w = subst (λ (o : Option ℕ). IfSome o (Stands s.objects)) top (from_has (Stands s.objects) log None (numbers log db s.objects) tt (each_stands s.objects fine)) in
      has_object s n (object_at (version_path log db n) s) refl w.at w.small

  -- ---- a number at which an object stands is at most the greatest

  abbrev pub IsAtMost : ℕ → Option ℕ → Type 0
  IsAtMost m None = ⊥
  IsAtMost m (Some n) = m ≤ n

  greater_more : (m : ℕ) (a b : Option ℕ) → IsAtMost m a → IsAtMost m (greater a b)
  greater_more m None b h = absurd h
  greater_more m (Some a) None h = h
  greater_more m (Some a) (Some b) h = omega (arith, h)

  greater_own : (m : ℕ) (a : Option ℕ) → IsAtMost m (greater a (Some m))
  greater_own m None = omega arith
  greater_own m (Some a) = omega arith

  from_more : (m : ℕ) (best : Option ℕ) (ms : List ObjectMetadata) → IsAtMost m best → IsAtMost m (greatest_from log best ms)
  from_more m best [] h = h
  from_more m best (e ∷ ms) h = from_more m (greater best (number_of log e.location)) ms (greater_more m best (number_of log e.location) h)

  module _ (named : is_db_path db ≡ true) (m : ℕ) (small : m < 2 ^ 64) where
    abbrev own : ObjectPath
    own = version_path log db m

    at_most : (es : Entries) (best : Option ℕ) (x : StoredObject) → AreFine es → look own es ≡ Some x → IsAtMost m (greatest_from log best (numbers log db es))
    at_most [] best x fine at = absurd cc
    at_most (e ∷ es) best x fine at =
        there (is_at (path_cmp own) e.0) refl (λ (best : Option ℕ) (at : look own es ≡ Some x). at_most es best x fine.1 at) at
      where
        listing : Bool → List ObjectMetadata
        listing = λ b. map metadata (cond b (e ∷ filter (λ o. is_in (folder log db) o.0) es) (filter (λ o. is_in (folder log db) o.0) es))

        skip : (b : Bool) → ((best : Option ℕ) → IsAtMost m (greatest_from log best (numbers log db es))) → IsAtMost m (greatest_from log best (map metadata (cond b (e ∷ filter (λ o. is_in (folder log db) o.0) es) (filter (λ o. is_in (folder log db) o.0) es))))
        skip true rest = rest (greater best (number_of log e.0))
        skip false rest = rest best

        take_own : (b : Bool) → b ≡ true → number_of log e.0 ≡ Some m → IsAtMost m (greatest_from log best (map metadata (cond b (e ∷ filter (λ o. is_in (folder log db) o.0) es) (filter (λ o. is_in (folder log db) o.0) es))))
        take_own true h number = from_more m (greater best (number_of log e.0)) (numbers log db es) (subst (λ (o : Option ℕ). IsAtMost m (greater best o)) (sym number) (greater_own m best))
        take_own false h number = absurd cc

        same : is_at (path_cmp own) e.0 ≡ true → e.0 ≡ own
        same h = sym (same_path own e.0 (version_fine db named log m small) fine.0 (same_found own e.0 h))

        there : (b : Bool) → is_at (path_cmp own) e.0 ≡ b → ((best : Option ℕ) → look own es ≡ Some x → IsAtMost m (greatest_from log best (numbers log db es))) → cond b (Some e.1) (look own es) ≡ Some x → IsAtMost m (greatest_from log best (numbers log db (e ∷ es)))
        there true is rest at = take_own (is_in (folder log db) e.0) (ap (is_in (folder log db)) (same is) ∙ is_listed log db m) (ap (number_of log) (same is) ∙ number_back log db m)
        there false is rest at = skip (is_in (folder log db) e.0) (λ best. rest best at)

    pub stands_at_most : (s : Store) (x : StoredObject) → AreFine s.objects → object_at own s ≡ Some x → IsAtMost m (top_of db log s)
    stands_at_most s x fine at = at_most s.objects None x fine at

  -- ---- a put of a number that was free

  max_swap : (a b c : ℕ) → max (max a b) c ≡ max (max a c) b
  max_swap a b c = grind arith

  greater_swap : (a b : Option ℕ) (m : ℕ) → greater (greater a (Some m)) b ≡ greater (greater a b) (Some m)
  greater_swap None None m = refl
  greater_swap None (Some b) m = ap Some (omega arith)
  greater_swap (Some a) None m = refl
  greater_swap (Some a) (Some b) m = ap Some (max_swap a m b)

  pub from_swap : (m : ℕ) (best : Option ℕ) (ms : List ObjectMetadata) → greatest_from log (greater best (Some m)) ms ≡ greater (greatest_from log best ms) (Some m)
  from_swap m best [] = refl
  from_swap m best (e ∷ ms) = ap (λ (o : Option ℕ). greatest_from log o ms) (greater_swap best (number_of log e.location) m) ∙ from_swap m (greater best (number_of log e.location)) ms

  module _ (m : ℕ) (v : StoredObject) where
    abbrev put_path : ObjectPath
    put_path = version_path log db m

    front : (b : Bool) (best : Option ℕ) (es : Entries) → b ≡ true → greatest_from log best (map metadata (cond b ((put_path, v) ∷ filter (λ o. is_in (folder log db) o.0) es) (filter (λ o. is_in (folder log db) o.0) es))) ≡ greatest_from log (greater best (Some m)) (numbers log db es)
    front true best es h = ap (λ (o : Option ℕ). greatest_from log (greater best o) (numbers log db es)) (number_back log db m)
    front false best es h = absurd cc

    put_top : (es : Entries) (best : Option ℕ) → look put_path es ≡ None → greatest_from log best (numbers log db (insert_entry path_cmp es put_path v)) ≡ greatest_from log (greater best (Some m)) (numbers log db es)
    put_top [] best free = front (is_in (folder log db) put_path) best [] (is_listed log db m)
    put_top (e ∷ es) best free = step (path_cmp put_path e.0) refl (λ (best : Option ℕ) (free : look put_path es ≡ None). put_top es best free)
      where
        pass : (b : Bool) → ((best : Option ℕ) → greatest_from log best (numbers log db (insert_entry path_cmp es put_path v)) ≡ greatest_from log (greater best (Some m)) (numbers log db es))
            → greatest_from log best (map metadata (cond b (e ∷ filter (λ o. is_in (folder log db) o.0) (insert_entry path_cmp es put_path v)) (filter (λ o. is_in (folder log db) o.0) (insert_entry path_cmp es put_path v))))
            ≡ greatest_from log (greater best (Some m)) (map metadata (cond b (e ∷ filter (λ o. is_in (folder log db) o.0) es) (filter (λ o. is_in (folder log db) o.0) es)))
        pass true rest = rest (greater best (number_of log e.0)) ∙ ap (λ (o : Option ℕ). greatest_from log o (numbers log db es)) (sym (greater_swap best (number_of log e.0) m))
        pass false rest = rest best

        step : (o : Ordering) → path_cmp put_path e.0 ≡ o → ((best : Option ℕ) → look put_path es ≡ None → greatest_from log best (numbers log db (insert_entry path_cmp es put_path v)) ≡ greatest_from log (greater best (Some m)) (numbers log db es))
            → greatest_from log best (numbers log db (match_ordering o ((put_path, v) ∷ e ∷ es) ((e.0, v) ∷ es) (e ∷ insert_entry path_cmp es put_path v))) ≡ greatest_from log (greater best (Some m)) (numbers log db (e ∷ es))
        step Less at rest = front (is_in (folder log db) put_path) best (e ∷ es) (is_listed log db m)
        step Equal at rest = let taken = ap (λ r. cond (is_eq r) (Some e.1) (look put_path es)) at in absurd (cc (taken, free))
        step Greater at rest = let on = ap (λ r. cond (is_eq r) (Some e.1) (look put_path es)) at in pass (is_in (folder log db) e.0) (λ best. rest best (sym on ∙ free))

  pub top_stored : (m : ℕ) (bytes : List ℕ) (moment : ℤ) (s : Store) → object_at (version_path log db m) s ≡ None → top_of db log (stored (version_path log db m) bytes moment s) ≡ greater (top_of db log s) (Some m)
  top_stored m bytes moment s free = put_top m (put_object s bytes moment) s.objects None free ∙ from_swap m None (numbers log db s.objects)
