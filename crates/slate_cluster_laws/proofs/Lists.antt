-- The numbers of a listing.
use Rattle.std.proofs.Common.{◌≡◌, ℕ, ◌<◌, ◌^◌, max, Bool, true, false, List, [], ◌∷◌, map, filter, Option, Some, None, IfSome, ◌⊎◌, ⊎_elim, sym, subst, arith, cond}
use Rattle.slate_ids.specs.declared.object_path.ObjectPath.{ObjectPath}
use Rattle.slate_ids.specs.declared.object_path.ObjectPath.TheVariants as paths
use Rattle.slate_ids.specs.FinePath.{IsFine}
use Rattle.slate_store.specs.Folders.{is_in}
use Rattle.slate_store.specs.Store.{Store, metadata, listed}
use Rattle.slate_store.specs.declared.list_dir.ListDir.{ListDir}
use Rattle.slate_store.specs.declared.object.ObjectMetadata.{ObjectMetadata}
use Rattle.slate_store.specs.declared.object.StoredObject.{StoredObject}
use Rattle.slate_txn_log.specs.Boundary.{greater, greatest_from, greatest}
use Rattle.slate_txn_log.specs.LogPaths.{number_of}
use Rattle.slate_txn_log.specs.declared.log_kind.LogKind.{LogKind}
use Rattle.slate_txn_log.specs.declared.log_kind.LogKind.TheVariants.{Manifest, Compactions}
use Rattle.slate_cluster_laws.proofs.Stores.{IsTidy}

abbrev pub EachNumber : (ℕ → Type 0) → LogKind → List ObjectMetadata → Type 0
EachNumber P log [] = Unit {0}
EachNumber P log (m ∷ ms) = IfSome (number_of log m.location) P × EachNumber P log ms

one_of : (a b : ℕ) → (max a b ≡ a) ⊎ (max a b ≡ b)
one_of a b = grind arith

greater_has : (P : ℕ → Type 0) (a b : Option ℕ) → IfSome a P → IfSome b P → IfSome (greater a b) P
greater_has P None b h k = k
greater_has P (Some a) None h k = h
greater_has P (Some a) (Some b) h k = ⊎_elim (λ (e : max a b ≡ a). subst P (sym e) h) (λ (e : max a b ≡ b). subst P (sym e) k) (one_of a b)

from_has : (P : ℕ → Type 0) (log : LogKind) (best : Option ℕ) (ms : List ObjectMetadata) → IfSome best P → EachNumber P log ms → IfSome (greatest_from log best ms) P
from_has P log best [] h each = h
from_has P log best (m ∷ ms) h each = from_has P log (greater best (number_of log m.location)) ms (greater_has P best (number_of log m.location) h each.0) each.1

-- what each number has, the greatest has
pub greatest_has : (P : ℕ → Type 0) (log : LogKind) (ms : List ObjectMetadata) → EachNumber P log ms → IfSome (greatest log ms) P
greatest_has P log ms each = from_has P log None ms tt each

small_number : (log : LogKind) (p : ObjectPath) → IsFine p → IfSome (number_of log p) (λ n. n < 2 ^ 64)
small_number Manifest (paths.Manifest db n) h = h.1
small_number Manifest _ h = tt
small_number Compactions (paths.Record db n) h = h.1
small_number Compactions _ h = tt

small_numbers : (log : LogKind) (dir : ListDir) (es : List (ObjectPath × StoredObject)) → IsTidy es → EachNumber (λ n. n < 2 ^ 64) log (map metadata (filter (λ o. is_in dir o.0) es))
small_numbers log dir [] h = tt
small_numbers log dir (e ∷ es) h = test (is_in dir e.0) (small_numbers log dir es h.1)
  where
    test : (b : Bool) → EachNumber (λ n. n < 2 ^ 64) log (map metadata (filter (λ o. is_in dir o.0) es)) → EachNumber (λ n. n < 2 ^ 64) log (map metadata (cond b (e ∷ filter (λ o. is_in dir o.0) es) (filter (λ o. is_in dir o.0) es)))
    test true rest = (small_number log e.0 h.0, rest)
    test false rest = rest

-- the greatest listed number is one of 64 bits
pub listed_small : (log : LogKind) (dir : ListDir) (s : Store) → IsTidy s.objects → IfSome (greatest log (listed dir s)) (λ n. n < 2 ^ 64)
listed_small log dir s h = greatest_has (λ n. n < 2 ^ 64) log (listed dir s) (small_numbers log dir s.objects h)
