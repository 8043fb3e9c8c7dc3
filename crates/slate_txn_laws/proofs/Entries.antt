-- Objects stand at paths that are fine after a put, and the paths of a log are apart.
use Rattle.std.proofs.Common.{◌≡◌, ◌≢◌, ℕ, ℤ, ◌<◌, ◌^◌, true, List, [], ◌∷◌, sym}
use Rattle.std.specs.BTreeMap.{insert_entry}
use Rattle.std.specs.Ordering.{match_ordering}
use Rattle.std.specs.declared.cmp.Ordering.{Ordering}
use Rattle.std.specs.declared.cmp.Ordering.TheVariants.{Less, Equal, Greater}
use Rattle.slate_ids.specs.FinePath.{IsFine}
use Rattle.slate_ids.specs.Ids.{is_db_path}
use Rattle.slate_ids.specs.PathText.{path_text, path_cmp}
use Rattle.slate_ids.specs.declared.object_path.ObjectPath.{ObjectPath}
use Rattle.slate_ids.proofs.PathsApart.{same_path}
use Rattle.slate_store.proofs.LookUps.{Entries, put_object}
use Rattle.slate_store.specs.Store.{Store, stored}
use Rattle.slate_txn_laws.specs.Ready.{AreFine}
use Rattle.slate_store.specs.declared.object.StoredObject.{StoredObject}
use Rattle.slate_txn_log.specs.LogPaths.{version_path, boundary_path}
use Rattle.slate_txn_log.specs.declared.log_kind.LogKind.{LogKind}
use Rattle.slate_txn_log.specs.declared.log_kind.LogKind.TheVariants.{Manifest, Compactions}

module _ (p : ObjectPath) (v : StoredObject) where
  fine_put : IsFine p → (es : Entries) → AreFine es → AreFine (insert_entry path_cmp es p v)
  fine_put fine [] h = (fine, tt)
  fine_put fine (e ∷ es) h = step (path_cmp p e.0) (fine_put fine es h.1)
    where
      step : (o : Ordering) → AreFine (insert_entry path_cmp es p v) → AreFine (match_ordering o ((p, v) ∷ e ∷ es) ((e.0, v) ∷ es) (e ∷ insert_entry path_cmp es p v))
      step Less rest = (fine, h)
      step Equal rest = h
      step Greater rest = (h.0, rest)

pub fine_after : (p : ObjectPath) (bytes : List ℕ) (moment : ℤ) (s : Store) → IsFine p → AreFine s.objects → AreFine (stored p bytes moment s).objects
fine_after p bytes moment s fine h = fine_put p (put_object s bytes moment) fine s.objects h

-- ---- the paths of a log

module _ (db : List ℕ) (named : is_db_path db ≡ true) where
  pub version_fine : (log : LogKind) (n : ℕ) → n < 2 ^ 64 → IsFine (version_path log db n)
  version_fine Manifest n small = (named, small)
  version_fine Compactions n small = (named, small)

  pub boundary_fine : (log : LogKind) → IsFine (boundary_path log db)
  boundary_fine Manifest = named
  boundary_fine Compactions = named

  one_number : (log : LogKind) (n k : ℕ) → version_path log db n ≡ version_path log db k → n ≡ k
  one_number Manifest n k e = cc
  one_number Compactions n k e = cc

  no_boundary : (log : LogKind) (n : ℕ) → version_path log db n ≢ boundary_path log db
  no_boundary Manifest n = λ e. cc
  no_boundary Compactions n = λ e. cc

  pub versions_apart : (log : LogKind) (n k : ℕ) → n < 2 ^ 64 → k < 2 ^ 64 → n ≢ k → path_text (version_path log db n) ≢ path_text (version_path log db k)
  versions_apart log n k a b ne = λ e. ne (one_number log n k (same_path _ _ (version_fine log n a) (version_fine log k b) e))

  pub boundary_apart : (log : LogKind) (n : ℕ) → n < 2 ^ 64 → path_text (boundary_path log db) ≢ path_text (version_path log db n)
  boundary_apart log n a = λ e. no_boundary log n (same_path _ _ (version_fine log n a) (boundary_fine log) (sym e))
