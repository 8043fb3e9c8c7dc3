-- What the deletion of a version at or below the boundary, and the put of a boundary, leave of a log that is ready.
use Rattle.std.proofs.Common.{◌≡◌, ℕ, ℤ, ◌<◌, ◌≤◌, ◌^◌, max, Bool, true, false, List, [], ◌∷◌, map, filter, Option, Some, None, IfSome, refl, sym, ap, ◌∙◌, subst, cond, arith}
use Rattle.std.specs.BTreeMap.{is_at}
use Rattle.slate_ids.specs.Ids.{is_db_path}
use Rattle.slate_ids.specs.PathText.{path_cmp}
use Rattle.slate_ids.specs.declared.object_path.ObjectPath.{ObjectPath}
use Rattle.slate_ids.proofs.PathsApart.{same_path}
use Rattle.slate_store.specs.Folders.{is_in}
use Rattle.slate_store.specs.Store.{Store, stored, removed, metadata}
use Rattle.slate_txn_log.specs.Advance.{boundary_at}
use Rattle.slate_txn_log.specs.Boundary.{boundary_got, greater, greatest_from}
use Rattle.slate_txn_log.specs.LogPaths.{folder, number_of, version_path, boundary_path}
use Rattle.slate_txn_log.specs.declared.log_kind.LogKind.{LogKind}
use Rattle.slate_txn_laws.specs.Ready.{AreFine, top_of, IsBelow, IsReady}
use Rattle.slate_txn_laws.proofs.Asides.{left, fine_left, left_else}
use Rattle.slate_store.proofs.LookUps.{Entries, same_found}
use Rattle.slate_txn_laws.proofs.Entries.{fine_after, boundary_fine, version_fine, boundary_apart}
use Rattle.slate_txn_laws.proofs.Tops.{numbers, number_back, is_listed, from_swap}

max_below : (n b : ℕ) (top : Option ℕ) → IsBelow n top → IsBelow b top → IsBelow (max n b) top
max_below n b None h k = omega (arith, h, k)
max_below n b (Some m) h k = omega (arith, h, k)

-- ready, with this boundary
pub ready_of : (db : List ℕ) (log : LogKind) (t : Store) (b : ℕ) (top : Option ℕ) → AreFine t.objects → boundary_at db log t ≡ Some b → top_of db log t ≡ top → IsBelow b top → IsReady db log t
ready_of db log t b top fine at is h = record { fine = fine; below = subst (λ (o : Option ℕ). IfSome o (λ b. IsBelow b (top_of db log t))) (sym at) (subst (IsBelow b) (sym is) h) }

boundary_below : (db : List ℕ) (log : LogKind) (s : Store) (b : ℕ) → IsReady db log s → boundary_at db log s ≡ Some b → IsBelow b (top_of db log s)
boundary_below db log s b ready at = subst (λ (o : Option ℕ). IfSome o (λ b. IsBelow b (top_of db log s))) at ready.below

-- a boundary put below the greatest number
pub advanced_ready : (db : List ℕ) (log : LogKind) (s : Store) (n b : ℕ) (bytes : List ℕ) (moment : ℤ) → is_db_path db ≡ true → IsReady db log s → boundary_at db log s ≡ Some b → IsBelow n (top_of db log s)
    → boundary_at db log (stored (boundary_path log db) bytes moment s) ≡ Some (max n b) → top_of db log (stored (boundary_path log db) bytes moment s) ≡ top_of db log s → IsReady db log (stored (boundary_path log db) bytes moment s)
advanced_ready db log s n b bytes moment named ready at below put kept =
    ready_of db log (stored (boundary_path log db) bytes moment s) (max n b) (top_of db log s) (fine_after (boundary_path log db) bytes moment s (boundary_fine db named log) ready.fine) put kept
    (max_below n b (top_of db log s) below (boundary_below db log s b ready at))

-- ---- a deletion

twice : (n : ℕ) (o : Option ℕ) → greater (greater o (Some n)) (Some n) ≡ greater o (Some n)
twice n None = ap Some (omega arith)
twice n (Some m) = ap Some (omega arith)

same_top : (n m : ℕ) (o : Option ℕ) → n < m → greater o (Some n) ≡ greater (Some m) (Some n) → o ≡ Some m
same_top n m None lt e = let same : n ≡ max m n = cc in absurd (omega (arith, lt, same))
same_top n m (Some k) lt e = let same : max k n ≡ max m n = cc in ap Some (omega (arith, lt, same))

module _ (db : List ℕ) (log : LogKind) (named : is_db_path db ≡ true) (n : ℕ) (small : n < 2 ^ 64) where
  abbrev own : ObjectPath
  own = version_path log db n

  abbrev tops : Option ℕ → Entries → Option ℕ
  tops best es = greatest_from log best (numbers log db es)

  -- up to the number deleted, the greatest is as before
  left_tops : (es : Entries) (best : Option ℕ) → AreFine es → greater (tops best (left own es)) (Some n) ≡ greater (tops best es) (Some n)
  left_tops [] best fine = refl
  left_tops (e ∷ es) best fine = test (is_at (path_cmp own) e.0) refl (λ best. left_tops es best fine.1)
    where
      same : is_at (path_cmp own) e.0 ≡ true → e.0 ≡ own
      same h = sym (same_path own e.0 (version_fine db named log n small) fine.0 (same_found own e.0 h))

      gone : (b : Bool) → b ≡ true → number_of log e.0 ≡ Some n → greater (tops best es) (Some n) ≡ greater (greatest_from log best (map metadata (cond b (e ∷ filter (λ o. is_in (folder log db) o.0) es) (filter (λ o. is_in (folder log db) o.0) es)))) (Some n)
      gone true h number = sym (ap (λ (o : Option ℕ). greater (greatest_from log (greater best o) (numbers log db es)) (Some n)) number ∙ (ap (λ (o : Option ℕ). greater o (Some n)) (from_swap log db n best (numbers log db es)) ∙ twice n (tops best es)))
      gone false h number = absurd cc

      pass : (b : Bool) → ((best : Option ℕ) → greater (tops best (left own es)) (Some n) ≡ greater (tops best es) (Some n))
          → greater (greatest_from log best (map metadata (cond b (e ∷ filter (λ o. is_in (folder log db) o.0) (left own es)) (filter (λ o. is_in (folder log db) o.0) (left own es))))) (Some n)
          ≡ greater (greatest_from log best (map metadata (cond b (e ∷ filter (λ o. is_in (folder log db) o.0) es) (filter (λ o. is_in (folder log db) o.0) es)))) (Some n)
      pass true rest = rest (greater best (number_of log e.0))
      pass false rest = rest best

      test : (b : Bool) → is_at (path_cmp own) e.0 ≡ b → ((best : Option ℕ) → greater (tops best (left own es)) (Some n) ≡ greater (tops best es) (Some n)) → greater (tops best (cond b es (e ∷ left own es))) (Some n) ≡ greater (tops best (e ∷ es)) (Some n)
      test true is rest = gone (is_in (folder log db) e.0) (ap (is_in (folder log db)) (same is) ∙ is_listed log db n) (ap (number_of log) (same is) ∙ number_back log db n)
      test false is rest = pass (is_in (folder log db) e.0) rest

  -- below the greatest number, the greatest and the boundary stay
  module _ (s : Store) (ready : IsReady db log s) (m : ℕ) (top : top_of db log s ≡ Some m) (below : n < m) where
    same_boundary : boundary_at db log (removed own s) ≡ boundary_at db log s
    same_boundary = ap boundary_got (left_else own (boundary_path log db) (boundary_apart db named log n small) s.objects)

    pub older_top : top_of db log (removed own s) ≡ top_of db log s
    older_top = same_top n m (top_of db log (removed own s)) below (left_tops s.objects None ready.fine ∙ ap (λ (o : Option ℕ). greater o (Some n)) top) ∙ sym top

    pub older_ready : IsReady db log (removed own s)
    older_ready = record {
      fine = fine_left own s.objects ready.fine;
      below = subst (λ (o : Option ℕ). IfSome o (λ b. IsBelow b (top_of db log (removed own s)))) (sym same_boundary)
          (subst (λ (o : Option ℕ). IfSome (boundary_at db log s) (λ b. IsBelow b o)) (sym older_top) ready.below);
    }

  module _ (s : Store) (ready : IsReady db log s) (b : ℕ) (at : boundary_at db log s ≡ Some b) (pos : 0 < n) (le : n ≤ b) where
    by_top : (top : Option ℕ) → top_of db log s ≡ top → IsBelow b top → IsReady db log (removed own s)
    by_top None is below = absurd (omega (arith, below, pos, le))
    by_top (Some m) is below = older_ready s ready m is (omega (arith, below, le))

    pub deleted_ready : IsReady db log (removed own s)
    deleted_ready = by_top (top_of db log s) refl (boundary_below db log s b ready at)
