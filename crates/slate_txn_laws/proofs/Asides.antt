-- What a put or a deletion at a path that is none of a log's leaves of that log.
use Rattle.std.proofs.Common.{◌≡◌, ◌≢◌, ℕ, ℤ, Bool, true, false, List, [], ◌∷◌, map, filter, Option, Some, None, IfSome, refl, sym, ap, ◌∙◌, subst, cond}
use Rattle.std.specs.Map.{remove_entry}
use Rattle.std.specs.BTreeMap.{is_at, insert_entry}
use Rattle.std.specs.Ordering.{match_ordering}
use Rattle.std.specs.declared.cmp.Ordering.{Ordering}
use Rattle.std.specs.declared.cmp.Ordering.TheVariants.{Less, Equal, Greater}
use Rattle.slate_ids.specs.FinePath.{IsFine}
use Rattle.slate_ids.specs.Ids.{is_db_path}
use Rattle.slate_ids.specs.PathText.{path_text, path_cmp}
use Rattle.slate_ids.specs.declared.object_path.ObjectPath.{ObjectPath}
use Rattle.slate_ids.proofs.PathsApart.{same_path}
use Rattle.slate_store.specs.Folders.{is_in}
use Rattle.slate_store.specs.Store.{Store, stored, removed, metadata}
use Rattle.slate_store.specs.declared.object.StoredObject.{StoredObject}
use Rattle.slate_txn_log.specs.Advance.{boundary_at}
use Rattle.slate_txn_log.specs.Boundary.{boundary_got, greater, greatest_from}
use Rattle.slate_txn_log.specs.LogPaths.{folder, number_of, boundary_path}
use Rattle.slate_txn_log.specs.declared.log_kind.LogKind.{LogKind}
use Rattle.slate_txn_laws.specs.Elsewhere.{IsAside}
use Rattle.slate_txn_laws.specs.Ready.{AreFine, top_of, IsBelow, IsReady}
use Rattle.slate_store.proofs.LookUps.{Entries, look, same_found, passes_by, at_else, put_object}
use Rattle.slate_txn_laws.proofs.Entries.{fine_after, boundary_fine}
use Rattle.slate_txn_laws.proofs.Tops.{numbers, listed_is}

module _ (own : ObjectPath) where
  abbrev pub left : Entries → Entries
  left es = remove_entry (is_at (path_cmp own)) es

  pub fine_left : (es : Entries) → AreFine es → AreFine (left es)
  fine_left [] h = tt
  fine_left (e ∷ es) h = test (is_at (path_cmp own) e.0) (fine_left es h.1)
    where
      test : (b : Bool) → AreFine (left es) → AreFine (cond b es (e ∷ left es))
      test true rest = h.1
      test false rest = (h.0, rest)

  -- at another text nothing changes
  pub left_else : (q : ObjectPath) → path_text q ≢ path_text own → (es : Entries) → look q (left es) ≡ look q es
  left_else q ne [] = refl
  left_else q ne (e ∷ es) = test (is_at (path_cmp own) e.0) refl (left_else q ne es)
    where
      test : (b : Bool) → is_at (path_cmp own) e.0 ≡ b → look q (left es) ≡ look q es → look q (cond b es (e ∷ left es)) ≡ look q (e ∷ es)
      test true is rest =
          let off = passes_by q e.0 (λ same. ne (same ∙ sym (same_found own e.0 is))) in
          sym (ap (λ b. cond b (Some e.1) (look q es)) off)
      test false is rest = ap (λ r. cond (is_at (path_cmp q) e.0) (Some e.1) r) rest

module _ (log : LogKind) (db : List ℕ) (own : ObjectPath) (away : is_in (folder log db) own ≡ false) where
  abbrev tops : Option ℕ → Entries → Option ℕ
  tops best es = greatest_from log best (numbers log db es)

  skipped : (x : StoredObject) (b : Bool) (best : Option ℕ) (es : Entries) → b ≡ false → greatest_from log best (map metadata (cond b ((own, x) ∷ filter (λ o. is_in (folder log db) o.0) es) (filter (λ o. is_in (folder log db) o.0) es))) ≡ tops best es
  skipped x true best es h = absurd cc
  skipped x false best es h = refl

  -- the versions after a put there
  pub put_tops : (v : StoredObject) (es : Entries) (best : Option ℕ) → tops best (insert_entry path_cmp es own v) ≡ tops best es
  put_tops v [] best = skipped v (is_in (folder log db) own) best [] away
  put_tops v (e ∷ es) best = by_order (path_cmp own e.0) (λ best. put_tops v es best)
    where
      renamed : (b : Bool) → greatest_from log best (map metadata (cond b ((e.0, v) ∷ filter (λ o. is_in (folder log db) o.0) es) (filter (λ o. is_in (folder log db) o.0) es))) ≡ greatest_from log best (map metadata (cond b (e ∷ filter (λ o. is_in (folder log db) o.0) es) (filter (λ o. is_in (folder log db) o.0) es)))
      renamed true = refl
      renamed false = refl

      pass : (b : Bool) → ((best : Option ℕ) → tops best (insert_entry path_cmp es own v) ≡ tops best es)
          → greatest_from log best (map metadata (cond b (e ∷ filter (λ o. is_in (folder log db) o.0) (insert_entry path_cmp es own v)) (filter (λ o. is_in (folder log db) o.0) (insert_entry path_cmp es own v))))
          ≡ greatest_from log best (map metadata (cond b (e ∷ filter (λ o. is_in (folder log db) o.0) es) (filter (λ o. is_in (folder log db) o.0) es)))
      pass true rest = rest (greater best (number_of log e.0))
      pass false rest = rest best

      by_order : (o : Ordering) → ((best : Option ℕ) → tops best (insert_entry path_cmp es own v) ≡ tops best es) → tops best (match_ordering o ((own, v) ∷ e ∷ es) ((e.0, v) ∷ es) (e ∷ insert_entry path_cmp es own v)) ≡ tops best (e ∷ es)
      by_order Less rest = skipped v (is_in (folder log db) own) best (e ∷ es) away
      by_order Equal rest = renamed (is_in (folder log db) e.0)
      by_order Greater rest = pass (is_in (folder log db) e.0) rest

  -- the versions after a deletion there
  left_tops : (fine : IsFine own) (es : Entries) (best : Option ℕ) → AreFine es → tops best (left own es) ≡ tops best es
  left_tops fine [] best h = refl
  left_tops fine (e ∷ es) best h = test (is_at (path_cmp own) e.0) refl (λ best. left_tops fine es best h.1)
    where
      same : is_at (path_cmp own) e.0 ≡ true → e.0 ≡ own
      same is = sym (same_path own e.0 fine h.0 (same_found own e.0 is))

      gone : (b : Bool) → b ≡ false → tops best es ≡ greatest_from log best (map metadata (cond b (e ∷ filter (λ o. is_in (folder log db) o.0) es) (filter (λ o. is_in (folder log db) o.0) es)))
      gone true is = absurd cc
      gone false is = refl

      pass : (b : Bool) → ((best : Option ℕ) → tops best (left own es) ≡ tops best es)
          → greatest_from log best (map metadata (cond b (e ∷ filter (λ o. is_in (folder log db) o.0) (left own es)) (filter (λ o. is_in (folder log db) o.0) (left own es))))
          ≡ greatest_from log best (map metadata (cond b (e ∷ filter (λ o. is_in (folder log db) o.0) es) (filter (λ o. is_in (folder log db) o.0) es)))
      pass true rest = rest (greater best (number_of log e.0))
      pass false rest = rest best

      test : (b : Bool) → is_at (path_cmp own) e.0 ≡ b → ((best : Option ℕ) → tops best (left own es) ≡ tops best es) → tops best (cond b es (e ∷ left own es)) ≡ tops best (e ∷ es)
      test true is rest = gone (is_in (folder log db) e.0) (ap (is_in (folder log db)) (same is) ∙ away)
      test false is rest = pass (is_in (folder log db) e.0) rest

-- ---- a log stays ready

module _ (db : List ℕ) (log : LogKind) (named : is_db_path db ≡ true) (path : ObjectPath) (aside : IsAside db log path) where
  not_in : (b : Bool) → is_in (folder log db) path ≡ b → b ≡ false
  not_in true at = let is = listed_is log db path at in absurd (aside.version is.number is.is)
  not_in false at = refl

  away : is_in (folder log db) path ≡ false
  away = not_in (is_in (folder log db) path) refl

  other_text : path_text (boundary_path log db) ≢ path_text path
  other_text = λ e. aside.boundary (sym (same_path (boundary_path log db) path (boundary_fine db named log) aside.fine e))

  ready_like : (s t : Store) → AreFine t.objects → boundary_at db log t ≡ boundary_at db log s → top_of db log t ≡ top_of db log s → IsReady db log s → IsReady db log t
  ready_like s t fine at top ready = record {
    fine = fine;
    below = subst (λ (o : Option ℕ). IfSome o (λ b. IsBelow b (top_of db log t))) (sym at) (subst (λ (top : Option ℕ). IfSome (boundary_at db log s) (λ b. IsBelow b top)) (sym top) ready.below);
  }

  pub stored_ready : (bytes : List ℕ) (moment : ℤ) (s : Store) → IsReady db log s → IsReady db log (stored path bytes moment s)
  stored_ready bytes moment s ready =
      ready_like s (stored path bytes moment s) (fine_after path bytes moment s aside.fine ready.fine) (ap boundary_got (at_else path (boundary_path log db) bytes moment s other_text))
      (put_tops log db path away (put_object s bytes moment) s.objects None) ready

  pub removed_ready : (s : Store) → IsReady db log s → IsReady db log (removed path s)
  removed_ready s ready =
      ready_like s (removed path s) (fine_left path s.objects ready.fine) (ap boundary_got (left_else path (boundary_path log db) other_text s.objects)) (left_tops log db path away aside.fine s.objects None ready.fine) ready

  -- and its greatest number
  pub stored_top : (bytes : List ℕ) (moment : ℤ) (s : Store) → top_of db log (stored path bytes moment s) ≡ top_of db log s
  stored_top bytes moment s = put_tops log db path away (put_object s bytes moment) s.objects None

  pub removed_top : (s : Store) → AreFine s.objects → top_of db log (removed path s) ≡ top_of db log s
  removed_top s fine = left_tops log db path away aside.fine s.objects None fine
