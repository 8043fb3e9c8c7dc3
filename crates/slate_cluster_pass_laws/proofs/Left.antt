-- What a list of the versions of a log tells after its boundary was written, and after objects were deleted.
use Rattle.std.proofs.Common.{◌≡◌, ℕ, ℤ, Bool, true, false, List, [], ◌∷◌, map, filter, Option, Some, None, refl, sym, ap, ◌∙◌, subst, cond}
use Rattle.std.specs.Prelude.{◌||◌, not, decimal, bytes_eq}
use Rattle.std.specs.Map.{remove_entry}
use Rattle.std.specs.BTreeMap.{is_at, insert_entry}
use Rattle.std.specs.Cmp.Lexicographic.{slice_cmp}
use Rattle.std.specs.Ordering.{nat_cmp, is_eq, match_ordering}
use Rattle.std.specs.declared.cmp.Ordering.{Ordering}
use Rattle.std.specs.declared.cmp.Ordering.TheVariants.{Less, Equal, Greater}
use Rattle.slate_ids.specs.Ids.{is_db_path}
use Rattle.slate_ids.specs.PathText.{path_text, path_cmp}
use Rattle.slate_ids.specs.declared.object_path.ObjectPath.{ObjectPath}
use Rattle.slate_ids.proofs.PathsApart.{same_path}
use Rattle.slate_store.specs.Folders.{is_in}
use Rattle.slate_store.specs.Store.{Store, object_at, has_tag, metadata, listed, removed, put_new, replace, whole}
use Rattle.slate_store.specs.declared.object.ObjectMetadata.{ObjectMetadata}
use Rattle.slate_store.specs.declared.object.StoredObject.{StoredObject}
use Rattle.slate_txn_log.specs.AdvancePhase.{advance_asks}
use Rattle.slate_txn_log.specs.LogPaths.{boundary_path, folder}
use Rattle.slate_txn_log.specs.declared.advance_phase.AdvancePhase.{AdvancePhase}
use Rattle.slate_txn_log.specs.declared.advance_phase.AdvancePhase.TheVariants as advancing
use Rattle.slate_txn_log.specs.declared.log_kind.LogKind.{LogKind}
use Rattle.slate_txn_log.specs.declared.log_kind.LogKind.TheVariants.{Manifest as ManifestLog, Compactions as RecordLog}
use Rattle.slate_script_events.specs.WrittenFilters.{lies_at}
use Rattle.slate_cluster_protocol.specs.Alone.{without}
use Rattle.slate_cluster_laws.proofs.Ordered.{IsAbove, IsOrdered}
use Rattle.slate_store.proofs.LookUps.{test_is, bytes_same, same_bytes, same_found}
use Rattle.slate_cluster_laws.proofs.Paths.{boundary_fine}
use Rattle.slate_cluster_laws.proofs.Stores.{IsTidy}

abbrev Entries : Type 0
Entries = List (ObjectPath × StoredObject)

abbrev versions_in : LogKind → List ℕ → Entries → List ObjectMetadata
versions_in k db es = map metadata (filter (λ o. is_in (folder k db) o.0) es)

-- the boundary isn't in the folder of its log
boundary_off : (k : LogKind) (db : List ℕ) → is_in (folder k db) (boundary_path k db) ≡ false
boundary_off ManifestLog db = refl
boundary_off RecordLog db = refl

-- ---- without some objects

-- without no objects it is the list
pub without_none : (ms : List ObjectMetadata) → without [] ms ≡ ms
without_none [] = refl
without_none (m ∷ ms) = ap (λ (xs : List ObjectMetadata). m ∷ xs) (without_none ms)

-- the first object, and then the others
pub without_one : (p : ObjectMetadata) (ps ms : List ObjectMetadata) → without ps (without (p ∷ []) ms) ≡ without (p ∷ ps) ms
without_one p ps [] = refl
without_one p ps (m ∷ ms) = test (bytes_eq (path_text m.location) (path_text p.location)) refl (without_one p ps ms)
  where
    test : (b : Bool) → bytes_eq (path_text m.location) (path_text p.location) ≡ b → without ps (without (p ∷ []) ms) ≡ without (p ∷ ps) ms
        → without ps (cond (not (b || false)) (m ∷ without (p ∷ []) ms) (without (p ∷ []) ms))
        ≡ cond (not (b || lies_at (map (λ q. path_text q.location) ps) m)) (m ∷ without (p ∷ ps) ms) (without (p ∷ ps) ms)
    test true is rest = rest
    test false is rest = step (lies_at (map (λ q. path_text q.location) ps) m) rest
      where
        step : (c : Bool) → without ps (without (p ∷ []) ms) ≡ without (p ∷ ps) ms → cond (not c) (m ∷ without ps (without (p ∷ []) ms)) (without ps (without (p ∷ []) ms)) ≡ cond (not c) (m ∷ without (p ∷ ps) ms) (without (p ∷ ps) ms)
        step true rest = rest
        step false rest = ap (λ (xs : List ObjectMetadata). m ∷ xs) rest

module _ (k : LogKind) (db : List ℕ) where
  listed_more : (b : Bool) (e : ObjectPath × StoredObject) (es : Entries) → is_in (folder k db) e.0 ≡ b → versions_in k db (e ∷ es) ≡ cond b (metadata e ∷ versions_in k db es) (versions_in k db es)
  listed_more true e es is = ap (λ (b : Bool). map metadata (cond b (e ∷ filter (λ o. is_in (folder k db) o.0) es) (filter (λ o. is_in (folder k db) o.0) es))) is
  listed_more false e es is = ap (λ (b : Bool). map metadata (cond b (e ∷ filter (λ o. is_in (folder k db) o.0) es) (filter (λ o. is_in (folder k db) o.0) es))) is

  same_more : (e : ObjectPath × StoredObject) (es fs : Entries) → versions_in k db es ≡ versions_in k db fs → versions_in k db (e ∷ es) ≡ versions_in k db (e ∷ fs)
  same_more e es fs same = test (is_in (folder k db) e.0) refl
    where
      test : (b : Bool) → is_in (folder k db) e.0 ≡ b → versions_in k db (e ∷ es) ≡ versions_in k db (e ∷ fs)
      test true is = listed_more true e es is ∙ (ap (λ (ms : List ObjectMetadata). metadata e ∷ ms) same ∙ sym (listed_more true e fs is))
      test false is = listed_more false e es is ∙ (same ∙ sym (listed_more false e fs is))

  -- ---- the boundary isn't in the folder

  module _ (named : is_db_path db ≡ true) where
    boundary_not : (v : StoredObject) (es : Entries) → IsTidy es → versions_in k db (insert_entry path_cmp es (boundary_path k db) v) ≡ versions_in k db es
    boundary_not v [] tidy = listed_more false (boundary_path k db, v) [] (boundary_off k db)
    boundary_not v (e ∷ es) tidy = step (path_cmp (boundary_path k db) e.0) refl (boundary_not v es tidy.1)
      where
        step : (o : Ordering) → path_cmp (boundary_path k db) e.0 ≡ o → versions_in k db (insert_entry path_cmp es (boundary_path k db) v) ≡ versions_in k db es
            → versions_in k db (match_ordering o ((boundary_path k db, v) ∷ e ∷ es) ((e.0, v) ∷ es) (e ∷ insert_entry path_cmp es (boundary_path k db) v)) ≡ versions_in k db (e ∷ es)
        step Less at rest = listed_more false (boundary_path k db, v) (e ∷ es) (boundary_off k db)
        step Equal at rest =
            let same : boundary_path k db ≡ e.0 = same_path (boundary_path k db) e.0 (boundary_fine db named k) tidy.0 (same_found (boundary_path k db) e.0 (ap is_eq at)) in
            let off : is_in (folder k db) e.0 ≡ false = ap (is_in (folder k db)) (sym same) ∙ boundary_off k db in
            listed_more false (e.0, v) es off ∙ sym (listed_more false e es off)
        step Greater at rest = same_more e (insert_entry path_cmp es (boundary_path k db) v) es rest

    put_listed : (bytes : List ℕ) (moment : ℤ) (s : Store) → IsTidy s.objects → (o : Option StoredObject)
        → listed (folder k db) (put_new o (boundary_path k db) bytes moment s).store ≡ listed (folder k db) s
    put_listed bytes moment s tidy (Some object) = refl
    put_listed bytes moment s tidy None = boundary_not _ s.objects tidy

    replace_listed : (bytes : List ℕ) (moment : ℤ) (s : Store) → IsTidy s.objects → (b : Bool)
        → listed (folder k db) (replace b (boundary_path k db) bytes moment s).store ≡ listed (folder k db) s
    replace_listed bytes moment s tidy false = refl
    replace_listed bytes moment s tidy true = boundary_not _ s.objects tidy

    -- a step of an advance leaves the list
    pub advance_listed : (moment : ℤ) (s : Store) → IsTidy s.objects → (phase : AdvancePhase)
        → listed (folder k db) (whole (advance_asks db k phase) moment s).store ≡ listed (folder k db) s
    advance_listed moment s tidy (advancing.Bounding n) = refl
    advance_listed moment s tidy (advancing.Creating n) = put_listed (decimal n) moment s tidy (object_at (boundary_path k db) s)
    advance_listed moment s tidy (advancing.Replacing n tag) = replace_listed (decimal n) moment s tidy (has_tag tag (object_at (boundary_path k db) s))
    advance_listed moment s tidy advancing.Over = refl

  -- ---- a deleted object

  module _ (p : ObjectMetadata) where
    -- whether an entry is the one of the deleted object
    told_by : (e : ObjectPath × StoredObject) (b : Bool) → is_at (path_cmp p.location) e.0 ≡ b → bytes_eq (path_text e.0) (path_text p.location) ≡ b
    told_by e b is = turned (path_text p.location) (path_text e.0) b (sym (test_is p.location e.0) ∙ is)
      where
        turned : (xs ys : List ℕ) (b : Bool) → bytes_eq xs ys ≡ b → bytes_eq ys xs ≡ b
        turned xs ys true h = subst (λ (zs : List ℕ). bytes_eq zs xs ≡ true) (same_bytes xs ys h) (bytes_same xs)
        turned xs ys false h = either (bytes_eq ys xs) refl
          where
            either : (c : Bool) → bytes_eq ys xs ≡ c → c ≡ false
            either false k = refl
            either true k = absurd (cc (h, subst (λ (zs : List ℕ). bytes_eq zs ys ≡ true) (same_bytes ys xs k) (bytes_same ys)))

    without_more : (e : ObjectPath × StoredObject) (b : Bool) (ms : List ObjectMetadata) → is_at (path_cmp p.location) e.0 ≡ b
        → without (p ∷ []) (metadata e ∷ ms) ≡ cond b (without (p ∷ []) ms) (metadata e ∷ without (p ∷ []) ms)
    without_more e true ms is = ap (λ (c : Bool). cond (not (c || false)) (metadata e ∷ without (p ∷ []) ms) (without (p ∷ []) ms)) (told_by e true is)
    without_more e false ms is = ap (λ (c : Bool). cond (not (c || false)) (metadata e ∷ without (p ∷ []) ms) (without (p ∷ []) ms)) (told_by e false is)

    -- an entry at another path stays
    other_stays : (e : ObjectPath × StoredObject) (es fs : Entries) → is_at (path_cmp p.location) e.0 ≡ false → versions_in k db es ≡ without (p ∷ []) (versions_in k db fs)
        → versions_in k db (e ∷ es) ≡ without (p ∷ []) (versions_in k db (e ∷ fs))
    other_stays e es fs off rest = test (is_in (folder k db) e.0) refl
      where
        test : (b : Bool) → is_in (folder k db) e.0 ≡ b → versions_in k db (e ∷ es) ≡ without (p ∷ []) (versions_in k db (e ∷ fs))
        test true is =
            listed_more true e es is
            ∙ (ap (λ (ms : List ObjectMetadata). metadata e ∷ ms) rest
            ∙ (sym (without_more e false (versions_in k db fs) off) ∙ ap (without (p ∷ [])) (sym (listed_more true e fs is))))
        test false is = listed_more false e es is ∙ (rest ∙ ap (without (p ∷ [])) (sym (listed_more false e fs is)))

    -- it isn't among those above it
    none_above : (es : Entries) → IsAbove p.location es → versions_in k db es ≡ without (p ∷ []) (versions_in k db es)
    none_above [] h = refl
    none_above (e ∷ es) h = other_stays e es es (ap is_eq h.0) (none_above es h.1)

    -- nor above one that is at its path
    above_same : (e : ObjectPath) (es : Entries) → path_text p.location ≡ path_text e → IsAbove e es → IsAbove p.location es
    above_same e [] same h = tt
    above_same e (f ∷ es) same h = (ap (λ (text : List ℕ). slice_cmp nat_cmp text (path_text f.0)) same ∙ h.0, above_same e es same h.1)

    left_objects : (es : Entries) → IsOrdered es → versions_in k db (remove_entry (is_at (path_cmp p.location)) es) ≡ without (p ∷ []) (versions_in k db es)
    left_objects [] h = refl
    left_objects (e ∷ es) h = test (is_at (path_cmp p.location) e.0) refl (left_objects es h.1)
      where
        test : (b : Bool) → is_at (path_cmp p.location) e.0 ≡ b → versions_in k db (remove_entry (is_at (path_cmp p.location)) es) ≡ without (p ∷ []) (versions_in k db es)
            → versions_in k db (cond b es (e ∷ remove_entry (is_at (path_cmp p.location)) es)) ≡ without (p ∷ []) (versions_in k db (e ∷ es))
        test true is rest = none_above es (above_same e.0 es (same_found p.location e.0 is) h.0) ∙ sym (dropped (is_in (folder k db) e.0) refl)
          where
            dropped : (b : Bool) → is_in (folder k db) e.0 ≡ b → without (p ∷ []) (versions_in k db (e ∷ es)) ≡ without (p ∷ []) (versions_in k db es)
            dropped true there = ap (without (p ∷ [])) (listed_more true e es there) ∙ without_more e true (versions_in k db es) is
            dropped false there = ap (without (p ∷ [])) (listed_more false e es there)
        test false is rest = other_stays e (remove_entry (is_at (path_cmp p.location)) es) es is rest

    -- after a delete the list is without the object at its path
    pub delete_listed : (s : Store) → IsOrdered s.objects → listed (folder k db) (removed p.location s) ≡ without (p ∷ []) (listed (folder k db) s)
    delete_listed s ordered = left_objects s.objects ordered
