-- No version has the number 0: no step writes there.
use Rattle.std.proofs.Common.{◌≡◌, ◌≢◌, ℕ, ℤ, ◌<◌, ◌^◌, Bool, true, false, List, [], ◌∷◌, Option, Some, None, refl, sym, ap, ◌∙◌, cond, arith, subst}
use Rattle.std.specs.BTreeMap.{is_at}
use Rattle.std.specs.Map.{lookup, remove_entry}
use Rattle.slate_ids.specs.FinePath.{IsFine}
use Rattle.slate_ids.specs.Ids.{is_db_path}
use Rattle.slate_ids.specs.Ulids.{is_id}
use Rattle.slate_ids.specs.PathText.{path_text, path_cmp}
use Rattle.slate_ids.specs.declared.object_path.ObjectPath.{ObjectPath}
use Rattle.slate_ids.specs.declared.object_path.ObjectPath.TheVariants as paths
use Rattle.slate_ids.proofs.PathsApart.{same_path}
use Rattle.slate_store.specs.Store.{Store, Outcome, object_at, has_tag, put_new, replace, whole, under, taken, effect}
use Rattle.slate_store.specs.declared.mark.Mark.{Mark}
use Rattle.slate_store.specs.declared.mark.Mark.TheVariants.{Good, Fail, Lost}
use Rattle.slate_store.specs.declared.object.StoredObject.{StoredObject}
use Rattle.slate_store.specs.declared.store_call.StoreCall.{StoreCall}
use Rattle.slate_store.specs.declared.store_call.StoreCall.TheVariants.{List as ListCall, Get, PutNew, Replace, Put, Delete}
use Rattle.slate_txn_log.specs.AdvancePhase.{advance_asks}
use Rattle.slate_txn_log.specs.CommitPhase.{commit_asks}
use Rattle.slate_txn_log.specs.LogPaths.{version_path, boundary_path}
use Rattle.slate_txn_log.specs.ReadPhase.{read_asks}
use Rattle.slate_txn_log.specs.declared.advance_phase.AdvancePhase.{AdvancePhase}
use Rattle.slate_txn_log.specs.declared.advance_phase.AdvancePhase.TheVariants as advancing
use Rattle.slate_txn_log.specs.declared.commit_phase.CommitPhase.{CommitPhase}
use Rattle.slate_txn_log.specs.declared.commit_phase.CommitPhase.TheVariants as committing
use Rattle.slate_txn_log.specs.declared.log_kind.LogKind.{LogKind}
use Rattle.slate_txn_log.specs.declared.log_kind.LogKind.TheVariants as logs
use Rattle.slate_txn_log.specs.declared.read_phase.ReadPhase.{ReadPhase}
use Rattle.slate_txn_log.specs.declared.read_phase.ReadPhase.TheVariants as reading
use Rattle.slate_ids.specs.declared.gc_message.GcMessage.{GcMessage}
use Rattle.slate_gc_passes.specs.Pass.{pass_asks}
use Rattle.slate_gc_passes.specs.Rows.{log_of_pass, log_or_manifests}
use Rattle.slate_gc_passes.specs.declared.pass_phase.PassPhase.{PassPhase}
use Rattle.slate_gc_passes.specs.declared.pass_phase.PassPhase.TheVariants as passing
use Rattle.slate_state_referenced.specs.Referenced.{referenced_asks}
use Rattle.slate_state_referenced.specs.declared.referenced_phase.ReferencedPhase.{ReferencedPhase}
use Rattle.slate_state_referenced.specs.declared.referenced_phase.ReferencedPhase.TheVariants as fetching
use Rattle.slate_cluster_protocol.specs.Chains.{Link, Log}
use Rattle.slate_cluster_protocol.specs.Logs.{Chains, Author, Held, Phrase, Reads, Commits, Uploads, Fetches, Collects, log_of, phrase_of}
use Rattle.slate_cluster_protocol.specs.Owners.{owner_of}
use Rattle.slate_cluster_protocol.specs.Owners.Owner.{Version, Boundary, Table}
use Rattle.slate_cluster_protocol.specs.Works.{asks, db_of}
use Rattle.slate_cluster_protocol.specs.World.{World, HasDb}
use Rattle.slate_cluster_protocol.specs.declared.work.Work.{Work}
use Rattle.slate_cluster_chain_laws.proofs.LogRules.{IsMade}
use Rattle.slate_cluster_laws.proofs.Facts.{CommitKnows}
use Rattle.slate_cluster_chain_laws.proofs.LogRules.IsMade.{OfVersion, OfNone}
use Rattle.slate_cluster_laws.proofs.Paths.{version_fine, boundary_fine, version_owner, boundary_owner, table_nobodys}
use Rattle.slate_cluster_laws.proofs.Steps.{PhraseKnows, author_of, db_in, phrase_asks, work_asks, work_db}
use Rattle.slate_store.proofs.LookUps.{at_else}

-- nothing stands at the number 0 of a log
abbrev pub NoZero : World → Type 0
NoZero w = (k : LogKind) (db : List ℕ) → HasDb w db → object_at (version_path k db 0) w.store ≡ None

-- ---- a path at which a call doesn't write

abbrev WritesElse : ObjectPath → StoreCall → Type 0
WritesElse q (PutNew path bytes) = path_text q ≢ path_text path
WritesElse q (Replace path tag bytes) = path_text q ≢ path_text path
WritesElse q (Put path bytes) = path_text q ≢ path_text path
WritesElse q _ = Unit {0}

abbrev look : ObjectPath → List (ObjectPath × StoredObject) → Option StoredObject
look q es = lookup (is_at (path_cmp q)) es

-- what isn't there isn't there after a removal
none_left : (p q : ObjectPath) (es : List (ObjectPath × StoredObject)) → look q es ≡ None → look q (remove_entry (is_at (path_cmp p)) es) ≡ None
none_left p q [] h = refl
none_left p q (e ∷ es) h = by_own (is_at (path_cmp q) e.0) refl h (none_left p q es)
  where
    by_removed : (b : Bool) → is_at (path_cmp q) e.0 ≡ false → look q es ≡ None → look q (remove_entry (is_at (path_cmp p)) es) ≡ None → look q (cond b es (e ∷ remove_entry (is_at (path_cmp p)) es)) ≡ None
    by_removed true is h rest = h
    by_removed false is h rest = ap (λ t. cond t (Some e.1) (look q (remove_entry (is_at (path_cmp p)) es))) is ∙ rest

    by_own : (b : Bool) → is_at (path_cmp q) e.0 ≡ b → cond b (Some e.1) (look q es) ≡ None → (look q es ≡ None → look q (remove_entry (is_at (path_cmp p)) es) ≡ None)
        → look q (cond (is_at (path_cmp p) e.0) es (e ∷ remove_entry (is_at (path_cmp p)) es)) ≡ None
    by_own true is h rest = absurd cc
    by_own false is h rest = by_removed (is_at (path_cmp p) e.0) is h (rest h)

module _ (q : ObjectPath) (s : Store) (none : object_at q s ≡ None) where
  put_none : (path : ObjectPath) (bytes : List ℕ) (moment : ℤ) (o : Option StoredObject) → path_text q ≢ path_text path → object_at q (put_new o path bytes moment s).store ≡ None
  put_none path bytes moment None ne = at_else path q bytes moment s ne ∙ none
  put_none path bytes moment (Some object) ne = none

  replace_none : (path : ObjectPath) (bytes : List ℕ) (moment : ℤ) (b : Bool) → path_text q ≢ path_text path → object_at q (replace b path bytes moment s).store ≡ None
  replace_none path bytes moment true ne = at_else path q bytes moment s ne ∙ none
  replace_none path bytes moment false ne = none

  whole_none : (call : StoreCall) (moment : ℤ) → WritesElse q call → object_at q (whole call moment s).store ≡ None
  whole_none (ListCall dir) moment h = none
  whole_none (Get path) moment h = none
  whole_none (PutNew path bytes) moment h = put_none path bytes moment (object_at path s) h
  whole_none (Replace path tag bytes) moment h = replace_none path bytes moment (has_tag tag (object_at path s)) h
  whole_none (Put path bytes) moment h = at_else path q bytes moment s h ∙ none
  whole_none (Delete path) moment h = none_left path q s.objects none

  under_none : (mark : Mark) (o : Outcome) → object_at q o.store ≡ None → object_at q (under mark o s).store ≡ None
  under_none Good o h = h
  under_none Fail o h = none
  under_none Lost o h = h

  still_none : (call : StoreCall) (moment : ℤ) (mark : Mark) → WritesElse q call → object_at q (effect mark call moment s).store ≡ None
  still_none call moment mark h = under_none (taken mark call s) (whole call moment s) (whole_none call moment h)

-- ---- no work writes at the number 0

positive : {V A : Type 0} (log : Log V A) (c : List (Link V A)) (author : A) (n : ℕ) (v : V) → IsMade log c author n v → 0 < n
positive log c author n v (OfVersion old at number makes lawful passed) = omega arith
positive log c author n v (OfNone number first) = omega arith

module _ (k : LogKind) (d : List ℕ) (named : is_db_path d ≡ true) where
  abbrev zero_path : ObjectPath
  zero_path = version_path k d 0

  fine : IsFine zero_path
  fine = version_fine d named k 0 (omega arith)

  version_else : (j : LogKind) (db : List ℕ) (n : ℕ) → is_db_path db ≡ true → 0 < n → n < 2 ^ 64 → path_text zero_path ≢ path_text (version_path j db n)
  version_else j db n own pos small = λ e.
      let same : Version k d 0 ≡ Version j db n = sym (version_owner k d 0) ∙ (ap owner_of (same_path zero_path (version_path j db n) fine (version_fine db own j n small) e) ∙ version_owner j db n) in
      let zero_is : 0 ≡ n = cc (same) in
      omega arith

  boundary_else : (j : LogKind) (db : List ℕ) → is_db_path db ≡ true → path_text zero_path ≢ path_text (boundary_path j db)
  boundary_else j db own = λ e.
      let same : Version k d 0 ≡ Boundary j db = sym (version_owner k d 0) ∙ (ap owner_of (same_path zero_path (boundary_path j db) fine (boundary_fine db own j) e) ∙ boundary_owner j db) in
      cc (same)

  table_else : (db : List ℕ) (id : ℕ × ℕ) → is_db_path db ≡ true → is_id id ≡ true → path_text zero_path ≢ path_text (paths.Table db id)
  table_else db id own is = λ e.
      let same : Version k d 0 ≡ Table db id = sym (version_owner k d 0) ∙ ap owner_of (same_path zero_path (paths.Table db id) fine (table_nobodys db id own is).fine e) in
      cc (same)

  read_else : {T : Type 0} (db : List ℕ) (j : LogKind) (phase : ReadPhase T) → WritesElse zero_path (read_asks db j phase)
  read_else db j reading.Listing = tt
  read_else db j (reading.Getting n) = tt
  read_else db j (reading.Bounding n v) = tt
  read_else db j reading.Over = tt

  commit_else : (s : Store) (chains : Chains) (db : List ℕ) (j : LogKind) (author : Author) (phase : CommitPhase (Held j)) → is_db_path db ≡ true → CommitKnows (log_of j) db s (chains j db) author phase → WritesElse zero_path (commit_asks db (log_of j).kind phase)
  commit_else s chains db j author (committing.Putting n bytes v) own h = version_else (log_of j).kind db n own (positive (log_of j) (chains j db) author n v h.made) h.small
  commit_else s chains db j author (committing.Bounding n v) own h = tt
  commit_else s chains db j author committing.Over own h = tt

  advance_else : (db : List ℕ) (j : LogKind) (phase : AdvancePhase) → is_db_path db ≡ true → WritesElse zero_path (advance_asks db j phase)
  advance_else db j (advancing.Bounding n) own = tt
  advance_else db j (advancing.Creating n) own = boundary_else j db own
  advance_else db j (advancing.Replacing n tag) own = boundary_else j db own
  advance_else db j advancing.Over own = tt

  fetch_else : (db : List ℕ) (phase : ReferencedPhase) → WritesElse zero_path (referenced_asks db phase)
  fetch_else db (fetching.Getting [] found) = tt
  fetch_else db (fetching.Getting (n ∷ left) found) = tt
  fetch_else db fetching.Over = tt

  collect_else : (db : List ℕ) (pass : GcMessage) (phase : PassPhase) → is_db_path db ≡ true → WritesElse zero_path (pass_asks db pass phase)
  collect_else db pass (passing.ReadingRecord phase) own = read_else db logs.Compactions phase
  collect_else db pass (passing.ReadingManifest least phase) own = read_else db logs.Manifest phase
  collect_else db pass (passing.Fetching heads phase) own = fetch_else db phase
  collect_else db pass (passing.Advancing phase left counts) own = advance_else db (log_or_manifests (log_of_pass pass)) phase own
  collect_else db pass (passing.Deleting [] counts) own = tt
  collect_else db pass (passing.Deleting (m ∷ left) counts) own = tt
  collect_else db pass _ own = tt

  phrase_else : (s : Store) (chains : Chains) (n : ℕ) (phrase : Phrase) → is_db_path (db_in phrase) ≡ true → PhraseKnows s chains n phrase → WritesElse zero_path (phrase_asks phrase)
  phrase_else s chains n (Reads k db phase) own h = read_else db (log_of k).kind phase
  phrase_else s chains n (Commits k db puts now phase) own h = commit_else s chains db k (author_of n puts now) phase own h
  phrase_else s chains n (Uploads db table bytes) own h = table_else db table own h
  phrase_else s chains n (Fetches db m phase) own h = fetch_else db phase
  phrase_else s chains n (Collects db pass phase) own h = collect_else db pass phase own

  work_else : (s : Store) (chains : Chains) (n : ℕ) (work : Work) → is_db_path (db_of work) ≡ true → PhraseKnows s chains n (phrase_of work) → WritesElse zero_path (asks work)
  work_else s chains n work own h =
      subst (WritesElse zero_path) (sym (work_asks work)) (phrase_else s chains n (phrase_of work) (subst (λ d. is_db_path d ≡ true) (sym (work_db work)) own) h)

  -- nothing stands there after a step where nothing stood there before
  pub zero_stays : (s : Store) (chains : Chains) (n : ℕ) (work : Work) (moment : ℤ) (mark : Mark) → is_db_path (db_of work) ≡ true → PhraseKnows s chains n (phrase_of work) → object_at zero_path s ≡ None
      → object_at zero_path (effect mark (asks work) moment s).store ≡ None
  zero_stays s chains n work moment mark own h none = still_none zero_path s none (asks work) moment mark (work_else s chains n work own h)
