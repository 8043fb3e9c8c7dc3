-- A pass deletes exactly what it picked of what it read, and counts it.
use Rattle.std.specs.Prelude.{◌≡◌, ℕ, ℤ, nat_le, Bool, true, false, List, [], ◌∷◌, ◌++◌, length, Option, Some, None, Result, Ok, Err, if◌then◌else◌, refl}
use Rattle.std.specs.Option.{option_or}
use Rattle.std.proofs.Common.{ap, ◌∙◌}
use Rattle.slate_ids.specs.declared.error.SlateDBError.{SlateDBError}
use Rattle.slate_ids.specs.declared.error.SlateDBError.TheVariants.{ManifestMissing, StoreFault}
use Rattle.slate_ids.specs.declared.gc_message.GcMessage.{GcMessage}
use Rattle.slate_ids.specs.declared.gc_message.GcMessage.TheVariants as named
use Rattle.slate_txn_log.specs.AdvancePhase.{AdvanceGoes, advance_goes}
use Rattle.slate_txn_log.specs.Boundary.{boundary_got, greatest}
use Rattle.slate_txn_log.specs.CommitPhase.{CommitGoes, commit_goes}
use Rattle.slate_txn_log.specs.ReadPhase.{Reply, read_goes}
use Rattle.slate_txn_log.specs.declared.advance_phase.AdvancePhase.{AdvancePhase}
use Rattle.slate_txn_log.specs.declared.advance_phase.AdvancePhase.TheVariants as advancing
use Rattle.slate_txn_log.specs.declared.commit_phase.CommitPhase.{CommitPhase}
use Rattle.slate_txn_log.specs.declared.log_kind.LogKind.TheVariants as logs
use Rattle.slate_txn_log.specs.declared.read_phase.ReadPhase.{ReadPhase}
use Rattle.slate_txn_log.specs.declared.read_phase.ReadPhase.TheVariants as reading
use Rattle.slate_model.specs.declared.manifest.Manifest.{Manifest}
use Rattle.slate_gc_passes.specs.Candidates.{heads_at}
use Rattle.slate_gc_passes.specs.PassCounts.{one_deleted, one_failed}
use Rattle.slate_gc_passes.specs.Exact.{Answered, Chosen, IsExact, chosen, counted_along, counts_before, deleted_along, or_nothing, picked_above, picked_along, picked_at, picked_of_boundary, picked_of_list, stands_after, with_delete}
use Rattle.slate_gc_passes.specs.GcPhase.{GcGoes, collect_on, collects, commit_on, gc_goes, moment_of_pass, read_on, removal_goes}
use Rattle.slate_gc_passes.specs.Pass.{advance_to, advanced_goes, bound_goes, bounded_goes, chosen_goes, decoded_goes, deletes_next, fetched_goes, first_phase, get_goes, got_goes, is_reading_phase, list_goes, manifest_goes, manifests_goes, record_goes}
use Rattle.slate_gc_passes.specs.Rows.{reads_greatest, target}
use Rattle.slate_gc_passes.specs.Ways.{Ways}
use Rattle.slate_gc_passes.specs.declared.gc_phase.GcPhase.{GcPhase}
use Rattle.slate_txn_changes.specs.declared.log_work.LogWork.TheVariants.{Reading, Committing}
use Rattle.slate_gc_passes.specs.declared.gc_phase.GcPhase.TheVariants.{Removing, Collecting}
use Rattle.slate_gc_passes.specs.declared.heads.Heads.{Heads}
use Rattle.slate_gc_passes.specs.declared.pass_counts.PassCounts.{PassCounts}
use Rattle.slate_gc_passes.specs.declared.pass_phase.PassPhase.{PassPhase}
use Rattle.slate_gc_passes.specs.declared.pass_phase.PassPhase.TheVariants.{ReadingRecord, ReadingManifest, Fetching, Listing, Getting, Bounding, Advancing, Deleting, Over}
use Rattle.slate_gc_passes.specs.declared.pass_settings.PassSettings.{PassSettings}
use Rattle.slate_gc_picks.specs.Filter.{picks}
use Rattle.slate_model_records.specs.Records.{Record}
use Rattle.slate_state_referenced.specs.Referenced.{ReferencedGoes, referenced_goes}
use Rattle.slate_store.specs.Machines.{Stay, End}
use Rattle.slate_store.specs.declared.object.ObjectMetadata.{ObjectMetadata}
use Rattle.slate_store.specs.declared.object.StoredObject.{StoredObject}
use Rattle.slate_store.specs.declared.store_answer.StoreAnswer.{StoreAnswer}
use Rattle.slate_store.specs.declared.store_answer.StoreAnswer.TheVariants.{Found, Got, Created, Replaced, Written, Deleted, Fault}
use Rattle.slate_state_updates.specs.ManifestChanges.{commit_of}
use Rattle.slate_state_updates.specs.declared.manifest_change.ManifestChange.TheVariants.{DropExpired}

at_end : (p q : GcPhase) (r : Result PassCounts SlateDBError) (counts : PassCounts) → End p r ≡ End q (Ok counts) → r ≡ Ok counts
at_end p q r counts e = cc

same_counts : (r : Result PassCounts SlateDBError) (a b : PassCounts) → r ≡ Ok a → r ≡ Ok b → b ≡ a
same_counts r a b e f = cc

module _ (ways : Ways) (settings : PassSettings) where
  -- along answers from here, a front of these objects is deleted; at an end without a refusal all of them, and these counts are moved by
  -- the answers
  record Deletes (goes : GcGoes) (answers : List Answered) (objects : List ObjectMetadata) (before : PassCounts) : Type 0 where
    pub left : List ObjectMetadata
    pub front : deleted_along ways settings goes answers ++ left ≡ objects
    pub whole : (p : GcPhase) (counts : PassCounts) → stands_after ways settings goes answers ≡ End p (Ok counts) → (left ≡ []) × (counts ≡ counted_along ways settings goes answers before)

  -- nothing is deleted after an end
  ended : (p : GcPhase) (r : Result PassCounts SlateDBError) (answers : List Answered) (objects : List ObjectMetadata) (before : PassCounts) → ((counts : PassCounts) → r ≡ Ok counts → (objects ≡ []) × (counts ≡ before)) → Deletes (End p r) answers objects before
  ended p r [] objects before h = record { left = objects; front = refl; whole = λ q counts e. h counts (at_end p q r counts e) }
  ended p r (a ∷ answers) objects before h = record { left = objects; front = refl; whole = λ q counts e. h counts (at_end p q r counts e) }

  refused : (p : GcPhase) (e : SlateDBError) (answers : List Answered) (objects : List ObjectMetadata) (before : PassCounts) → Deletes (End p (Err e)) answers objects before
  refused p e answers objects before = ended p (Err e) answers objects before (λ counts same. absurd cc)

  -- before the first answer
  still : (p : GcPhase) (objects : List ObjectMetadata) (before : PassCounts) → Deletes (Stay p) [] objects before
  still p objects before = record { left = objects; front = refl; whole = λ q counts e. absurd cc }

  -- ---- the deletes, and the advance before them

  one_deletes : (now moment : ℤ) (m : ObjectMetadata) (left : List ObjectMetadata) (counts : PassCounts) (answers : List Answered)
      → ((c : PassCounts) → Deletes (collect_on (Some now) now (deletes_next left c)) answers left c) → (answer : StoreAnswer)
      → Deletes (gc_goes ways settings moment (Collecting (Some now) (Deleting (m ∷ left) counts)) answer) answers left (with_delete answer counts)
  one_deletes now moment m left counts answers again Deleted = again (one_deleted counts)
  one_deletes now moment m left counts answers again Fault = again (one_failed counts)
  one_deletes now moment m left counts answers again _ = refused _ StoreFault answers left _

  from_deletes : (answers : List Answered) (at : Option ℤ) (now : ℤ) (left : List ObjectMetadata) (counts : PassCounts) → Deletes (collect_on at now (deletes_next left counts)) answers left counts
  from_deletes answers at now [] counts = ended (Collecting at Over) (Ok counts) answers [] counts (λ c e. (refl, same_counts (Ok counts) counts c refl e))
  from_deletes [] at now (m ∷ left) counts = still _ (m ∷ left) counts
  from_deletes (a ∷ answers) at now (m ∷ left) counts =
      let d = one_deletes now a.1 m left counts answers (λ c. from_deletes answers (Some now) now left c) a.0 in
      record { left = d.left; front = ap (λ (ms : List ObjectMetadata). m ∷ ms) d.front; whole = d.whole }

  one_advance : (now : ℤ) (left : List ObjectMetadata) (counts : PassCounts) (answers : List Answered)
      → ((next : AdvancePhase) → Deletes (Stay (Collecting (Some now) (Advancing next left counts))) answers left counts) → (out : AdvanceGoes) → Deletes (collect_on (Some now) now (advanced_goes left counts out)) answers left counts
  one_advance now left counts answers again (Stay next) = again next
  one_advance now left counts answers again (End next (Ok done)) = from_deletes answers (Some now) now left counts
  one_advance now left counts answers again (End next (Err e)) = refused _ e answers left counts

  from_advance : (answers : List Answered) (now : ℤ) (phase : AdvancePhase) (left : List ObjectMetadata) (counts : PassCounts) → Deletes (Stay (Collecting (Some now) (Advancing phase left counts))) answers left counts
  from_advance [] now phase left counts = still _ left counts
  from_advance (a ∷ answers) now phase left counts =
      let d = one_advance now left counts answers (λ next. from_advance answers now next left counts) (advance_goes phase a.0) in
      record { left = d.left; front = d.front; whole = d.whole }

  from_to : (answers : List Answered) (at : Option ℤ) (now : ℤ) (to : Option ℕ) (left : List ObjectMetadata) (counts : PassCounts) → Deletes (collect_on at now (advance_to to left counts)) answers left counts
  from_to answers at now None left counts = from_deletes answers at now left counts
  from_to answers at now (Some k) left counts = from_advance answers now (advancing.Bounding k) left counts

  -- a front of what was chosen
  abbrev Made : GcGoes → List Answered → Chosen → Type 0
  Made goes answers made = Deletes goes answers made.objects (counts_before settings made)

  from_chosen : (answers : List Answered) (at : Option ℤ) (now : ℤ) (listed : ℕ) (found : List ObjectMetadata)
      → Made (collect_on at now (chosen_goes ways.allows settings listed found)) answers (chosen ways settings listed found)
  from_chosen answers at now listed found = from_to answers at now (target settings found) (picks ways.allows settings.options.dry_run found) _

  -- ---- what is read before

  -- a front of what is picked along the answers
  abbrev Picks : GcGoes → List Answered → Type 0
  Picks goes answers = Made goes answers (or_nothing (picked_along ways settings goes answers))

  none : (p : GcPhase) (e : SlateDBError) (answers : List Answered) → Picks (End p (Err e)) answers
  none p e answers = refused p e answers _ _

  -- so it is from each phase that reads
  abbrev Again : List Answered → Type 0
  Again answers = (at : Option ℤ) (p : PassPhase) → is_reading_phase p ≡ true → Picks (Stay (Collecting at p)) answers

  of_record : (answers : List Answered) → Again answers → (at : Option ℤ) (now : ℤ) (out : Reply Record) → Picks (collect_on at now (record_goes out)) answers
  of_record answers again at now (Stay phase) = again (Some now) (ReadingRecord phase) refl
  of_record answers again at now (End phase (Ok None)) = again (Some now) (ReadingManifest 0 reading.Listing) refl
  of_record answers again at now (End phase (Ok (Some version))) = again (Some now) (ReadingManifest _ reading.Listing) refl
  of_record answers again at now (End phase (Err e)) = none _ e answers

  of_fetched : (answers : List Answered) → Again answers → (at : Option ℤ) (now : ℤ) (heads : Heads) (out : ReferencedGoes) → Picks (collect_on at now (fetched_goes heads out)) answers
  of_fetched answers again at now heads (Stay phase) = again (Some now) (Fetching heads phase) refl
  of_fetched answers again at now heads (End phase (Ok versions)) = again (Some now) (Listing heads versions) refl
  of_fetched answers again at now heads (End phase (Err e)) = none _ e answers

  of_manifest : (answers : List Answered) → Again answers → (at : Option ℤ) (now : ℤ) (least : ℕ) (out : Reply Manifest) → Picks (collect_on at now (manifest_goes least out)) answers
  of_manifest answers again at now least (Stay phase) = again (Some now) (ReadingManifest least phase) refl
  of_manifest answers again at now least (End phase (Ok None)) = none _ _ answers
  of_manifest answers again at now least (End phase (Ok (Some version))) = of_fetched answers again at now (heads_at least version.0 version.1) _
  of_manifest answers again at now least (End phase (Err e)) = none _ e answers

  of_decoded : (answers : List Answered) → Again answers → (at : Option ℤ) (now : ℤ) (n listed : ℕ) (found : List ObjectMetadata) (m : Result Manifest SlateDBError) → Picks (collect_on at now (decoded_goes n listed found m)) answers
  of_decoded answers again at now n listed found (Ok m) = again (Some now) (Bounding n listed _) refl
  of_decoded answers again at now n listed found (Err e) = none _ e answers

  of_got : (answers : List Answered) → Again answers → (at : Option ℤ) (now : ℤ) (n listed : ℕ) (found : List ObjectMetadata) (object : Option StoredObject) → Picks (collect_on at now (got_goes ways.manifest_of n listed found object)) answers
  of_got answers again at now n listed found None = none _ _ answers
  of_got answers again at now n listed found (Some object) = of_decoded answers again at now n listed found (ways.manifest_of object.bytes)

  of_get : (answers : List Answered) → Again answers → (at : Option ℤ) (now : ℤ) (n listed : ℕ) (found : List ObjectMetadata) (answer : StoreAnswer) → Picks (collect_on at now (get_goes ways.manifest_of n listed found answer)) answers
  of_get answers again at now n listed found (Got object) = of_got answers again at now n listed found object
  of_get answers again at now n listed found _ = none _ _ answers

  of_manifests : (answers : List Answered) → Again answers → (at : Option ℤ) (now : ℤ) (found : List ObjectMetadata) (n : Option ℕ) → Picks (collect_on at now (manifests_goes settings.options.min_age now found n)) answers
  of_manifests answers again at now found None = none _ _ answers
  of_manifests answers again at now found (Some n) = again (Some now) (Getting n _ _) refl

  -- what a step picks, or else what is picked later
  abbrev Step : Option Chosen → GcGoes → List Answered → Type 0
  Step picked goes answers = Made goes answers (or_nothing (option_or picked (picked_along ways settings goes answers)))

  of_kind : (answers : List Answered) → Again answers → (at : Option ℤ) (now : ℤ) (listed : ℕ) (found may_go : List ObjectMetadata) (n : Option ℕ) (b : Bool)
      → Step (if b then None else Some (chosen ways settings listed may_go))
      (collect_on at now (if b then manifests_goes settings.options.min_age now found n else chosen_goes ways.allows settings listed may_go)) answers
  of_kind answers again at now listed found may_go n true = of_manifests answers again at now found n
  of_kind answers again at now listed found may_go n false = from_chosen answers at now listed may_go

  of_list : (answers : List Answered) → Again answers → (at : Option ℤ) (now : ℤ) (heads : Heads) (versions : List (ℕ × Manifest)) (answer : StoreAnswer)
      → Step (picked_of_list ways settings now heads versions answer) (collect_on at now (list_goes ways.allows ways.files settings now heads versions answer)) answers
  of_list answers again at now heads versions (Found found) = of_kind answers again at now (length found) found _ (greatest logs.Manifest found) (reads_greatest settings.pass)
  of_list answers again at now heads versions _ = none _ _ answers

  of_above : (answers : List Answered) (at : Option ℤ) (now : ℤ) (n listed : ℕ) (found : List ObjectMetadata) (b : Bool)
      → Step (if b then None else Some (chosen ways settings listed found))
      (collect_on at now (if b then End Over (Err (ManifestMissing n)) else chosen_goes ways.allows settings listed found)) answers
  of_above answers at now n listed found true = none _ _ answers
  of_above answers at now n listed found false = from_chosen answers at now listed found

  of_bounded : (answers : List Answered) (at : Option ℤ) (now : ℤ) (n listed : ℕ) (found : List ObjectMetadata) (boundary : Option ℕ)
      → Step (picked_above ways settings n listed found boundary) (collect_on at now (bounded_goes ways.allows settings n listed found boundary)) answers
  of_bounded answers at now n listed found None = none _ _ answers
  of_bounded answers at now n listed found (Some boundary) = of_above answers at now n listed found (nat_le n boundary)

  of_boundary : (answers : List Answered) (at : Option ℤ) (now : ℤ) (n listed : ℕ) (found : List ObjectMetadata) (answer : StoreAnswer)
      → Step (picked_of_boundary ways settings n listed found answer) (collect_on at now (bound_goes ways.allows settings n listed found answer)) answers
  of_boundary answers at now n listed found (Got object) = of_bounded answers at now n listed found (boundary_got object)
  of_boundary answers at now n listed found _ = none _ _ answers

  -- one answer at a phase that reads
  of_phase : (answers : List Answered) → Again answers → (at : Option ℤ) (p : PassPhase) → is_reading_phase p ≡ true → (a : Answered)
      → Step (picked_at ways settings a.1 (Collecting at p) a.0) (gc_goes ways settings a.1 (Collecting at p) a.0) answers
  of_phase answers again at (ReadingRecord phase) h a = of_record answers again at (moment_of_pass at a.1) (read_goes logs.Compactions ways.record_of phase a.0)
  of_phase answers again at (ReadingManifest least phase) h a = of_manifest answers again at (moment_of_pass at a.1) least (read_goes logs.Manifest ways.manifest_of phase a.0)
  of_phase answers again at (Fetching heads phase) h a = of_fetched answers again at (moment_of_pass at a.1) heads (referenced_goes ways.manifest_of phase a.0)
  of_phase answers again at (Listing heads versions) h a = of_list answers again at (moment_of_pass at a.1) heads versions a.0
  of_phase answers again at (Getting n listed found) h a = of_get answers again at (moment_of_pass at a.1) n listed found a.0
  of_phase answers again at (Bounding n listed found) h a = of_boundary answers at (moment_of_pass at a.1) n listed found a.0
  of_phase answers again at _ h a = absurd cc

  -- a phase that reads deletes nothing
  deletes_none : (at : Option ℤ) (p : PassPhase) (a : Answered) (answers : List Answered) → is_reading_phase p ≡ true → deleted_along ways settings (Stay (Collecting at p)) (a ∷ answers) ≡ deleted_along ways settings (gc_goes ways settings a.1 (Collecting at p) a.0) answers
  deletes_none at (Advancing phase left counts) a answers h = absurd cc
  deletes_none at (Deleting left counts) a answers h = absurd cc
  deletes_none at Over a answers h = absurd cc
  deletes_none at _ a answers h = refl

  -- and counts nothing
  counts_none : (at : Option ℤ) (p : PassPhase) (a : Answered) (answers : List Answered) (counts : PassCounts) → is_reading_phase p ≡ true
      → counted_along ways settings (gc_goes ways settings a.1 (Collecting at p) a.0) answers counts ≡ counted_along ways settings (Stay (Collecting at p)) (a ∷ answers) counts
  counts_none at (ReadingRecord phase) a answers counts h = refl
  counts_none at (ReadingManifest least phase) a answers counts h = refl
  counts_none at (Fetching heads phase) a answers counts h = refl
  counts_none at (Listing heads versions) a answers counts h = refl
  counts_none at (Getting n listed found) a answers counts h = refl
  counts_none at (Bounding n listed found) a answers counts h = refl
  counts_none at (Advancing phase left counts) a answers before h = absurd cc
  counts_none at (Deleting left counts) a answers before h = absurd cc
  counts_none at Over a answers counts h = absurd cc

  reads : (answers : List Answered) → Again answers
  reads [] at p h = still (Collecting at p) [] _
  reads (a ∷ answers) at p h =
      let d = of_phase answers (reads answers) at p h a in
      record {
        left = d.left;
        front = ap (λ (ms : List ObjectMetadata). ms ++ d.left) (deletes_none at p a answers h) ∙ d.front;
        whole = λ q counts e. let w = d.whole q counts e in (w.0, w.1 ∙ counts_none at p a answers _ h);
      }

  -- ---- the removal before

  first_reads : (pass : GcMessage) → is_reading_phase (first_phase pass) ≡ true
  first_reads named.Manifest = refl
  first_reads named.Wal = refl
  first_reads named.WalFence = refl
  first_reads named.Compacted = refl
  first_reads named.Compactions = refl
  first_reads named.Detach = refl

  of_collects : (answers : List Answered) → Picks (collects settings.pass) answers
  of_collects answers = reads answers None (first_phase settings.pass) (first_reads settings.pass)

  of_commit : (answers : List Answered) → ((now : ℤ) (phase : CommitPhase Manifest) → Picks (Stay (Removing (Committing now phase))) answers) → (now : ℤ) (out : CommitGoes Manifest) → Picks (commit_on settings.pass now out) answers
  of_commit answers again now (Stay phase) = again now phase
  of_commit answers again now (End phase (Ok version)) = of_collects answers
  of_commit answers again now (End phase (Err e)) = none _ e answers

  commits : (answers : List Answered) (now : ℤ) (phase : CommitPhase Manifest) → Picks (Stay (Removing (Committing now phase))) answers
  commits [] now phase = still (Removing (Committing now phase)) [] _
  commits (a ∷ answers) now phase =
      let d = of_commit answers (λ made next. commits answers made next) now (commit_goes phase a.0) in
      record { left = d.left; front = d.front; whole = d.whole }

  of_removal : (answers : List Answered) (now : ℤ) (n : ℕ) (m : Manifest) (start : Result (Option (CommitPhase Manifest)) SlateDBError) → Picks (removal_goes settings.pass now n m start) answers
  of_removal answers now n m (Ok (Some commit)) = commits answers now commit
  of_removal answers now n m (Ok None) = of_collects answers
  of_removal answers now n m (Err e) = none _ e answers

  of_read : (answers : List Answered) → ((phase : ReadPhase Manifest) → Picks (Stay (Removing (Reading phase))) answers) → (now : ℤ) (out : Reply Manifest) → Picks (read_on ways.bytes_of settings.pass now out) answers
  of_read answers again now (Stay phase) = again phase
  of_read answers again now (End phase (Ok None)) = none _ _ answers
  of_read answers again now (End phase (Ok (Some version))) = of_removal answers now version.0 version.1 (commit_of ways.bytes_of DropExpired now version.0 version.1)
  of_read answers again now (End phase (Err e)) = none _ e answers

  begins : (answers : List Answered) (phase : ReadPhase Manifest) → Picks (Stay (Removing (Reading phase))) answers
  begins [] phase = still (Removing (Reading phase)) [] _
  begins (a ∷ answers) phase =
      let d = of_read answers (λ next. begins answers next) a.1 (read_goes logs.Manifest ways.manifest_of phase a.0) in
      record { left = d.left; front = d.front; whole = d.whole }

  -- a pass deletes exactly what it picked, and counts it
  pub exactly : (answers : List Answered) → IsExact ways settings answers
  exactly answers =
      let d = begins answers reading.Listing in
      record { left = d.left; front = d.front; whole = d.whole }
