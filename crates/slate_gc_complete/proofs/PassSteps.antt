-- The steps of a pass whose logs are ready, by the whole effect of each call.
use Rattle.std.proofs.Common.{◌≡◌, ℕ, ℤ, ◌==◌, ◌<◌, ◌^◌, ◌||◌, ◌&&◌, Bool, true, false, if◌then◌else◌, List, [], ◌∷◌, length, Option, Some, None, IfSome, Result, Ok, Err, inl, inr, refl, sym, ap, ◌∙◌, subst, arith}
use Rattle.std.proofs.lemmas.Bool.Decides.{nat_tests}
use Rattle.slate_gc.specs.PassTurns.{stages_left, turned_from}
use Rattle.slate_gc_complete.proofs.Leaving.{Each, IsOlder, IsVersion, Keeps, MayAdvance, MayBound, MayGo, MayGoOn, advance_goes_on, advance_kept, at_among, delete_kept, each_among, each_kept, each_listed, each_map, files_beside, greatest_may_bound, listed_versions, tables_beside, unneeded_older}
use Rattle.slate_gc_complete.proofs.Leaving.MayGo.{IsBeside, IsOld}
use Rattle.slate_gc_complete.specs.PassEnds.{IsNamed, PassAnswers, PicksListed, PlainWays}
use Rattle.slate_gc_complete.specs.PassEnds.PassAnswers.{IsDone, IsRefused}
use Rattle.slate_gc_complete.specs.PassEnds.PassRefused.{NoManifest, ManifestUnread, RecordUnread, RemovalRefused, NoBoundary, NamedGone, NamedUnread}
use Rattle.slate_gc_passes.specs.Candidates.{candidates, heads_at, old_records}
use Rattle.slate_gc_passes.specs.GcPhase.{GcGoes, collect_on, collects, gc_asks, gc_goes, moment_of_pass, removed_goes}
use Rattle.slate_gc_passes.specs.Pass.{advance_to, advanced_goes, bounded_goes, chosen_goes, decoded_goes, deletes_next, fetched_goes, got_goes, manifest_goes, manifests_goes, pass_asks, record_goes}
use Rattle.slate_gc_passes.specs.PassCounts.{one_deleted}
use Rattle.slate_gc_passes.specs.Rows.{folder_of, log_of_pass, log_or_manifests, reads_greatest, target, target_in}
use Rattle.slate_gc_passes.specs.Ways.{Ways}
use Rattle.slate_gc_passes.specs.declared.gc_phase.GcPhase.{GcPhase}
use Rattle.slate_gc_passes.specs.declared.gc_phase.GcPhase.TheVariants.{Removing, Collecting}
use Rattle.slate_gc_passes.specs.declared.heads.Heads.{Heads}
use Rattle.slate_gc_passes.specs.declared.pass_counts.PassCounts.{PassCounts}
use Rattle.slate_gc_passes.specs.declared.pass_phase.PassPhase.{PassPhase}
use Rattle.slate_gc_passes.specs.declared.pass_phase.PassPhase.TheVariants.{ReadingRecord, ReadingManifest, Fetching, Listing, Getting, Bounding, Advancing, Deleting, Over}
use Rattle.slate_gc_passes.specs.declared.pass_settings.PassSettings.{PassSettings}
use Rattle.slate_gc_picks.specs.Ages.{aged, is_aged}
use Rattle.slate_gc_picks.specs.Filter.{picks}
use Rattle.slate_gc_picks.specs.Queue.{has_object}
use Rattle.slate_gc_picks.specs.TablePicks.{is_unused, used_tables}
use Rattle.slate_gc_picks.specs.WalFiles.{is_collected}
use Rattle.slate_gc_picks.specs.WalRanges.{wal_ranges}
use Rattle.slate_gc_picks.specs.declared.wal_gc.WalGcMode.TheVariants.{Fence}
use Rattle.slate_ids.specs.FinePath.{IsFine}
use Rattle.slate_ids.specs.Ids.{is_db_path}
use Rattle.slate_ids.specs.declared.error.SlateDBError.{SlateDBError}
use Rattle.slate_ids.specs.declared.error.SlateDBError.TheVariants.{Corrupt, LatestTransactionalObjectVersionMissing, ManifestMissing}
use Rattle.slate_ids.specs.declared.error.FormatName.TheVariants.{Boundary as BoundaryFormat}
use Rattle.slate_ids.specs.declared.gc_message.GcMessage.{GcMessage}
use Rattle.slate_ids.specs.declared.gc_message.GcMessage.TheVariants as passes
use Rattle.slate_ids.specs.declared.object_path.ObjectPath.{ObjectPath}
use Rattle.slate_model.specs.declared.manifest.Manifest.{Manifest}
use Rattle.slate_model_records.specs.Records.{Record}
use Rattle.slate_state_referenced.specs.Named.{has_number, named_numbers}
use Rattle.slate_state_referenced.specs.Referenced.{Versions, number_goes, rest_goes}
use Rattle.slate_state_referenced.specs.declared.referenced_phase.ReferencedPhase.{ReferencedPhase}
use Rattle.slate_state_referenced.specs.declared.referenced_phase.ReferencedPhase.TheVariants as referenced
use Rattle.slate_state_updates.specs.ManifestChanges.{commit_of}
use Rattle.slate_state_updates.specs.declared.manifest_change.ManifestChange.TheVariants.{DropExpired}
use Rattle.slate_store.specs.Machines.{Stay, End}
use Rattle.slate_store.specs.Folders.{is_in}
use Rattle.slate_store.specs.Store.{Store, listed, object_at, removed, stored, whole}
use Rattle.slate_store.specs.StoreCalls.{moment_of}
use Rattle.slate_store.specs.declared.list_dir.ListDir.{ListDir}
use Rattle.slate_store.specs.declared.list_dir.ListDir.TheVariants as folders
use Rattle.slate_store.specs.declared.object.ObjectMetadata.{ObjectMetadata}
use Rattle.slate_store.specs.declared.object.StoredObject.{StoredObject}
use Rattle.slate_txn_changes.specs.LogWorks.{WorkGoes}
use Rattle.slate_txn_changes.specs.declared.log_work.LogEnd.{LogEnd}
use Rattle.slate_txn_changes.specs.declared.log_work.LogWork.{LogWork}
use Rattle.slate_txn_changes_laws.proofs.AdvanceSteps.{AdvanceAt, AdvanceLeads, advance_leads}
use Rattle.slate_txn_changes_laws.proofs.ChangeSteps.{Stands, WorkAt, WorkLeads, work_leads, work_stands}
use Rattle.slate_txn_changes_laws.proofs.ReadSteps.{ReadAt, ReadLeads, below_not, boundary_below, read_keeps, read_leads}
use Rattle.slate_txn_changes_laws.specs.ChangeEnds.{ChangeAnswers, IsRead}
use Rattle.slate_txn_changes_laws.specs.ChangeEnds.ChangeAnswers.{Changes as HasChanged, MakesNone as MadeNone, NoVersion as HadNone, Refuses as WasRefused, Undecoded as HadUndecoded, NoBoundary as HadNoBoundary}
use Rattle.slate_txn_changes_laws.specs.Works.{IsInside}
use Rattle.slate_txn_changes_laws.specs.BothLogs.{AreReady}
use Rattle.slate_txn_laws.proofs.Asides.{stored_ready}
use Rattle.slate_txn_laws.proofs.OtherCalls.{version_aside}
use Rattle.slate_txn_laws.proofs.Tops.{top_object}
use Rattle.slate_txn_laws.specs.Reading.{ReadAnswers}
use Rattle.slate_txn_laws.specs.Reading.ReadAnswers.{NoVersion as WasNone, Latest as WasRead, Undecoded as WasUndecoded, NoBoundary as WasUnbounded}
use Rattle.slate_txn_laws.specs.Elsewhere.{IsAside}
use Rattle.slate_txn_laws.specs.Ready.{AreFine, top_of, IsLatest, IsReady, bytes_of}
use Rattle.slate_txn_log.specs.Advance.{boundary_at}
use Rattle.slate_txn_log.specs.AdvancePhase.{AdvanceGoes, advance_asks, advance_goes}
use Rattle.slate_txn_log.specs.Boundary.{greatest}
use Rattle.slate_txn_log.specs.LogPaths.{folder, version_path}
use Rattle.slate_txn_log.specs.ReadPhase.{Reply, read_asks, read_goes}
use Rattle.slate_txn_log.specs.TryRead.{some_value, value_got}
use Rattle.slate_txn_log.specs.declared.advance_phase.AdvancePhase.{AdvancePhase}
use Rattle.slate_txn_log.specs.declared.advance_phase.AdvancePhase.TheVariants as advancing
use Rattle.slate_txn_log.specs.declared.log_kind.LogKind.{LogKind}
use Rattle.slate_txn_log.specs.declared.log_kind.LogKind.TheVariants as logs
use Rattle.slate_txn_log.specs.declared.read_phase.ReadPhase.{ReadPhase}

no_start : (a b : Bool) → b ≡ false → (a && b) ≡ false
no_start true b h = h
no_start false b h = refl

found_here : (k : ℕ) (left : List ℕ) → has_number k (k ∷ left) ≡ true
found_here k left = ap (λ (b : Bool). b || has_number k left) (own k)
  where
    own : (k : ℕ) → (k == k) ≡ true
    own k = grind (arith, nat_tests)

found_later : (j k : ℕ) (left : List ℕ) → has_number k left ≡ true → has_number k (j ∷ left) ≡ true
found_later j k left h = either (j == k) (has_number k left) h
  where
    either : (a b : Bool) → b ≡ true → (a || b) ≡ true
    either true b h = refl
    either false b h = h

module _ (ways : Ways) (plain : PlainWays ways) (db : List ℕ) (named : is_db_path db ≡ true) (settings : PassSettings) (moment : ℤ) (s : Store) (ready : AreReady db s) where
  -- the numbers that are left are named by the latest manifest
  pub record Names (t : Store) (left : List ℕ) : Type 0 where
    pub number : ℕ
    pub manifest : Manifest
    pub latest : IsRead ways.manifest_of db logs.Manifest t number manifest
    pub all : (k : ℕ) → has_number k left ≡ true → has_number k (named_numbers number manifest.core.checkpoints) ≡ true

  -- what is known at each phase that reads the versions named
  abbrev NamesAt : Store → ReferencedPhase → Type 0
  NamesAt t (referenced.Getting [] found) = ⊥
  NamesAt t (referenced.Getting (k ∷ left) found) = Names t (k ∷ left)
  NamesAt t referenced.Over = ⊥

  -- the greatest numbers of both logs
  abbrev pub tops_of : Store → LogKind → Option ℕ
  tops_of t log = top_of db log t

  -- the log whose boundary is moved up
  abbrev pub pass_log : LogKind
  pass_log = log_or_manifests (log_of_pass settings.pass)

  -- both logs are ready, and what is left may go
  pub record Deletes (t : Store) (left : List ObjectMetadata) : Type 0 where
    pub tops : LogKind → Option ℕ
    pub keeps : Keeps db named tops t
    pub may : Each (MayGo db named tops) left

  -- and the boundary may be put
  pub record Advances (t : Store) (phase : AdvancePhase) (left : List ObjectMetadata) : Type 0 where
    pub tops : LogKind → Option ℕ
    pub keeps : Keeps db named tops t
    pub may : Each (MayGo db named tops) left
    pub bounds : MayAdvance db named tops pass_log phase

  -- and at each phase of what follows the removal
  abbrev PhaseAt : Store → PassPhase → Type 0
  PhaseAt t (ReadingRecord phase) = AreReady db t × ReadAt ways.record_of db logs.Compactions t phase
  PhaseAt t (ReadingManifest least phase) = AreReady db t × ReadAt ways.manifest_of db logs.Manifest t phase
  PhaseAt t (Fetching heads phase) = AreReady db t × NamesAt t phase
  PhaseAt t (Listing heads versions) = AreReady db t
  PhaseAt t (Getting n listed found) = AreReady db t × (top_of db logs.Manifest t ≡ Some n) × (log_of_pass settings.pass ≡ Some logs.Manifest) × Each (IsVersion db named logs.Manifest) found
  PhaseAt t (Bounding n listed found) = AreReady db t × (top_of db logs.Manifest t ≡ Some n) × (log_of_pass settings.pass ≡ Some logs.Manifest) × Each (IsOlder db named (tops_of t) logs.Manifest) found
  PhaseAt t (Advancing phase left counts) = AdvanceAt db pass_log t phase × (counts.failed ≡ 0) × (PicksListed ways → Advances t phase left)
  PhaseAt t (Deleting left counts) = (has_object left ≡ true) × (counts.failed ≡ 0) × (PicksListed ways → Deletes t left)
  PhaseAt t Over = ⊥

  abbrev pub GcAt : Store → GcPhase → Type 0
  GcAt t (Removing work) = WorkAt ways.manifest_of (commit_of ways.bytes_of DropExpired) plain.manifests db logs.Manifest named moment s ready.manifests t work
  GcAt t (Collecting at phase) = PhaseAt t phase

  -- how it ends
  abbrev pub EndsSo : Store → Result PassCounts SlateDBError → Type 0
  EndsSo t r = IsInside r × PassAnswers ways db moment t r × (PicksListed ways → AreReady db t)

  -- a step from so many stages: it goes on and starts no stage again, or it ends
  abbrev pub GcLeads : ℕ → Store → GcGoes → Type 0
  GcLeads stages t (Stay q) = (turned_from stages q ≡ false) × GcAt t q
  GcLeads stages t (End q r) = EndsSo t r

  abbrev Stops : ℕ → Store → SlateDBError → Type 0
  Stops stages t e = EndsSo t (Err e)

  both_ready : (tops : LogKind → Option ℕ) (t : Store) → Keeps db named tops t → AreReady db t
  both_ready tops t keeps = record { manifests = keeps.ready logs.Manifest; records = keeps.ready logs.Compactions }

  as_ready : (t : Store) → AreReady db t → Keeps db named (tops_of t) t
  as_ready t both = record { ready = each; top = λ log. refl }
    where
      each : (log : LogKind) → IsReady db log t
      each logs.Manifest = both.manifests
      each logs.Compactions = both.records

  -- ---- deletes, and the advance before

  by_left : (stages : ℕ) (t : Store) (at : Option ℤ) (now : ℤ) (left : List ObjectMetadata) (counts : PassCounts) → counts.failed ≡ 0 → (PicksListed ways → Deletes t left) → (b : Bool) → has_object left ≡ b
      → GcLeads stages t (collect_on at now (if b then Stay (Deleting left counts) else End Over (Ok counts)))
  by_left stages t at now left counts zero goes true has = (no_start (stages == 1) false refl, (has, zero, goes))
  by_left stages t at now left counts zero goes false has = (tt, IsDone counts refl zero, λ given. both_ready (goes given).tops t (goes given).keeps)

  of_deletes : (stages : ℕ) (t : Store) (at : Option ℤ) (now : ℤ) (left : List ObjectMetadata) (counts : PassCounts) → counts.failed ≡ 0 → (PicksListed ways → Deletes t left) → GcLeads stages t (collect_on at now (deletes_next left counts))
  of_deletes stages t at now left counts zero goes = by_left stages t at now left counts zero goes (has_object left) refl

  of_target : (stages : ℕ) (t : Store) (at : Option ℤ) (now : ℤ) (to : Option ℕ) (left : List ObjectMetadata) (counts : PassCounts) → (stages == 2) ≡ false → counts.failed ≡ 0
      → (PicksListed ways → Deletes t left) → IfSome to (λ k. PicksListed ways → Advances t (advancing.Bounding k) left) → GcLeads stages t (collect_on at now (advance_to to left counts))
  of_target stages t at now None left counts apart zero goes none = of_deletes stages t at now left counts zero goes
  of_target stages t at now (Some k) left counts apart zero goes advances = (ap (λ (b : Bool). b && true) apart, (tt, zero, advances))

  -- what is picked of candidates that may go may go
  picked : (tops : LogKind → Option ℕ) (found : List ObjectMetadata) → PicksListed ways → Each (MayGo db named tops) found → Each (MayGo db named tops) (picks ways.allows settings.options.dry_run found)
  picked tops found given each = by_dry settings.options.dry_run
    where
      by_dry : (dry : Bool) → Each (MayGo db named tops) (picks ways.allows dry found)
      by_dry true = tt
      by_dry false = each_among (MayGo db named tops) (ways.allows found) (λ m among. at_among (MayGo db named tops) found each m (given.allows found m among))

  -- candidates that may go, and whose greatest may be the boundary
  record Candidates (t : Store) (found : List ObjectMetadata) : Type 0 where
    pub may : Each (MayGo db named (tops_of t)) found
    pub bounds : IfSome (target settings found) (MayBound db named (tops_of t) pass_log)

  older_candidates : (t : Store) (log : LogKind) (found : List ObjectMetadata) → log_of_pass settings.pass ≡ Some log → Each (IsOlder db named (tops_of t) log) found → Candidates t found
  older_candidates t log found own each = record {
    may = each_map (IsOlder db named (tops_of t) log) (MayGo db named (tops_of t)) (λ m old. IsOld log old) found each;
    bounds = by_enabled settings.boundary_files_enabled;
  }
    where
      by_enabled : (b : Bool) → IfSome (if b then target_in (log_of_pass settings.pass) found else None) (MayBound db named (tops_of t) pass_log)
      by_enabled true = subst (λ (o : Option LogKind). IfSome (target_in o found) (MayBound db named (tops_of t) (log_or_manifests o))) (sym own) (greatest_may_bound db named (tops_of t) log found each)
      by_enabled false = tt

  bounds_on : (t : Store) (found : List ObjectMetadata) → AreReady db t → (PicksListed ways → Candidates t found) → (to : Option ℕ) → target settings found ≡ to
      → IfSome to (λ k. PicksListed ways → Advances t (advancing.Bounding k) (picks ways.allows settings.options.dry_run found))
  bounds_on t found both may None is = tt
  bounds_on t found both may (Some k) is = λ given. record {
    tops = tops_of t;
    keeps = as_ready t both;
    may = picked (tops_of t) found given (may given).may;
    bounds = subst (λ (o : Option ℕ). IfSome o (MayBound db named (tops_of t) pass_log)) is (may given).bounds;
  }

  of_chosen : (stages : ℕ) (t : Store) (at : Option ℤ) (now : ℤ) (listed : ℕ) (found : List ObjectMetadata) → (stages == 2) ≡ false → AreReady db t → (PicksListed ways → Candidates t found)
      → GcLeads stages t (collect_on at now (chosen_goes ways.allows settings listed found))
  of_chosen stages t at now listed found apart both may =
      of_target stages t at now (target settings found) (picks ways.allows settings.options.dry_run found) _ apart refl
      (λ given. record { tops = tops_of t; keeps = as_ready t both; may = picked (tops_of t) found given (may given).may })
      (bounds_on t found both may (target settings found) refl)

  after_delete : (t : Store) (m : ObjectMetadata) (rest : List ObjectMetadata) → Deletes t (m ∷ rest) → Deletes (removed m.location t) rest
  after_delete t m rest goes = record { tops = goes.tops; keeps = delete_kept db named goes.tops t m goes.may.0 goes.keeps; may = goes.may.1 }

  deletes : (t : Store) (at : Option ℤ) (left : List ObjectMetadata) (counts : PassCounts) → has_object left ≡ true → counts.failed ≡ 0 → (PicksListed ways → Deletes t left)
      → GcLeads 1 (whole (pass_asks db settings.pass (Deleting left counts)) (moment_of (pass_asks db settings.pass (Deleting left counts)) moment) t).store
      (gc_goes ways settings moment (Collecting at (Deleting left counts)) (whole (pass_asks db settings.pass (Deleting left counts)) (moment_of (pass_asks db settings.pass (Deleting left counts)) moment) t).answer)
  deletes t at [] counts has zero goes = absurd cc
  deletes t at (m ∷ rest) counts has zero goes = of_deletes 1 (removed m.location t) at (moment_of_pass at moment) rest (one_deleted counts) zero (λ given. after_delete t m rest (goes given))

  -- after a step of the advance
  record Advanced (t : Store) (left : List ObjectMetadata) (g : AdvanceGoes) : Type 0 where
    pub tops : LogKind → Option ℕ
    pub keeps : Keeps db named tops t
    pub may : Each (MayGo db named tops) left
    pub goes_on : MayGoOn db named tops pass_log g

  of_advanced : (t : Store) (at : Option ℤ) (now : ℤ) (left : List ObjectMetadata) (counts : PassCounts) → counts.failed ≡ 0 → (g : AdvanceGoes) → AdvanceLeads db pass_log t g
      → (PicksListed ways → Advanced t left g) → GcLeads 2 t (collect_on at now (advanced_goes left counts g))
  of_advanced t at now left counts zero (Stay phase) h goes =
      (h.0, (h.1, zero, λ given. record { tops = (goes given).tops; keeps = (goes given).keeps; may = (goes given).may; bounds = (goes given).goes_on }))
  of_advanced t at now left counts zero (End phase (Ok done)) h goes = of_deletes 2 t at now left counts zero (λ given. record { tops = (goes given).tops; keeps = (goes given).keeps; may = (goes given).may })
  of_advanced t at now left counts zero (End phase (Err e)) (inl h) goes = absurd cc
  of_advanced t at now left counts zero (End phase (Err e)) (inr h) goes =
      let same : e ≡ Corrupt BoundaryFormat = cc (h.1) in
      subst (λ (e : SlateDBError). Stops 2 t e) (sym same)
      (refl, IsRefused (Corrupt BoundaryFormat) refl (NoBoundary pass_log h.0 refl), λ given. both_ready (goes given).tops t (goes given).keeps)

  advances : (t : Store) (at : Option ℤ) (phase : AdvancePhase) (left : List ObjectMetadata) (counts : PassCounts) → AdvanceAt db pass_log t phase → counts.failed ≡ 0 → (PicksListed ways → Advances t phase left)
      → GcLeads 2 (whole (advance_asks db pass_log phase) (moment_of (advance_asks db pass_log phase) moment) t).store
      (collect_on at (moment_of_pass at moment) (advanced_goes left counts (advance_goes phase (whole (advance_asks db pass_log phase) (moment_of (advance_asks db pass_log phase) moment) t).answer)))
  advances t at phase left counts h zero goes =
      of_advanced _ at (moment_of_pass at moment) left counts zero _ (advance_leads db pass_log moment t phase h)
      (λ given. record {
        tops = (goes given).tops;
        keeps = advance_kept db named (goes given).tops pass_log moment t phase (goes given).bounds (goes given).keeps;
        may = (goes given).may;
        goes_on = advance_goes_on db named (goes given).tops pass_log moment t phase (goes given).bounds;
      })

  -- ---- the pass over the manifests, after its list

  of_decoded : (t : Store) (at : Option ℤ) (now : ℤ) (n listed : ℕ) (found : List ObjectMetadata) (object : StoredObject) → PhaseAt t (Getting n listed found) → IsLatest db logs.Manifest t n object.bytes → (r : Result Manifest SlateDBError) → ways.manifest_of object.bytes ≡ r
      → GcLeads 4 t (collect_on at now (decoded_goes n listed found r))
  of_decoded t at now n listed found object h latest (Ok m) reads =
      (refl, (h.0, h.1, h.2, unneeded_older db named (tops_of t) logs.Manifest n m.core.checkpoints h.1 found h.3))
  of_decoded t at now n listed found object h latest (Err e) refuses =
      (subst IsInside refuses (plain.manifests.reads object.bytes), IsRefused e refl (ManifestUnread n object.bytes latest refuses), λ given. h.0)

  gets : (t : Store) (at : Option ℤ) (now : ℤ) (n listed : ℕ) (found : List ObjectMetadata) → PhaseAt t (Getting n listed found)
      → GcLeads 4 t (collect_on at now (got_goes ways.manifest_of n listed found (object_at (version_path logs.Manifest db n) t)))
  gets t at now n listed found h =
      let has = top_object logs.Manifest db t n h.0.manifests.fine h.1 in
      let latest : IsLatest db logs.Manifest t n has.object.bytes = record { top = h.1; stands = ap bytes_of has.at } in
      subst (λ (o : Option StoredObject). GcLeads 4 t (collect_on at now (got_goes ways.manifest_of n listed found o))) (sym has.at)
      (of_decoded t at now n listed found has.object h latest (ways.manifest_of has.object.bytes) refl)

  bounds : (t : Store) (at : Option ℤ) (now : ℤ) (n listed : ℕ) (found : List ObjectMetadata) → PhaseAt t (Bounding n listed found) → (boundary : Option ℕ) → boundary_at db logs.Manifest t ≡ boundary
      → GcLeads 3 t (collect_on at now (bounded_goes ways.allows settings n listed found boundary))
  bounds t at now n listed found h None none = (refl, IsRefused (Corrupt BoundaryFormat) refl (NoBoundary logs.Manifest none refl), λ given. h.0)
  bounds t at now n listed found h (Some b) same =
      subst (λ (x : Bool). GcLeads 3 t (collect_on at now (if x then End Over (Err (ManifestMissing n)) else chosen_goes ways.allows settings listed found)))
      (sym (below_not n b (boundary_below db logs.Manifest t n b h.0.manifests h.1 same)))
      (of_chosen 3 t at now listed found refl h.0 (λ given. older_candidates t logs.Manifest found h.2 h.3))

  -- ---- the list

  same_folder : (pass : GcMessage) → reads_greatest pass ≡ true → folder_of pass db ≡ folder logs.Manifest db
  same_folder passes.Manifest h = refl
  same_folder passes.Wal h = absurd cc
  same_folder passes.WalFence h = absurd cc
  same_folder passes.Compacted h = absurd cc
  same_folder passes.Compactions h = absurd cc
  same_folder passes.Detach h = absurd cc

  manifest_pass : (pass : GcMessage) → reads_greatest pass ≡ true → log_of_pass pass ≡ Some logs.Manifest
  manifest_pass passes.Manifest h = refl
  manifest_pass passes.Wal h = absurd cc
  manifest_pass passes.WalFence h = absurd cc
  manifest_pass passes.Compacted h = absurd cc
  manifest_pass passes.Compactions h = absurd cc
  manifest_pass passes.Detach h = absurd cc

  -- the versions that were listed, and those of them that are aged
  versions_in : (log : LogKind) (t : Store) (found : List ObjectMetadata) → AreFine t.objects → found ≡ listed (folder log db) t → Each (IsVersion db named log) found
  versions_in log t found fine same = subst (Each (IsVersion db named log)) (sym same) (listed_versions db named log t fine)

  aged_in : (log : LogKind) (now : ℤ) (found : List ObjectMetadata) → Each (IsVersion db named log) found → Each (IsVersion db named log) (aged settings.options.min_age now found)
  aged_in log now found each = each_kept (IsVersion db named log) (IsVersion db named log) (λ m. is_aged settings.options.min_age now m.last_modified) (λ m aged v. v) found each

  of_greatest : (t : Store) (at : Option ℤ) (now : ℤ) (found : List ObjectMetadata) → AreReady db t → log_of_pass settings.pass ≡ Some logs.Manifest → found ≡ listed (folder logs.Manifest db) t → (n : Option ℕ) → top_of db logs.Manifest t ≡ n
      → GcLeads 5 t (collect_on at now (manifests_goes settings.options.min_age now found n))
  of_greatest t at now found both own same None none = (refl, IsRefused _ refl (NoManifest none refl), λ given. both)
  of_greatest t at now found both own same (Some n) top = (refl, (both, top, own, aged_in logs.Manifest now found (versions_in logs.Manifest t found both.manifests.fine same)))

  -- old records may go
  old_may : (t : Store) (now : ℤ) (found : List ObjectMetadata) → AreReady db t → found ≡ listed (folder logs.Compactions db) t → (top : Option ℕ) → greatest logs.Compactions found ≡ top
      → Each (IsOlder db named (tops_of t) logs.Compactions) (old_records settings.options.min_age now found top)
  old_may t now found both same None is = tt
  old_may t now found both same (Some n) is =
      unneeded_older db named (tops_of t) logs.Compactions n [] (sym (ap (greatest logs.Compactions) same) ∙ is) (aged settings.options.min_age now found)
      (aged_in logs.Compactions now found (versions_in logs.Compactions t found both.records.fine same))

  -- and so may files and tables
  beside_may : (t : Store) (dir : ListDir) (found : List ObjectMetadata) → AreReady db t → ((p : ObjectPath) → IsFine p → is_in dir p ≡ true → (log : LogKind) → IsAside db log p) → found ≡ listed dir t → Each (MayGo db named (tops_of t)) found
  beside_may t dir found both aside same =
      subst (Each (MayGo db named (tops_of t))) (sym same)
      (each_map (λ m. (log : LogKind) → IsAside db log m.location) (MayGo db named (tops_of t)) (λ m beside. IsBeside beside) (listed dir t) (each_listed (λ p. (log : LogKind) → IsAside db log p) dir aside t.objects both.manifests.fine))

  none_bounds : (t : Store) (found : List ObjectMetadata) → log_of_pass settings.pass ≡ None → IfSome (target settings found) (MayBound db named (tops_of t) pass_log)
  none_bounds t found none = by_enabled settings.boundary_files_enabled
    where
      by_enabled : (b : Bool) → IfSome (if b then target_in (log_of_pass settings.pass) found else None) (MayBound db named (tops_of t) pass_log)
      by_enabled true = subst (λ (o : Option LogKind). IfSome (target_in o found) (MayBound db named (tops_of t) (log_or_manifests o))) (sym none) tt
      by_enabled false = tt

  others_may : (t : Store) (now : ℤ) (heads : Heads) (versions : Versions) (found : List ObjectMetadata) → AreReady db t → PicksListed ways → (pass : GcMessage) → settings.pass ≡ pass → reads_greatest pass ≡ false → found ≡ listed (folder_of pass db) t
      → Candidates t (candidates ways.files settings.options.min_age now heads versions found pass)
  others_may t now heads versions found both given passes.Manifest is reads same = absurd cc
  others_may t now heads versions found both given passes.Wal is reads same = record {
    may = each_among (MayGo db named (tops_of t)) (ways.files (wal_ranges heads.latest versions) found settings.options.min_age now)
        (λ m among. at_among (MayGo db named (tops_of t)) found (beside_may t (folders.Wals db) found both (files_beside db) same) m (given.files (wal_ranges heads.latest versions) found settings.options.min_age now m among));
    bounds = none_bounds t _ (ap log_of_pass is);
  }
  others_may t now heads versions found both given passes.WalFence is reads same = record {
    may = each_kept (MayGo db named (tops_of t)) (MayGo db named (tops_of t)) (is_collected Fence (wal_ranges heads.latest versions) settings.options.min_age now) (λ m test may. may) found
        (beside_may t (folders.Wals db) found both (files_beside db) same);
    bounds = none_bounds t _ (ap log_of_pass is);
  }
  others_may t now heads versions found both given passes.Compacted is reads same = record {
    may = each_kept (MayGo db named (tops_of t)) (MayGo db named (tops_of t)) (λ m. is_unused settings.options.min_age now heads.least heads.watermark (used_tables versions) m.location) (λ m test may. may) found
        (beside_may t (folders.Tables db) found both (tables_beside db) same);
    bounds = none_bounds t _ (ap log_of_pass is);
  }
  others_may t now heads versions found both given passes.Compactions is reads same =
      older_candidates t logs.Compactions _ (ap log_of_pass is) (old_may t now found both same (greatest logs.Compactions found) refl)
  others_may t now heads versions found both given passes.Detach is reads same = record { may = tt; bounds = none_bounds t [] (ap log_of_pass is) }

  of_kind : (t : Store) (at : Option ℤ) (now : ℤ) (heads : Heads) (versions : Versions) → AreReady db t → (found : List ObjectMetadata) → found ≡ listed (folder_of settings.pass db) t → (b : Bool) → reads_greatest settings.pass ≡ b
      → GcLeads 5 t (collect_on at now (if b then manifests_goes settings.options.min_age now found (greatest logs.Manifest found)
      else chosen_goes ways.allows settings (length found) (candidates ways.files settings.options.min_age now heads versions found settings.pass)))
  of_kind t at now heads versions both found same true is =
      let top : top_of db logs.Manifest t ≡ greatest logs.Manifest found = sym (ap (greatest logs.Manifest) (same ∙ ap (λ (dir : ListDir). listed dir t) (same_folder settings.pass is))) in
      of_greatest t at now found both (manifest_pass settings.pass is) (same ∙ ap (λ (dir : ListDir). listed dir t) (same_folder settings.pass is)) (greatest logs.Manifest found) top
  of_kind t at now heads versions both found same false is =
      of_chosen 5 t at now (length found) _ refl both (λ given. others_may t now heads versions found both given settings.pass refl is same)

  -- ---- the versions that are named

  of_rest : (stages : ℕ) (t : Store) (at : Option ℤ) (now : ℤ) (heads : Heads) (left : List ℕ) (found : Versions) → AreReady db t → Names t left → GcLeads stages t (collect_on at now (fetched_goes heads (rest_goes left found)))
  of_rest stages t at now heads [] found both names = (no_start (stages == 5) false refl, both)
  of_rest stages t at now heads (k ∷ left) found both names = (no_start (stages == 6) false refl, (both, names))

  is_named : (t : Store) (k : ℕ) (left : List ℕ) → Names t (k ∷ left) → IsNamed ways db t k
  is_named t k left names = record { number = names.number; manifest = names.manifest; latest = names.latest; named = names.all k (found_here k left) }

  rest_named : (t : Store) (k : ℕ) (left : List ℕ) → Names t (k ∷ left) → Names t left
  rest_named t k left names = record { number = names.number; manifest = names.manifest; latest = names.latest; all = λ j h. names.all j (found_later k j left h) }

  of_value : (t : Store) (at : Option ℤ) (now : ℤ) (heads : Heads) (k : ℕ) (left : List ℕ) (found : Versions) → AreReady db t → Names t (k ∷ left) → (object : StoredObject) → object_at (version_path logs.Manifest db k) t ≡ Some object
      → (r : Result Manifest SlateDBError) → ways.manifest_of object.bytes ≡ r → GcLeads 6 t (collect_on at now (fetched_goes heads (number_goes k left found (some_value r))))
  of_value t at now heads k left found both names object here (Ok m) reads = of_rest 6 t at now heads left _ both (rest_named t k left names)
  of_value t at now heads k left found both names object here (Err e) refuses =
      (subst IsInside refuses (plain.manifests.reads object.bytes), IsRefused e refl (NamedUnread k object (is_named t k left names) here refuses), λ given. both)

  of_found : (t : Store) (at : Option ℤ) (now : ℤ) (heads : Heads) (k : ℕ) (left : List ℕ) (found : Versions) → AreReady db t → Names t (k ∷ left) → (o : Option StoredObject) → object_at (version_path logs.Manifest db k) t ≡ o
      → GcLeads 6 t (collect_on at now (fetched_goes heads (number_goes k left found (value_got ways.manifest_of o))))
  of_found t at now heads k left found both names None gone = (refl, IsRefused (ManifestMissing k) refl (NamedGone k (is_named t k left names) gone refl), λ given. both)
  of_found t at now heads k left found both names (Some object) here = of_value t at now heads k left found both names object here (ways.manifest_of object.bytes) refl

  -- ---- the reads

  of_record_read : (t : Store) (at : Option ℤ) (now : ℤ) → AreReady db t → (phase : ReadPhase Record) (r : Result (Option (ℕ × Record)) SlateDBError) → ReadAnswers ways.record_of db logs.Compactions t r → GcLeads 8 t (collect_on at now (record_goes (End phase r)))
  of_record_read t at now both phase r (WasNone top is) = subst (λ (r : Result (Option (ℕ × Record)) SlateDBError). GcLeads 8 t (collect_on at now (record_goes (End phase r)))) (sym is) (refl, (both, tt))
  of_record_read t at now both phase r (WasRead n bytes value latest read is) = subst (λ (r : Result (Option (ℕ × Record)) SlateDBError). GcLeads 8 t (collect_on at now (record_goes (End phase r)))) (sym is) (refl, (both, tt))
  of_record_read t at now both phase r (WasUndecoded n bytes e latest refuses is) =
      subst (λ (r : Result (Option (ℕ × Record)) SlateDBError). GcLeads 8 t (collect_on at now (record_goes (End phase r)))) (sym is)
      (subst IsInside refuses (plain.records bytes), IsRefused e refl (RecordUnread n bytes latest refuses), λ given. both)
  of_record_read t at now both phase r (WasUnbounded n bytes value latest read none is) =
      subst (λ (r : Result (Option (ℕ × Record)) SlateDBError). GcLeads 8 t (collect_on at now (record_goes (End phase r)))) (sym is)
      (refl, IsRefused (Corrupt BoundaryFormat) refl (NoBoundary logs.Compactions none refl), λ given. both)

  of_record : (t : Store) (at : Option ℤ) (now : ℤ) → AreReady db t → (g : Reply Record) → ReadLeads ways.record_of db logs.Compactions t g → GcLeads 8 t (collect_on at now (record_goes g))
  of_record t at now both (Stay phase) h = (h.0, (both, h.1))
  of_record t at now both (End phase r) h = of_record_read t at now both phase r h.0

  reads_record : (t : Store) (at : Option ℤ) (phase : ReadPhase Record) → AreReady db t → ReadAt ways.record_of db logs.Compactions t phase
      → GcLeads 8 (whole (read_asks db logs.Compactions phase) (moment_of (read_asks db logs.Compactions phase) moment) t).store
      (gc_goes ways settings moment (Collecting at (ReadingRecord phase)) (whole (read_asks db logs.Compactions phase) (moment_of (read_asks db logs.Compactions phase) moment) t).answer)
  reads_record t at phase both h =
      let m = moment_of (read_asks db logs.Compactions phase) moment in
      let g = read_goes logs.Compactions ways.record_of phase (whole (read_asks db logs.Compactions phase) m t).answer in
      subst (λ (u : Store). GcLeads 8 u (collect_on at (moment_of_pass at moment) (record_goes g))) (sym (read_keeps ways.record_of db logs.Compactions t m phase))
      (of_record t at (moment_of_pass at moment) both g (read_leads ways.record_of db logs.Compactions t both.records m phase h))

  of_manifest_read : (t : Store) (at : Option ℤ) (now : ℤ) (least : ℕ) → AreReady db t → (phase : ReadPhase Manifest) (r : Result (Option (ℕ × Manifest)) SlateDBError) → ReadAnswers ways.manifest_of db logs.Manifest t r
      → GcLeads 7 t (collect_on at now (manifest_goes least (End phase r)))
  of_manifest_read t at now least both phase r (WasNone top is) =
      subst (λ (r : Result (Option (ℕ × Manifest)) SlateDBError). GcLeads 7 t (collect_on at now (manifest_goes least (End phase r)))) (sym is) (refl, IsRefused LatestTransactionalObjectVersionMissing refl (NoManifest top refl), λ given. both)
  of_manifest_read t at now least both phase r (WasRead n bytes value latest read is) =
      subst (λ (r : Result (Option (ℕ × Manifest)) SlateDBError). GcLeads 7 t (collect_on at now (manifest_goes least (End phase r)))) (sym is)
      (let was : IsRead ways.manifest_of db logs.Manifest t n value = record { bytes = bytes; latest = latest; read = read } in
      of_rest 7 t at now (heads_at least n value) (named_numbers n value.core.checkpoints) ((n, value) ∷ []) both (record { number = n; manifest = value; latest = was; all = λ k h. h }))
  of_manifest_read t at now least both phase r (WasUndecoded n bytes e latest refuses is) =
      subst (λ (r : Result (Option (ℕ × Manifest)) SlateDBError). GcLeads 7 t (collect_on at now (manifest_goes least (End phase r)))) (sym is)
      (subst IsInside refuses (plain.manifests.reads bytes), IsRefused e refl (ManifestUnread n bytes latest refuses), λ given. both)
  of_manifest_read t at now least both phase r (WasUnbounded n bytes value latest read none is) =
      subst (λ (r : Result (Option (ℕ × Manifest)) SlateDBError). GcLeads 7 t (collect_on at now (manifest_goes least (End phase r)))) (sym is)
      (refl, IsRefused (Corrupt BoundaryFormat) refl (NoBoundary logs.Manifest none refl), λ given. both)

  of_manifest : (t : Store) (at : Option ℤ) (now : ℤ) (least : ℕ) → AreReady db t → (g : Reply Manifest) → ReadLeads ways.manifest_of db logs.Manifest t g → GcLeads 7 t (collect_on at now (manifest_goes least g))
  of_manifest t at now least both (Stay phase) h = (h.0, (both, h.1))
  of_manifest t at now least both (End phase r) h = of_manifest_read t at now least both phase r h.0

  reads_manifest : (t : Store) (at : Option ℤ) (least : ℕ) (phase : ReadPhase Manifest) → AreReady db t → ReadAt ways.manifest_of db logs.Manifest t phase
      → GcLeads 7 (whole (read_asks db logs.Manifest phase) (moment_of (read_asks db logs.Manifest phase) moment) t).store
      (gc_goes ways settings moment (Collecting at (ReadingManifest least phase)) (whole (read_asks db logs.Manifest phase) (moment_of (read_asks db logs.Manifest phase) moment) t).answer)
  reads_manifest t at least phase both h =
      let m = moment_of (read_asks db logs.Manifest phase) moment in
      let g = read_goes logs.Manifest ways.manifest_of phase (whole (read_asks db logs.Manifest phase) m t).answer in
      subst (λ (u : Store). GcLeads 7 u (collect_on at (moment_of_pass at moment) (manifest_goes least g))) (sym (read_keeps ways.manifest_of db logs.Manifest t m phase))
      (of_manifest t at (moment_of_pass at moment) least both g (read_leads ways.manifest_of db logs.Manifest t both.manifests m phase h))

  -- ---- the removal

  of_collects : (t : Store) → AreReady db t → GcLeads 9 t (collects settings.pass)
  of_collects t both = of_pass settings.pass
    where
      of_pass : (pass : GcMessage) → GcLeads 9 t (collects pass)
      of_pass passes.Manifest = (refl, both)
      of_pass passes.Wal = (refl, (both, tt))
      of_pass passes.WalFence = (refl, (both, tt))
      of_pass passes.Compacted = (refl, (both, tt))
      of_pass passes.Compactions = (refl, both)
      of_pass passes.Detach = (refl, both)

  -- the other log after the removal
  records_after : (t : Store) (k : ℕ) (bytes : List ℕ) → t ≡ stored (version_path logs.Manifest db k) bytes moment s → k < 2 ^ 64 → IsReady db logs.Compactions t
  records_after t k bytes same small =
      subst (λ (t : Store). IsReady db logs.Compactions t) (sym same)
      (stored_ready db logs.Compactions named (version_path logs.Manifest db k) (version_aside db logs.Compactions db logs.Manifest k named small (λ one other. absurd cc)) bytes moment s ready.records)

  abbrev Removed : Store → LogWork Manifest → Result (LogEnd Manifest) SlateDBError → Type 0
  Removed t work r = GcLeads 9 t (removed_goes settings.pass (End work r))

  of_end : (t : Store) (work : LogWork Manifest) (r : Result (LogEnd Manifest) SlateDBError) → IsInside r → ChangeAnswers ways.manifest_of (commit_of ways.bytes_of DropExpired) db logs.Manifest moment s t r → IsReady db logs.Manifest t → Removed t work r
  of_end t work r calm (HasChanged k bytes wanted changed is) left =
      let small = (top_object logs.Manifest db t k left.fine changed.latest.top).small in
      subst (Removed t work) (sym is) (of_collects t (record { manifests = left; records = records_after t k bytes changed.stands small }))
  of_end t work r calm (MadeNone n value same was none is) left = subst (Removed t work) (sym is) (subst (λ (t : Store). GcLeads 9 t (collects settings.pass)) (sym same) (of_collects s ready))
  of_end t work r calm (HadNone same top is) left =
      subst (Removed t work) (sym is) (subst (λ (t : Store). Stops 9 t LatestTransactionalObjectVersionMissing) (sym same) (refl, IsRefused LatestTransactionalObjectVersionMissing refl (NoManifest top refl), λ given. ready))
  of_end t work r calm (WasRefused n value e same was refuses is) left =
      subst (Removed t work) (sym is) (subst (λ (t : Store). Stops 9 t e) (sym same) (subst IsInside is calm, IsRefused e refl (RemovalRefused n value was refuses), λ given. ready))
  of_end t work r calm (HadUndecoded n bytes e same latest refuses is) left =
      subst (Removed t work) (sym is) (subst (λ (t : Store). Stops 9 t e) (sym same) (subst IsInside is calm, IsRefused e refl (ManifestUnread n bytes latest refuses), λ given. ready))
  of_end t work r calm (HadNoBoundary same none is) left =
      subst (Removed t work) (sym is) (subst (λ (t : Store). Stops 9 t (Corrupt BoundaryFormat)) (sym same) (refl, IsRefused (Corrupt BoundaryFormat) refl (NoBoundary logs.Manifest none refl), λ given. ready))

  of_removed : (t : Store) (g : WorkGoes Manifest) → WorkLeads ways.manifest_of (commit_of ways.bytes_of DropExpired) plain.manifests db logs.Manifest named moment s ready.manifests t g → GcLeads 9 t (removed_goes settings.pass g)
  of_removed t (Stay work) h = h
  of_removed t (End work r) h = of_end t work r h.calm h.answers h.ready_then

  -- ---- the whole

  abbrev Stepped : Store → GcPhase → Type 0
  Stepped t p = GcLeads (stages_left p) (whole (gc_asks db settings.pass p) (moment_of (gc_asks db settings.pass p) moment) t).store (gc_goes ways settings moment p (whole (gc_asks db settings.pass p) (moment_of (gc_asks db settings.pass p) moment) t).answer)

  pub steps : (t : Store) (p : GcPhase) → GcAt t p → Stepped t p
  steps t (Removing work) h = of_removed _ _ (work_leads ways.manifest_of (commit_of ways.bytes_of DropExpired) plain.manifests db logs.Manifest named moment s ready.manifests t work h)
  steps t (Collecting at (ReadingRecord phase)) h = reads_record t at phase h.0 h.1
  steps t (Collecting at (ReadingManifest least phase)) h = reads_manifest t at least phase h.0 h.1
  steps t (Collecting at (Fetching heads (referenced.Getting [] found))) h = absurd h.1
  steps t (Collecting at (Fetching heads (referenced.Getting (k ∷ left) found))) h = of_found t at (moment_of_pass at moment) heads k left found h.0 h.1 (object_at (version_path logs.Manifest db k) t) refl
  steps t (Collecting at (Fetching heads referenced.Over)) h = absurd h.1
  steps t (Collecting at (Listing heads versions)) h = of_kind t at (moment_of_pass at moment) heads versions h (listed (folder_of settings.pass db) t) refl (reads_greatest settings.pass) refl
  steps t (Collecting at (Getting n listed found)) h = gets t at (moment_of_pass at moment) n listed found h
  steps t (Collecting at (Bounding n listed found)) h = bounds t at (moment_of_pass at moment) n listed found h (boundary_at db logs.Manifest t) refl
  steps t (Collecting at (Advancing phase left counts)) h = advances t at phase left counts h.0 h.1 h.2
  steps t (Collecting at (Deleting left counts)) h = deletes t at left counts h.0 h.1 h.2
  steps t (Collecting at Over) h = absurd h

  -- ---- at each phase both logs are ready

  removing_ready : (t : Store) → Stands ways.manifest_of (commit_of ways.bytes_of DropExpired) plain.manifests db logs.Manifest named moment s ready.manifests t → AreReady db t
  removing_ready t stands = elim stands.changed [
    | inl same ↦ subst (λ (t : Store). AreReady db t) (sym same) ready
    | inr put ↦ record { manifests = stands.ready_still; records = records_after t put.0 put.1 put.3 put.2 }
  ]

  pub all_ready : (t : Store) (p : GcPhase) → PicksListed ways → GcAt t p → AreReady db t
  all_ready t (Removing work) given h = removing_ready t (work_stands ways.manifest_of (commit_of ways.bytes_of DropExpired) plain.manifests db logs.Manifest named moment s ready.manifests t work h)
  all_ready t (Collecting at (ReadingRecord phase)) given h = h.0
  all_ready t (Collecting at (ReadingManifest least phase)) given h = h.0
  all_ready t (Collecting at (Fetching heads phase)) given h = h.0
  all_ready t (Collecting at (Listing heads versions)) given h = h
  all_ready t (Collecting at (Getting n listed found)) given h = h.0
  all_ready t (Collecting at (Bounding n listed found)) given h = h.0
  all_ready t (Collecting at (Advancing phase left counts)) given h = both_ready (h.2 given).tops t (h.2 given).keeps
  all_ready t (Collecting at (Deleting left counts)) given h = both_ready (h.2 given).tops t (h.2 given).keeps
  all_ready t (Collecting at Over) given h = absurd h
