-- One step of a pass over no log: what it leaves of the log of manifests, which it read, and what it goes on with.
use Rattle.std.proofs.Common.{◌≡◌, ℕ, ℤ, Bool, true, false, List, [], ◌∷◌, map, filter, refl, cond}
use Rattle.slate_ids.specs.FinePath.{IsFine}
use Rattle.slate_ids.specs.Ids.{is_db_path}
use Rattle.slate_ids.specs.declared.gc_message.GcMessage.{GcMessage}
use Rattle.slate_ids.specs.declared.gc_message.GcMessage.TheVariants as of
use Rattle.slate_ids.specs.declared.object_path.ObjectPath.{ObjectPath}
use Rattle.slate_ids.specs.declared.object_path.ObjectPath.TheVariants as paths
use Rattle.slate_model.specs.declared.manifest.Manifest.{Manifest}
use Rattle.slate_store.specs.Folders.{is_in}
use Rattle.slate_store.specs.Machines.{Stay, End}
use Rattle.slate_store.specs.Store.{Store, Outcome, listed, metadata, removed, effect}
use Rattle.slate_store.specs.declared.mark.Mark.{Mark}
use Rattle.slate_store.specs.declared.mark.Mark.TheVariants.{Good, Fail, Lost}
use Rattle.slate_store.specs.declared.object.ObjectMetadata.{ObjectMetadata}
use Rattle.slate_store.specs.declared.object.StoredObject.{StoredObject}
use Rattle.slate_store.specs.declared.store_answer.StoreAnswer.{StoreAnswer}
use Rattle.slate_store.specs.declared.store_answer.StoreAnswer.TheVariants.{Found}
use Rattle.slate_txn_log.specs.declared.log_kind.LogKind.TheVariants as logs
use Rattle.slate_script_events.specs.declared.filter_word.FilterWord.{FilterWord}
use Rattle.slate_gc_passes.specs.Candidates.{candidates}
use Rattle.slate_gc_passes.specs.Pass.{PassGoes, pass_asks, pass_goes, deletes_next}
use Rattle.slate_gc_passes.specs.Rows.{folder_of}
use Rattle.slate_gc_passes.specs.declared.directory_options.GarbageCollectorDirectoryOptions.{GarbageCollectorDirectoryOptions}
use Rattle.slate_gc_passes.specs.declared.heads.Heads.{Heads}
use Rattle.slate_gc_passes.specs.declared.pass_counts.PassCounts.{PassCounts}
use Rattle.slate_gc_passes.specs.declared.pass_phase.PassPhase.{PassPhase}
use Rattle.slate_gc_passes.specs.declared.pass_settings.PassSettings.{PassSettings}
use Rattle.slate_gc_passes.specs.declared.pass_phase.PassPhase.TheVariants.{ReadingRecord, ReadingManifest, Fetching, Listing, Getting, Bounding, Advancing, Deleting, Over}
use Rattle.slate_gc_picks.specs.Filter.{picks}
use Rattle.slate_gc_picks.specs.TablePicks.{is_unused, used_tables}
use Rattle.slate_gc_picks.specs.WalFiles.{is_collected}
use Rattle.slate_gc_picks.specs.WalRanges.{wal_ranges}
use Rattle.slate_gc_picks.specs.declared.wal_gc.WalGcMode.TheVariants.{Regular, Fence}
use Rattle.slate_cluster_protocol.specs.Chains.Changed.{Stays}
use Rattle.slate_cluster_protocol.specs.Holding.{Each}
use Rattle.slate_cluster_protocol.specs.Logs.{Author, Chain, manifests}
use Rattle.slate_cluster_protocol.specs.Referenced.{IsReferenced}
use Rattle.slate_cluster_protocol.specs.Works.{pass_ways}
use Rattle.slate_cluster_laws.proofs.Facts.{IsSound, Grows}
use Rattle.slate_cluster_laws.proofs.Moves.{gone_grows, gone_sound}
use Rattle.slate_cluster_laws.proofs.Passes.{bounded_pass, each_kept, picks_have}
use Rattle.slate_cluster_laws.proofs.Paths.{IsNobodys, nobodys_elsewhere}
use Rattle.slate_cluster_laws.proofs.Puts.{Leaves, leaves_not}
use Rattle.slate_cluster_laws.proofs.Referenced.{kept_referenced}
use Rattle.slate_cluster_laws.proofs.Stores.{IsTidy}

-- ---- what a pass over no log knows

-- each of the objects lies where no log has anything
abbrev pub AllNobodys : List ObjectMetadata → Type 0
AllNobodys ms = Each (λ m. IsNobodys m.location) ms

-- what it has read when it lists, and that it deletes nothing of a log; it moves no boundary
abbrev pub SweepKnows : Chain logs.Manifest → PassPhase → Type 0
SweepKnows c (Listing heads versions) = IsReferenced c heads.latest [] versions
SweepKnows c (Deleting left counts) = AllNobodys left
SweepKnows c _ = ⊥

-- what a step of it brings
abbrev pub SweepBrings : Chain logs.Manifest → PassGoes → Type 0
SweepBrings c (Stay phase) = SweepKnows c phase
SweepBrings c (End phase r) = Unit {0}

pub kept_sweep : (db : List ℕ) (s : Store) (c : Chain logs.Manifest) (s' : Store) (c' : Chain logs.Manifest) → Grows manifests db s c s' c' → (phase : PassPhase) → SweepKnows c phase → SweepKnows c' phase
kept_sweep db s c s' c' g (Listing heads versions) h = kept_referenced db s c s' c' g heads.latest [] versions h
kept_sweep db s c s' c' g (Deleting left counts) h = h
kept_sweep db s c s' c' g (ReadingRecord phase) h = h
kept_sweep db s c s' c' g (ReadingManifest least phase) h = h
kept_sweep db s c s' c' g (Fetching heads phase) h = h
kept_sweep db s c s' c' g (Getting n listed found) h = h
kept_sweep db s c s' c' g (Bounding n listed candidates) h = h
kept_sweep db s c s' c' g (Advancing phase left counts) h = h
kept_sweep db s c s' c' g Over h = h

-- ---- what such a pass lists, and picks

-- the passes over no log that read the manifests before their list
pub data Sweep : Type 0 where
  OfTables : Sweep
  OfFiles : Sweep
  OfFences : Sweep

abbrev pub message_of : Sweep → GcMessage
message_of OfTables = of.Compacted
message_of OfFiles = of.Wal
message_of OfFences = of.WalFence

listed_nobodys : (sweep : Sweep) (db : List ℕ) (p : ObjectPath) → IsFine p → is_in (folder_of (message_of sweep) db) p ≡ true → IsNobodys p
listed_nobodys OfTables db (paths.Table other id) fine is = record { fine = fine; other = λ kind d. record { version = λ n e. cc; boundary = λ e. cc } }
listed_nobodys OfTables db _ fine is = absurd cc
listed_nobodys OfFiles db (paths.Wal other n) fine is = record { fine = fine; other = λ kind d. record { version = λ n e. cc; boundary = λ e. cc } }
listed_nobodys OfFiles db _ fine is = absurd cc
listed_nobodys OfFences db (paths.Wal other n) fine is = record { fine = fine; other = λ kind d. record { version = λ n e. cc; boundary = λ e. cc } }
listed_nobodys OfFences db _ fine is = absurd cc

module _ (sweep : Sweep) (db : List ℕ) where
  abbrev is_listed : ObjectPath × StoredObject → Bool
  is_listed o = is_in (folder_of (message_of sweep) db) o.0

  found_nobodys : (es : List (ObjectPath × StoredObject)) → IsTidy es → AllNobodys (map metadata (filter is_listed es))
  found_nobodys [] tidy = tt
  found_nobodys (e ∷ es) tidy = test (is_listed e) refl (found_nobodys es tidy.1)
    where
      test : (b : Bool) → is_listed e ≡ b → AllNobodys (map metadata (filter is_listed es)) → AllNobodys (map metadata (cond b (e ∷ filter is_listed es) (filter is_listed es)))
      test true is rest = (listed_nobodys sweep db e.0 tidy.0 is, rest)
      test false is rest = rest

-- candidates are among what was listed
candidates_have : (P : ObjectMetadata → Type 0) (sweep : Sweep) (word : FilterWord) (min_age : ℕ) (now : ℤ) (heads : Heads) (versions : List (ℕ × Manifest)) (found : List ObjectMetadata) → Each P found
    → Each P (candidates (pass_ways word).files min_age now heads versions found (message_of sweep))
candidates_have P OfTables word min_age now heads versions found h = each_kept P (λ m. is_unused min_age now heads.least heads.watermark (used_tables versions) m.location) found h
candidates_have P OfFiles word min_age now heads versions found h = each_kept P (is_collected Regular (wal_ranges heads.latest versions) min_age now) found h
candidates_have P OfFences word min_age now heads versions found h = each_kept P (is_collected Fence (wal_ranges heads.latest versions) min_age now) found h

-- ---- a step

-- what a step leaves and brings, which has this moment
pub record AfterSweep (db : List ℕ) (author : Author) (s : Store) (c : Chain logs.Manifest) (sweep : Sweep) (options : GarbageCollectorDirectoryOptions) (word : FilterWord) (now : ℤ) (phase : PassPhase) (o : Outcome) : Type 0 where
  pub leaves : Leaves manifests db author s c o.store c
  pub brings : SweepBrings c (pass_goes (pass_ways word) (bounded_pass (message_of sweep) options) now phase o.answer)

module _ (db : List ℕ) (named : is_db_path db ≡ true) (author : Author) (options : GarbageCollectorDirectoryOptions) (word : FilterWord) (now : ℤ) (s : Store) (c : Chain logs.Manifest) (i : IsSound manifests db s c) (tidy : IsTidy s.objects) where
  -- an object that no log has is deleted
  gone_leaves : (p : ObjectPath) → IsNobodys p → Leaves manifests db author s c (removed p s) c
  gone_leaves p other =
      let away = nobodys_elsewhere manifests.kind db p named other in
      record { sound = gone_sound manifests db s c p away i; grows = gone_grows manifests db s c p away; changed = Stays refl }

  deletes_bring : (left : List ObjectMetadata) (counts : PassCounts) → AllNobodys left → SweepBrings c (deletes_next left counts)
  deletes_bring [] counts h = tt
  deletes_bring (m ∷ left) counts h = h

  module _ (sweep : Sweep) where
    abbrev listing : List ObjectMetadata
    listing = listed (folder_of (message_of sweep) db) s

    abbrev settings : PassSettings
    settings = bounded_pass (message_of sweep) options

    abbrev candidates_of : Heads → List (ℕ × Manifest) → List ObjectMetadata
    candidates_of heads versions = candidates (pass_ways word).files options.min_age now heads versions listing (message_of sweep)

    abbrev picked : Heads → List (ℕ × Manifest) → List ObjectMetadata
    picked heads versions = picks (pass_ways word).allows options.dry_run (candidates_of heads versions)

    -- what is picked of the list lies where no log has anything
    picked_nobodys : (heads : Heads) (versions : List (ℕ × Manifest)) → AllNobodys (picked heads versions)
    picked_nobodys heads versions =
        picks_have (λ m. IsNobodys m.location) word options.dry_run (candidates_of heads versions)
        (candidates_have (λ m. IsNobodys m.location) sweep word options.min_age now heads versions listing (found_nobodys sweep db s.objects tidy))

    abbrev After : PassPhase → Outcome → Type 0
    After phase o = AfterSweep db author s c sweep options word now phase o

    quiet : (phase : PassPhase) (answer : StoreAnswer) → SweepBrings c (pass_goes (pass_ways word) settings now phase answer) → After phase (record { store = s; answer = answer })
    quiet phase answer b = record { leaves = leaves_not manifests db author s c i; brings = b }

  -- no boundary is moved before the deletes
  listing_brings : (sweep : Sweep) (heads : Heads) (versions : List (ℕ × Manifest)) → SweepBrings c (pass_goes (pass_ways word) (settings sweep) now (Listing heads versions) (Found (listing sweep)))
  listing_brings OfTables heads versions = deletes_bring (picked OfTables heads versions) _ (picked_nobodys OfTables heads versions)
  listing_brings OfFiles heads versions = deletes_bring (picked OfFiles heads versions) _ (picked_nobodys OfFiles heads versions)
  listing_brings OfFences heads versions = deletes_bring (picked OfFences heads versions) _ (picked_nobodys OfFences heads versions)

  module _ (sweep : Sweep) where
    pub sweep_step : (phase : PassPhase) (mark : Mark) (moment : ℤ) → SweepKnows c phase → After sweep phase (effect mark (pass_asks db (message_of sweep) phase) moment s)
    sweep_step (Listing heads versions) Good moment h = quiet sweep (Listing heads versions) _ (listing_brings sweep heads versions)
    sweep_step (Listing heads versions) Fail moment h = quiet sweep (Listing heads versions) _ tt
    sweep_step (Listing heads versions) Lost moment h = quiet sweep (Listing heads versions) _ tt
    sweep_step (Deleting [] counts) Good moment h = quiet sweep (Deleting [] counts) _ tt
    sweep_step (Deleting [] counts) Fail moment h = quiet sweep (Deleting [] counts) _ tt
    sweep_step (Deleting [] counts) Lost moment h = quiet sweep (Deleting [] counts) _ tt
    sweep_step (Deleting (m ∷ left) counts) Good moment h = record { leaves = gone_leaves m.location h.0; brings = deletes_bring left _ h.1 }
    sweep_step (Deleting (m ∷ left) counts) Fail moment h = quiet sweep (Deleting (m ∷ left) counts) _ (deletes_bring left _ h.1)
    sweep_step (Deleting (m ∷ left) counts) Lost moment h = record { leaves = gone_leaves m.location h.0; brings = deletes_bring left _ h.1 }
    sweep_step (ReadingRecord phase) mark moment h = absurd h
    sweep_step (ReadingManifest least phase) mark moment h = absurd h
    sweep_step (Fetching heads phase) mark moment h = absurd h
    sweep_step (Getting n listed found) mark moment h = absurd h
    sweep_step (Bounding n listed candidates) mark moment h = absurd h
    sweep_step (Advancing phase left counts) mark moment h = absurd h
    sweep_step Over mark moment h = absurd h
