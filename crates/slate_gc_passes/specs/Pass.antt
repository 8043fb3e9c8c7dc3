-- A pass, from the end of the removal of expired checkpoints on: what it reads, its list, the advance of the boundary, its deletes.
use Rattle.std.specs.Prelude.{ℕ, ℤ, Bool, true, false, List, [], ◌∷◌, length, drop, Option, Some, None, Result, Ok, Err, nat_le, if◌then◌else◌}
use Rattle.slate_ids.specs.declared.error.FormatName.TheVariants.{Boundary as BoundaryFormat}
use Rattle.slate_ids.specs.declared.error.SlateDBError.{SlateDBError}
use Rattle.slate_ids.specs.declared.error.SlateDBError.TheVariants.{LatestTransactionalObjectVersionMissing, ManifestMissing, Corrupt, StoreFault}
use Rattle.slate_ids.specs.declared.gc_message.GcMessage.{GcMessage}
use Rattle.slate_ids.specs.declared.gc_message.GcMessage.TheVariants as passes
use Rattle.slate_ids.specs.declared.number_range.NumberRange.{NumberRange}
use Rattle.slate_txn_log.specs.AdvancePhase.{AdvanceGoes, advance_asks, advance_goes, advance_due}
use Rattle.slate_txn_log.specs.Boundary.{boundary_got, greatest}
use Rattle.slate_txn_log.specs.LogPaths.{version_path, boundary_path}
use Rattle.slate_txn_log.specs.ReadPhase.{Reply, read_asks, read_goes, read_due}
use Rattle.slate_txn_log.specs.declared.advance_phase.AdvancePhase.TheVariants as advancing
use Rattle.slate_txn_log.specs.declared.log_kind.LogKind.TheVariants as logs
use Rattle.slate_txn_log.specs.declared.read_phase.ReadPhase.TheVariants as reading
use Rattle.slate_model.specs.declared.manifest.Manifest.{Manifest}
use Rattle.slate_gc_passes.specs.Candidates.{candidates, heads_at, no_heads}
use Rattle.slate_gc_passes.specs.PassCounts.{counts_of, one_deleted, one_failed}
use Rattle.slate_gc_passes.specs.Rows.{folder_of, log_of_pass, log_or_manifests, reads_greatest, target, versions_in}
use Rattle.slate_gc_passes.specs.Ways.{Ways}
use Rattle.slate_gc_passes.specs.declared.heads.Heads.{Heads}
use Rattle.slate_gc_passes.specs.declared.pass_counts.PassCounts.{PassCounts}
use Rattle.slate_gc_passes.specs.declared.pass_phase.PassPhase.{PassPhase}
use Rattle.slate_gc_passes.specs.declared.pass_phase.PassPhase.TheVariants.{ReadingRecord, ReadingManifest, Fetching, Listing, Getting, Bounding, Advancing, Deleting, Over}
use Rattle.slate_gc_passes.specs.declared.pass_settings.PassSettings.{PassSettings}
use Rattle.slate_gc_picks.specs.Ages.{aged}
use Rattle.slate_gc_picks.specs.Filter.{picks}
use Rattle.slate_gc_picks.specs.Queue.{first_object, has_object}
use Rattle.slate_gc_picks.specs.VersionPicks.{unneeded}
use Rattle.slate_state_record_updates.specs.RecordRules.{least_ms}
use Rattle.slate_model_records.specs.Records.{Record}
use Rattle.slate_state_referenced.specs.Named.{named_numbers}
use Rattle.slate_state_referenced.specs.Referenced.{ReferencedGoes, referenced_asks, referenced_due, referenced_goes, rest_goes}
use Rattle.slate_store.specs.Machines.{Goes, Stay, End}
use Rattle.slate_store.specs.declared.object.ObjectMetadata.{ObjectMetadata}
use Rattle.slate_store.specs.declared.object.StoredObject.{StoredObject}
use Rattle.slate_store.specs.declared.store_answer.StoreAnswer.{StoreAnswer}
use Rattle.slate_store.specs.declared.store_answer.StoreAnswer.TheVariants.{Found, Got, Deleted, Fault}
use Rattle.slate_store.specs.declared.store_call.StoreCall.{StoreCall}
use Rattle.slate_store.specs.declared.store_call.StoreCall.TheVariants.{List as ListCall, Get, Delete}

-- ---- the store calls

-- the delete of the first object that is left; nothing is asked where none is
abbrev pub delete_asks : List ℕ → Option ObjectMetadata → StoreCall
delete_asks db (Some m) = Delete m.location
delete_asks db None = Get (boundary_path logs.Manifest db)

-- the one call of each phase
abbrev pub pass_asks : List ℕ → GcMessage → PassPhase → StoreCall
pass_asks db pass (ReadingRecord phase) = read_asks db logs.Compactions phase
pass_asks db pass (ReadingManifest least phase) = read_asks db logs.Manifest phase
pass_asks db pass (Fetching heads phase) = referenced_asks db phase
pass_asks db pass (Listing heads versions) = ListCall (folder_of pass db)
pass_asks db pass (Getting n listed found) = Get (version_path logs.Manifest db n)
pass_asks db pass (Bounding n listed found) = Get (boundary_path logs.Manifest db)
pass_asks db pass (Advancing phase left counts) = advance_asks db (log_or_manifests (log_of_pass pass)) phase
pass_asks db pass (Deleting left counts) = delete_asks db (first_object left)
pass_asks db pass Over = Get (boundary_path logs.Manifest db)

-- whether a call is due
abbrev pub pass_due : PassPhase → Bool
pass_due (ReadingRecord phase) = read_due phase
pass_due (ReadingManifest least phase) = read_due phase
pass_due (Fetching heads phase) = referenced_due phase
pass_due (Listing heads versions) = true
pass_due (Getting n listed found) = true
pass_due (Bounding n listed found) = true
pass_due (Advancing phase left counts) = advance_due phase
pass_due (Deleting left counts) = has_object left
pass_due Over = false

-- whether the pass still reads: it has neither advanced nor deleted yet
abbrev pub is_reading_phase : PassPhase → Bool
is_reading_phase (ReadingRecord phase) = true
is_reading_phase (ReadingManifest least phase) = true
is_reading_phase (Fetching heads phase) = true
is_reading_phase (Listing heads versions) = true
is_reading_phase (Getting n listed found) = true
is_reading_phase (Bounding n listed found) = true
is_reading_phase (Advancing phase left counts) = false
is_reading_phase (Deleting left counts) = false
is_reading_phase Over = false

-- how a pass goes on
abbrev pub PassGoes : Type 0
PassGoes = Goes PassPhase PassCounts

-- ---- deletes

-- the first of the objects left is deleted; after the last the pass ends
abbrev pub deletes_next : List ObjectMetadata → PassCounts → PassGoes
deletes_next left counts = if has_object left then Stay (Deleting left counts) else End Over (Ok counts)

-- after the delete of one pick, with those that are left after it
abbrev pub deleted_goes : List ObjectMetadata → PassCounts → StoreAnswer → PassGoes
deleted_goes rest counts Deleted = deletes_next rest (one_deleted counts)
deleted_goes rest counts Fault = deletes_next rest (one_failed counts)
deleted_goes rest counts answer = End Over (Err StoreFault)

-- after the delete of the first of the objects left
abbrev pub delete_goes : List ObjectMetadata → PassCounts → StoreAnswer → PassGoes
delete_goes left counts answer = if has_object left then deleted_goes (drop 1 left) counts answer else End Over (Err StoreFault)

-- ---- the advance of the boundary

-- the boundary is moved up where it is to be; then the picks are deleted
abbrev pub advance_to : Option ℕ → List ObjectMetadata → PassCounts → PassGoes
advance_to None left counts = deletes_next left counts
advance_to (Some k) left counts = Stay (Advancing (advancing.Bounding k) left counts)

-- after a step of the advance: where it ended well the picks are deleted
abbrev pub advanced_goes : List ObjectMetadata → PassCounts → AdvanceGoes → PassGoes
advanced_goes left counts (Stay phase) = Stay (Advancing phase left counts)
advanced_goes left counts (End phase (Ok done)) = deletes_next left counts
advanced_goes left counts (End phase (Err e)) = End Over (Err e)

-- the candidates are known, of so many listed objects
abbrev pub chosen_goes : (List ObjectMetadata → List ObjectMetadata) → PassSettings → ℕ → List ObjectMetadata → PassGoes
chosen_goes allows settings listed candidates =
    advance_to (target settings candidates) (picks allows settings.options.dry_run candidates)
    (counts_of (length (picks allows settings.options.dry_run candidates)) (versions_in (log_of_pass settings.pass) listed))

-- ---- the pass over the manifests, after its list

-- a greatest manifest at or below the boundary counts as gone
abbrev pub bounded_goes : (List ObjectMetadata → List ObjectMetadata) → PassSettings → ℕ → ℕ → List ObjectMetadata → Option ℕ → PassGoes
bounded_goes allows settings n listed candidates None = End Over (Err (Corrupt BoundaryFormat))
bounded_goes allows settings n listed candidates (Some boundary) = if nat_le n boundary then End Over (Err (ManifestMissing n)) else chosen_goes allows settings listed candidates

-- after the get of the boundary
abbrev pub bound_goes : (List ObjectMetadata → List ObjectMetadata) → PassSettings → ℕ → ℕ → List ObjectMetadata → StoreAnswer → PassGoes
bound_goes allows settings n listed candidates (Got object) = bounded_goes allows settings n listed candidates (boundary_got object)
bound_goes allows settings n listed candidates answer = End Over (Err StoreFault)

-- with the candidates by the greatest manifest the boundary is got; or that manifest can't be read
abbrev pub decoded_goes : ℕ → ℕ → List ObjectMetadata → Result Manifest SlateDBError → PassGoes
decoded_goes n listed found (Ok m) = Stay (Bounding n listed (unneeded logs.Manifest n m.core.checkpoints found))
decoded_goes n listed found (Err e) = End Over (Err e)

-- a greatest manifest that is gone ends the pass
abbrev pub got_goes : (List ℕ → Result Manifest SlateDBError) → ℕ → ℕ → List ObjectMetadata → Option StoredObject → PassGoes
got_goes manifest_of n listed found None = End Over (Err (ManifestMissing n))
got_goes manifest_of n listed found (Some object) = decoded_goes n listed found (manifest_of object.bytes)

-- after the get of the greatest manifest
abbrev pub get_goes : (List ℕ → Result Manifest SlateDBError) → ℕ → ℕ → List ObjectMetadata → StoreAnswer → PassGoes
get_goes manifest_of n listed found (Got object) = got_goes manifest_of n listed found object
get_goes manifest_of n listed found answer = End Over (Err StoreFault)

-- without a version there is no pass; else the greatest is got
abbrev pub manifests_goes : ℕ → ℤ → List ObjectMetadata → Option ℕ → PassGoes
manifests_goes min_age now found None = End Over (Err LatestTransactionalObjectVersionMissing)
manifests_goes min_age now found (Some n) = Stay (Getting n (length found) (aged min_age now found))

-- ---- the list

-- of what was listed any pass but that over the manifests has its candidates
abbrev pub others_goes : (List ObjectMetadata → List ObjectMetadata) → (List NumberRange → List ObjectMetadata → ℕ → ℤ → List ObjectMetadata)
    → PassSettings → ℤ → Heads → List (ℕ × Manifest) → List ObjectMetadata → PassGoes
others_goes allows files settings now heads versions found =
    chosen_goes allows settings (length found) (candidates files settings.options.min_age now heads versions found settings.pass)

-- of what was listed: the pass over the manifests reads the greatest, any other has its candidates
abbrev pub found_goes : (List ObjectMetadata → List ObjectMetadata) → (List NumberRange → List ObjectMetadata → ℕ → ℤ → List ObjectMetadata)
    → PassSettings → ℤ → Heads → List (ℕ × Manifest) → List ObjectMetadata → PassGoes
found_goes allows files settings now heads versions found =
    if reads_greatest settings.pass then manifests_goes settings.options.min_age now found (greatest logs.Manifest found)
    else others_goes allows files settings now heads versions found

-- after the list
abbrev pub list_goes : (List ObjectMetadata → List ObjectMetadata) → (List NumberRange → List ObjectMetadata → ℕ → ℤ → List ObjectMetadata)
    → PassSettings → ℤ → Heads → List (ℕ × Manifest) → StoreAnswer → PassGoes
list_goes allows files settings now heads versions (Found found) = found_goes allows files settings now heads versions found
list_goes allows files settings now heads versions answer = End Over (Err StoreFault)

-- ---- what is read before the list

-- after a step of the reading of the versions that the latest manifest's checkpoints name
abbrev pub fetched_goes : Heads → ReferencedGoes → PassGoes
fetched_goes heads (Stay phase) = Stay (Fetching heads phase)
fetched_goes heads (End phase (Ok versions)) = Stay (Listing heads versions)
fetched_goes heads (End phase (Err e)) = End Over (Err e)

-- the latest manifest was read: the versions that its checkpoints name are next
abbrev pub manifest_next : ℕ → ℕ → Manifest → PassGoes
manifest_next least n m = fetched_goes (heads_at least n m) (rest_goes (named_numbers n m.core.checkpoints) ((n, m) ∷ []))

-- after a step of the read of the latest manifest
abbrev pub manifest_goes : ℕ → Reply Manifest → PassGoes
manifest_goes least (Stay phase) = Stay (ReadingManifest least phase)
manifest_goes least (End phase (Ok None)) = End Over (Err LatestTransactionalObjectVersionMissing)
manifest_goes least (End phase (Ok (Some version))) = manifest_next least version.0 version.1
manifest_goes least (End phase (Err e)) = End Over (Err e)

-- after a step of the read of the latest record: where there is none its least milliseconds are 0
abbrev pub record_goes : Reply Record → PassGoes
record_goes (Stay phase) = Stay (ReadingRecord phase)
record_goes (End phase (Ok None)) = Stay (ReadingManifest 0 reading.Listing)
record_goes (End phase (Ok (Some version))) = Stay (ReadingManifest (least_ms version.1.entries) reading.Listing)
record_goes (End phase (Err e)) = End Over (Err e)

-- ---- the whole

-- where a pass begins
abbrev pub first_phase : GcMessage → PassPhase
first_phase passes.Compacted = ReadingRecord reading.Listing
first_phase passes.Wal = ReadingManifest 0 reading.Listing
first_phase passes.WalFence = ReadingManifest 0 reading.Listing
first_phase passes.Manifest = Listing no_heads []
first_phase passes.Compactions = Listing no_heads []
first_phase passes.Detach = Listing no_heads []

-- how the pass goes on from an answer, where this is the moment of its first call; an answer to another call ends as a fault does
abbrev pub pass_goes : Ways → PassSettings → ℤ → PassPhase → StoreAnswer → PassGoes
pass_goes ways settings now (ReadingRecord phase) answer = record_goes (read_goes logs.Compactions ways.record_of phase answer)
pass_goes ways settings now (ReadingManifest least phase) answer = manifest_goes least (read_goes logs.Manifest ways.manifest_of phase answer)
pass_goes ways settings now (Fetching heads phase) answer = fetched_goes heads (referenced_goes ways.manifest_of phase answer)
pass_goes ways settings now (Listing heads versions) answer = list_goes ways.allows ways.files settings now heads versions answer
pass_goes ways settings now (Getting n listed found) answer = get_goes ways.manifest_of n listed found answer
pass_goes ways settings now (Bounding n listed found) answer = bound_goes ways.allows settings n listed found answer
pass_goes ways settings now (Advancing phase left counts) answer = advanced_goes left counts (advance_goes phase answer)
pass_goes ways settings now (Deleting left counts) answer = delete_goes left counts answer
pass_goes ways settings now Over answer = End Over (Err StoreFault)
