-- What a pass answers over a store that serves it.
use Rattle.std.specs.Prelude.{◌≡◌, ◌⊎◌, ℕ, ℤ, true, List, [], ◌∷◌, Some, None, Result, Ok, Err}
use Rattle.slate_ids.specs.Answers.{ran_out}
use Rattle.slate_ids.specs.declared.error.SlateDBError.{SlateDBError}
use Rattle.slate_ids.specs.declared.error.SlateDBError.TheVariants.{Corrupt, LatestTransactionalObjectVersionMissing, ManifestMissing}
use Rattle.slate_ids.specs.declared.error.FormatName.TheVariants.{Boundary as BoundaryFormat}
use Rattle.slate_ids.specs.declared.number_range.NumberRange.{NumberRange}
use Rattle.slate_gc_passes.specs.Ways.{Ways}
use Rattle.slate_gc_passes.specs.declared.pass_counts.PassCounts.{PassCounts}
use Rattle.slate_model.specs.declared.manifest.Manifest.{Manifest}
use Rattle.slate_state_referenced.specs.Named.{has_number, named_numbers}
use Rattle.slate_state_updates.specs.ManifestChanges.{commit_of}
use Rattle.slate_state_updates.specs.declared.manifest_change.ManifestChange.TheVariants.{DropExpired}
use Rattle.slate_store.specs.Store.{Store, object_at}
use Rattle.slate_store.specs.StoreCalls.{Told}
use Rattle.slate_store.specs.declared.object.ObjectMetadata.{ObjectMetadata}
use Rattle.slate_store.specs.declared.object.StoredObject.{StoredObject}
use Rattle.slate_txn_changes_laws.specs.BothLogs.{AreReady}
use Rattle.slate_txn_changes_laws.specs.ChangeEnds.{IsRead}
use Rattle.slate_txn_changes_laws.specs.Works.{IsInside, PlainWork}
use Rattle.slate_txn_laws.specs.Ready.{top_of, IsLatest}
use Rattle.slate_txn_log.specs.Advance.{boundary_at}
use Rattle.slate_txn_log.specs.LogPaths.{version_path}
use Rattle.slate_txn_log.specs.declared.log_kind.LogKind.{LogKind}
use Rattle.slate_txn_log.specs.declared.log_kind.LogKind.TheVariants as logs

-- the codecs of a pass refuse for no reason from outside
pub record PlainWays (ways : Ways) : Type 0 where
  pub manifests : PlainWork ways.manifest_of (commit_of ways.bytes_of DropExpired)
  pub records : (bytes : List ℕ) → IsInside (ways.record_of bytes)

-- an object is one of these
abbrev pub IsAmong : ObjectMetadata → List ObjectMetadata → Type 0
IsAmong m [] = ⊥
IsAmong m (o ∷ os) = (m ≡ o) ⊎ IsAmong m os

-- a picker picks of the listed files alone
abbrev pub PicksOfListed : (List NumberRange → List ObjectMetadata → ℕ → ℤ → List ObjectMetadata) → Type 0
PicksOfListed files = (ranges : List NumberRange) (found : List ObjectMetadata) (min_age : ℕ) (now : ℤ) (m : ObjectMetadata) → IsAmong m (files ranges found min_age now) → IsAmong m found

-- the filter allows candidates alone, and the picker picks of the listed files alone
pub record PicksListed (ways : Ways) : Type 0 where
  pub allows : (candidates : List ObjectMetadata) (m : ObjectMetadata) → IsAmong m (ways.allows candidates) → IsAmong m candidates
  pub files : PicksOfListed ways.files

-- this is the latest manifest, and one of its checkpoints names the version of this number
pub record IsNamed (ways : Ways) (db : List ℕ) (t : Store) (k : ℕ) : Type 0 where
  pub number : ℕ
  pub manifest : Manifest
  pub latest : IsRead ways.manifest_of db logs.Manifest t number manifest
  pub named : has_number k (named_numbers number manifest.core.checkpoints) ≡ true

-- why a pass is refused, by the contents that it leaves: there is no manifest; the codec refuses the latest manifest, or the latest record,
-- or a version that the latest manifest names; such a version is gone; the removal of expired checkpoints is refused, by the rules, the
-- codec or the last number; or a boundary is not a number
pub data PassRefused (ways : Ways) (db : List ℕ) (moment : ℤ) (t : Store) (e : SlateDBError) : Type 0 where
  NoManifest : top_of db logs.Manifest t ≡ None → e ≡ LatestTransactionalObjectVersionMissing → PassRefused ways db moment t e
  ManifestUnread : (n : ℕ) (bytes : List ℕ) → IsLatest db logs.Manifest t n bytes → ways.manifest_of bytes ≡ Err e → PassRefused ways db moment t e
  RecordUnread : (n : ℕ) (bytes : List ℕ) → IsLatest db logs.Compactions t n bytes → ways.record_of bytes ≡ Err e → PassRefused ways db moment t e
  RemovalRefused : (n : ℕ) (m : Manifest) → IsRead ways.manifest_of db logs.Manifest t n m → commit_of ways.bytes_of DropExpired moment n m ≡ Err e → PassRefused ways db moment t e
  NoBoundary : (log : LogKind) → boundary_at db log t ≡ None → e ≡ Corrupt BoundaryFormat → PassRefused ways db moment t e
  NamedGone : (k : ℕ) → IsNamed ways db t k → object_at (version_path logs.Manifest db k) t ≡ None → e ≡ ManifestMissing k → PassRefused ways db moment t e
  NamedUnread : (k : ℕ) (object : StoredObject) → IsNamed ways db t k → object_at (version_path logs.Manifest db k) t ≡ Some object → ways.manifest_of object.bytes ≡ Err e → PassRefused ways db moment t e

-- it ends with its counts, and no delete failed; or there is such a cause
pub data PassAnswers (ways : Ways) (db : List ℕ) (moment : ℤ) (t : Store) (result : Result PassCounts SlateDBError) : Type 0 where
  IsDone : (counts : PassCounts) → result ≡ Ok counts → counts.failed ≡ 0 → PassAnswers ways db moment t result
  IsRefused : (e : SlateDBError) → result ≡ Err e → PassRefused ways db moment t e → PassAnswers ways db moment t result

-- it is answered so, and for no reason from outside
pub record PassLeaves (ways : Ways) (db : List ℕ) (moment : ℤ) (new : Told) (result : Result PassCounts SlateDBError) : Type 0 where
  pub left : Store
  pub contents : new.contents ≡ Some left
  pub answers : PassAnswers ways db moment left result
  pub inside : IsInside result

-- or memory ran out
abbrev pub PassEnds : Ways → List ℕ → ℤ → Told → Result PassCounts SlateDBError → Type 0
PassEnds ways db moment new result = PassLeaves ways db moment new result ⊎ (ran_out result ≡ true)

-- contents are left in which both logs are ready
pub record LeavesBoth (db : List ℕ) (new : Told) : Type 0 where
  pub left : Store
  pub contents : new.contents ≡ Some left
  pub ready : AreReady db left
