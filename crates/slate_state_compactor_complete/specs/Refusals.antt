-- Why the calls of a compactor are refused over a store that serves them, by the contents that they leave.
use Rattle.std.specs.Prelude.{◌≡◌, ℕ, ℤ, List, Option, Some, None, Ok, Err}
use Rattle.slate_ids.specs.declared.error.SlateDBError.{SlateDBError}
use Rattle.slate_ids.specs.declared.error.SlateDBError.TheVariants.{LatestTransactionalObjectVersionMissing}
use Rattle.slate_layout_manifests.specs.Decoding.{decoded_manifest}
use Rattle.slate_layout_records.specs.RecordBytes.{decoded_record}
use Rattle.slate_model.specs.declared.manifest.Manifest.{Manifest}
use Rattle.slate_model_records.specs.Records.{Record}
use Rattle.slate_state_calls.specs.Commits.{first_put, manifest_put, merge_of, record_put, statuses_of}
use Rattle.slate_state_calls.specs.StateSteps.{refresh_of}
use Rattle.slate_state_calls.specs.declared.compactor.Compactor.{Compactor}
use Rattle.slate_state_calls.specs.declared.state_start.StateStart.{StateStart}
use Rattle.slate_state_calls.specs.declared.state_start.StateStart.TheVariants.{Refresh, Schedule, WriteTrees}
use Rattle.slate_state_calls.specs.declared.state_start.TreesWrite.{TreesWrite}
use Rattle.slate_state_compactor.specs.declared.local_state.LocalState.{LocalState}
use Rattle.slate_state_record_updates.specs.declared.record_change.RecordChange.{RecordChange}
use Rattle.slate_state_record_updates.specs.declared.record_change.RecordChange.TheVariants as records
use Rattle.slate_state_updates.specs.declared.manifest_change.ManifestChange.{ManifestChange}
use Rattle.slate_state_updates.specs.declared.manifest_change.ManifestChange.TheVariants as manifests
use Rattle.slate_store.specs.Store.{Store}
use Rattle.slate_txn_changes_laws.specs.ChangeEnds.{Commit, Decoded, IsRead, WhyRefused}
use Rattle.slate_txn_laws.specs.Ready.{top_of}
use Rattle.slate_txn_log.specs.Fence.{fence}
use Rattle.slate_txn_log.specs.declared.log_kind.LogKind.{LogKind}
use Rattle.slate_txn_log.specs.declared.log_kind.LogKind.TheVariants as logs

-- one of these changes is refused, or makes nothing of the latest version; or there is no version
pub data PhraseRefused {V C : Type 0} (decoded : Decoded V) (put : Option C → Commit V) (db : List ℕ) (log : LogKind) (moment : ℤ) (Its : Option C → Type 0) (t : Store) (e : SlateDBError) : Type 0 where
  OfPhrase : (change : Option C) → Its change → WhyRefused decoded (put change) db log moment t e → PhraseRefused decoded put db log moment Its t e
  MakesNone : (change : C) (n : ℕ) (value : V) → Its (Some change) → IsRead decoded db log t n value → put (Some change) moment n value ≡ Ok None → e ≡ LatestTransactionalObjectVersionMissing → PhraseRefused decoded put db log moment Its t e
  NoVersion : top_of db log t ≡ None → e ≡ LatestTransactionalObjectVersionMissing → PhraseRefused decoded put db log moment Its t e

-- ---- an open

-- it raises the epoch of the manifest
abbrev pub Raises : Option ManifestChange → Type 0
Raises change = change ≡ Some manifests.RaiseCompactor

-- it gives an epoch to the record, and resets that; its first record is put without a change
pub data OpensRecord (change : Option RecordChange) : Type 0 where
  Makes : change ≡ None → OpensRecord change
  Gives : (epoch : ℕ) → change ≡ Some (records.GiveEpoch epoch) → OpensRecord change
  Resets : (epoch : ℕ) → change ≡ Some (records.Reset epoch) → OpensRecord change

-- why it is refused: at the manifest, at the record, or since a first record has no bytes
pub data OpenRefused (db : List ℕ) (moment : ℤ) (t : Store) (e : SlateDBError) : Type 0 where
  AtManifest : PhraseRefused decoded_manifest manifest_put db logs.Manifest moment Raises t e → OpenRefused db moment t e
  AtRecord : PhraseRefused decoded_record record_put db logs.Compactions moment OpensRecord t e → OpenRefused db moment t e
  AtFirst : top_of db logs.Compactions t ≡ None → first_put ≡ Err e → OpenRefused db moment t e

-- ---- a call on the state, of a compactor of an epoch

-- what it puts of the manifest: a refresh nothing, a write of trees the checkpoint and then its trees
pub data PutsManifest (start : StateStart) (epoch : ℕ) (change : Option ManifestChange) : Type 0 where
  Follows : start ≡ Refresh → change ≡ None → PutsManifest start epoch change
  Keeps : (write : TreesWrite) → start ≡ WriteTrees write → change ≡ Some (manifests.KeepTrees (Some epoch) write.checkpoint) → PutsManifest start epoch change
  Merges : (write : TreesWrite) (local : LocalState) → start ≡ WriteTrees write → change ≡ Some (merge_of epoch local) → PutsManifest start epoch change

-- what it puts of the record: a schedule that one, a write its local statuses; else it is read
pub data PutsRecord (start : StateStart) (epoch : ℕ) (change : Option RecordChange) : Type 0 where
  Reads : change ≡ None → PutsRecord start epoch change
  Schedules : (id : ℕ × ℕ) → start ≡ Schedule id → change ≡ Some (records.Schedule (Some epoch) id) → PutsRecord start epoch change
  Statuses : (local : LocalState) → change ≡ Some (statuses_of epoch local) → PutsRecord start epoch change

-- why it is refused: at the manifest, at the record, or, of a refresh, since the record read fences it, or what it holds can't follow the manifest read
pub data CallRefused (db : List ℕ) (moment : ℤ) (start : StateStart) (epoch : ℕ) (t : Store) (e : SlateDBError) : Type 0 where
  AtManifest : PhraseRefused decoded_manifest manifest_put db logs.Manifest moment (PutsManifest start epoch) t e → CallRefused db moment start epoch t e
  AtRecord : PhraseRefused decoded_record record_put db logs.Compactions moment (PutsRecord start epoch) t e → CallRefused db moment start epoch t e
  IsFenced : (n : ℕ) (r : Record) → start ≡ Refresh → IsRead decoded_record db logs.Compactions t n r → fence epoch r.compactor_epoch ≡ Some e → CallRefused db moment start epoch t e
  CantFollow : (c : Compactor) (n : ℕ) (m : Manifest) → start ≡ Refresh → c.epoch ≡ epoch → IsRead decoded_manifest db logs.Manifest t n m → refresh_of c m ≡ Err e → CallRefused db moment start epoch t e
