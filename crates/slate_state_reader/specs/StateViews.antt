-- The view of a compactor's state: its record and its manifest, read in this order.
use Rattle.std.specs.Prelude.{◌≡◌, ℕ, Option, Some, None, option_map, Result, Ok, Err}
use Rattle.slate_ids.specs.Answers.{OrMemory}
use Rattle.slate_ids.specs.declared.error.SlateDBError.{SlateDBError}
use Rattle.slate_ids.specs.declared.error.SlateDBError.TheVariants.{LatestTransactionalObjectVersionMissing}
use Rattle.slate_state_reader.specs.BothReads.{BothBegan, BothRan, both_goes}
use Rattle.slate_state_reader.specs.declared.both_phase.Both.{Both}
use Rattle.slate_state_reader.specs.declared.both_phase.BothPhase.{BothPhase}
use Rattle.slate_state_logs.specs.RecordLog as records
use Rattle.slate_state_merges.specs.LocalTrees.{manifest_with}
use Rattle.slate_state_writer.specs.Writer.{Writer}
use Rattle.slate_layout.specs.declared.codec.ManifestCodec.{ManifestCodec}
use Rattle.slate_layout.specs.declared.record_codec.CompactionsCodec.{CompactionsCodec}
use Rattle.slate_txn_log.specs.declared.sequenced.Sequenced.{Sequenced}
use Rattle.slate_state_logs.specs.ManifestLog as manifests
use Rattle.slate_model.specs.Manifests.{Version as ManifestVersion}
use Rattle.slate_model.specs.declared.manifest.Manifest.{Manifest}
use Rattle.slate_model_records.specs.Records.{Record, Version as RecordVersion}
use Rattle.slate_txn_laws.specs.Replies.{goes_as}
use Rattle.slate_store.specs.StoreCalls.{Told}
use Rattle.slate_store.specs.Machines.{Goes}
use Rattle.slate_store.specs.declared.store_answer.StoreAnswer.{StoreAnswer}

-- the two logs of a database
pub record Logs : Type 0 where
  pub records : Sequenced Record CompactionsCodec
  pub manifests : Sequenced Manifest ManifestCodec

-- a view: the latest version of the record, where there is one, and that of the manifest
pub record View : Type 0 where
  pub compactions : Option RecordVersion
  pub manifest : ManifestVersion

-- the version of a record that was read
abbrev pub record_version : Option (ℕ × Record) → Option RecordVersion
record_version read = option_map records.version_of read

-- the view of what was read; a log of manifests without a version has none to give
abbrev pub view_with : Option (ℕ × Record) → Option (ℕ × Manifest) → Result View SlateDBError
view_with one None = Err LatestTransactionalObjectVersionMissing
view_with one (Some m) = Ok (record { compactions = record_version one; manifest = manifests.version_of m })

-- the reply to the reads, told as a view
abbrev pub viewed : Result (Both Record Manifest) SlateDBError → Result View SlateDBError
viewed (Ok both) = view_with both.one both.other
viewed (Err e) = Err e

-- the record was read and then the manifest, with so many tries together
abbrev pub ViewRead : Logs → ℕ → Told → Told → Result View SlateDBError → Type 0
ViewRead logs tries old new result =
    OrMemory result (BothBegan records.record_of_bytes manifests.manifest_decoded logs.records logs.manifests tries old new)
    ((reply : Result (Both Record Manifest) SlateDBError) × BothRan records.record_of_bytes manifests.manifest_decoded logs.records logs.manifests tries old new reply × (viewed reply ≡ result))

-- how such a read goes on
abbrev pub view_goes : Logs → BothPhase Record Manifest → StoreAnswer → Goes (BothPhase Record Manifest) View
view_goes logs phase answer = goes_as viewed (both_goes records.record_of_bytes manifests.manifest_decoded logs.records logs.manifests phase answer)

-- what a compactor has: its local record under the number of the record held, and the manifest held with its local trees
abbrev pub of_state : Writer → View
of_state w = record {
  compactions = Some (records.version_of (w.compactor.record_id, w.compactor.local.compactions));
  manifest = manifests.version_of (w.compactor.manifest_id, manifest_with w.compactor.local.trees w.compactor.manifest);
}
