-- What each commit of a compactor puts: what its change makes, unless its fence refuses that version. What is read back of it is its normal form.
use Rattle.std.specs.Prelude.{ℕ, ℤ, Option, Some, None, Result, Ok, Err}
use Rattle.slate_txn_changes.specs.Changes.{change_commit, fence_by, made_by, right_by}
use Rattle.slate_txn_changes.specs.declared.changing.Changing.{Changing}
use Rattle.slate_txn_changes.specs.declared.log_work.LogEnd.{LogEnd}
use Rattle.slate_txn_changes.specs.declared.log_work.LogEnd.TheVariants.{Absent, Unchanged, Committed}
use Rattle.slate_txn_changes.specs.declared.log_work.LogWork.TheVariants.{Committing}
use Rattle.slate_state_compactor.specs.Local.{pending_outputs}
use Rattle.slate_state_compactor.specs.declared.local_state.LocalState.{LocalState}
use Rattle.slate_layout_encodable.specs.Normal.{normal_manifest}
use Rattle.slate_ids.specs.declared.error.SlateDBError.{SlateDBError}
use Rattle.slate_ids.specs.declared.error.SlateDBError.TheVariants.{LatestTransactionalObjectVersionMissing}
use Rattle.slate_layout.specs.Codec.{encoded}
use Rattle.slate_layout.specs.RecordCodec.{record_encoded}
use Rattle.slate_txn_log.specs.CommitPhase.{encoded_commit}
use Rattle.slate_txn_log.specs.declared.commit_phase.CommitPhase.{CommitPhase}
use Rattle.slate_model.specs.declared.manifest.Manifest.{Manifest}
use Rattle.slate_layout_records.specs.RecordNormal.{normal_record}
use Rattle.slate_state_record_updates.specs.RecordChanges as records
use Rattle.slate_state_record_updates.specs.RecordEpochs.{first_record}
use Rattle.slate_state_record_updates.specs.RecordRules.{record_refusal_of}
use Rattle.slate_state_record_updates.specs.declared.record_change.RecordChange.{RecordChange}
use Rattle.slate_state_record_updates.specs.declared.record_change.RecordChange.TheVariants.{PutStatuses}
use Rattle.slate_model_records.specs.Records.{Record}
use Rattle.slate_state_updates.specs.ManifestChanges as manifests
use Rattle.slate_state_updates.specs.Rules.{manifest_refusal}
use Rattle.slate_state_updates.specs.declared.manifest_change.ManifestChange.{ManifestChange}
use Rattle.slate_state_updates.specs.declared.manifest_change.ManifestChange.TheVariants.{MergeTrees}

-- a change of a log under way; without a change it is a read
abbrev pub ManifestChanging : Type 0
ManifestChanging = Changing (Option ManifestChange) Manifest

abbrev pub RecordChanging : Type 0
RecordChanging = Changing (Option RecordChange) Record

-- the commit of what a change makes at a moment of version n
abbrev pub manifest_put : Option ManifestChange → ℤ → ℕ → Manifest → Result (Option (CommitPhase Manifest)) SlateDBError
manifest_put change now n m = change_commit (made_by manifests.made change) (right_by manifests.right_of change) (fence_by manifests.fence_of change) manifest_refusal encoded now n m

abbrev pub record_put : Option RecordChange → ℤ → ℕ → Record → Result (Option (CommitPhase Record)) SlateDBError
record_put change now n r = change_commit (made_by records.made change) (right_by records.right_of change) (fence_by records.fence_of change) record_refusal_of record_encoded now n r

-- a log without a record gets its first one
abbrev pub first_put : Result (CommitPhase Record) SlateDBError
first_put = encoded_commit 1 first_record (record_encoded first_record)

-- the change by the local trees of a compactor, with the outputs that are pending
abbrev pub merge_of : ℕ → LocalState → ManifestChange
merge_of epoch local = MergeTrees (Some epoch) local.trees (pending_outputs local)

-- the change by its local statuses, trimmed but for what is pending
abbrev pub statuses_of : ℕ → LocalState → RecordChange
statuses_of epoch local = PutStatuses (Some epoch) local.compactions local.pending

-- ---- a change that is put at once

-- a change whose commit was made at that moment
abbrev pub committing : {C V : Type 0} → Option C → ℤ → CommitPhase V → Changing (Option C) V
committing change now commit = record { change = change; work = Committing now commit }

-- where its commit isn't refused; a change that makes nothing of a version has no place here, and none of a compactor's does so
abbrev pub begun : {C V : Type 0} → C → ℤ → Result (Option (CommitPhase V)) SlateDBError → Result (Changing (Option C) V) SlateDBError
begun change now (Ok (Some commit)) = Ok (committing (Some change) now commit)
begun change now (Ok None) = Err LatestTransactionalObjectVersionMissing
begun change now (Err e) = Err e

-- a change of a version of the record, and of the manifest
abbrev pub put_of : RecordChange → ℤ → ℕ × Record → Result RecordChanging SlateDBError
put_of change now r = begun change now (record_put (Some change) now r.0 r.1)

abbrev pub manifest_put_of : ManifestChange → ℤ → ℕ × Manifest → Result ManifestChanging SlateDBError
manifest_put_of change now m = begun change now (manifest_put (Some change) now m.0 m.1)

-- and the first record
abbrev pub first_of : ℤ → Result (CommitPhase Record) SlateDBError → Result RecordChanging SlateDBError
first_of now (Ok commit) = Ok (committing None now commit)
first_of now (Err e) = Err e

-- ---- where a change ended

-- the version with which it ended, as it is held: the one read, or what is read back of the one that was put
abbrev pub manifest_in : LogEnd Manifest → Option (ℕ × Manifest)
manifest_in Absent = None
manifest_in (Unchanged n m) = Some (n, m)
manifest_in (Committed n m) = Some (n, normal_manifest m)

abbrev pub record_in : LogEnd Record → Option (ℕ × Record)
record_in Absent = None
record_in (Unchanged n r) = Some (n, r)
record_in (Committed n r) = Some (n, normal_record r)
