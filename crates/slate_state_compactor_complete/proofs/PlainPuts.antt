-- What a compactor puts is refused for no reason from outside.
use Rattle.std.proofs.Common.{nat_lt, ℕ, ℤ, Bool, true, false, if◌then◌else◌, Option, Some, None, Result, Ok, Err, refl}
use Rattle.slate_ids.specs.declared.error.SlateDBError.{SlateDBError}
use Rattle.slate_ids.specs.declared.error.SlateDBError.TheVariants.{Fenced}
use Rattle.slate_layout.specs.Codec.{encoded}
use Rattle.slate_layout.specs.RecordCodec.{record_encoded}
use Rattle.slate_layout.specs.laws.Codecs.{codec_round_trip, record_codec_trip}
use Rattle.slate_layout_encodable.specs.Normal.{normal_manifest}
use Rattle.slate_layout_manifests.specs.Decoding.{decoded_manifest}
use Rattle.slate_layout_records.specs.RecordBytes.{decoded_record}
use Rattle.slate_layout_records.specs.RecordNormal.{normal_record}
use Rattle.slate_model.specs.Cores.{Core}
use Rattle.slate_model.specs.declared.manifest.Manifest.{Manifest}
use Rattle.slate_model_records.specs.Records.{Record, entry_of}
use Rattle.slate_model_records.specs.declared.compaction.Compaction.{Compaction}
use Rattle.slate_state_calls.specs.Commits.{manifest_put, record_put}
use Rattle.slate_state_compactor.specs.Local.{refreshed, with_trees}
use Rattle.slate_state_compactor.specs.declared.local_state.LocalState.{LocalState}
use Rattle.slate_state_logs.proofs.ChangesPlain.{change_so, trees_fine}
use Rattle.slate_state_logs.specs.laws.ManifestsPlain.{manifests_plain}
use Rattle.slate_state_logs.specs.laws.RecordsPlain.{records_plain}
use Rattle.slate_state_merges.specs.LocalTrees.{Trees, trees_merged}
use Rattle.slate_state_record_updates.specs.EntrySteps.{found_stepped, put_in, to_compacted, to_running, to_scheduled}
use Rattle.slate_state_record_updates.specs.RecordChanges as records
use Rattle.slate_state_record_updates.specs.RecordRules.{record_refusal_of}
use Rattle.slate_state_record_updates.specs.declared.record_change.RecordChange.{RecordChange}
use Rattle.slate_state_record_updates.specs.declared.record_change.RecordChange.TheVariants.{GiveEpoch, Reset, Schedule, Claim, Report, PutStatuses}
use Rattle.slate_state_updates.specs.ManifestChanges as manifests
use Rattle.slate_state_updates.specs.Rules.{manifest_refusal}
use Rattle.slate_state_updates.specs.declared.manifest_change.ManifestChange.{ManifestChange}
use Rattle.slate_state_updates.specs.declared.manifest_change.ManifestChange.TheVariants.{Flush, KeepTrees, MergeTrees}
use Rattle.slate_txn_changes.specs.Changes.{fence_by, holder_fence, made_by, right_by}
use Rattle.slate_txn_changes_laws.proofs.BackPuts.{MayPutBack, puts_back}
use Rattle.slate_txn_changes_laws.proofs.PlainChanges.{RefusesCalmly, plain_calm, plain_work}
use Rattle.slate_txn_changes_laws.specs.Works.{IsInside, PlainWork}
use Rattle.slate_txn_log.specs.Fence.{fence}

-- ---- fences

pub fence_calm : (own read : ℕ) → RefusesCalmly (fence own read)
fence_calm own read = by_test (nat_lt own read)
  where
    by_test : (b : Bool) → RefusesCalmly (if b then Some (Fenced own read) else None)
    by_test true = refl
    by_test false = tt

holder_calm : (own : Option ℕ) (read : ℕ) → RefusesCalmly (holder_fence own read)
holder_calm None read = refl
holder_calm (Some own) read = fence_calm own read

manifest_fence : (change : ManifestChange) (m : Manifest) → RefusesCalmly (manifests.fence_of change m)
manifest_fence (Flush writer batch) m = holder_calm writer m.writer_epoch
manifest_fence (KeepTrees compactor checkpoint) m = holder_calm compactor m.compactor_epoch
manifest_fence (MergeTrees compactor trees outputs) m = holder_calm compactor m.compactor_epoch
manifest_fence _ m = tt

record_fence : (change : RecordChange) (r : Record) → RefusesCalmly (records.fence_of change r)
record_fence (GiveEpoch epoch) r = fence_calm epoch r.compactor_epoch
record_fence (Reset epoch) r = fence_calm epoch r.compactor_epoch
record_fence (Schedule compactor id) r = holder_calm compactor r.compactor_epoch
record_fence (PutStatuses compactor local pending) r = holder_calm compactor r.compactor_epoch
record_fence _ r = tt

-- ---- changes

put_calm : (id : ℕ × ℕ) (r : Record) (found : Option Compaction) → IsInside (put_in id r found)
put_calm id r None = refl
put_calm id r (Some c) = tt

found_calm : (id : ℕ × ℕ) (step : Compaction → Option Compaction) (r : Record) (found : Option Compaction) → IsInside (found_stepped id step r found)
found_calm id step r None = refl
found_calm id step r (Some c) = put_calm id r (step c)

record_made : (change : RecordChange) (now : ℤ) (n : ℕ) (r : Record) → IsInside (records.made change now n r)
record_made (Schedule compactor id) now n r = found_calm id to_scheduled r (entry_of id r.entries)
record_made (Claim id worker) now n r = found_calm id (to_running worker now) r (entry_of id r.entries)
record_made (Report id worker outputs) now n r = found_calm id (to_compacted worker outputs) r (entry_of id r.entries)
record_made _ now n r = tt

made_of_manifest : (change : Option ManifestChange) (now : ℤ) (n : ℕ) (m : Manifest) → IsInside (made_by manifests.made change now n m)
made_of_manifest None now n m = tt
made_of_manifest (Some change) now n m = plain_calm _ (change_so change now n m)

fence_of_manifest : (change : Option ManifestChange) (m : Manifest) → RefusesCalmly (fence_by manifests.fence_of change m)
fence_of_manifest None m = tt
fence_of_manifest (Some change) m = manifest_fence change m

made_of_record : (change : Option RecordChange) (now : ℤ) (n : ℕ) (r : Record) → IsInside (made_by records.made change now n r)
made_of_record None now n r = tt
made_of_record (Some change) now n r = record_made change now n r

fence_of_record : (change : Option RecordChange) (r : Record) → RefusesCalmly (fence_by records.fence_of change r)
fence_of_record None r = tt
fence_of_record (Some change) r = record_fence change r

pub manifest_work : (change : Option ManifestChange) → PlainWork decoded_manifest (manifest_put change)
manifest_work change = plain_work decoded_manifest (made_by manifests.made change) (right_by manifests.right_of change) (fence_by manifests.fence_of change) manifest_refusal encoded
    (λ n old new. manifests_plain.refuses (record {}) n old new (right_by manifests.right_of change)) (λ m. manifests_plain.encodes (record {}) m)
    (λ bytes. plain_calm _ (manifests_plain.decodes (record {}) bytes)) (made_of_manifest change) (fence_of_manifest change)

pub record_work : (change : Option RecordChange) → PlainWork decoded_record (record_put change)
record_work change = plain_work decoded_record (made_by records.made change) (right_by records.right_of change) (fence_by records.fence_of change) record_refusal_of record_encoded
    (λ n old new. records_plain.refuses (record {}) n old new (right_by records.right_of change)) (λ r. records_plain.encodes (record {}) r)
    (λ bytes. plain_calm _ (records_plain.decodes (record {}) bytes)) (made_of_record change) (fence_of_record change)

pub manifest_back : (change : Option ManifestChange) (now : ℤ) (n : ℕ) (m : Manifest) → MayPutBack decoded_manifest normal_manifest (manifest_put change now n m)
manifest_back change = puts_back decoded_manifest normal_manifest encoded codec_round_trip (made_by manifests.made change) (right_by manifests.right_of change) (fence_by manifests.fence_of change) manifest_refusal

pub record_back : (change : Option RecordChange) (now : ℤ) (n : ℕ) (r : Record) → MayPutBack decoded_record normal_record (record_put change now n r)
record_back change = puts_back decoded_record normal_record record_encoded record_codec_trip (made_by records.made change) (right_by records.right_of change) (fence_by records.fence_of change) record_refusal_of

-- ---- a refresh

with_calm : (read : Record) (local : LocalState) (trees : Result Trees SlateDBError) → IsInside trees → IsInside (with_trees read local trees)
with_calm read local (Ok trees) h = tt
with_calm read local (Err e) h = h

pub refreshed_calm : (read : Record) (core : Core) (local : LocalState) → IsInside (refreshed read core local)
refreshed_calm read core local = with_calm read local (trees_merged core local.trees) (plain_calm _ (trees_fine core local.trees))
