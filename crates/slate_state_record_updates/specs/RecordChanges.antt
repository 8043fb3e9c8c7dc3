-- Changes of a record: what each makes of the version read, under which right, and which versions its fence refuses.
use Rattle.std.specs.Prelude.{ℕ, ℤ, [], Option, Some, None, Result, Ok}
use Rattle.slate_txn_changes.specs.Changes.{holder_fence}
use Rattle.slate_ids.specs.declared.error.SlateDBError.{SlateDBError}
use Rattle.slate_model_records.specs.Records.{Record}
use Rattle.slate_txn_log.specs.Fence.{fence}
use Rattle.slate_txn_log.specs.declared.right.Right.{Right}
use Rattle.slate_txn_log.specs.declared.right.Right.TheVariants.{Plain, RecordHolder}
use Rattle.slate_state_record_updates.specs.EntrySteps.{stepped, to_scheduled, to_running, to_compacted, reset, with_statuses, one_more}
use Rattle.slate_state_record_updates.specs.RecordEpochs.{with_record_epoch}
use Rattle.slate_state_record_updates.specs.declared.record_change.RecordChange.{RecordChange}
use Rattle.slate_state_record_updates.specs.declared.record_change.RecordChange.TheVariants.{GiveEpoch, Reset, Schedule, Claim, Report, PutStatuses, Submit}

-- what a change makes at a moment of version n; nothing, where nothing is to be committed
abbrev pub made : RecordChange → ℤ → ℕ → Record → Result (Option Record) SlateDBError
made (GiveEpoch epoch) now n r = Ok (Some (with_record_epoch r epoch))
made (Reset epoch) now n r = Ok (Some (reset r))
made (Schedule compactor id) now n r = stepped id to_scheduled r
made (Claim id worker) now n r = stepped id (to_running worker now) r
made (Report id worker outputs) now n r = stepped id (to_compacted worker outputs) r
made (PutStatuses compactor local pending) now n r = Ok (Some (with_statuses local pending r))
made (Submit id spec) now n r = Ok (one_more id spec r)

-- under which right a change is put: an opening compactor holds the record and has nothing pending
abbrev pub right_of : RecordChange → Right
right_of (GiveEpoch epoch) = RecordHolder []
right_of (Reset epoch) = RecordHolder []
right_of (PutStatuses compactor local pending) = RecordHolder pending
right_of _ = Plain

-- why a version refuses a change: a compactor's changes have a fence, those of a worker and of an admin have none
abbrev pub fence_of : RecordChange → Record → Option SlateDBError
fence_of (GiveEpoch epoch) r = fence epoch r.compactor_epoch
fence_of (Reset epoch) r = fence epoch r.compactor_epoch
fence_of (Schedule compactor id) r = holder_fence compactor r.compactor_epoch
fence_of (PutStatuses compactor local pending) r = holder_fence compactor r.compactor_epoch
fence_of _ r = None
