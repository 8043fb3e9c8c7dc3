-- The table of calls: which kind of party has a call, what it needs at its start, what it does first, which change it puts, its reply, what it
-- tells of its party, and which ids it carries. All else reads this table.
use Rattle.std.specs.Prelude.{ℕ, ℤ, List, [], ◌∷◌, map, Option, Some, None, is_some, is_none, Result, Ok, Err, Bool, true, false}
use Rattle.std.specs.List.{find}
use Rattle.slate_txn_changes.specs.declared.log_work.LogEnd.{LogEnd}
use Rattle.slate_txn_changes.specs.declared.log_work.LogEnd.TheVariants.{Absent, Unchanged, Committed}
use Rattle.slate_state_compactor.specs.Local.{finished, failed}
use Rattle.slate_state_compactor.specs.declared.local_state.LocalState.{LocalState}
use Rattle.slate_state_calls.specs.Compactors.{with_local}
use Rattle.slate_state_calls.specs.Opening.{open_start}
use Rattle.slate_state_calls.specs.StateSteps.{start_phase, starting}
use Rattle.slate_state_calls.specs.declared.compactor.Compactor.{Compactor}
use Rattle.slate_state_calls.specs.declared.state_phase.StatePhase.{StatePhase}
use Rattle.slate_state_calls.specs.declared.state_phase.StatePhase.TheVariants.{Over}
use Rattle.slate_state_calls.specs.declared.state_start.StateStart.{StateStart}
use Rattle.slate_state_calls.specs.declared.state_start.StateStart.TheVariants as starts
use Rattle.slate_script_events.specs.declared.call.Call.{Call}
use Rattle.slate_script_events.specs.declared.call.Call.TheVariants.{OpenWriter, Upload as UploadCall, Flush, OpenCompactor, Refresh, Schedule, Finish as FinishCall, Fail, WriteManifest, WriteRecord, WriteState, Claim, Report, WriteCheckpoint, ReplaceCheckpoint, RefreshCheckpoint, DeleteCheckpoint, Pass}
use Rattle.slate_script_events.specs.declared.flush_table.FlushTable.{FlushTable}
use Rattle.slate_script_events.specs.declared.party_kind.PartyKind.{PartyKind}
use Rattle.slate_script_events.specs.declared.party_kind.PartyKind.TheVariants.{Writer, Compactor as CompactorKind, Worker, Holder, Collector}
use Rattle.slate_script_events.specs.declared.reply.Reply.{Reply}
use Rattle.slate_script_events.specs.declared.reply.Reply.TheVariants.{Done, Epoch, Refused}
use Rattle.slate_script_events.specs.declared.reply.Reply.TheVariants as reply
use Rattle.slate_ids.specs.Ulids.{is_id}
use Rattle.slate_ids.specs.declared.error.SlateDBError.{SlateDBError}
use Rattle.slate_ids.specs.declared.error.SlateDBError.TheVariants.{CheckpointMissing, InvalidDBState, LatestTransactionalObjectVersionMissing}
use Rattle.slate_ids.specs.declared.error.StateCause.TheVariants.{NotOpen, NotUploaded}
use Rattle.slate_ids.specs.declared.gc_message.GcMessage.{GcMessage}
use Rattle.slate_ids.specs.declared.gc_message.GcMessage.TheVariants as of
use Rattle.slate_model.specs.declared.checkpoint.Checkpoint.{Checkpoint}
use Rattle.slate_model.specs.declared.manifest.Manifest.{Manifest}
use Rattle.slate_layout_parts.specs.InfoCodec.{encoded_info}
use Rattle.slate_gc_passes.specs.GcPhase.{gc_start}
use Rattle.slate_gc_passes.specs.declared.pass_settings.PassSettings.{PassSettings}
use Rattle.slate_cluster_protocol.specs.Uploaded.{info_of}
use Rattle.slate_cluster_protocol.specs.declared.party.Facts.{Facts}
use Rattle.slate_cluster_protocol.specs.declared.uploads.Upload.{Upload}
use Rattle.slate_cluster_protocol.specs.declared.work.Work.{Work}
use Rattle.slate_cluster_protocol.specs.declared.work.Work.TheVariants as work
use Rattle.slate_state_record_updates.specs.declared.record_change.RecordChange.{RecordChange}
use Rattle.slate_state_record_updates.specs.declared.record_change.RecordChange.TheVariants as record_change
use Rattle.slate_model_records.specs.Records.{Record}
use Rattle.slate_model_tables.specs.Tables.{no_info}
use Rattle.slate_model_tables.specs.declared.ss_table_handle.SsTableHandle.{SsTableHandle}
use Rattle.slate_model_tables.specs.declared.ss_table_id.SsTableId.TheVariants.{Compacted}
use Rattle.slate_model_tables.specs.declared.ss_table_info.SsTableInfo.{SsTableInfo}
use Rattle.slate_state_updates.specs.Checkpoints.{checkpoint_at}
use Rattle.slate_state_updates.specs.declared.flush_batch.FlushBatch.{FlushBatch}
use Rattle.slate_state_updates.specs.declared.flush_batch.FlushedTable.{FlushedTable}
use Rattle.slate_state_updates.specs.declared.manifest_change.ManifestChange.{ManifestChange}
use Rattle.slate_state_updates.specs.declared.manifest_change.ManifestChange.TheVariants as change

-- ---- whose call it is

-- the calls of a writer; a table that it uploads has the two numbers of an id, as each id of a script has
abbrev pub writer_has : Call → Bool
writer_has OpenWriter = true
writer_has (UploadCall table first last) = is_id table
writer_has (Flush tables replay_after next_wal seq tick) = true
writer_has _ = false

-- the calls of a compactor
abbrev pub compactor_has : Call → Bool
compactor_has OpenCompactor = true
compactor_has Refresh = true
compactor_has (Schedule id) = true
compactor_has (FinishCall id) = true
compactor_has (Fail id) = true
compactor_has (WriteManifest checkpoint) = true
compactor_has WriteRecord = true
compactor_has (WriteState checkpoint) = true
compactor_has _ = false

-- the calls of a worker
abbrev pub worker_has : Call → Bool
worker_has (UploadCall table first last) = is_id table
worker_has (Claim id) = true
worker_has (Report id tables) = true
worker_has _ = false

-- the calls of a holder: it refreshes a checkpoint to a lifetime
abbrev pub holder_has : Call → Bool
holder_has (WriteCheckpoint id lifetime source name) = true
holder_has (ReplaceCheckpoint old id lifetime source name) = true
holder_has (RefreshCheckpoint id lifetime) = is_some lifetime
holder_has (DeleteCheckpoint id) = true
holder_has _ = false

-- the calls of a collector: so far, the passes over the two logs and over tables
abbrev pub collector_has : Call → Bool
collector_has (Pass of.Manifest min_age dry_run filter) = true
collector_has (Pass of.Compactions min_age dry_run filter) = true
collector_has (Pass of.Compacted min_age dry_run filter) = true
collector_has _ = false

-- whether a kind of party has a call
abbrev pub has_call : PartyKind → Call → Bool
has_call Writer call = writer_has call
has_call CompactorKind call = compactor_has call
has_call Worker call = worker_has call
has_call Holder call = holder_has call
has_call Collector call = collector_has call

-- ---- what it needs at its start

-- the refusal of a party whose open has not succeeded yet, by what that leaves
abbrev pub unless_open : {A : Type 0} → Option A → Option SlateDBError
unless_open None = Some (InvalidDBState NotOpen)
unless_open (Some opened) = None

-- whether a table wasn't uploaded
abbrev pub is_unknown : List ((ℕ × ℕ) × SsTableInfo) → ℕ × ℕ → Bool
is_unknown uploads table = is_none (info_of table uploads)

-- whether a table of a flush wasn't
abbrev pub is_missing : List ((ℕ × ℕ) × SsTableInfo) → FlushTable → Bool
is_missing uploads t = is_unknown uploads t.table

-- the refusal that names an output that wasn't uploaded, where there is one
abbrev pub refusal_of_unknown : Option (ℕ × ℕ) → Option SlateDBError
refusal_of_unknown None = None
refusal_of_unknown (Some table) = Some (InvalidDBState (NotUploaded table))

-- the refusal that names the first table that wasn't uploaded, where there is one
abbrev pub refusal_of_missing : Option FlushTable → Option SlateDBError
refusal_of_missing None = None
refusal_of_missing (Some t) = Some (InvalidDBState (NotUploaded t.table))

-- the first refusal that there is: that of a party without an open comes before that of a table
abbrev pub or_missing : Option SlateDBError → Option SlateDBError → Option SlateDBError
or_missing (Some e) missing = Some e
or_missing None missing = missing

-- what is known of a new table with these first and last keys: all else as in a new info
abbrev pub new_info : List ℕ → List ℕ → SsTableInfo
new_info first last = record no_info { first_entry = Some first; last_entry = Some last }

-- why there is no result, where there is none
abbrev pub refusal_in : {X : Type 0} → Result X SlateDBError → Option SlateDBError
refusal_in (Ok x) = None
refusal_in (Err e) = Some e

-- the bytes, where there are some
abbrev pub bytes_in : Result (List ℕ) SlateDBError → List ℕ
bytes_in (Ok bytes) = bytes
bytes_in (Err e) = []

-- why the end of a compaction is refused, by what the party holds: it needs an open
abbrev pub refusal_of_end : (LocalState → Result LocalState SlateDBError) → Option Compactor → Option SlateDBError
refusal_of_end step None = Some (InvalidDBState NotOpen)
refusal_of_end step (Some compactor) = refusal_in (step compactor.local)

-- why a call is refused at its start, before any store call: an upload where its table's info has no bytes; a flush needs an open, and that
-- its party uploaded each of its tables; a report needs that of each of its outputs; a compactor needs an open for all its other calls
abbrev pub refusal_at_start : Facts → Call → Option SlateDBError
refusal_at_start facts (UploadCall table first last) = refusal_in (encoded_info (new_info first last))
refusal_at_start facts (Flush tables replay_after next_wal seq tick) = or_missing (unless_open facts.epoch) (refusal_of_missing (find (is_missing facts.uploads) tables))
refusal_at_start facts Refresh = unless_open facts.compactor
refusal_at_start facts (Schedule id) = unless_open facts.compactor
refusal_at_start facts (FinishCall id) = refusal_of_end (finished id) facts.compactor
refusal_at_start facts (Fail id) = refusal_of_end (failed id) facts.compactor
refusal_at_start facts (WriteManifest checkpoint) = unless_open facts.compactor
refusal_at_start facts WriteRecord = unless_open facts.compactor
refusal_at_start facts (WriteState checkpoint) = unless_open facts.compactor
refusal_at_start facts (Report id tables) = refusal_of_unknown (find (is_unknown facts.uploads) tables)
refusal_at_start facts _ = None

-- ---- which change it puts

-- what is known of an uploaded table
abbrev pub known_info : Option SsTableInfo → SsTableInfo
known_info None = no_info
known_info (Some info) = info

-- a table in format version 1, with what is known of it
abbrev pub uploaded_table : List ((ℕ × ℕ) × SsTableInfo) → ℕ × ℕ → SsTableHandle
uploaded_table uploads table = record { id = Compacted table; format_version = 1; info = known_info (info_of table uploads) }

-- a table of a flush, with what is known of it
abbrev pub flushed_table : List ((ℕ × ℕ) × SsTableInfo) → FlushTable → FlushedTable
flushed_table uploads t = record { view = t.view; prefix = t.prefix; sst = uploaded_table uploads t.table }

-- what a flush puts
abbrev pub batch_of : List ((ℕ × ℕ) × SsTableInfo) → List FlushTable → ℕ → ℕ → ℕ → ℤ → FlushBatch
batch_of uploads tables replay_after next_wal seq tick = record {
  tables = map (flushed_table uploads) tables;
  replay_after = replay_after;
  next_wal = next_wal;
  seq = seq;
  tick = tick;
}

-- of the latest manifest
abbrev pub change_of : Facts → Call → Option ManifestChange
change_of facts OpenWriter = Some change.RaiseWriter
change_of facts (Flush tables replay_after next_wal seq tick) = Some (change.Flush facts.epoch (batch_of facts.uploads tables replay_after next_wal seq tick))
change_of facts (WriteCheckpoint id lifetime source name) = Some (change.WriteCheckpoint id (record { lifetime = lifetime; source = source; name = name }))
change_of facts (ReplaceCheckpoint old id lifetime source name) = Some (change.ReplaceCheckpoint old id (record { lifetime = lifetime; source = source; name = name }))
change_of facts (RefreshCheckpoint id lifetime) = Some (change.RefreshCheckpoint id lifetime)
change_of facts (DeleteCheckpoint id) = Some (change.DeleteCheckpoint id)
change_of facts _ = None

-- of the latest record
abbrev pub record_change_of : Facts → Call → Option RecordChange
record_change_of facts (Claim id) = Some (record_change.Claim id facts.number)
record_change_of facts (Report id tables) = Some (record_change.Report id facts.number (map (uploaded_table facts.uploads) tables))
record_change_of facts _ = None

-- ---- what it does first

-- the settings of a pass: it keeps the boundaries of the logs
abbrev pub pass_settings : GcMessage → ℕ → Bool → PassSettings
pass_settings pass min_age dry_run = record { pass = pass; options = record { min_age = min_age; interval = None; dry_run = dry_run }; boundary_files_enabled = true }

-- the upload of a table with these first and last keys
abbrev pub upload_of : ℕ × ℕ → List ℕ → List ℕ → Upload
upload_of table first last = record { table = table; info = new_info first last }

-- where a call of a compactor on its state begins, by what the party holds; it is refused before where that is nothing
abbrev pub state_phase : StateStart → Option Compactor → StatePhase
state_phase start None = Over
state_phase start (Some compactor) = start_phase start compactor

-- the first work of a call: an upload puts its table's info; a pass begins with the removal of expired checkpoints; a compactor's calls are
-- machines of their own; a claim and a report change the latest record; and every other call changes the latest manifest
abbrev pub first_work : Facts → Call → Work
first_work facts (UploadCall table first last) = work.PutTable facts.db (upload_of table first last) (bytes_in (encoded_info (new_info first last)))
first_work facts (Pass pass min_age dry_run filter) = work.Pass facts.db (pass_settings pass min_age dry_run) filter gc_start
first_work facts OpenCompactor = work.Opening facts.db open_start
first_work facts Refresh = work.Compacting facts.db (state_phase starts.Refresh facts.compactor)
first_work facts (Schedule id) = work.Compacting facts.db (state_phase (starts.Schedule id) facts.compactor)
first_work facts (WriteManifest checkpoint) = work.Compacting facts.db (state_phase (starts.WriteTrees (record { checkpoint = checkpoint; whole = false })) facts.compactor)
first_work facts WriteRecord = work.Compacting facts.db (state_phase starts.WriteRecord facts.compactor)
first_work facts (WriteState checkpoint) = work.Compacting facts.db (state_phase (starts.WriteTrees (record { checkpoint = checkpoint; whole = true })) facts.compactor)
first_work facts (Claim id) = work.Records facts.db (starting (record_change_of facts (Claim id)))
first_work facts (Report id tables) = work.Records facts.db (starting (record_change_of facts (Report id tables)))
first_work facts call = work.Manifests facts.db (starting (change_of facts call))

-- ---- its reply

-- a call goes on with work, or ends with its reply
pub data Next : Type 0 where
  Go : Work → Next
  Finish : Reply → Next

-- the checkpoint of an id, as a reply
abbrev pub checkpoint_reply : List ℕ → Option Checkpoint → Reply
checkpoint_reply id (Some c) = reply.Checkpoint c.id c.manifest_id
checkpoint_reply id None = Refused (CheckpointMissing id)

-- of a call that changes the manifest, by the one that it put, or that it read where it changed nothing
abbrev pub reply_with : Call → Manifest → Reply
reply_with OpenWriter m = Epoch m.writer_epoch
reply_with (WriteCheckpoint id lifetime source name) m = checkpoint_reply id (checkpoint_at id m.core.checkpoints)
reply_with (ReplaceCheckpoint old id lifetime source name) m = checkpoint_reply id (checkpoint_at id m.core.checkpoints)
reply_with (RefreshCheckpoint id lifetime) m = checkpoint_reply id (checkpoint_at id m.core.checkpoints)
reply_with _ m = Done

abbrev pub manifest_reply : Call → LogEnd Manifest → Reply
manifest_reply call Absent = Refused LatestTransactionalObjectVersionMissing
manifest_reply call (Unchanged n m) = reply_with call m
manifest_reply call (Committed n m) = reply_with call m

-- of a call that changes the record
abbrev pub record_reply : LogEnd Record → Reply
record_reply Absent = Refused LatestTransactionalObjectVersionMissing
record_reply (Unchanged n r) = Done
record_reply (Committed n r) = Done

-- ---- what it tells of its party

-- an open that put this manifest has raised its epoch
abbrev pub facts_with : Call → Manifest → Facts → Facts
facts_with OpenWriter m facts = record facts { epoch = Some m.writer_epoch }
facts_with _ m facts = facts

-- after the end of a change of the manifest
abbrev pub facts_after : Call → LogEnd Manifest → Facts → Facts
facts_after call (Committed n m) facts = facts_with call m facts
facts_after call _ facts = facts

-- the party holds this compactor
abbrev pub with_compactor : Compactor → Facts → Facts
with_compactor compactor facts = record facts { compactor = Some compactor }

-- the compactor that it holds has this local state
abbrev pub local_in : LocalState → Option Compactor → Option Compactor
local_in local None = None
local_in local (Some compactor) = Some (with_local local compactor)

-- the same, where one is given
abbrev pub with_held : Option LocalState → Facts → Facts
with_held None facts = facts
with_held (Some local) facts = record facts { compactor = local_in local facts.compactor }

-- what a step makes of what the party holds, unless it is refused
abbrev pub made_or_none : Result LocalState SlateDBError → Option LocalState
made_or_none (Ok local) = Some local
made_or_none (Err e) = None

abbrev pub end_of : (LocalState → Result LocalState SlateDBError) → Option Compactor → Option LocalState
end_of step None = None
end_of step (Some compactor) = made_or_none (step compactor.local)

-- the facts after a call's start: the end of a compaction alone changes them
abbrev pub facts_at_start : Facts → Call → Facts
facts_at_start facts (FinishCall id) = with_held (end_of (finished id) facts.compactor) facts
facts_at_start facts (Fail id) = with_held (end_of (failed id) facts.compactor) facts
facts_at_start facts _ = facts

-- ---- which ids it carries

-- the ids of checkpoints that a call brings anew
abbrev pub fresh_checkpoints : Call → List (List ℕ)
fresh_checkpoints (WriteManifest checkpoint) = checkpoint ∷ []
fresh_checkpoints (WriteState checkpoint) = checkpoint ∷ []
fresh_checkpoints (WriteCheckpoint id lifetime source name) = id ∷ []
fresh_checkpoints (ReplaceCheckpoint old id lifetime source name) = id ∷ []
fresh_checkpoints _ = []

-- the ids that there are: one, or none
abbrev pub one_or_none : Option (List ℕ) → List (List ℕ)
one_or_none None = []
one_or_none (Some id) = id ∷ []

-- the other ids of checkpoints that a call names
abbrev pub named_checkpoints : Call → List (List ℕ)
named_checkpoints (WriteCheckpoint id lifetime source name) = one_or_none source
named_checkpoints (ReplaceCheckpoint old id lifetime source name) = old ∷ one_or_none source
named_checkpoints (RefreshCheckpoint id lifetime) = id ∷ []
named_checkpoints (DeleteCheckpoint id) = id ∷ []
named_checkpoints _ = []

-- the ids of tables, views and compactions that a call brings anew: the table of an upload, the views of a flush
abbrev pub fresh_ulids : Call → List (ℕ × ℕ)
fresh_ulids (UploadCall table first last) = table ∷ []
fresh_ulids (Flush tables replay_after next_wal seq tick) = map (λ t. t.view) tables
fresh_ulids _ = []

-- the other ids of tables, views and compactions that a call names: the tables of a flush; the compaction of a schedule, an end or a claim; that
-- of a report and its outputs
abbrev pub named_ulids : Call → List (ℕ × ℕ)
named_ulids (Flush tables replay_after next_wal seq tick) = map (λ t. t.table) tables
named_ulids (Schedule id) = id ∷ []
named_ulids (FinishCall id) = id ∷ []
named_ulids (Fail id) = id ∷ []
named_ulids (Claim id) = id ∷ []
named_ulids (Report id tables) = id ∷ tables
named_ulids _ = []
