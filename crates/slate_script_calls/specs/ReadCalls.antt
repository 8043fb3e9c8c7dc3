-- The call that an item with `start` stands for, by its name.
use Rattle.std.specs.Prelude.{ℕ, pos, false, List, [], ◌∷◌, Option, Some, codes}
use Rattle.serde_json.specs.Data.{Data}
use Rattle.serde_json.specs.Find.{as_str}
use Rattle.slate_script_json.specs.Fields.{◌>>=◌, only, required, defaulted, optional, list_in, u64_in, i64_in, bool_in, checkpoint_id_in}
use Rattle.slate_script_json.specs.ReadFlushedTables.{flush_table_in}
use Rattle.slate_script_json.specs.WrittenIds.{id_in}
use Rattle.slate_script_json.specs.Words.{pass_in, filter_in, word_in}
use Rattle.slate_script_events.specs.declared.call.Call.{Call}
use Rattle.slate_script_events.specs.declared.call.Call.TheVariants.{OpenWriter, Upload, Flush, OpenCompactor, Refresh, Schedule, Finish, Fail, WriteManifest, WriteRecord, WriteState, Claim, Report, WriteCheckpoint, ReplaceCheckpoint, RefreshCheckpoint, DeleteCheckpoint, Pass}
use Rattle.slate_script_events.specs.declared.filter_word.FilterWord.TheVariants.{All}
use Rattle.slate_script_calls.specs.declared.read_call.CallName.{CallName}
use Rattle.slate_script_calls.specs.declared.read_call.CallName.TheVariants as name

-- a call with no field of its own
unfoldable pub bare_in : Call → Data → Option Call
bare_in call d = do
  _ ← only (codes "start" ∷ codes "call" ∷ []) d
  Some call

-- a new table, whose keys go from "a" to "z" where no others are given
unfoldable pub upload_in : Data → Option Call
upload_in d = do
  _ ← only (codes "start" ∷ codes "call" ∷ codes "table" ∷ codes "first" ∷ codes "last" ∷ []) d
  table ← required id_in (codes "table") d
  first ← defaulted (codes "a") as_str (codes "first") d
  last ← defaulted (codes "z") as_str (codes "last") d
  Some (Upload table first last)

-- a flush of these tables; where they are absent the numbers of the log's files are those of a new manifest, sequence number and tick 0
unfoldable pub flush_in : Data → Option Call
flush_in d = do
  _ ← only (codes "start" ∷ codes "call" ∷ codes "tables" ∷ codes "replay_after" ∷ codes "next_wal" ∷ codes "seq" ∷ codes "tick" ∷ []) d
  tables ← required (list_in flush_table_in) (codes "tables") d
  replay_after ← defaulted 0 u64_in (codes "replay_after") d
  next_wal ← defaulted 1 u64_in (codes "next_wal") d
  seq ← defaulted 0 u64_in (codes "seq") d
  tick ← defaulted (pos 0) i64_in (codes "tick") d
  Some (Flush tables replay_after next_wal seq tick)

-- the compaction of a call with no other field of its own
unfoldable pub compaction_in : Data → Option (ℕ × ℕ)
compaction_in d = do
  _ ← only (codes "start" ∷ codes "call" ∷ codes "id" ∷ []) d
  required id_in (codes "id") d

-- a compaction that is Submitted becomes Scheduled
unfoldable pub schedule_in : Data → Option Call
schedule_in d = do
  id ← compaction_in d
  Some (Schedule id)

-- a compaction that is Compacted becomes Completed
unfoldable pub finish_in : Data → Option Call
finish_in d = do
  id ← compaction_in d
  Some (Finish id)

-- a compaction becomes Failed
unfoldable pub fail_in : Data → Option Call
fail_in d = do
  id ← compaction_in d
  Some (Fail id)

-- the checkpoint of a call with no other field of its own
unfoldable pub checkpoint_in : Data → Option (List ℕ)
checkpoint_in d = do
  _ ← only (codes "start" ∷ codes "call" ∷ codes "checkpoint" ∷ []) d
  required checkpoint_id_in (codes "checkpoint") d

-- a compactor's trees are written into the manifest, under a new checkpoint
unfoldable pub write_manifest_in : Data → Option Call
write_manifest_in d = do
  checkpoint ← checkpoint_in d
  Some (WriteManifest checkpoint)

-- the manifest and then the record are written
unfoldable pub write_state_in : Data → Option Call
write_state_in d = do
  checkpoint ← checkpoint_in d
  Some (WriteState checkpoint)

-- the claim of a compaction
unfoldable pub claim_in : Data → Option Call
claim_in d = do
  id ← compaction_in d
  Some (Claim id)

-- the report of a compaction with its outputs
unfoldable pub report_in : Data → Option Call
report_in d = do
  _ ← only (codes "start" ∷ codes "call" ∷ codes "id" ∷ codes "tables" ∷ []) d
  id ← required id_in (codes "id") d
  tables ← required (list_in id_in) (codes "tables") d
  Some (Report id tables)

-- a new checkpoint; lifetimes are milliseconds
unfoldable pub write_checkpoint_in : Data → Option Call
write_checkpoint_in d = do
  _ ← only (codes "start" ∷ codes "call" ∷ codes "id" ∷ codes "lifetime" ∷ codes "source" ∷ codes "name" ∷ []) d
  id ← required checkpoint_id_in (codes "id") d
  lifetime ← optional u64_in (codes "lifetime") d
  source ← optional checkpoint_id_in (codes "source") d
  name ← optional as_str (codes "name") d
  Some (WriteCheckpoint id lifetime source name)

-- a new checkpoint in place of an old one
unfoldable pub replace_checkpoint_in : Data → Option Call
replace_checkpoint_in d = do
  _ ← only (codes "start" ∷ codes "call" ∷ codes "old" ∷ codes "id" ∷ codes "lifetime" ∷ codes "source" ∷ codes "name" ∷ []) d
  old ← required checkpoint_id_in (codes "old") d
  id ← required checkpoint_id_in (codes "id") d
  lifetime ← optional u64_in (codes "lifetime") d
  source ← optional checkpoint_id_in (codes "source") d
  name ← optional as_str (codes "name") d
  Some (ReplaceCheckpoint old id lifetime source name)

-- a new lifetime of a checkpoint
unfoldable pub refresh_checkpoint_in : Data → Option Call
refresh_checkpoint_in d = do
  _ ← only (codes "start" ∷ codes "call" ∷ codes "id" ∷ codes "lifetime" ∷ []) d
  id ← required checkpoint_id_in (codes "id") d
  lifetime ← optional u64_in (codes "lifetime") d
  Some (RefreshCheckpoint id lifetime)

-- the end of a checkpoint
unfoldable pub delete_checkpoint_in : Data → Option Call
delete_checkpoint_in d = do
  _ ← only (codes "start" ∷ codes "call" ∷ codes "id" ∷ []) d
  id ← required checkpoint_id_in (codes "id") d
  Some (DeleteCheckpoint id)

-- a pass of a collector, over versions older than five minutes where no age is given
unfoldable pub collector_pass_in : Data → Option Call
collector_pass_in d = do
  _ ← only (codes "start" ∷ codes "call" ∷ codes "pass" ∷ codes "min_age" ∷ codes "dry_run" ∷ codes "filter" ∷ []) d
  pass ← required pass_in (codes "pass") d
  min_age ← defaulted 300000 u64_in (codes "min_age") d
  dry_run ← defaulted false bool_in (codes "dry_run") d
  filter ← defaulted All filter_in (codes "filter") d
  Some (Pass pass min_age dry_run filter)

-- the calls of a writer, of which a worker has the upload too; then those of a compactor, a worker, a holder and a collector
unfoldable pub name_word : List ℕ → Option CallName
name_word s = word_in ((codes "open_writer", name.OpenWriter) ∷ (codes "upload", name.Upload) ∷ (codes "flush", name.Flush)
    ∷ (codes "open_compactor", name.OpenCompactor) ∷ (codes "refresh", name.Refresh) ∷ (codes "schedule", name.Schedule)
    ∷ (codes "finish", name.Finish) ∷ (codes "fail", name.Fail) ∷ (codes "write_manifest", name.WriteManifest)
    ∷ (codes "write_record", name.WriteRecord) ∷ (codes "write_state", name.WriteState) ∷ (codes "claim", name.Claim) ∷ (codes "report", name.Report)
    ∷ (codes "write_checkpoint", name.WriteCheckpoint) ∷ (codes "replace_checkpoint", name.ReplaceCheckpoint)
    ∷ (codes "refresh_checkpoint", name.RefreshCheckpoint) ∷ (codes "delete_checkpoint", name.DeleteCheckpoint) ∷ (codes "pass", name.Pass) ∷ []) s

-- a text that is the name of a call
abbrev pub name_in : Data → Option CallName
name_in d = as_str d >>= name_word

-- the call of this name, with its fields
abbrev pub call_of : CallName → Data → Option Call
call_of name.OpenWriter d = bare_in OpenWriter d
call_of name.Upload d = upload_in d
call_of name.Flush d = flush_in d
call_of name.OpenCompactor d = bare_in OpenCompactor d
call_of name.Refresh d = bare_in Refresh d
call_of name.Schedule d = schedule_in d
call_of name.Finish d = finish_in d
call_of name.Fail d = fail_in d
call_of name.WriteManifest d = write_manifest_in d
call_of name.WriteRecord d = bare_in WriteRecord d
call_of name.WriteState d = write_state_in d
call_of name.Claim d = claim_in d
call_of name.Report d = report_in d
call_of name.WriteCheckpoint d = write_checkpoint_in d
call_of name.ReplaceCheckpoint d = replace_checkpoint_in d
call_of name.RefreshCheckpoint d = refresh_checkpoint_in d
call_of name.DeleteCheckpoint d = delete_checkpoint_in d
call_of name.Pass d = collector_pass_in d

-- a call by its name
unfoldable pub call_in : Data → Option Call
call_in d = do
  called ← required name_in (codes "call") d
  call_of called d
