-- What each step of a compaction makes of its entry, and of the record that has it.
use Rattle.std.specs.Prelude.{ℕ, ℤ, pos, negsuc, ◌&&◌, Bool, true, false, List, [], map, Option, Some, None, is_some, Result, Ok, Err, bytes_eq, decimal, if◌then◌else◌}
use Rattle.slate_ids.specs.declared.error.SlateDBError.{SlateDBError}
use Rattle.slate_ids.specs.declared.error.SlateDBError.TheVariants.{InvalidDBState}
use Rattle.slate_ids.specs.declared.error.StateCause.TheVariants.{NoSuchCompaction, CompactionState}
use Rattle.slate_model_tables.specs.declared.ss_table_handle.SsTableHandle.{SsTableHandle}
use Rattle.slate_model_records.specs.declared.compaction.Compaction.{Compaction}
use Rattle.slate_model_records.specs.declared.compaction_spec.CompactionSpec.{CompactionSpec}
use Rattle.slate_model_records.specs.declared.compaction_status.CompactionStatus.{CompactionStatus}
use Rattle.slate_model_records.specs.declared.compaction_status.CompactionStatus.TheVariants.{Submitted, Scheduled, Running, Compacted}
use Rattle.slate_model_records.specs.declared.worker_spec.WorkerSpec.{WorkerSpec}
use Rattle.slate_model_records.specs.Compactions.{is_terminal}
use Rattle.slate_model_records.specs.Records.{Record, entry_of, inserted}
use Rattle.slate_model_records.specs.Retaining.{retained}

-- ---- statuses

-- whether a compaction was asked for, and nothing more
abbrev pub is_submitted : CompactionStatus → Bool
is_submitted Submitted = true
is_submitted _ = false

-- whether it is to run, and no worker has it
abbrev pub is_scheduled : CompactionStatus → Bool
is_scheduled Scheduled = true
is_scheduled _ = false

-- whether a worker has it
abbrev pub is_running : CompactionStatus → Bool
is_running Running = true
is_running _ = false

-- the compaction with another status
abbrev pub with_status : CompactionStatus → Compaction → Compaction
with_status status c = record c { status = status }

-- ---- workers

-- a moment as a worker tells it: the greater of it and 0
abbrev pub heartbeat : ℤ → ℕ
heartbeat (pos ms) = ms
heartbeat (negsuc n) = 0

-- the worker of this party number, heard of at this moment
abbrev pub worker_at : ℕ → ℤ → WorkerSpec
worker_at worker now = record { worker_id = decimal worker; last_heartbeat_ms = heartbeat now }

-- whether the worker of this party number has a compaction
abbrev pub is_held_by : ℕ → Option WorkerSpec → Bool
is_held_by worker None = false
is_held_by worker (Some spec) = bytes_eq spec.worker_id (decimal worker)

-- ---- steps: what each makes of a compaction in the state that it needs

-- from Submitted to Scheduled
abbrev pub to_scheduled : Compaction → Option Compaction
to_scheduled c = if is_submitted c.status then Some (with_status Scheduled c) else None

-- from Scheduled to Running: this worker has it
abbrev pub to_running : ℕ → ℤ → Compaction → Option Compaction
to_running worker now c = if is_scheduled c.status then Some (record c { status = Running; worker = Some (worker_at worker now) }) else None

-- from Running under this worker to Compacted: these are its outputs
abbrev pub to_compacted : ℕ → List SsTableHandle → Compaction → Option Compaction
to_compacted worker outputs c = if is_running c.status && is_held_by worker c.worker then Some (record c { status = Compacted; output_ssts = outputs }) else None

-- the record in which this compaction is that of its id
abbrev pub with_entry : Compaction → Record → Record
with_entry c r = record r { entries = inserted c r.entries }

-- the record with what a step made of the compaction of an id, where it was in the state that the step needs
abbrev pub put_in : ℕ × ℕ → Record → Option Compaction → Result (Option Record) SlateDBError
put_in id r None = Err (InvalidDBState (CompactionState id))
put_in id r (Some c) = Ok (Some (with_entry c r))

-- the refusal where a record lacks a compaction
abbrev pub no_such : ℕ × ℕ → SlateDBError
no_such id = InvalidDBState (NoSuchCompaction id)

-- the same of the compaction that was found
abbrev pub found_stepped : ℕ × ℕ → (Compaction → Option Compaction) → Record → Option Compaction → Result (Option Record) SlateDBError
found_stepped id step r None = Err (no_such id)
found_stepped id step r (Some c) = put_in id r (step c)

-- the record after a step of the compaction of an id
abbrev pub stepped : ℕ × ℕ → (Compaction → Option Compaction) → Record → Result (Option Record) SlateDBError
stepped id step r = found_stepped id step r (entry_of id r.entries)

-- ---- changes of a whole record

-- a compaction that is to run is submitted again, without a worker; any other stays
abbrev pub unscheduled : Compaction → Compaction
unscheduled c = if is_scheduled c.status then record c { status = Submitted; worker = None } else c

-- none is to run, and those that are over go but for the last one
abbrev pub reset : Record → Record
reset r = record r { entries = retained [] (map unscheduled r.entries) }

-- the status that a found compaction gives one of this status: its own, where it is over
abbrev pub terminal_or : CompactionStatus → Option Compaction → CompactionStatus
terminal_or status None = status
terminal_or status (Some d) = if is_terminal d.status then d.status else status

-- the compaction with the status that the local one of its id has, where that is over
abbrev pub with_local_status : List Compaction → Compaction → Compaction
with_local_status local c = with_status (terminal_or c.status (entry_of c.id local)) c

-- the record with the local statuses of compactions that are over; none is added
abbrev pub with_local_statuses : Record → Record → Record
with_local_statuses local r = record r { entries = map (with_local_status local.entries) r.entries }

-- the same, trimmed but for those that are pending
abbrev pub with_statuses : Record → List (ℕ × ℕ) → Record → Record
with_statuses local pending r = record r { entries = retained pending (map (with_local_status local.entries) r.entries) }

-- a compaction that is asked for
abbrev pub asked_for : ℕ × ℕ → CompactionSpec → Compaction
asked_for id spec = record { id = id; spec = spec; status = Submitted; worker = None; output_ssts = []; ctx = None }

-- the record with one compaction more; nothing, where the id is there
abbrev pub one_more : ℕ × ℕ → CompactionSpec → Record → Option Record
one_more id spec r = if is_some (entry_of id r.entries) then None else Some (with_entry (asked_for id spec) r)
