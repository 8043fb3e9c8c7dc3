-- The row of a plain call's twin in a run, by the last turn of the plain call.
use Rattle.std.specs.Prelude.{◌≡◌, ℕ, ℤ, Bool, List, map, Option, Some, Result, Ok, Err, if◌then◌else◌}
use Rattle.slate_txn_changes.specs.Latest as latest
use Rattle.slate_txn_changes.specs.LastTurns.{HasEnded, LastTurn}
use Rattle.slate_txn_changes.specs.LogWorks.{work_asks, work_goes, work_start}
use Rattle.slate_txn_changes.specs.Turns.{Turn, is_turned}
use Rattle.slate_txn_changes.specs.declared.log_work.LogEnd.{LogEnd}
use Rattle.slate_txn_changes.specs.declared.log_work.LogWork.{LogWork}
use Rattle.slate_state_calls.specs.Commits.{manifest_put, record_put}
use Rattle.slate_state_calls.specs.Opening.{open_asks, open_start}
use Rattle.slate_state_calls.specs.StateSteps.{StateAt, start_phase, starting, state_goes}
use Rattle.slate_state_calls.specs.declared.compactor.Compactor.{Compactor}
use Rattle.slate_state_calls.specs.declared.open_phase.OpenPhase.{OpenPhase}
use Rattle.slate_state_calls.specs.declared.state_start.StateStart.{StateStart}
use Rattle.slate_state_calls.specs.declared.state_start.StateStart.TheVariants as starts
use Rattle.slate_state_writer.specs.PlainOpening as opening
use Rattle.slate_state_writer.specs.PlainOpening.{open_turning, writer_goes, OpenRan}
use Rattle.slate_state_writer.specs.StateCalls as states
use Rattle.slate_state_writer.specs.StateCalls.{asks_at, state_turning, StateRan}
use Rattle.slate_state_writer.specs.Writer.{Writer}
use Rattle.slate_script_events.specs.declared.call.Call.{Call}
use Rattle.slate_script_events.specs.declared.call.Call.TheVariants as calls
use Rattle.slate_script_events.specs.declared.call.Call.TheVariants.{Refresh, Schedule, WriteManifest, WriteRecord, WriteState}
use Rattle.slate_script_events.specs.declared.filter_word.FilterWord.{FilterWord}
use Rattle.slate_script_events.specs.declared.reply.Reply.TheVariants.{Done, Epoch}
use Rattle.slate_script_events.specs.declared.reply.Reply.TheVariants as reply
use Rattle.slate_ids.specs.declared.error.SlateDBError.{SlateDBError}
use Rattle.slate_ids.specs.declared.gc_message.GcMessage.{GcMessage}
use Rattle.slate_txn_log.specs.declared.commit_phase.CommitPhase.{CommitPhase}
use Rattle.slate_txn_log.specs.declared.log_kind.LogKind.{LogKind}
use Rattle.slate_txn_log.specs.declared.log_kind.LogKind.TheVariants as logs
use Rattle.slate_layout_manifests.specs.Decoding.{decoded_manifest}
use Rattle.slate_layout_records.specs.RecordBytes.{decoded_record}
use Rattle.slate_model.specs.declared.manifest.Manifest.{Manifest}
use Rattle.slate_model_records.specs.Records.{Record}
use Rattle.slate_state_updates.specs.declared.manifest_change.ManifestChange.{ManifestChange}
use Rattle.slate_state_record_updates.specs.declared.record_change.RecordChange.{RecordChange}
use Rattle.slate_gc.specs.PassTurns as passes
use Rattle.slate_gc_passes.specs.GcPhase.{gc_asks, gc_goes, gc_start}
use Rattle.slate_gc_passes.specs.declared.pass_counts.PassCounts.{PassCounts}
use Rattle.slate_gc_passes.specs.declared.pass_settings.PassSettings.{PassSettings}
use Rattle.slate_cluster_protocol.specs.Calls.{facts_after, manifest_reply, pass_settings, record_reply, with_compactor}
use Rattle.slate_cluster_protocol.specs.Passes.{calls_made}
use Rattle.slate_cluster_protocol.specs.Rows.{Answered, Standing, begin, goes_to, refused, replies, stands_after}
use Rattle.slate_cluster_protocol.specs.Works.{pass_ways}
use Rattle.slate_cluster_protocol.specs.declared.party.Facts.{Facts}
use Rattle.slate_cluster_protocol.specs.declared.work.Work.TheVariants as works
use Rattle.slate_store.specs.StoreCalls.{Told}
use Rattle.slate_store.specs.CallRuns.{Ran}
use Rattle.slate_store.specs.declared.made.Made.{Made}

-- ---- a row

-- the answers to these calls, all at one moment
abbrev pub answers_at : ℤ → List Made → List Answered
answers_at moment made = map (λ m. (m.answer, moment)) made

-- with these answers a call of a party with these facts makes these calls, and then stands there
pub record IsRow (facts : Facts) (call : Call) (moment : ℤ) (made : List Made) (to : Standing) : Type 0 where
  pub calls : calls_made call (begin facts call) (answers_at moment made) ≡ made
  pub ends : stands_after facts call (answers_at moment made) ≡ to

-- ---- where a plain call's end leaves its twin

-- an open: the party holds what the plain compactor holds
abbrev pub open_ends : Facts → Result Writer SlateDBError → Standing
open_ends facts (Ok writer) = replies (with_compactor writer.compactor facts) (Epoch writer.compactor.epoch)
open_ends facts (Err e) = refused facts e

-- the call of a run that begins so
abbrev pub state_call : StateStart → Call
state_call starts.Refresh = Refresh
state_call (starts.Schedule id) = Schedule id
state_call (starts.WriteTrees write) = if write.whole then WriteState write.checkpoint else WriteManifest write.checkpoint
state_call starts.WriteRecord = WriteRecord

-- a call of a compactor on its state, refused or not: the party holds what the plain compactor holds
abbrev pub state_ends : Facts → Compactor → Result (Unit {0}) SlateDBError → Standing
state_ends facts held (Ok u) = replies (with_compactor held facts) Done
state_ends facts held (Err e) = refused (with_compactor held facts) e

-- a change of the latest manifest, and of the latest record
abbrev pub manifest_ends : Facts → Call → Result (LogEnd Manifest) SlateDBError → Standing
manifest_ends facts call (Ok end) = replies (facts_after call end facts) (manifest_reply call end)
manifest_ends facts call (Err e) = refused facts e

abbrev pub record_ends : Facts → Result (LogEnd Record) SlateDBError → Standing
record_ends facts (Ok end) = replies facts (record_reply end)
record_ends facts (Err e) = refused facts e

-- a pass
abbrev pub pass_ends : Facts → Result PassCounts SlateDBError → Standing
pass_ends facts (Ok counts) = replies facts (reply.Pass counts.picked counts.deleted counts.failed)
pass_ends facts (Err e) = refused facts e

-- ---- plain calls, and their rows

-- the last turn of an open
abbrev pub OpenTurn : List ℕ → ℤ → Told → Told → List Made → Turn OpenPhase → Result Writer SlateDBError → Type 0
OpenTurn db moment old new made to result =
    LastTurn (open_asks db) (open_turning db moment) (writer_goes db moment) (λ phase. phase ≡ open_start) moment old new made opening.first_turn to result

-- an open that came to an end: its last turn is the row of one
abbrev pub OpenIsRow : Facts → ℤ → ℕ → Told → Told → Result Writer SlateDBError → Type 0
OpenIsRow facts moment tries old new result =
    (ran : OpenRan facts.db moment tries old new result) → HasEnded result
    → (last : OpenTurn facts.db moment old new ran.1.made ran.0 result) × IsRow facts calls.OpenCompactor moment last.later (open_ends facts result)

-- the last turn of a call of a compactor on its state
abbrev pub StateTurn : List ℕ → StateStart → ℤ → Told → Told → List Made → Compactor → Turn StateAt → Result (Unit {0}) SlateDBError → Type 0
StateTurn db start moment old new made compactor to result =
    LastTurn (asks_at db) (state_turning start moment) (state_goes moment) (λ at. at.0 ≡ start_phase start at.1) moment old new made (states.first_turn start compactor) to result

-- such a call that came to an end: its last turn is the row of one, of what the compactor held where that turn begins
abbrev pub StateCallIsRow : Facts → Compactor → Compactor → StateStart → ℤ → ℕ → Told → Told → Result (Unit {0}) SlateDBError → Type 0
StateCallIsRow facts compactor held start moment tries old new result =
    (ran : StateRan facts.db start moment tries old new compactor held result) → HasEnded result
    → (last : StateTurn facts.db start moment old new ran.2.made compactor ((ran.0, held), ran.1) result)
    × IsRow (with_compactor last.start.1 facts) (state_call start) moment last.later (state_ends facts held result)

-- the last turn of a change of the latest version of a log, by what reads a version and by the commit of the change
abbrev pub ChangeTurn : {V : Type 0} → List ℕ → LogKind → (List ℕ → Result V SlateDBError) → (ℤ → ℕ → V → Result (Option (CommitPhase V)) SlateDBError) → ℤ → Told → Told → List Made
    → Turn (LogWork V) → Result (LogEnd V) SlateDBError → Type 0
ChangeTurn db log decoded commit moment old new made to result =
    LastTurn (work_asks db log) (latest.latest_goes log decoded commit moment) (work_goes log decoded commit moment) (λ work. work ≡ work_start) moment old new made latest.first_turn to result

-- this call is this change of the latest manifest, or of the latest record
abbrev pub ChangesManifest : Facts → Call → ManifestChange → Type 0
ChangesManifest facts call change = begin facts call ≡ goes_to facts (works.Manifests facts.db (starting (Some change)))

abbrev pub ChangesRecord : Facts → Call → RecordChange → Type 0
ChangesRecord facts call change = begin facts call ≡ goes_to facts (works.Records facts.db (starting (Some change)))

-- a change of the latest manifest that came to an end: its last turn is the row of the call that makes it
abbrev pub ManifestChangeIsRow : Facts → Call → ManifestChange → ℤ → ℕ → Told → Told → Result (LogEnd Manifest) SlateDBError → Type 0
ManifestChangeIsRow facts call change moment tries old new result =
    (ran : latest.ChangeRan facts.db logs.Manifest decoded_manifest (manifest_put (Some change)) moment tries old new result) → HasEnded result
    → (last : ChangeTurn facts.db logs.Manifest decoded_manifest (manifest_put (Some change)) moment old new ran.1.made ran.0 result)
    × IsRow facts call moment last.later (manifest_ends facts call result)

-- and so of the latest record
abbrev pub RecordChangeIsRow : Facts → Call → RecordChange → ℤ → ℕ → Told → Told → Result (LogEnd Record) SlateDBError → Type 0
RecordChangeIsRow facts call change moment tries old new result =
    (ran : latest.ChangeRan facts.db logs.Compactions decoded_record (record_put (Some change)) moment tries old new result) → HasEnded result
    → (last : ChangeTurn facts.db logs.Compactions decoded_record (record_put (Some change)) moment old new ran.1.made ran.0 result)
    × IsRow facts call moment last.later (record_ends facts result)

-- the last turn of a pass with a filter
abbrev pub PassTurn : List ℕ → FilterWord → PassSettings → ℤ → Told → Told → List Made → passes.Turn → Result PassCounts SlateDBError → Type 0
PassTurn db filter settings moment old new made to result =
    LastTurn (gc_asks db settings.pass) (passes.turn_goes (pass_ways filter) settings moment) (gc_goes (pass_ways filter) settings moment)
    (λ phase. phase ≡ gc_start) moment old new made passes.first_turn to result

-- a pass ran with a filter, with so many tries
abbrev pub PassRanTo : List ℕ → FilterWord → PassSettings → ℤ → ℕ → Told → Told → passes.Turn → Result PassCounts SlateDBError → Type 0
PassRanTo db filter settings moment tries old new to result =
    Ran is_turned (passes.turn_asks db settings.pass) (passes.turn_goes (pass_ways filter) settings moment) moment tries old new passes.first_turn to result

-- a pass that came to an end: its last turn is the row of one
abbrev pub PassIsRow : Facts → GcMessage → ℕ → Bool → FilterWord → ℤ → ℕ → Told → Told → passes.Turn → Result PassCounts SlateDBError → Type 0
PassIsRow facts pass min_age dry_run filter moment tries old new to result =
    (ran : PassRanTo facts.db filter (pass_settings pass min_age dry_run) moment tries old new to result) → HasEnded result
    → (last : PassTurn facts.db filter (pass_settings pass min_age dry_run) moment old new ran.made to result)
    × IsRow facts (calls.Pass pass min_age dry_run filter) moment last.later (pass_ends facts result)
