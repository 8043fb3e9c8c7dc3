-- The row of a call, read off the table: how it begins, how it goes on, and so the next store call or the reply after the answers so far.
use Rattle.std.specs.Prelude.{ℕ, ℤ, List, [], ◌∷◌, Option, Some, None, Ok, Err}
use Rattle.slate_txn_changes.specs.LogWorks.{WorkGoes, work_goes}
use Rattle.slate_state_calls.specs.Commits.{ManifestChanging, RecordChanging, manifest_put, record_put}
use Rattle.slate_state_calls.specs.Opening.{OpenGoes, open_goes}
use Rattle.slate_state_calls.specs.StateSteps.{StateGoes, state_goes}
use Rattle.slate_state_calls.specs.declared.compactor.Compactor.{Compactor}
use Rattle.slate_state_calls.specs.declared.state_phase.StatePhase.{StatePhase}
use Rattle.slate_script_events.specs.declared.call.Call.{Call}
use Rattle.slate_script_events.specs.declared.call.Call.TheVariants.{Finish as FinishCall, Fail}
use Rattle.slate_script_events.specs.declared.filter_word.FilterWord.{FilterWord}
use Rattle.slate_script_events.specs.declared.reply.Reply.{Reply}
use Rattle.slate_script_events.specs.declared.reply.Reply.TheVariants.{Done, Epoch, Refused}
use Rattle.slate_script_events.specs.declared.reply.Reply.TheVariants as reply
use Rattle.slate_ids.specs.declared.error.SlateDBError.{SlateDBError}
use Rattle.slate_ids.specs.declared.error.SlateDBError.TheVariants.{InvalidDBState, StoreFault}
use Rattle.slate_ids.specs.declared.error.StateCause.TheVariants.{NotOpen}
use Rattle.slate_txn_log.specs.declared.log_kind.LogKind.TheVariants.{Manifest as ManifestLog, Compactions as RecordLog}
use Rattle.slate_layout_manifests.specs.Decoding.{decoded_manifest}
use Rattle.slate_model.specs.declared.manifest.Manifest.{Manifest}
use Rattle.slate_gc_passes.specs.GcPhase.{GcGoes, gc_goes}
use Rattle.slate_gc_passes.specs.declared.pass_settings.PassSettings.{PassSettings}
use Rattle.slate_cluster_protocol.specs.Calls.{facts_after, facts_at_start, first_work, manifest_reply, record_reply, refusal_at_start, with_compactor, Next, Go, Finish}
use Rattle.slate_cluster_protocol.specs.Uploaded.{with_upload}
use Rattle.slate_cluster_protocol.specs.Works.{asks, pass_ways}
use Rattle.slate_cluster_protocol.specs.declared.party.Facts.{Facts}
use Rattle.slate_cluster_protocol.specs.declared.uploads.Upload.{Upload}
use Rattle.slate_cluster_protocol.specs.declared.work.Work.{Work}
use Rattle.slate_cluster_protocol.specs.declared.work.Work.TheVariants.{Manifests, Records, PutTable, Pass, Opening, Compacting}
use Rattle.slate_layout_records.specs.RecordBytes.{decoded_record}
use Rattle.slate_model_records.specs.Records.{Record}
use Rattle.slate_store.specs.Machines.{Stay, End}
use Rattle.slate_store.specs.declared.store_answer.StoreAnswer.{StoreAnswer}
use Rattle.slate_store.specs.declared.store_answer.StoreAnswer.TheVariants.{Written}
use Rattle.slate_store.specs.declared.store_call.StoreCall.{StoreCall}

-- where a call stands: what is known of its party, and how the call goes on
pub record Standing : Type 0 where
  pub facts : Facts
  pub next : Next

-- ---- how a call begins

-- a call that isn't refused at its start begins with its first work; the end of a compaction makes no store call
abbrev pub first_next : Facts → Call → Next
first_next facts (FinishCall id) = Finish Done
first_next facts (Fail id) = Finish Done
first_next facts call = Go (first_work facts call)

-- a call that is refused at its start, or goes on
abbrev pub begin_unless : Option SlateDBError → Facts → Call → Next
begin_unless (Some e) facts call = Finish (Refused e)
begin_unless None facts call = first_next facts call

-- how a call begins
abbrev pub begin : Facts → Call → Standing
begin facts call = record { facts = facts_at_start facts call; next = begin_unless (refusal_at_start facts call) facts call }

-- ---- how it goes on

-- with more work, or to its end with a reply or a refusal
abbrev pub goes_to : Facts → Work → Standing
goes_to facts work = record { facts = facts; next = Go work }

abbrev pub replies : Facts → Reply → Standing
replies facts reply = record { facts = facts; next = Finish reply }

abbrev pub refused : Facts → SlateDBError → Standing
refused facts e = replies facts (Refused e)

-- after a step of a change of the manifest
abbrev pub manifest_on : Facts → Call → List ℕ → ManifestChanging → WorkGoes Manifest → Standing
manifest_on facts call db p (Stay work) = goes_to facts (Manifests db (record p { work = work }))
manifest_on facts call db p (End work (Ok end)) = replies (facts_after call end facts) (manifest_reply call end)
manifest_on facts call db p (End work (Err e)) = refused facts e

-- of the record
abbrev pub record_on : Facts → List ℕ → RecordChanging → WorkGoes Record → Standing
record_on facts db p (Stay work) = goes_to facts (Records db (record p { work = work }))
record_on facts db p (End work (Ok end)) = replies facts (record_reply end)
record_on facts db p (End work (Err e)) = refused facts e

-- after the put of a table: it was put where the store gave its tag
abbrev pub put_on : Facts → Upload → StoreAnswer → Standing
put_on facts upload (Written tag) = replies (record facts { uploads = with_upload upload facts.uploads }) Done
put_on facts upload _ = refused facts StoreFault

-- after a step of a pass
abbrev pub pass_on : Facts → List ℕ → PassSettings → FilterWord → GcGoes → Standing
pass_on facts db settings filter (Stay phase) = goes_to facts (Pass db settings filter phase)
pass_on facts db settings filter (End phase (Ok counts)) = replies facts (reply.Pass counts.picked counts.deleted counts.failed)
pass_on facts db settings filter (End phase (Err e)) = refused facts e

-- after a step of an open of a compactor: with its end the party holds what was opened
abbrev pub open_on : Facts → List ℕ → OpenGoes → Standing
open_on facts db (Stay phase) = goes_to facts (Opening db phase)
open_on facts db (End phase (Ok compactor)) = replies (with_compactor compactor facts) (Epoch compactor.epoch)
open_on facts db (End phase (Err e)) = refused facts e

-- after a step of a compactor's call on its state, which may change what the party holds
abbrev pub state_on : Facts → List ℕ → StateGoes → Standing
state_on facts db (Stay at) = goes_to (with_compactor at.1 facts) (Compacting db at.0)
state_on facts db (End at (Ok u)) = replies (with_compactor at.1 facts) Done
state_on facts db (End at (Err e)) = refused (with_compactor at.1 facts) e

-- such a step by what the party holds; without a compactor there is none
abbrev pub compactor_on : Facts → List ℕ → ℤ → StatePhase → StoreAnswer → Option Compactor → Standing
compactor_on facts db now phase answer None = refused facts (InvalidDBState NotOpen)
compactor_on facts db now phase answer (Some compactor) = state_on facts db (state_goes now (phase, compactor) answer)

-- where a call stands after a step of its work, by the answer at a moment
abbrev pub moved : Facts → Call → Work → ℤ → StoreAnswer → Standing
moved facts call (Manifests db p) now answer = manifest_on facts call db p (work_goes ManifestLog decoded_manifest (manifest_put p.change) now p.work answer)
moved facts call (Records db p) now answer = record_on facts db p (work_goes RecordLog decoded_record (record_put p.change) now p.work answer)
moved facts call (PutTable db upload bytes) now answer = put_on facts upload answer
moved facts call (Pass db settings filter phase) now answer = pass_on facts db settings filter (gc_goes (pass_ways filter) settings now phase answer)
moved facts call (Opening db phase) now answer = open_on facts db (open_goes now phase answer)
moved facts call (Compacting db phase) now answer = compactor_on facts db now phase answer facts.compactor

-- ---- the row

-- an answer, and the moment of its step
abbrev pub Answered : Type 0
Answered = StoreAnswer × ℤ

-- where a call stands after one answer more
abbrev pub answered : Call → Facts → Next → Answered → Standing
answered call facts (Go work) a = moved facts call work a.1 a.0
answered call facts (Finish reply) a = record { facts = facts; next = Finish reply }

-- where a call stands after these answers more
abbrev pub after_answers : Call → Standing → List Answered → Standing
after_answers call standing [] = standing
after_answers call standing (a ∷ answers) = after_answers call (answered call standing.facts standing.next a) answers

-- where a call of a party with these facts stands after its answers so far
abbrev pub stands_after : Facts → Call → List Answered → Standing
stands_after facts call answers = after_answers call (begin facts call) answers

-- either the next store call, or the reply
pub data Row : Type 0 where
  Asks : StoreCall → Row
  Replies : Reply → Row

-- the row where a call stands so
abbrev pub row_of : Next → Row
row_of (Go work) = Asks (asks work)
row_of (Finish reply) = Replies reply

-- the row of a call of a party with these facts, after these answers
abbrev pub row : Facts → Call → List Answered → Row
row facts call answers = row_of (stands_after facts call answers).next
