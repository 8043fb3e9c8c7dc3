-- What the facts of a party keep: its number, kind and database stay, whatever its call does.
use Rattle.std.proofs.Common.{◌≡◌, ℕ, ℤ, List, Option, Some, None, Ok, Err, refl}
use Rattle.slate_txn_changes.specs.LogWorks.{WorkGoes, work_goes}
use Rattle.slate_txn_changes.specs.declared.log_work.LogEnd.{LogEnd}
use Rattle.slate_txn_changes.specs.declared.log_work.LogEnd.TheVariants.{Absent, Unchanged, Committed}
use Rattle.slate_state_compactor.specs.Local.{finished, failed}
use Rattle.slate_state_compactor.specs.declared.local_state.LocalState.{LocalState}
use Rattle.slate_state_calls.specs.Commits.{ManifestChanging, RecordChanging, manifest_put, record_put}
use Rattle.slate_state_calls.specs.Opening.{OpenGoes, open_goes}
use Rattle.slate_state_calls.specs.StateSteps.{StateGoes, state_goes}
use Rattle.slate_state_calls.specs.declared.compactor.Compactor.{Compactor}
use Rattle.slate_state_calls.specs.declared.state_phase.StatePhase.{StatePhase}
use Rattle.slate_script_events.specs.declared.call.Call.{Call}
use Rattle.slate_script_events.specs.declared.call.Call.TheVariants.{OpenWriter, Finish as FinishCall, Fail}
use Rattle.slate_script_events.specs.declared.filter_word.FilterWord.{FilterWord}
use Rattle.slate_txn_log.specs.declared.log_kind.LogKind.TheVariants as logs
use Rattle.slate_layout_manifests.specs.Decoding.{decoded_manifest}
use Rattle.slate_model.specs.declared.manifest.Manifest.{Manifest}
use Rattle.slate_gc_passes.specs.GcPhase.{GcGoes, gc_goes}
use Rattle.slate_gc_passes.specs.declared.pass_settings.PassSettings.{PassSettings}
use Rattle.slate_cluster_protocol.specs.Calls.{end_of, facts_after, facts_at_start, facts_with, with_held}
use Rattle.slate_cluster_protocol.specs.Rows.{compactor_on, manifest_on, moved, open_on, pass_on, put_on, record_on, state_on}
use Rattle.slate_cluster_protocol.specs.Works.{pass_ways}
use Rattle.slate_cluster_protocol.specs.declared.party.Facts.{Facts}
use Rattle.slate_cluster_protocol.specs.declared.uploads.Upload.{Upload}
use Rattle.slate_cluster_protocol.specs.declared.work.Work.{Work}
use Rattle.slate_cluster_protocol.specs.declared.work.Work.TheVariants as works
use Rattle.slate_layout_records.specs.RecordBytes.{decoded_record}
use Rattle.slate_model_records.specs.Records.{Record}
use Rattle.slate_store.specs.Machines.{Stay, End}
use Rattle.slate_store.specs.declared.store_answer.StoreAnswer.{StoreAnswer}
use Rattle.slate_store.specs.declared.store_answer.StoreAnswer.TheVariants.{Written}

-- facts of one party
pub record SameParty (old new : Facts) : Type 0 where
  pub kind : new.kind ≡ old.kind
  pub db : new.db ≡ old.db

same : (facts : Facts) → SameParty facts facts
same facts = record { kind = refl; db = refl }

-- ---- at a start

held_same : (o : Option LocalState) (facts : Facts) → SameParty facts (with_held o facts)
held_same None facts = same facts
held_same (Some local) facts = record { kind = refl; db = refl }

pub starts_same : (facts : Facts) (call : Call) → SameParty facts (facts_at_start facts call)
starts_same facts (FinishCall id) = held_same (end_of (finished id) facts.compactor) facts
starts_same facts (Fail id) = held_same (end_of (failed id) facts.compactor) facts
starts_same facts _ = same facts

-- ---- at a step

with_same : (call : Call) (m : Manifest) (facts : Facts) → SameParty facts (facts_with call m facts)
with_same OpenWriter m facts = record { kind = refl; db = refl }
with_same _ m facts = same facts

after_same : (call : Call) (end : LogEnd Manifest) (facts : Facts) → SameParty facts (facts_after call end facts)
after_same call Absent facts = same facts
after_same call (Unchanged n m) facts = same facts
after_same call (Committed n m) facts = with_same call m facts

manifest_same : (facts : Facts) (call : Call) (db : List ℕ) (p : ManifestChanging) (g : WorkGoes Manifest) → SameParty facts (manifest_on facts call db p g).facts
manifest_same facts call db p (Stay work) = same facts
manifest_same facts call db p (End work (Ok end)) = after_same call end facts
manifest_same facts call db p (End work (Err e)) = same facts

record_same : (facts : Facts) (db : List ℕ) (p : RecordChanging) (g : WorkGoes Record) → SameParty facts (record_on facts db p g).facts
record_same facts db p (Stay work) = same facts
record_same facts db p (End work (Ok end)) = same facts
record_same facts db p (End work (Err e)) = same facts

put_same : (facts : Facts) (upload : Upload) (answer : StoreAnswer) → SameParty facts (put_on facts upload answer).facts
put_same facts upload (Written tag) = record { kind = refl; db = refl }
put_same facts upload _ = same facts

pass_same : (facts : Facts) (db : List ℕ) (settings : PassSettings) (filter : FilterWord) (g : GcGoes) → SameParty facts (pass_on facts db settings filter g).facts
pass_same facts db settings filter (Stay phase) = same facts
pass_same facts db settings filter (End phase (Ok counts)) = same facts
pass_same facts db settings filter (End phase (Err e)) = same facts

open_same : (facts : Facts) (db : List ℕ) (g : OpenGoes) → SameParty facts (open_on facts db g).facts
open_same facts db (Stay phase) = same facts
open_same facts db (End phase (Ok compactor)) = record { kind = refl; db = refl }
open_same facts db (End phase (Err e)) = same facts

state_same : (facts : Facts) (db : List ℕ) (g : StateGoes) → SameParty facts (state_on facts db g).facts
state_same facts db (Stay at) = record { kind = refl; db = refl }
state_same facts db (End at (Ok u)) = record { kind = refl; db = refl }
state_same facts db (End at (Err e)) = record { kind = refl; db = refl }

compactor_same : (facts : Facts) (db : List ℕ) (now : ℤ) (phase : StatePhase) (answer : StoreAnswer) (o : Option Compactor) → SameParty facts (compactor_on facts db now phase answer o).facts
compactor_same facts db now phase answer None = same facts
compactor_same facts db now phase answer (Some c) = state_same facts db (state_goes now (phase, c) answer)

pub moved_same : (facts : Facts) (call : Call) (work : Work) (now : ℤ) (answer : StoreAnswer) → SameParty facts (moved facts call work now answer).facts
moved_same facts call (works.Manifests db p) now answer = manifest_same facts call db p (work_goes logs.Manifest decoded_manifest (manifest_put p.change) now p.work answer)
moved_same facts call (works.Records db p) now answer = record_same facts db p (work_goes logs.Compactions decoded_record (record_put p.change) now p.work answer)
moved_same facts call (works.PutTable db upload bytes) now answer = put_same facts upload answer
moved_same facts call (works.Pass db settings filter phase) now answer = pass_same facts db settings filter (gc_goes (pass_ways filter) settings now phase answer)
moved_same facts call (works.Opening db phase) now answer = open_same facts db (open_goes now phase answer)
moved_same facts call (works.Compacting db phase) now answer = compactor_same facts db now phase answer facts.compactor
