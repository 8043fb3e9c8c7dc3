-- Each plain call that ended has a last turn, and that is its row.
use Rattle.std.proofs.Common.{◌≡◌, ℕ, ℤ, Bool, false, Some, Result, refl, subst}
use Rattle.slate_txn_changes.specs.Latest as latest
use Rattle.slate_txn_changes.specs.LogWorks.{work_asks, work_goes, work_start}
use Rattle.slate_txn_changes.specs.Turns.{Turn, is_turned, turn_asks}
use Rattle.slate_txn_changes.specs.declared.log_work.LogEnd.{LogEnd}
use Rattle.slate_txn_changes.specs.declared.log_work.LogWork.{LogWork}
use Rattle.slate_gc.specs.PassTurns as passes
use Rattle.slate_state_calls.specs.Commits.{manifest_put, record_put}
use Rattle.slate_state_calls.specs.Opening.{open_asks, open_lists_again, open_start}
use Rattle.slate_state_calls.specs.StateSteps.{StateAt, starting, start_phase, state_goes}
use Rattle.slate_state_calls.specs.declared.compactor.Compactor.{Compactor}
use Rattle.slate_state_calls.specs.declared.open_phase.OpenPhase.{OpenPhase}
use Rattle.slate_state_calls.specs.declared.state_phase.StatePhase.{StatePhase}
use Rattle.slate_state_calls.specs.declared.state_start.StateStart.{StateStart}
use Rattle.slate_state_writer.specs.PlainOpening as opening
use Rattle.slate_state_writer.specs.PlainOpening.{OpenRan, open_turning, writer_goes}
use Rattle.slate_state_writer.specs.StateCalls as states
use Rattle.slate_state_writer.specs.StateCalls.{StateRan, asks_at, state_turning}
use Rattle.slate_state_writer.specs.Writer.{Writer}
use Rattle.slate_script_events.specs.declared.call.Call.{Call}
use Rattle.slate_script_events.specs.declared.call.Call.TheVariants as calls
use Rattle.slate_script_events.specs.declared.filter_word.FilterWord.{FilterWord}
use Rattle.slate_ids.specs.declared.error.SlateDBError.{SlateDBError}
use Rattle.slate_ids.specs.declared.gc_message.GcMessage.{GcMessage}
use Rattle.slate_txn_log.specs.declared.log_kind.LogKind.TheVariants as logs
use Rattle.slate_layout_manifests.specs.Decoding.{decoded_manifest}
use Rattle.slate_model.specs.declared.manifest.Manifest.{Manifest}
use Rattle.slate_gc_passes.specs.GcPhase.{gc_asks, gc_goes, gc_start}
use Rattle.slate_gc_passes.specs.declared.gc_phase.GcPhase.{GcPhase}
use Rattle.slate_gc_passes.specs.declared.pass_counts.PassCounts.{PassCounts}
use Rattle.slate_cluster_protocol.specs.Calls.{pass_settings, with_compactor}
use Rattle.slate_cluster_protocol.specs.Rows.{begin, goes_to}
use Rattle.slate_cluster_protocol.specs.Works.{pass_ways}
use Rattle.slate_cluster_protocol.specs.declared.party.Facts.{Facts}
use Rattle.slate_cluster_protocol.specs.declared.work.Work.TheVariants as works
use Rattle.slate_layout_records.specs.RecordBytes.{decoded_record}
use Rattle.slate_state_record_updates.specs.declared.record_change.RecordChange.{RecordChange}
use Rattle.slate_model_records.specs.Records.{Record}
use Rattle.slate_store.specs.StoreCalls.{Told}
use Rattle.slate_store.specs.Machines.{Stay, End}
use Rattle.slate_store.specs.CallRuns.{Ran, Run}
use Rattle.slate_txn_changes.specs.LastTurns.{HasEnded, LastTurn, no_conflict}
use Rattle.slate_txn_changes.proofs.LastTurns.{ended, last_turn}
use Rattle.slate_cluster_twins.proofs.TurnRows.{manifest_row, open_row, pass_row, record_row, state_row}
use Rattle.slate_cluster_twins.specs.Twins.{IsRow, manifest_ends, open_ends, pass_ends, record_ends, state_call, state_ends}
use Rattle.slate_state_updates.specs.declared.manifest_change.ManifestChange.{ManifestChange}

pub open_twin : (facts : Facts) (moment : ℤ) (tries : ℕ) (old new : Told) (result : Result Writer SlateDBError) → (ran : OpenRan facts.db moment tries old new result) → HasEnded result
    → (last : LastTurn (open_asks facts.db) (open_turning facts.db moment) (writer_goes facts.db moment) (λ phase. phase ≡ open_start) moment old new ran.1.made opening.first_turn ran.0 result) × IsRow facts calls.OpenCompactor moment last.later (open_ends facts result)
open_twin facts moment tries old new result ran over =
    let asks = open_asks facts.db in
    let goes = writer_goes facts.db moment in
    let run = ended asks (open_turning facts.db moment) moment tries old new opening.first_turn ran.0 result ran.1 over in
    let last = last_turn asks goes open_lists_again opening.begins_again (λ (phase : OpenPhase). phase ≡ open_start) (λ phase. refl) moment new ran.0 result ran.1.made old open_start false refl run in
    let here = subst (λ (phase : OpenPhase). Run (turn_asks asks) (open_turning facts.db moment) moment last.mid new last.later (Stay (phase, last.before)) (End ran.0 result)) last.begins last.run in
    let alone = subst (λ (phase : OpenPhase). no_conflict goes (Stay phase) last.later) last.begins last.alone in
    (last, open_row facts moment last.mid new last.later last.before ran.0.1 ran.0.0 result here alone)

pub state_twin : (facts : Facts) (compactor held : Compactor) (start : StateStart) (moment : ℤ) (tries : ℕ) (old new : Told) (result : Result (Unit {0}) SlateDBError) → (ran : StateRan facts.db start moment tries old new compactor held result) → HasEnded result
    → (last : LastTurn (asks_at facts.db) (state_turning start moment) (state_goes moment) (λ at. at.0 ≡ start_phase start at.1) moment old new ran.2.made (states.first_turn start compactor) ((ran.0, held), ran.1) result)
    × IsRow (with_compactor last.start.1 facts) (state_call start) moment last.later (state_ends facts held result)
state_twin facts compactor held start moment tries old new result ran over =
    let asks = asks_at facts.db in
    let to : Turn StateAt = ((ran.0, held), ran.1) in
    let run = ended asks (state_turning start moment) moment tries old new (states.first_turn start compactor) to result ran.2 over in
    let last = last_turn asks (state_goes moment) states.lists_again (states.begins_again start) (λ (at : StateAt). at.0 ≡ start_phase start at.1) (λ at. refl) moment new to result ran.2.made old (start_phase start compactor, compactor) false refl run in
    let here = subst (λ (phase : StatePhase). Run (turn_asks asks) (state_turning start moment) moment last.mid new last.later (Stay ((phase, last.start.1), last.before)) (End to result)) last.begins last.run in
    let alone = subst (λ (phase : StatePhase). no_conflict (state_goes moment) (Stay (phase, last.start.1)) last.later) last.begins last.alone in
    (last, state_row facts last.start.1 held start moment last.mid new last.later last.before ran.1 ran.0 result here alone)

pub manifest_twin : (facts : Facts) (call : Call) (change : ManifestChange) (moment : ℤ) (tries : ℕ) (old new : Told) (result : Result (LogEnd Manifest) SlateDBError) → begin facts call ≡ goes_to facts (works.Manifests facts.db (starting (Some change)))
    → (ran : latest.ChangeRan facts.db logs.Manifest decoded_manifest (manifest_put (Some change)) moment tries old new result) → HasEnded result
    → (last : LastTurn (work_asks facts.db logs.Manifest) (latest.latest_goes logs.Manifest decoded_manifest (manifest_put (Some change)) moment) (work_goes logs.Manifest decoded_manifest (manifest_put (Some change)) moment) (λ work. work ≡ work_start) moment old new ran.1.made latest.first_turn ran.0 result)
    × IsRow facts call moment last.later (manifest_ends facts call result)
manifest_twin facts call change moment tries old new result begins ran over =
    let asks = work_asks facts.db logs.Manifest in
    let goes = work_goes logs.Manifest decoded_manifest (manifest_put (Some change)) moment in
    let turning = latest.latest_goes logs.Manifest decoded_manifest (manifest_put (Some change)) moment in
    let run = ended asks turning moment tries old new latest.first_turn ran.0 result ran.1 over in
    let last = last_turn asks goes latest.lists_again latest.begins_again (λ (work : LogWork Manifest). work ≡ work_start) (λ work. refl) moment new ran.0 result ran.1.made old work_start false refl run in
    let here = subst (λ (work : LogWork Manifest). Run (turn_asks asks) turning moment last.mid new last.later (Stay (work, last.before)) (End ran.0 result)) last.begins last.run in
    let alone = subst (λ (work : LogWork Manifest). no_conflict goes (Stay work) last.later) last.begins last.alone in
    (last, manifest_row facts call change moment last.mid new last.later last.before ran.0.1 ran.0.0 result begins here alone)

pub record_twin : (facts : Facts) (call : Call) (change : RecordChange) (moment : ℤ) (tries : ℕ) (old new : Told) (result : Result (LogEnd Record) SlateDBError) → begin facts call ≡ goes_to facts (works.Records facts.db (starting (Some change)))
    → (ran : latest.ChangeRan facts.db logs.Compactions decoded_record (record_put (Some change)) moment tries old new result) → HasEnded result
    → (last : LastTurn (work_asks facts.db logs.Compactions) (latest.latest_goes logs.Compactions decoded_record (record_put (Some change)) moment) (work_goes logs.Compactions decoded_record (record_put (Some change)) moment) (λ work. work ≡ work_start) moment old new ran.1.made latest.first_turn ran.0 result)
    × IsRow facts call moment last.later (record_ends facts result)
record_twin facts call change moment tries old new result begins ran over =
    let asks = work_asks facts.db logs.Compactions in
    let goes = work_goes logs.Compactions decoded_record (record_put (Some change)) moment in
    let turning = latest.latest_goes logs.Compactions decoded_record (record_put (Some change)) moment in
    let run = ended asks turning moment tries old new latest.first_turn ran.0 result ran.1 over in
    let last = last_turn asks goes latest.lists_again latest.begins_again (λ (work : LogWork Record). work ≡ work_start) (λ work. refl) moment new ran.0 result ran.1.made old work_start false refl run in
    let here = subst (λ (work : LogWork Record). Run (turn_asks asks) turning moment last.mid new last.later (Stay (work, last.before)) (End ran.0 result)) last.begins last.run in
    let alone = subst (λ (work : LogWork Record). no_conflict goes (Stay work) last.later) last.begins last.alone in
    (last, record_row facts call change moment last.mid new last.later last.before ran.0.1 ran.0.0 result begins here alone)

pub pass_twin : (facts : Facts) (pass : GcMessage) (min_age : ℕ) (dry_run : Bool) (filter : FilterWord) (moment : ℤ) (tries : ℕ) (old new : Told) (to : Turn GcPhase) (result : Result PassCounts SlateDBError)
    → (ran : Ran is_turned (passes.turn_asks facts.db pass) (passes.turn_goes (pass_ways filter) (pass_settings pass min_age dry_run) moment) moment tries old new passes.first_turn to result) → HasEnded result
    → (last : LastTurn (gc_asks facts.db pass) (passes.turn_goes (pass_ways filter) (pass_settings pass min_age dry_run) moment) (gc_goes (pass_ways filter) (pass_settings pass min_age dry_run) moment) (λ phase. phase ≡ gc_start) moment old new ran.made passes.first_turn to result)
    × IsRow facts (calls.Pass pass min_age dry_run filter) moment last.later (pass_ends facts result)
pass_twin facts pass min_age dry_run filter moment tries old new to result ran over =
    let asks = gc_asks facts.db pass in
    let goes = gc_goes (pass_ways filter) (pass_settings pass min_age dry_run) moment in
    let turning = passes.turn_goes (pass_ways filter) (pass_settings pass min_age dry_run) moment in
    let run = ended asks turning moment tries old new passes.first_turn to result ran over in
    let last = last_turn asks goes passes.uses_turn passes.begins_again (λ (phase : GcPhase). phase ≡ gc_start) (λ phase. refl) moment new to result ran.made old gc_start false refl run in
    let here = subst (λ (phase : GcPhase). Run (turn_asks asks) turning moment last.mid new last.later (Stay (phase, last.before)) (End to result)) last.begins last.run in
    let alone = subst (λ (phase : GcPhase). no_conflict goes (Stay phase) last.later) last.begins last.alone in
    (last, pass_row facts pass min_age dry_run filter moment last.mid new last.later last.before to.1 to.0 result here alone)
