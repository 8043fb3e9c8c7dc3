-- The last turn of each plain call is its row.
use Rattle.std.proofs.Common.{◌≡◌, ℕ, ℤ, Bool, true, false, List, Some, Result, Ok, Err, refl, sym, ap, ◌∙◌}
use Rattle.std.specs.Prelude.{if◌then◌else◌}
use Rattle.slate_txn_changes.specs.Latest as latest
use Rattle.slate_txn_changes.specs.LogWorks.{WorkGoes, work_asks, work_goes, work_start}
use Rattle.slate_txn_changes.specs.Turns.{turn_asks}
use Rattle.slate_txn_changes.specs.declared.log_work.LogEnd.{LogEnd}
use Rattle.slate_txn_changes.specs.declared.log_work.LogWork.{LogWork}
use Rattle.slate_gc.specs.PassTurns as passes
use Rattle.slate_state_calls.specs.Commits.{manifest_put, record_put}
use Rattle.slate_state_calls.specs.Opening.{OpenGoes, open_asks, open_goes, open_lists_again, open_start}
use Rattle.slate_state_calls.specs.StateSteps.{StateAt, StateGoes, starting, start_phase, state_goes}
use Rattle.slate_state_calls.specs.declared.compactor.Compactor.{Compactor}
use Rattle.slate_state_calls.specs.declared.open_phase.OpenPhase.{OpenPhase}
use Rattle.slate_state_calls.specs.declared.state_phase.StatePhase.{StatePhase}
use Rattle.slate_state_calls.specs.declared.state_start.StateStart.{StateStart}
use Rattle.slate_state_calls.specs.declared.state_start.StateStart.TheVariants as starts
use Rattle.slate_state_calls.specs.declared.state_start.TreesWrite.{TreesWrite}
use Rattle.slate_state_writer.specs.PlainOpening as opening
use Rattle.slate_state_writer.specs.PlainOpening.{open_turning, writer_goes}
use Rattle.slate_state_writer.specs.StateCalls as states
use Rattle.slate_state_writer.specs.StateCalls.{asks_at, state_turning}
use Rattle.slate_state_writer.specs.Writer.{Writer, held_by}
use Rattle.slate_script_events.specs.declared.call.Call.{Call}
use Rattle.slate_script_events.specs.declared.call.Call.TheVariants as calls
use Rattle.slate_script_events.specs.declared.filter_word.FilterWord.{FilterWord}
use Rattle.slate_ids.specs.declared.error.SlateDBError.{SlateDBError}
use Rattle.slate_ids.specs.declared.gc_message.GcMessage.{GcMessage}
use Rattle.slate_txn_log.specs.declared.log_kind.LogKind.TheVariants as logs
use Rattle.slate_layout_manifests.specs.Decoding.{decoded_manifest}
use Rattle.slate_model.specs.declared.manifest.Manifest.{Manifest}
use Rattle.slate_gc_passes.specs.GcPhase.{GcGoes, gc_asks, gc_goes, gc_start}
use Rattle.slate_gc_passes.specs.declared.gc_phase.GcPhase.{GcPhase}
use Rattle.slate_gc_passes.specs.declared.pass_counts.PassCounts.{PassCounts}
use Rattle.slate_gc_passes.specs.declared.pass_settings.PassSettings.{PassSettings}
use Rattle.slate_cluster_protocol.specs.Calls.{pass_settings, with_compactor}
use Rattle.slate_cluster_protocol.specs.Rows.{Standing, after_answers, begin, goes_to, manifest_on, open_on, pass_on, record_on, state_on}
use Rattle.slate_cluster_protocol.specs.Passes.{calls_made}
use Rattle.slate_cluster_protocol.specs.Works.{pass_ways}
use Rattle.slate_cluster_protocol.specs.declared.party.Facts.{Facts}
use Rattle.slate_cluster_protocol.specs.declared.work.Work.{Work}
use Rattle.slate_cluster_protocol.specs.declared.work.Work.TheVariants as works
use Rattle.slate_layout_records.specs.RecordBytes.{decoded_record}
use Rattle.slate_state_record_updates.specs.declared.record_change.RecordChange.{RecordChange}
use Rattle.slate_model_records.specs.Records.{Record}
use Rattle.slate_txn_laws.specs.Replies.{goes_as}
use Rattle.slate_store.specs.StoreCalls.{Told}
use Rattle.slate_store.specs.Machines.{Goes, Stay, End}
use Rattle.slate_store.specs.CallRuns.{Run}
use Rattle.slate_store.specs.declared.made.Made.{Made}
use Rattle.slate_cluster_twins.proofs.Rows.{row_calls, row_ends}
use Rattle.slate_txn_changes.specs.LastTurns.{no_conflict}
use Rattle.slate_txn_changes.proofs.Turned.{turn_along}
use Rattle.slate_cluster_twins.specs.Twins.{answers_at, manifest_ends, open_ends, pass_ends, record_ends, state_call, state_ends, IsRow}
use Rattle.slate_state_updates.specs.declared.manifest_change.ManifestChange.{ManifestChange}

-- a row that begins where its machine does
is_row : (facts : Facts) (call : Call) (moment : ℤ) (made : List Made) (first to : Standing) → begin facts call ≡ first → calls_made call first (answers_at moment made) ≡ made → after_answers call first (answers_at moment made) ≡ to → IsRow facts call moment made to
is_row facts call moment made first to begins calls ends = record {
  calls = ap (λ (st : Standing). calls_made call st (answers_at moment made)) begins ∙ calls;
  ends = ap (λ (st : Standing). after_answers call st (answers_at moment made)) begins ∙ ends;
}

-- ---- opens

module _ (facts : Facts) (moment : ℤ) where
  abbrev writer_on : Goes OpenPhase Writer → Standing
  writer_on (Stay phase) = goes_to facts (works.Opening facts.db phase)
  writer_on (End phase result) = open_ends facts result

  opened_on : (g : OpenGoes) → open_on facts facts.db g ≡ writer_on (goes_as (held_by facts.db) g)
  opened_on (Stay phase) = refl
  opened_on (End phase (Ok compactor)) = refl
  opened_on (End phase (Err e)) = refl

  pub open_row : (old new : Told) (made : List Made) (before after : Bool) (to : OpenPhase) (result : Result Writer SlateDBError)
      → Run (turn_asks (open_asks facts.db)) (open_turning facts.db moment) moment old new made (Stay (open_start, before)) (End (to, after) result)
      → no_conflict (writer_goes facts.db moment) (Stay open_start) made → IsRow facts calls.OpenCompactor moment made (open_ends facts result)
  open_row old new made before after to result run h =
      let along = turn_along (open_asks facts.db) (writer_goes facts.db moment) open_lists_again opening.begins_again moment to after result made old new open_start before run h in
      let work = λ (phase : OpenPhase). works.Opening facts.db phase in
      is_row facts calls.OpenCompactor moment made (writer_on (Stay open_start)) (open_ends facts result) refl
      (row_calls (open_asks facts.db) (writer_goes facts.db moment) calls.OpenCompactor moment (λ phase. facts) work writer_on (λ phase. refl) (λ phase a. opened_on (open_goes moment phase a)) (λ phase. refl) made (Stay open_start) (End to result) along)
      (row_ends (open_asks facts.db) (writer_goes facts.db moment) calls.OpenCompactor moment (λ phase. facts) work writer_on (λ phase. refl) (λ phase a. opened_on (open_goes moment phase a)) (λ phase. refl) made (Stay open_start) (End to result) along)

-- ---- the calls of a compactor on its state

module _ (facts : Facts) where
  abbrev state_ended : StateGoes → Standing
  state_ended (Stay at) = goes_to (with_compactor at.1 facts) (works.Compacting facts.db at.0)
  state_ended (End at result) = state_ends facts at.1 result

  held_on : (c : Compactor) (g : StateGoes) → state_on (with_compactor c facts) facts.db g ≡ state_ended g
  held_on c (Stay at) = refl
  held_on c (End at (Ok u)) = refl
  held_on c (End at (Err e)) = refl

  state_begins : (c : Compactor) (start : StateStart) → begin (with_compactor c facts) (state_call start) ≡ goes_to (with_compactor c facts) (works.Compacting facts.db (start_phase start c))
  state_begins c starts.Refresh = refl
  state_begins c (starts.Schedule id) = refl
  state_begins c starts.WriteRecord = refl
  state_begins c (starts.WriteTrees write) = test write.whole refl
    where
      at : TreesWrite → Standing
      at w = goes_to (with_compactor c facts) (works.Compacting facts.db (start_phase (starts.WriteTrees w) c))

      whole_is : (b : Bool) → write.whole ≡ b → at (record { checkpoint = write.checkpoint; whole = b }) ≡ at write
      whole_is b is = ap (λ (x : Bool). at (record { checkpoint = write.checkpoint; whole = x })) (sym is)

      test : (b : Bool) → write.whole ≡ b → begin (with_compactor c facts) (if b then calls.WriteState write.checkpoint else calls.WriteManifest write.checkpoint) ≡ at write
      test true is = whole_is true is
      test false is = whole_is false is

  pub state_row : (compactor held : Compactor) (start : StateStart) (moment : ℤ) (old new : Told) (made : List Made) (before after : Bool) (to : StatePhase) (result : Result (Unit {0}) SlateDBError)
      → Run (turn_asks (asks_at facts.db)) (state_turning start moment) moment old new made (Stay ((start_phase start compactor, compactor), before)) (End ((to, held), after) result)
      → no_conflict (state_goes moment) (Stay (start_phase start compactor, compactor)) made → IsRow (with_compactor compactor facts) (state_call start) moment made (state_ends facts held result)
  state_row compactor held start moment old new made before after to result run h =
      let first : StateAt = (start_phase start compactor, compactor) in
      let last : StateAt = (to, held) in
      let along = turn_along (asks_at facts.db) (state_goes moment) states.lists_again (states.begins_again start) moment last after result made old new first before run h in
      let known = λ (at : StateAt). with_compactor at.1 facts in
      let work = λ (at : StateAt). works.Compacting facts.db at.0 in
      is_row (with_compactor compactor facts) (state_call start) moment made (state_ended (Stay first)) (state_ends facts held result) (state_begins compactor start)
      (row_calls (asks_at facts.db) (state_goes moment) (state_call start) moment known work state_ended (λ at. refl) (λ at a. held_on at.1 (state_goes moment at a)) (λ at. refl) made (Stay first) (End last result) along)
      (row_ends (asks_at facts.db) (state_goes moment) (state_call start) moment known work state_ended (λ at. refl) (λ at a. held_on at.1 (state_goes moment at a)) (λ at. refl) made (Stay first) (End last result) along)

-- ---- changes

module _ (facts : Facts) (call : Call) where
  module _ (change : ManifestChange) where
    abbrev manifest_work : LogWork Manifest → Work
    manifest_work work = works.Manifests facts.db (record { change = Some change; work = work })

    abbrev manifest_ended : WorkGoes Manifest → Standing
    manifest_ended (Stay work) = goes_to facts (manifest_work work)
    manifest_ended (End work result) = manifest_ends facts call result

    changed_on : (first : LogWork Manifest) (g : WorkGoes Manifest) → manifest_on facts call facts.db (record { change = Some change; work = first }) g ≡ manifest_ended g
    changed_on first (Stay work) = refl
    changed_on first (End work (Ok end)) = refl
    changed_on first (End work (Err e)) = refl

    pub manifest_row : (moment : ℤ) (old new : Told) (made : List Made) (before after : Bool) (to : LogWork Manifest) (result : Result (LogEnd Manifest) SlateDBError) → begin facts call ≡ goes_to facts (works.Manifests facts.db (starting (Some change)))
        → Run (turn_asks (work_asks facts.db logs.Manifest)) (latest.latest_goes logs.Manifest decoded_manifest (manifest_put (Some change)) moment) moment old new made (Stay (work_start, before)) (End (to, after) result)
        → no_conflict (work_goes logs.Manifest decoded_manifest (manifest_put (Some change)) moment) (Stay work_start) made → IsRow facts call moment made (manifest_ends facts call result)
    manifest_row moment old new made before after to result begins run h =
        let goes = work_goes logs.Manifest decoded_manifest (manifest_put (Some change)) moment in
        let along = turn_along (work_asks facts.db logs.Manifest) goes latest.lists_again latest.begins_again moment to after result made old new work_start before run h in
        is_row facts call moment made (manifest_ended (Stay work_start)) (manifest_ends facts call result) begins
        (row_calls (work_asks facts.db logs.Manifest) goes call moment (λ work. facts) manifest_work manifest_ended (λ work. refl) (λ work a. changed_on work (goes work a)) (λ work. refl) made (Stay work_start) (End to result) along)
        (row_ends (work_asks facts.db logs.Manifest) goes call moment (λ work. facts) manifest_work manifest_ended (λ work. refl) (λ work a. changed_on work (goes work a)) (λ work. refl) made (Stay work_start) (End to result) along)

  module _ (change : RecordChange) where
    abbrev record_work : LogWork Record → Work
    record_work work = works.Records facts.db (record { change = Some change; work = work })

    abbrev record_ended : WorkGoes Record → Standing
    record_ended (Stay work) = goes_to facts (record_work work)
    record_ended (End work result) = record_ends facts result

    record_changed_on : (first : LogWork Record) (g : WorkGoes Record) → record_on facts facts.db (record { change = Some change; work = first }) g ≡ record_ended g
    record_changed_on first (Stay work) = refl
    record_changed_on first (End work (Ok end)) = refl
    record_changed_on first (End work (Err e)) = refl

    pub record_row : (moment : ℤ) (old new : Told) (made : List Made) (before after : Bool) (to : LogWork Record) (result : Result (LogEnd Record) SlateDBError) → begin facts call ≡ goes_to facts (works.Records facts.db (starting (Some change)))
        → Run (turn_asks (work_asks facts.db logs.Compactions)) (latest.latest_goes logs.Compactions decoded_record (record_put (Some change)) moment) moment old new made (Stay (work_start, before)) (End (to, after) result)
        → no_conflict (work_goes logs.Compactions decoded_record (record_put (Some change)) moment) (Stay work_start) made → IsRow facts call moment made (record_ends facts result)
    record_row moment old new made before after to result begins run h =
        let goes = work_goes logs.Compactions decoded_record (record_put (Some change)) moment in
        let along = turn_along (work_asks facts.db logs.Compactions) goes latest.lists_again latest.begins_again moment to after result made old new work_start before run h in
        is_row facts call moment made (record_ended (Stay work_start)) (record_ends facts result) begins
        (row_calls (work_asks facts.db logs.Compactions) goes call moment (λ work. facts) record_work record_ended (λ work. refl) (λ work a. record_changed_on work (goes work a)) (λ work. refl) made (Stay work_start) (End to result) along)
        (row_ends (work_asks facts.db logs.Compactions) goes call moment (λ work. facts) record_work record_ended (λ work. refl) (λ work a. record_changed_on work (goes work a)) (λ work. refl) made (Stay work_start) (End to result) along)

-- ---- passes

module _ (facts : Facts) (pass : GcMessage) (min_age : ℕ) (dry_run : Bool) (filter : FilterWord) where
  abbrev settings : PassSettings
  settings = pass_settings pass min_age dry_run

  abbrev call : Call
  call = calls.Pass pass min_age dry_run filter

  abbrev pass_work : GcPhase → Work
  pass_work phase = works.Pass facts.db settings filter phase

  abbrev pass_ended : GcGoes → Standing
  pass_ended (Stay phase) = goes_to facts (pass_work phase)
  pass_ended (End phase result) = pass_ends facts result

  collected_on : (g : GcGoes) → pass_on facts facts.db settings filter g ≡ pass_ended g
  collected_on (Stay phase) = refl
  collected_on (End phase (Ok counts)) = refl
  collected_on (End phase (Err e)) = refl

  pub pass_row : (moment : ℤ) (old new : Told) (made : List Made) (before after : Bool) (to : GcPhase) (result : Result PassCounts SlateDBError)
      → Run (passes.turn_asks facts.db pass) (passes.turn_goes (pass_ways filter) settings moment) moment old new made (Stay (gc_start, before)) (End (to, after) result)
      → no_conflict (gc_goes (pass_ways filter) settings moment) (Stay gc_start) made → IsRow facts call moment made (pass_ends facts result)
  pass_row moment old new made before after to result run h =
      let asks = gc_asks facts.db pass in
      let goes = gc_goes (pass_ways filter) settings moment in
      let along = turn_along asks goes passes.uses_turn passes.begins_again moment to after result made old new gc_start before run h in
      is_row facts call moment made (pass_ended (Stay gc_start)) (pass_ends facts result) refl
      (row_calls asks goes call moment (λ phase. facts) pass_work pass_ended (λ phase. refl) (λ phase a. collected_on (goes phase a)) (λ phase. refl) made (Stay gc_start) (End to result) along)
      (row_ends asks goes call moment (λ phase. facts) pass_work pass_ended (λ phase. refl) (λ phase a. collected_on (goes phase a)) (λ phase. refl) made (Stay gc_start) (End to result) along)
