-- A pass that ended with counts is exact, and so is each of a report.
use Rattle.std.specs.Prelude.{◌≡◌, ℕ, ℤ, true, false, List, [], ◌∷◌, ◌++◌, map, IfOk, Result, Ok, Err, refl}
use Rattle.std.proofs.Common.{ap, inl, inr, sym, subst, ◌∙◌}
use Rattle.std.proofs.lemmas.List.{append-nil}
use Rattle.slate_gc.specs.Collector.{AllRan, PassesRan, Setup}
use Rattle.slate_gc.specs.Ended.{Ended, Entry, entry_of}
use Rattle.slate_gc.specs.ExactReports.{answers_at, ExactEntry, ExactPass, ExactReport}
use Rattle.slate_gc.specs.Options.{Asked}
use Rattle.slate_gc.specs.PassTurns.{begins_again, first_turn, turn_asks, turn_goes, uses_turn, PassRan, Turn, TurnsRan}
use Rattle.slate_gc.specs.declared.stats.GcStats.{GcStats}
use Rattle.slate_gc_passes.proofs.Exactly.{exactly}
use Rattle.slate_gc_passes.specs.Exact.{deleted_along, stands_after}
use Rattle.slate_gc_passes.specs.GcPhase.{gc_asks, gc_goes, gc_start, GcGoes}
use Rattle.slate_gc_passes.specs.Ways.{Ways}
use Rattle.slate_gc_passes.specs.declared.gc_phase.GcPhase.{GcPhase}
use Rattle.slate_gc_passes.specs.declared.pass_counts.PassCounts.{PassCounts}
use Rattle.slate_gc_passes.specs.declared.pass_settings.PassSettings.{PassSettings}
use Rattle.slate_ids.specs.declared.error.SlateDBError.{SlateDBError}
use Rattle.slate_store.specs.CallRuns.{Run}
use Rattle.slate_store.specs.Machines.{Stay, End}
use Rattle.slate_store.specs.StoreCalls.{Told}
use Rattle.slate_store.specs.declared.made.Made.{Made}
use Rattle.slate_store.specs.declared.object.ObjectMetadata.{ObjectMetadata}
use Rattle.slate_txn_changes.proofs.LastTurns.{ended, last_turn}
use Rattle.slate_txn_changes.proofs.Turned.{turn_runs}
use Rattle.slate_txn_changes.specs.LastTurns.{no_conflict, LastTurn}

module _ (ways : Ways) (db : List ℕ) (settings : PassSettings) (moment : ℤ) where
  -- where a pass stands after the answers of a run
  stands : (ms : List Made) (old new : Told) (from out : GcGoes) → Run (gc_asks db settings.pass) (gc_goes ways settings moment) moment old new ms from out → stands_after ways settings from (answers_at moment ms) ≡ out
  stands [] old new from out run = sym run.0
  stands (m ∷ ms) old new (Stay p) out run = stands ms run.0 new (gc_goes ways settings moment p m.answer) out run.3
  stands (m ∷ ms) old new (End p r) out run = absurd run

  -- by its last turn
  by_last : (old new : Told) (made : List Made) (to : Turn) (counts : PassCounts)
      → LastTurn (gc_asks db settings.pass) (turn_goes ways settings moment) (gc_goes ways settings moment) (λ phase. phase ≡ gc_start) moment old new made first_turn to (Ok counts)
      → ExactPass ways db settings moment old new counts
  by_last old new made to counts last =
      let reached = subst (λ (phase : GcPhase). Run (turn_asks db settings.pass) (turn_goes ways settings moment) moment old last.mid last.earlier (Stay first_turn) (Stay (phase, last.before))) last.begins last.reached in
      let later = subst (λ (phase : GcPhase). Run (turn_asks db settings.pass) (turn_goes ways settings moment) moment last.mid new last.later (Stay (phase, last.before)) (End to (Ok counts))) last.begins last.run in
      let alone = subst (λ (phase : GcPhase). no_conflict (gc_goes ways settings moment) (Stay phase) last.later) last.begins last.alone in
      let run = turn_runs (gc_asks db settings.pass) (gc_goes ways settings moment) uses_turn begins_again moment to.0 to.1 (Ok counts) last.later last.mid new gc_start last.before later alone in
      let along = deleted_along ways settings (Stay gc_start) (answers_at moment last.later) in
      let exact = exactly ways settings (answers_at moment last.later) in
      let whole = exact.whole to.0 counts (stands last.later last.mid new (Stay gc_start) (End to.0 (Ok counts)) run) in
      record {
        mid = last.mid;
        earlier = last.earlier;
        again = last.before;
        reached = reached;
        made = last.later;
        to = to.0;
        run = run;
        deleted = sym (append-nil along) ∙ (ap (λ (rest : List ObjectMetadata). along ++ rest) (sym whole.0) ∙ exact.front);
        counted = whole.1;
      }

  by_turns : (tries : ℕ) (old new : Told) (to : Turn) (counts : PassCounts) → TurnsRan ways db settings moment tries old new to (Ok counts) → ExactPass ways db settings moment old new counts
  by_turns tries old new to counts (inl ran) =
      let asks = gc_asks db settings.pass in
      let goes = gc_goes ways settings moment in
      let turning = turn_goes ways settings moment in
      let run = ended asks turning moment tries old new first_turn to (Ok counts) ran (λ same. absurd cc) in
      by_last old new ran.made to counts
      (last_turn asks goes uses_turn begins_again (λ (phase : GcPhase). phase ≡ gc_start) (λ phase. refl) moment new to (Ok counts) ran.made old gc_start false refl run)
  by_turns tries old new to counts (inr held) = let clash : false ≡ true = held.0 in absurd cc

  by_result : (tries : ℕ) (old new : Told) (to : Turn) (result : Result PassCounts SlateDBError) → TurnsRan ways db settings moment tries old new to result → IfOk result (λ counts. ExactPass ways db settings moment old new counts)
  by_result tries old new to (Ok counts) ran = by_turns tries old new to counts ran
  by_result tries old new to (Err e) ran = tt

-- one entry
one_exact : (setup : Setup) (tries : ℕ) (a : Asked) (old new : Told) (one : Ended) → PassRan setup.ways setup.db a.0 a.1 tries old new one → ExactEntry setup a old new (entry_of one)
one_exact setup tries a old new one ran = (ran.2, by_result setup.ways setup.db a.0 a.1 tries old new ran.0 one.result ran.1)

all_exact : (setup : Setup) (tries : ℕ) (passes : List Asked) (old new : Told) (ends : List Ended) → AllRan setup tries passes old new ends → ExactReport setup passes old new (map entry_of ends)
all_exact setup tries [] old new [] ran = ran
all_exact setup tries [] old new (one ∷ ends) ran = absurd ran
all_exact setup tries (a ∷ passes) old new [] ran = absurd ran
all_exact setup tries (a ∷ passes) old new (one ∷ ends) ran = (ran.0, one_exact setup tries a old ran.0 one ran.1, all_exact setup tries passes ran.0 new ends ran.2)

-- a whole report
pub report_exact : (setup : Setup) (tries : ℕ) (passes : List Asked) (old new : Told) (before after : GcStats) (report : List Entry) → PassesRan setup tries passes old new before after report → ExactReport setup passes old new report
report_exact setup tries passes old new before after report ran =
    subst (λ (es : List Entry). ExactReport setup passes old new es) (sym ran.entries) (all_exact setup tries passes old new ran.ended ran.ran)
