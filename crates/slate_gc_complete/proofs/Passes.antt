-- Passes, and whole reports, over a store that serves them.
use Rattle.std.proofs.Common.{◌≡◌, ℕ, ℤ, ◌<◌, ◌≤◌, Bool, false, true, cond, List, [], ◌∷◌, filter, map, Option, Some, None, IfSome, Result, inl, inr, refl, sym, ap, ◌∙◌, subst, arith}
use Rattle.slate_gc.specs.Collector.{AllRan, PassesRan, Setup}
use Rattle.slate_gc.specs.Ended.{Ended, Entry, entry_of}
use Rattle.slate_gc.specs.Options.{Asked}
use Rattle.slate_gc.specs.GcPass.{layout_ways}
use Rattle.slate_gc.specs.PassTurns.{begins_again, first_turn, is_turned, stages_left, turn_asks, turn_goes, uses_turn, PassRan, Turn, TurnsRan}
use Rattle.slate_gc.specs.declared.stats.GcStats.{GcStats}
use Rattle.slate_gc_complete.proofs.PassSteps.{EndsSo, GcAt, GcLeads, all_ready, steps}
use Rattle.slate_gc_complete.specs.PassEnds.{IsAmong, LeavesBoth, PassEnds, PicksListed, PicksOfListed, PlainWays}
use Rattle.slate_gc_complete.specs.ReportEnds.{ReportEnds}
use Rattle.slate_gc_passes.specs.GcPhase.{gc_asks, gc_goes, gc_start, GcGoes}
use Rattle.slate_gc_passes.specs.Ways.{Ways}
use Rattle.slate_gc_passes.specs.declared.gc_phase.GcPhase.{GcPhase}
use Rattle.slate_gc_passes.specs.declared.pass_counts.PassCounts.{PassCounts}
use Rattle.slate_gc_passes.specs.declared.pass_settings.PassSettings.{PassSettings}
use Rattle.slate_gc_picks.specs.Filter.{allowed, is_one_of}
use Rattle.slate_gc_picks.specs.WalFiles.{is_collected}
use Rattle.slate_gc_picks.specs.WalPicks.{wal_candidates}
use Rattle.slate_gc_picks.specs.declared.wal_gc.WalGcMode.TheVariants.{Regular}
use Rattle.slate_ids.specs.Ids.{is_db_path}
use Rattle.slate_ids.specs.declared.error.SlateDBError.{SlateDBError}
use Rattle.slate_ids.specs.declared.number_range.NumberRange.{NumberRange}
use Rattle.slate_store.specs.Machines.{Stay, End}
use Rattle.slate_store.specs.Store.{Store, whole}
use Rattle.slate_store.specs.StoreCalls.{Told, Rose, moment_of}
use Rattle.slate_store.specs.declared.object.ObjectMetadata.{ObjectMetadata}
use Rattle.slate_txn_changes_laws.proofs.Served.{LeadsOn, call_later, turns_began, turns_served}
use Rattle.slate_txn_changes_laws.specs.BothLogs.{AreReady}
use Rattle.slate_txn_laws.proofs.Turns.{rose_after, rose_before}
use Rattle.slate_txn_laws.specs.Serving.{Serves}

module _ (ways : Ways) (plain : PlainWays ways) (db : List ℕ) (named : is_db_path db ≡ true) (settings : PassSettings) (moment : ℤ) (s : Store) (ready : AreReady db s) where
  abbrev At : Store → GcPhase → Type 0
  At = GcAt ways plain db named settings moment s ready

  abbrev So : Store → Result PassCounts SlateDBError → Type 0
  So = EndsSo ways plain db named settings moment s ready

  leads : (p : GcPhase) (t : Store) (g : GcGoes) → GcLeads ways plain db named settings moment s ready (stages_left p) t g → LeadsOn (gc_asks db settings.pass) (gc_goes ways settings moment) uses_turn begins_again moment At So p t g
  leads p t (Stay q) h = h
  leads p t (End q r) h = (h.0, h)

  steps_on : (t : Store) (p : GcPhase) → At t p → LeadsOn (gc_asks db settings.pass) (gc_goes ways settings moment) uses_turn begins_again moment At So p
      (whole (gc_asks db settings.pass p) (moment_of (gc_asks db settings.pass p) moment) t).store
      (gc_goes ways settings moment p (whole (gc_asks db settings.pass p) (moment_of (gc_asks db settings.pass p) moment) t).answer)
  steps_on t p h = leads p _ _ (steps ways plain db named settings moment s ready t p h)

  pub turns_end : (tries : ℕ) (old new : Told) (to : Turn) (result : Result PassCounts SlateDBError) → TurnsRan ways db settings moment tries old new to result → 0 < tries → Serves old new s → PassEnds ways db moment new result
  turns_end tries old new to result (inl ran) some serves =
      let end = turns_served (gc_asks db settings.pass) (gc_goes ways settings moment) uses_turn begins_again moment At So
      steps_on tries old new s gc_start false to result ran some serves (refl, tt) in
      inl (record { left = end.left; contents = end.contents; answers = end.ends.1; inside = end.ends.0 })
  turns_end tries old new to result (inr held) some serves = inr held.0

  pub turns_leave : (tries : ℕ) (old new : Told) (to : Turn) (result : Result PassCounts SlateDBError) → TurnsRan ways db settings moment tries old new to result → 0 < tries → Serves old new s → PicksListed ways → LeavesBoth db new
  turns_leave tries old new to result (inl ran) some serves given =
      let end = turns_served (gc_asks db settings.pass) (gc_goes ways settings moment) uses_turn begins_again moment At So
      steps_on tries old new s gc_start false to result ran some serves (refl, tt) in
      record { left = end.left; contents = end.contents; ready = end.ends.2 given }
  turns_leave tries old new to result (inr held) some serves given =
      let stands = turns_began (gc_asks db settings.pass) (gc_goes ways settings moment) uses_turn begins_again moment At So
      steps_on tries old new s gc_start false to held.1 serves (refl, tt) in
      record { left = stands.left; contents = stands.contents; ready = all_ready ways plain db named settings moment s ready stands.left to.0 given stands.stands }

pub pass_ends : (ways : Ways) → PlainWays ways → (db : List ℕ) → is_db_path db ≡ true → (settings : PassSettings) (moment : ℤ) (tries : ℕ) → 0 < tries → (old new : Told) (ended : Ended) → PassRan ways db settings moment tries old new ended
    → (s : Store) → Serves old new s → AreReady db s → PassEnds ways db moment new ended.result
pass_ends ways plain db named settings moment tries some old new ended ran s serves ready = turns_end ways plain db named settings moment s ready tries old new ran.0 ended.result ran.1 some serves

pub pass_leaves : (ways : Ways) → PlainWays ways → PicksListed ways → (db : List ℕ) → is_db_path db ≡ true → (settings : PassSettings) (moment : ℤ) (tries : ℕ) → 0 < tries → (old new : Told) (ended : Ended) → PassRan ways db settings moment tries old new ended
    → (s : Store) → Serves old new s → AreReady db s → LeavesBoth db new
pass_leaves ways plain given db named settings moment tries some old new ended ran s serves ready = turns_leave ways plain db named settings moment s ready tries old new ran.0 ended.result ran.1 some serves given

-- a pass never lets the count of faults fall
pass_later : (ways : Ways) (db : List ℕ) (settings : PassSettings) (moment : ℤ) (tries : ℕ) (old new : Told) (ended : Ended) → PassRan ways db settings moment tries old new ended → old.faults ≤ new.faults
pass_later ways db settings moment tries old new ended ran = call_later is_turned (turn_asks db settings.pass) (turn_goes ways settings moment) moment tries old new first_turn ran.0 ended.result ran.1

module _ (setup : Setup) (plain : PlainWays setup.ways) (given : PicksListed setup.ways) (named : is_db_path setup.db ≡ true) (tries : ℕ) (some : 0 < tries) where
  all_later : (passes : List Asked) (old new : Told) (ends : List Ended) → AllRan setup tries passes old new ends → old.faults ≤ new.faults
  all_later [] old new [] ran = subst (λ (t : Told). old.faults ≤ t.faults) (sym ran) (omega arith)
  all_later [] old new (one ∷ ends) ran = absurd ran
  all_later (a ∷ passes) old new [] ran = absurd ran
  all_later (a ∷ passes) old new (one ∷ ends) ran =
      let first = pass_later setup.ways setup.db a.0 a.1 tries old ran.0 one ran.1 in
      let rest = all_later passes ran.0 new ends ran.2 in
      omega (arith, first, rest)

  all_end : (passes : List Asked) (old new : Told) (ends : List Ended) → AllRan setup tries passes old new ends → (s : Store) → Serves old new s → AreReady setup.db s → ReportEnds setup passes old new (map entry_of ends)
  all_end [] old new [] ran s serves ready = record { entries = ran; leaves = record { left = s; contents = ap (λ (t : Told). t.contents) ran ∙ serves.contents; ready = ready } }
  all_end [] old new (one ∷ ends) ran s serves ready = absurd ran
  all_end (a ∷ passes) old new [] ran s serves ready = absurd ran
  all_end (a ∷ passes) old new (one ∷ ends) ran s serves ready =
      let first : Serves old ran.0 s = record { contents = serves.contents; calm = λ (r : Rose old.faults ran.0.faults). serves.calm (rose_after old.faults ran.0.faults new.faults r (all_later passes ran.0 new ends ran.2)) } in
      let leaves = pass_leaves setup.ways plain given setup.db named a.0 a.1 tries some old ran.0 one ran.1 s first ready in
      let served : Serves ran.0 new leaves.left = record { contents = leaves.contents; calm = λ (r : Rose ran.0.faults new.faults). serves.calm (rose_before old.faults ran.0.faults new.faults (pass_later setup.ways setup.db a.0 a.1 tries old ran.0 one ran.1) r) } in
      let rest = all_end passes ran.0 new ends ran.2 leaves.left served leaves.ready in
      record { entries = (ran.0, pass_ends setup.ways plain setup.db named a.0 a.1 tries some old ran.0 one ran.1 s first ready, rest.entries); leaves = rest.leaves }

  pub report_ends : (passes : List Asked) (old new : Told) (before after : GcStats) (report : List Entry) → PassesRan setup tries passes old new before after report → (s : Store) → Serves old new s → AreReady setup.db s → ReportEnds setup passes old new report
  report_ends passes old new before after report ran s serves ready =
      subst (λ (es : List Entry). ReportEnds setup passes old new es) (sym ran.entries) (all_end passes old new ran.ended ran.ran s serves ready)

-- ---- the filter and the picker of a collector

among_kept : (test : ObjectMetadata → Bool) (ms : List ObjectMetadata) (m : ObjectMetadata) → IsAmong m (filter test ms) → IsAmong m ms
among_kept test [] m among = absurd among
among_kept test (o ∷ ms) m among = by_test (test o) among (among_kept test ms m)
  where
    by_test : (b : Bool) → IsAmong m (cond b (o ∷ filter test ms) (filter test ms)) → (IsAmong m (filter test ms) → IsAmong m ms) → IsAmong m (o ∷ ms)
    by_test true (inl same) rest = inl same
    by_test true (inr later) rest = inr (rest later)
    by_test false later rest = inr (rest later)

pub collector_picks : {F W : Type 0} (returns : F → List ObjectMetadata → List ObjectMetadata) (picks : W → List NumberRange → List ObjectMetadata → ℕ → ℤ → List ObjectMetadata) (filter : Option F) (wal : Option W)
    → IfSome wal (λ w. PicksOfListed (picks w))
    → PicksListed (layout_ways (allowed returns filter) (wal_candidates picks wal))
collector_picks returns picks by wal fair = record { allows = allows by; files = files wal fair }
  where
    allows : (by : Option _) (candidates : List ObjectMetadata) (m : ObjectMetadata) → IsAmong m (allowed returns by candidates) → IsAmong m candidates
    allows None candidates m among = among
    allows (Some f) candidates m among = among_kept (is_one_of (returns f candidates)) candidates m among

    files : (wal : Option _) → IfSome wal (λ w. PicksOfListed (picks w)) → PicksOfListed (wal_candidates picks wal)
    files None fair ranges found min_age now m among = among_kept (is_collected Regular ranges min_age now) found m among
    files (Some w) fair ranges found min_age now m among = fair ranges found min_age now m among
