use Rattle.std.proofs.Common.{ap, arith, inl, of_z, option_copied, refl, subst, sym, to_z, true, false, w64, Bool, ◌≡◌, ◌∙◌}
use Rattle.std.proofs.lemmas.Int.{to_z-of_z}
use Rattle.slate_gc.proofs.Stages.{used_none, used_turn}
use Rattle.slate_gc.specs.GcPass.{layout_ways}
use Rattle.slate_gc.specs.PassTurns.{Turn, TurnsRan, deleted_by, first_turn, is_turned, turn_asks, turn_goes}
use Rattle.slate_ids.specs.declared.error.SlateDBError.{SlateDBError}
use Rattle.slate_gc_passes.specs.GcPhase.{gc_due}
use Rattle.slate_gc_passes.specs.declared.gc_phase.GcPhase.{GcPhase}
use Rattle.slate_gc_passes.specs.declared.pass_counts.PassCounts.{PassCounts}
use Rattle.slate_gc_picks.specs.Filter.{allowed}
use Rattle.slate_gc_picks.specs.WalPicks.{wal_candidates}
use Rattle.slate_store.specs.CallRuns.{Running, begins}
use Rattle.std.specs.Prelude.{Result}
use Rattle.slate_gc.proofs.pass_run.run_pass.Goals as goal

pub stages-init : goal.stages-init
stages-init g c =
    let told = g.S.ObjectStore.told in
    let ways = layout_ways (allowed g.F.GcFilter.returns (option_copied c.args.filter)) (wal_candidates g.W.WalGc.picked (option_copied c.args.wal)) in
    let moment = to_z w64 (of_z w64 c.args.moment) in
    let asks = turn_asks c.args.db c.args.settings.pass in
    let goes = turn_goes ways c.args.settings moment in
    let old = told c.args.store.now in
    let turns = c.new-turns in
    let start = begins is_turned asks goes moment c.args.tries old first_turn c.requires in
    let phase = subst (λ (p : GcPhase). Running {P = Turn} {R = PassCounts} is_turned asks goes moment c.args.tries old old first_turn (p, false) c.args.tries) (sym turns.ensures.phase) start in
    record {
      running = subst (λ (b : Bool). Running {P = Turn} {R = PassCounts} is_turned asks goes moment c.args.tries old old first_turn (turns.result.pass.phase, b) c.args.tries) (sym turns.ensures.turned) phase;
      due = subst (λ (p : GcPhase). gc_due p ≡ true) (sym turns.ensures.phase) refl;
      db = turns.ensures.db;
      settings = turns.ensures.settings;
    }

pub returns-in-Done : goal.returns-in-Done
returns-in-Done g c =
    let told = g.S.ObjectStore.told in
    let ways = layout_ways (allowed g.F.GcFilter.returns (option_copied c.args.filter)) (wal_candidates g.W.WalGc.picked (option_copied c.args.wal)) in
    let inv = c.stages.invariant in
    let to : Turn = (c.through_stage.new.self.pass.phase, c.through_stage.new.self.is_turned) in
    let along = rw inv.db at (rw inv.settings at c.in-Done.ensures.along) in
    let first = along c.args.tries c.stages.left (told c.args.store.now) first_turn inv.running in
    let ran = rw (to_z-of_z w64 c.args.moment c.ranges.moment) at first in (
      to,
      subst (λ (r : Result PassCounts SlateDBError). TurnsRan ways c.args.db c.args.settings c.args.moment c.args.tries (told c.args.store.now) (told c.through_stage.new.store) to r) (sym c.ends.ensures.reply) ran,
      refl,
      c.ends.ensures.deleted ∙ ap (λ (r : Result PassCounts SlateDBError). deleted_by r to.0) (sym c.ends.ensures.reply),
    )

pub returns-then-left-eq1 : goal.returns-then-left-eq1
returns-then-left-eq1 g c =
    let told = g.S.ObjectStore.told in
    let ways = layout_ways (allowed g.F.GcFilter.returns (option_copied c.args.filter)) (wal_candidates g.W.WalGc.picked (option_copied c.args.wal)) in
    let moment = to_z w64 (of_z w64 c.args.moment) in
    let inv = c.stages.invariant in
    let to : Turn = (c.through_stage.new.self.pass.phase, c.through_stage.new.self.is_turned) in
    let along = rw inv.db at (rw inv.settings at c.in-Again.ensures.along) in
    let becomes = along c.args.tries c.stages.left (told c.args.store.now) first_turn inv.running in
    let used = used_turn (turn_asks c.args.db c.args.settings.pass) (turn_goes ways c.args.settings moment) moment c.args.tries c.stages.left (told c.args.store.now) (told c.through_stage.new.store) first_turn to c.if-turns.true becomes in
    let ran = rw (to_z-of_z w64 c.args.moment c.ranges.moment) at (used.last c.if-left-eq1.true) in
    let ends = c.ends-then-left-eq1 in (
      to,
      subst (λ (r : Result PassCounts SlateDBError). TurnsRan ways c.args.db c.args.settings c.args.moment c.args.tries (told c.args.store.now) (told c.through_stage.new.store) to r) (sym ends.ensures.reply) (inl ran),
      refl,
      ends.ensures.deleted ∙ ap (λ (r : Result PassCounts SlateDBError). deleted_by r to.0) (sym ends.ensures.reply),
    )

pub stages-preserved-then-turns : goal.stages-preserved-then-turns
stages-preserved-then-turns g c =
    let told = g.S.ObjectStore.told in
    let ways = layout_ways (allowed g.F.GcFilter.returns (option_copied c.args.filter)) (wal_candidates g.W.WalGc.picked (option_copied c.args.wal)) in
    let moment = to_z w64 (of_z w64 c.args.moment) in
    let inv = c.stages.invariant in
    let to : Turn = (c.through_stage.new.self.pass.phase, c.through_stage.new.self.is_turned) in
    let along = rw inv.db at (rw inv.settings at c.in-Again.ensures.along) in
    let becomes = along c.args.tries c.stages.left (told c.args.store.now) first_turn inv.running in
    let used = used_turn (turn_asks c.args.db c.args.settings.pass) (turn_goes ways c.args.settings moment) moment c.args.tries c.stages.left (told c.args.store.now) (told c.through_stage.new.store) first_turn to c.if-turns.true becomes in
    record {
      running = used.again (omega (arith, inv.running.more));
      due = c.in-Again.ensures.due;
      db = c.through_stage.ensures.db ∙ inv.db;
      settings = c.through_stage.ensures.settings ∙ inv.settings;
    }

pub stages-preserved : goal.stages-preserved
stages-preserved g c =
    let told = g.S.ObjectStore.told in
    let ways = layout_ways (allowed g.F.GcFilter.returns (option_copied c.args.filter)) (wal_candidates g.W.WalGc.picked (option_copied c.args.wal)) in
    let moment = to_z w64 (of_z w64 c.args.moment) in
    let inv = c.stages.invariant in
    let to : Turn = (c.through_stage.new.self.pass.phase, c.through_stage.new.self.is_turned) in
    let along = rw inv.db at (rw inv.settings at c.in-Again.ensures.along) in
    let becomes = along c.args.tries c.stages.left (told c.args.store.now) first_turn inv.running in
    record {
      running = used_none (turn_asks c.args.db c.args.settings.pass) (turn_goes ways c.args.settings moment) moment c.args.tries c.stages.left (told c.args.store.now) (told c.through_stage.new.store) first_turn to c.if-turns.false becomes;
      due = c.in-Again.ensures.due;
      db = c.through_stage.ensures.db ∙ inv.db;
      settings = c.through_stage.ensures.settings ∙ inv.settings;
    }
