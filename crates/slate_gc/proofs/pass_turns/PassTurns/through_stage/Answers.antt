use Rattle.std.proofs.Common.{option_copied, sym, w64, ◌∙◌}
use Rattle.std.proofs.lemmas.Int.{to_z-of_z}
use Rattle.slate_gc.proofs.Ranks.{fewer, not_through, same_stage}
use Rattle.slate_gc.proofs.Stages.{steps_on}
use Rattle.slate_gc.specs.GcPass.{layout_ways}
use Rattle.slate_gc.specs.PassTurns.{Turn, turn_asks, turn_goes}
use Rattle.slate_gc_picks.specs.Filter.{allowed}
use Rattle.slate_gc_picks.specs.WalPicks.{wal_candidates}
use Rattle.slate_store.specs.CallRuns.{done_with, goes_further}
use Rattle.slate_gc.proofs.pass_turns.PassTurns.through_stage.Goals as goal

pub returns-in-Done-clause-along : goal.returns-in-Done-clause-along
returns-in-Done-clause-along g c =
    let inv = c.steps.invariant in
    let along = rw (to_z-of_z w64 c.args.moment c.ranges.moment) at inv.along in
    let steps = rw inv.db at (rw inv.settings at (rw (to_z-of_z w64 c.args.moment c.ranges.moment) at c.in-Done.ensures.steps)) in
    λ tries left first start running.
    done_with (along tries left first start running) (g.S.ObjectStore.told c.next_try.new.store) (c.next_try.new.self.pass.phase, c.next_try.new.self.is_turned) c.in-Done.reply steps

pub returns-then-is_through-clause-along : goal.returns-then-is_through-clause-along
returns-then-is_through-clause-along g c =
    let told = g.S.ObjectStore.told in
    let self = c.args.self.now in
    let ways = layout_ways (allowed g.F.GcFilter.returns (option_copied c.args.filter)) (wal_candidates g.W.WalGc.picked (option_copied c.args.wal)) in
    let from : Turn = (c.steps.self.pass.phase, c.steps.self.is_turned) in
    let to : Turn = (c.next_try.new.self.pass.phase, c.next_try.new.self.is_turned) in
    let inv = c.steps.invariant in
    let along = rw (to_z-of_z w64 c.args.moment c.ranges.moment) at inv.along in
    let step = rw inv.db at (rw inv.settings at (rw (to_z-of_z w64 c.args.moment c.ranges.moment) at c.in-Again.ensures.steps)) in
    λ tries left first start running.
    steps_on (turn_asks self.pass.db self.pass.settings.pass) (turn_goes ways self.pass.settings c.args.moment) c.args.moment tries left first (told c.steps.store) (told c.next_try.new.store) start from to (along tries left first start running) step

pub steps-smaller : goal.steps-smaller
steps-smaller g c =
    let to : Turn = (c.next_try.new.self.pass.phase, c.next_try.new.self.is_turned) in
    let stays = not_through c.stages_left-stages.result to (sym c.is_through.ensures ∙ c.if-is_through.false) in
    let falls = fewer c.steps.self.pass.phase c.next_try.new.self.pass.phase c.next_try.new.self.is_turned (c.in-Again.ensures.falls tt) stays.0 in
    (same_stage c.steps.self.pass.phase c.next_try.new.self.pass.phase c.stages_left-stages.result (c.steps.invariant.stage ∙ sym c.stages_left-stages.ensures) falls stays.1).1

pub steps-preserved : goal.steps-preserved
steps-preserved g c =
    let to : Turn = (c.next_try.new.self.pass.phase, c.next_try.new.self.is_turned) in
    let inv = c.steps.invariant in
    let step = rw inv.db at (rw inv.settings at c.in-Again.ensures.steps) in
    let stays = not_through c.stages_left-stages.result to (sym c.is_through.ensures ∙ c.if-is_through.false) in
    let falls = fewer c.steps.self.pass.phase c.next_try.new.self.pass.phase c.next_try.new.self.is_turned (c.in-Again.ensures.falls tt) stays.0 in
    let same = same_stage c.steps.self.pass.phase c.next_try.new.self.pass.phase c.stages_left-stages.result (inv.stage ∙ sym c.stages_left-stages.ensures) falls stays.1 in
    record {
      along = λ tries left first start running. goes_further (inv.along tries left first start running) step stays.0;
      due = c.in-Again.ensures.due;
      stage = same.0 ∙ c.stages_left-stages.ensures;
      db = c.next_try.ensures.db ∙ inv.db;
      settings = c.next_try.ensures.settings ∙ inv.settings;
    }
