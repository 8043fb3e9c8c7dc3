use Rattle.std.proofs.Common.{ap, option_copied, subst, sym, true, w64, Bool, ◌∙◌, ℕ}
use Rattle.std.proofs.lemmas.Int.{to_z-of_z}
use Rattle.slate_txn_changes.proofs.Turning.{turned_again, turned_conflict, turned_err, turned_ok}
use Rattle.slate_gc.proofs.Ranks.{turn_falls}
use Rattle.slate_gc.specs.GcPass.{layout_ways}
use Rattle.slate_gc.specs.PassTurns.{Turn, begins_again, turn_asks, turn_goes, turned_from, uses_turn}
use Rattle.slate_gc.specs.PlainStages.{TurnFalls}
use Rattle.slate_gc.specs.declared.gc_pass.GcPass.{GcPass}
use Rattle.slate_gc_passes.specs.GcPhase.{gc_goes}
use Rattle.slate_gc_passes.specs.declared.gc_phase.GcPhase.{GcPhase}
use Rattle.slate_gc_passes.specs.declared.pass_counts.PassCounts.{PassCounts}
use Rattle.slate_gc_picks.specs.Filter.{allowed}
use Rattle.slate_gc_picks.specs.WalPicks.{wal_candidates}
use Rattle.slate_store.specs.Machines.{Stay, Stepped}
use Rattle.slate_gc.proofs.pass_turns.PassTurns.next_try.Goals as goal

pub returns-in-Again-clause-steps : goal.returns-in-Again-clause-steps
returns-in-Again-clause-steps g c =
    let told = g.S.ObjectStore.told in
    let moment = c.args.moment in
    let self = c.args.self.now in
    let from : Turn = (self.pass.phase, self.is_turned) in
    let asks = turn_asks self.pass.db self.pass.settings.pass from in
    let ways = layout_ways (allowed g.F.GcFilter.returns (option_copied c.args.filter)) (wal_candidates g.W.WalGc.picked (option_copied c.args.wal)) in
    let steps = rw (to_z-of_z w64 moment c.ranges.moment) at c.in-Again.ensures.steps in
    let used = ap (λ (n : ℕ). turned_from n c.next.new.self.phase) (sym c.stages_left-stages.ensures) ∙ sym c.note.ensures.turned in
    let again = turned_again uses_turn begins_again (gc_goes ways self.pass.settings moment) (told c.args.store.now) (told c.next.new.store) asks moment self.pass.phase c.next.new.self.phase self.is_turned steps in
    let noted = subst (λ (b : Bool). Stepped {P = Turn} {R = PassCounts} (told c.args.store.now) (told c.next.new.store) asks moment (turn_goes ways self.pass.settings moment from) (Stay (c.next.new.self.phase, b))) used again in
    subst (λ (p : GcPass). Stepped {P = Turn} {R = PassCounts} (told c.args.store.now) (told c.next.new.store) asks moment (turn_goes ways self.pass.settings moment from) (Stay (p.phase, c.note.new.self.is_turned))) (sym c.note.ensures.pass) noted

pub returns-in-Again-clause-falls : goal.returns-in-Again-clause-falls
returns-in-Again-clause-falls g c = λ again.
    let self = c.args.self.now in
    let used = ap (λ (n : ℕ). turned_from n c.next.new.self.phase) (sym c.stages_left-stages.ensures) ∙ sym c.note.ensures.turned in
    let falls = turn_falls self.pass.phase c.next.new.self.phase c.note.new.self.is_turned used (c.in-Again.ensures.falls tt) in
    subst (λ (p : GcPass). TurnFalls self.pass.phase p.phase c.note.new.self.is_turned) (sym c.note.ensures.pass) falls

pub returns-in-Done-Ok-clause-steps : goal.returns-in-Done-Ok-clause-steps
returns-in-Done-Ok-clause-steps g c =
    let told = g.S.ObjectStore.told in
    let moment = c.args.moment in
    let self = c.args.self.now in
    let from : Turn = (self.pass.phase, self.is_turned) in
    let ways = layout_ways (allowed g.F.GcFilter.returns (option_copied c.args.filter)) (wal_candidates g.W.WalGc.picked (option_copied c.args.wal)) in
    let steps = rw c.in-Done-Ok.field-0-is at (rw (to_z-of_z w64 moment c.ranges.moment) at c.in-Done-Ok.ensures.steps) in
    turned_ok uses_turn begins_again (gc_goes ways self.pass.settings moment) (told c.args.store.now) (told c.next.new.store) (turn_asks self.pass.db self.pass.settings.pass from) moment self.pass.phase c.next.new.self.phase self.is_turned c.in-Done-Ok.counts steps

pub returns-then-is_conflict-clause-steps : goal.returns-then-is_conflict-clause-steps
returns-then-is_conflict-clause-steps g c =
    let told = g.S.ObjectStore.told in
    let moment = c.args.moment in
    let self = c.args.self.now in
    let from : Turn = (self.pass.phase, self.is_turned) in
    let asks = turn_asks self.pass.db self.pass.settings.pass from in
    let ways = layout_ways (allowed g.F.GcFilter.returns (option_copied c.args.filter)) (wal_candidates g.W.WalGc.picked (option_copied c.args.wal)) in
    let steps = rw c.in-Done-Err.field-0-is at (rw (to_z-of_z w64 moment c.ranges.moment) at c.in-Done-Err.ensures.steps) in
    let again = turned_conflict uses_turn begins_again (gc_goes ways self.pass.settings moment) (told c.args.store.now) (told c.next.new.store) asks moment self.pass.phase c.next.new.self.phase self.is_turned c.in-Done-Err.e (sym c.is_conflict.ensures ∙ c.if-is_conflict.true) steps in
    let phase = subst (λ (p : GcPhase). Stepped {P = Turn} {R = PassCounts} (told c.args.store.now) (told c.next.new.store) asks moment (turn_goes ways self.pass.settings moment from) (Stay (p, true))) (sym c.begin_again.ensures.phase) again in
    subst (λ (b : Bool). Stepped {P = Turn} {R = PassCounts} (told c.args.store.now) (told c.next.new.store) asks moment (turn_goes ways self.pass.settings moment from) (Stay (c.begin_again.new.self.pass.phase, b))) (sym c.begin_again.ensures.turned) phase

pub returns-else-is_conflict-clause-steps : goal.returns-else-is_conflict-clause-steps
returns-else-is_conflict-clause-steps g c =
    let told = g.S.ObjectStore.told in
    let moment = c.args.moment in
    let self = c.args.self.now in
    let from : Turn = (self.pass.phase, self.is_turned) in
    let ways = layout_ways (allowed g.F.GcFilter.returns (option_copied c.args.filter)) (wal_candidates g.W.WalGc.picked (option_copied c.args.wal)) in
    let steps = rw c.in-Done-Err.field-0-is at (rw (to_z-of_z w64 moment c.ranges.moment) at c.in-Done-Err.ensures.steps) in
    turned_err uses_turn begins_again (gc_goes ways self.pass.settings moment) (told c.args.store.now) (told c.next.new.store) (turn_asks self.pass.db self.pass.settings.pass from) moment self.pass.phase c.next.new.self.phase self.is_turned c.in-Done-Err.e (sym c.is_conflict.ensures ∙ c.if-is_conflict.false) steps
