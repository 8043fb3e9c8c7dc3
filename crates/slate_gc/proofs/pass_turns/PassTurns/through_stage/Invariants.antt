use Rattle.std.proofs.Common.{◌≡◌, ℕ, true}
use Rattle.std.specs.Prelude.{option_copied}
use Rattle.slate_gc.specs.GcPass.{layout_ways}
use Rattle.slate_gc.specs.PassTurns.{Turn, is_turned, stages_left, turn_asks, turn_goes}
use Rattle.slate_gc.specs.PlainStages.{steps_left}
use Rattle.slate_gc_passes.specs.GcPhase.{gc_due}
use Rattle.slate_gc_picks.specs.Filter.{allowed}
use Rattle.slate_gc_picks.specs.WalPicks.{wal_candidates}
use Rattle.slate_store.specs.StoreCalls.{Told}
use Rattle.slate_store.specs.CallRuns.{Running}
use Rattle.slate_gc.proofs.pass_turns.PassTurns.through_stage.Given as goal

-- whatever plain call stood at the start of the stage stands here, with the tries that it had
abbrev pub invariant-steps : goal.invariant-steps
invariant-steps g l =
    let told = g.S.ObjectStore.told in
    let ways = layout_ways (allowed g.F.GcFilter.returns (option_copied l.filter)) (wal_candidates g.W.WalGc.picked (option_copied l.wal)) in
    let asks = turn_asks l.fn.self.pass.db l.fn.self.pass.settings.pass in
    let goes = turn_goes ways l.fn.self.pass.settings l.moment in
    record {
      along : (tries left : ℕ) (first : Told) (start : Turn) → Running is_turned asks goes l.moment tries first (told l.fn.store) start (l.fn.self.pass.phase, l.fn.self.is_turned) left → Running is_turned asks goes l.moment tries first (told l.store) start (l.self.pass.phase, l.self.is_turned) left;
      due : gc_due l.self.pass.phase ≡ true;
      stage : stages_left l.self.pass.phase ≡ stages_left l.fn.self.pass.phase;
      db : l.self.pass.db ≡ l.fn.self.pass.db;
      settings : l.self.pass.settings ≡ l.fn.self.pass.settings;
    }

abbrev pub decreases-steps : goal.decreases-steps
decreases-steps g l = steps_left l.self.pass.phase
