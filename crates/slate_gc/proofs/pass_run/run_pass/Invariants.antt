use Rattle.std.proofs.Common.{◌≡◌, ◌+◌, ◌*◌, true}
use Rattle.std.specs.Prelude.{option_copied}
use Rattle.slate_gc.specs.GcPass.{layout_ways}
use Rattle.slate_gc.specs.PassTurns.{first_turn, is_turned, stages_left, turn_asks, turn_goes}
use Rattle.slate_gc_passes.specs.GcPhase.{gc_due}
use Rattle.slate_gc_picks.specs.Filter.{allowed}
use Rattle.slate_gc_picks.specs.WalPicks.{wal_candidates}
use Rattle.slate_store.specs.CallRuns.{Running}
use Rattle.slate_gc.proofs.pass_run.run_pass.Given as goal

-- the run so far, which stands at this phase with so many tries left
abbrev pub invariant-stages : goal.invariant-stages
invariant-stages g l =
    let told = g.S.ObjectStore.told in
    let ways = layout_ways (allowed g.F.GcFilter.returns (option_copied l.filter)) (wal_candidates g.W.WalGc.picked (option_copied l.wal)) in
    record {
      running : Running is_turned (turn_asks l.fn.db l.fn.settings.pass) (turn_goes ways l.fn.settings l.fn.moment) l.fn.moment l.fn.tries (told l.fn.store) (told l.store) first_turn (l.turns.pass.phase, l.turns.is_turned) l.left;
      due : gc_due l.turns.pass.phase ≡ true;
      db : l.turns.pass.db ≡ l.fn.db;
      settings : l.turns.pass.settings ≡ l.fn.settings;
    }

abbrev pub decreases-stages : goal.decreases-stages
decreases-stages g l = 11 * l.left + stages_left l.turns.pass.phase
