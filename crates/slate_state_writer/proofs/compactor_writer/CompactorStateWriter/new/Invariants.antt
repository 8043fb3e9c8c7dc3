use Rattle.std.proofs.Common.{◌≡◌, ◌+◌, ◌*◌, true}
use Rattle.slate_txn_changes.specs.Turns.{is_turned, turn_asks}
use Rattle.slate_state_calls.specs.Opening.{open_asks, open_due, open_rank}
use Rattle.slate_state_writer.specs.PlainOpening.{first_turn, open_turning}
use Rattle.slate_store.specs.CallRuns.{Running}
use Rattle.slate_state_writer.proofs.compactor_writer.CompactorStateWriter.new.Given as goal

-- the run so far, which stands at this phase with so many tries left
abbrev pub invariant-loop-result : goal.invariant-loop-result
invariant-loop-result g l =
    let told = g.S.ObjectStore.told in
    record {
      running : Running is_turned (turn_asks (open_asks l.fn.db)) (open_turning l.fn.db l.fn.moment) l.fn.moment l.fn.tries (told l.fn.store) (told l.store) first_turn (l.turns.machine.phase, l.turns.is_turned) l.left;
      due : open_due l.turns.machine.phase ≡ true;
      db : l.turns.machine.db ≡ l.fn.db;
    }

abbrev pub decreases-loop-result : goal.decreases-loop-result
decreases-loop-result g l = 21 * l.left + open_rank l.turns.machine.phase
