use Rattle.std.proofs.Common.{◌≡◌, ◌+◌, ◌*◌, true}
use Rattle.slate_txn_changes.specs.Turns.{is_turned, turn_asks}
use Rattle.slate_state_calls.specs.StateSteps.{state_due, state_rank}
use Rattle.slate_state_writer.specs.StateCalls.{asks_at, first_turn, state_turning}
use Rattle.slate_state_writer.specs.Writer.{KeepsOwn}
use Rattle.slate_store.specs.CallRuns.{Running}
use Rattle.slate_state_writer.proofs.compactor_writer.CompactorStateWriter.call.Given as goal

-- the run so far, which stands at this phase with so many tries left
abbrev pub invariant-loop-result : goal.invariant-loop-result
invariant-loop-result g l =
    let told = g.S.ObjectStore.told in
    record {
      running : Running is_turned (turn_asks (asks_at l.fn.self.db)) (state_turning l.fn.start l.fn.moment) l.fn.moment l.fn.tries (told l.fn.store) (told l.store) (first_turn l.fn.start l.fn.self.compactor) ((l.turns.machine.phase, l.self.compactor), l.turns.is_turned) l.left;
      due : state_due l.turns.machine.phase ≡ true;
      own : KeepsOwn l.fn.self l.self;
    }

abbrev pub decreases-loop-result : goal.decreases-loop-result
decreases-loop-result g l = 21 * l.left + state_rank l.turns.machine.phase
